-- What a builder asks its cache for: each token when it is added, and each node when it is closed.
-- So where a builder began with nothing, it asked for the subterms of its word's whole terms, in
-- the order in which they end.
use Rattle.std.specs.Prelude.{◌≡◌, List, [], ◌∷◌, ◌++◌, fold}
use Rattle.std.specs.List.{flat_map}
use Rattle.rowan_green.specs.declared.utility_types.NodeOrToken.TheVariants.{Node, Token}
use Rattle.rowan_green.specs.Term.{NodeTerm, node, Forest, empty, node_then, token_then, Term}
use Rattle.rowan_green.specs.Word.{HasTerms}
use Rattle.rowan_builder.specs.Cache.{CacheValue, intern, Continues}
use Rattle.rowan_builder.specs.Builder.{BuilderValue}

abbrev mutual
  -- the subterms of a node in the order in which they end: those of each child in turn, and the
  -- node itself last
  pub node_subterms : NodeTerm → List Term
  node_subterms (node k f) = forest_subterms f ++ Node (node k f) ∷ []

  pub forest_subterms : Forest → List Term
  forest_subterms empty = []
  forest_subterms (node_then n f) = node_subterms n ++ forest_subterms f
  forest_subterms (token_then t f) = Token t ∷ forest_subterms f

abbrev pub subterms : Term → List Term
subterms (Node n) = node_subterms n
subterms (Token t) = Token t ∷ []

-- the cache after these terms were interned in turn
abbrev pub intern_all : CacheValue → List Term → CacheValue
intern_all cache ts = fold intern cache ts

-- the cache is the earlier one, asked for the subterms of the word's whole terms
pub record InternsWord (earlier : CacheValue) (b : BuilderValue) : Type 0 where
  pub terms : List Term
  pub stand : HasTerms b.word terms
  pub interns : b.cache ≡ intern_all earlier (flat_map subterms terms)

-- the later cache has the limit and the terms of the earlier one, and may have more behind them
pub record Grows (earlier later : CacheValue) : Type 0 where
  pub same_limit : later.limit ≡ earlier.limit
  pub continues : Continues earlier.seen later.seen

-- Calls took the builder from the old value to the new one: its cache grew, and was asked for the
-- subterms that ended meanwhile.
pub record BuildsOn (old new : BuilderValue) : Type 0 where
  pub keeps : (earlier : CacheValue) → InternsWord earlier old → InternsWord earlier new
  pub grows : Grows old.cache new.cache
