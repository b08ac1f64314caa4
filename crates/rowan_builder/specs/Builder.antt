-- What a contract sees of a builder: its word, and what its cache keeps. Beside a word's growth, a
-- call asks the cache for the term that it adds or closes.
use Rattle.std.specs.Prelude.{◌≡◌, ℕ, List, [], ◌∷◌, ◌++◌}
use Rattle.rowan_green.specs.declared.utility_types.NodeOrToken.TheVariants.{Node, Token}
use Rattle.rowan_green.specs.Term.{TokenTerm, NodeTerm}
use Rattle.rowan_green.specs.Word.{Symbol, Open, Leaf, Closes, Wraps}
use Rattle.rowan_builder.specs.Cache.{CacheValue, intern}

pub record BuilderValue : Type 0 where
  pub word : List Symbol
  pub cache : CacheValue

-- no calls yet
abbrev pub new_builder : CacheValue → BuilderValue
new_builder cache = record { word = []; cache = cache }

-- a leaf at the word's end
abbrev pub adds : BuilderValue → TokenTerm → BuilderValue
adds b t = record { word = b.word ++ Leaf t ∷ []; cache = intern b.cache (Token t) }

-- an opening at the word's end
abbrev pub opens : BuilderValue → ℕ → BuilderValue
opens b k = record { word = b.word ++ Open k ∷ []; cache = b.cache }

-- a closing at the word's end, which closes this node
pub record FinishesNode (old new : BuilderValue) : Type 0 where
  pub node : NodeTerm
  pub closes : Closes old.word node new.word
  pub interns : new.cache ≡ intern old.cache (Node node)

-- an opening at the checkpoint
pub record WrapsAt (old : BuilderValue) (c k : ℕ) (new : BuilderValue) : Type 0 where
  pub wraps : Wraps old.word c k new.word
  pub same_cache : new.cache ≡ old.cache
