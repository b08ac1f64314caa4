-- The cache of green values: which terms it keeps, and in which order it saw them first.
--     With a limit, a term is eligible where each node in it, itself included, has at most so many
--     children.
--     A cache keeps each eligible term that it is asked for, once, in the order of first asking.
-- The place of a term in that list, counted from 0, is its number.
use Rattle.std.specs.Prelude.{◌≡◌, ℕ, Bool, true, false, ◌&&◌, not, nat_le, IsTrue, if◌then◌else◌}
use Rattle.std.specs.Prelude.{List, [], ◌∷◌, ◌++◌, map, fold, length, Option, Some, None, is_some}
use Rattle.std.specs.Prelude.{count_by}
use Rattle.std.specs.List.{list_all, list_any, slice_get}
use Rattle.rowan_green.specs.declared.green.waiting.Interned.{Interned}
use Rattle.rowan_green.specs.declared.utility_types.NodeOrToken.TheVariants.{Node, Token}
use Rattle.rowan_green.specs.Term.{NodeTerm, node, Forest, empty, node_then, token_then, Term}
use Rattle.rowan_green.specs.Term.{terms}
use Rattle.rowan_green.specs.Same.{same_term}

abbrev mutual
  -- each node in the node, itself included, has at most `limit` children
  pub is_eligible_node : ℕ → NodeTerm → Bool
  is_eligible_node limit (node k f) = nat_le (length (terms f)) limit && is_eligible_forest limit f

  pub is_eligible_forest : ℕ → Forest → Bool
  is_eligible_forest limit empty = true
  is_eligible_forest limit (node_then n f) = is_eligible_node limit n && is_eligible_forest limit f
  is_eligible_forest limit (token_then t f) = is_eligible_forest limit f

-- tokens always are
abbrev pub is_eligible : ℕ → Term → Bool
is_eligible limit (Node n) = is_eligible_node limit n
is_eligible limit (Token t) = true

-- whether the term is among these
abbrev pub is_among : List Term → Term → Bool
is_among seen t = list_any (same_term t) seen

-- the terms seen so far, with this one at their end where it is eligible and not yet among them
abbrev pub with_term : ℕ → List Term → Term → List Term
with_term limit seen t =
    if is_eligible limit t && not (is_among seen t) then seen ++ t ∷ [] else seen

-- the eligible ones of these terms without repeats, each at its first place
abbrev pub first_seen : ℕ → List Term → List Term
first_seen limit ts = fold (with_term limit) [] ts

-- `later` begins with `earlier`
pub record Continues (earlier later : List Term) : Type 0 where
  pub more : List Term
  pub goes_on : later ≡ earlier ++ more

abbrev pub is_token : Term → Bool
is_token (Node n) = false
is_token (Token t) = true

-- how many of the terms are tokens, and how many are nodes
abbrev pub count_tokens : List Term → ℕ
count_tokens ts = count_by is_token ts

abbrev pub count_nodes : List Term → ℕ
count_nodes ts = count_by (λ t. not (is_token t)) ts

-- what a contract sees of a cache: its limit, and the terms that it keeps, in the order in which it
-- saw them first
pub record CacheValue : Type 0 where
  pub limit : ℕ
  pub seen : List Term

-- a cache of this limit that keeps nothing
abbrev pub empty_cache : ℕ → CacheValue
empty_cache limit = record { limit = limit; seen = [] }

-- the cache after a term was interned: looked up, and kept where it is eligible and new
abbrev pub intern : CacheValue → Term → CacheValue
intern cache t = record { limit = cache.limit; seen = with_term cache.limit cache.seen t }

-- the number of a term in a cache: its place, or none where it is not eligible
abbrev pub HasNumber : CacheValue → Term → Option ℕ → Type 0
HasNumber cache t None = is_eligible cache.limit t ≡ false
HasNumber cache t (Some number) =
    IsTrue (is_eligible cache.limit t) × (slice_get cache.seen number ≡ Some t)

-- an element has the number of its term
pub record IsNumbered (cache : CacheValue) (i : Interned) : Type 0 where
  pub numbered : HasNumber cache i.element i.number

-- each term has the number beside it
abbrev pub AreNumbered : CacheValue → List Term → List (Option ℕ) → Type 0
AreNumbered cache [] [] = Unit {0}
AreNumbered cache (t ∷ ts) (n ∷ ns) = HasNumber cache t n × AreNumbered cache ts ns
AreNumbered cache _ _ = ⊥

-- each is there, and these are they
abbrev pub ListsNumbers : List (Option ℕ) → List ℕ → Type 0
ListsNumbers given numbers = given ≡ map (λ n. Some n) numbers

-- whether a node of elements with these numbers gets one: they are few enough, and each has a
-- number
abbrev pub gets_number : ℕ → List (Option ℕ) → Bool
gets_number limit given = nat_le (length given) limit && list_all (λ n. is_some n) given
