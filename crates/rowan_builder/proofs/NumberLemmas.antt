-- Elements with their numbers: the numbers stay right while a cache grows, and a node of elements
-- is eligible exactly where there are few enough of them and each has a number.
use Rattle.std.proofs.Common.{◌≡◌, ℕ, ◌<◌, Bool, true, false, ◌&&◌, List, [], ◌∷◌, ◌++◌, map, take}
use Rattle.std.proofs.Common.{drop, zero, suc, length, get_or, Option, Some, None, refl, sym, ◌∙◌}
use Rattle.std.proofs.Common.{ap, subst, arith}
use Rattle.std.specs.Prelude.{nat_le, is_some}
use Rattle.std.specs.List.{list_all, slice_get}
use Rattle.std.proofs.lemmas.Option.{slice_get_within}
use Rattle.rowan_green.specs.declared.green.waiting.Interned.{Interned}
use Rattle.rowan_green.specs.declared.utility_types.NodeOrToken.TheVariants.{Node, Token}
use Rattle.rowan_green.specs.Term.{Term, forest, node_of}
use Rattle.rowan_builder.specs.Cache.{CacheValue, intern, is_eligible, is_eligible_forest, HasNumber}
use Rattle.rowan_builder.specs.Cache.{IsNumbered, AreNumbered, ListsNumbers, gets_number, Continues}
use Rattle.rowan_builder.specs.Tables.{StandAt}
use Rattle.rowan_terms.proofs.Lists.{slice_get-grown}
use Rattle.rowan_builder.proofs.CacheLemmas.{Continues-with_term}
use Rattle.rowan_green.proofs.Terms.{terms-forest}

-- ---- numbers stay right

slice_get-continues : (seen later : List Term) (n : ℕ) (t : Term) → Continues seen later
    → slice_get seen n ≡ Some t → slice_get later n ≡ Some t
slice_get-continues seen later n t more e = rw more.goes_on (slice_get-grown seen more.more n t e)

pub HasNumber-intern : (cache : CacheValue) (u t : Term) (number : Option ℕ)
    → HasNumber cache t number → HasNumber (intern cache u) t number
HasNumber-intern cache u t None h = h
HasNumber-intern cache u t (Some n) h = (
  h.0,
  slice_get-continues cache.seen (intern cache u).seen n t
      (Continues-with_term cache.limit cache.seen u) h.1,
)

pub AreNumbered-intern : (cache : CacheValue) (u : Term) (ts : List Term) (ns : List (Option ℕ))
    → AreNumbered cache ts ns → AreNumbered (intern cache u) ts ns
AreNumbered-intern cache u [] [] h = tt
AreNumbered-intern cache u [] (n ∷ ns) h = absurd h
AreNumbered-intern cache u (t ∷ ts) [] h = absurd h
AreNumbered-intern cache u (t ∷ ts) (n ∷ ns) h =
    (HasNumber-intern cache u t n h.0, AreNumbered-intern cache u ts ns h.1)

AreNumbered-push : (cache : CacheValue) (ts : List Term) (ns : List (Option ℕ)) (t : Term)
    (n : Option ℕ) → AreNumbered cache ts ns → HasNumber cache t n
    → AreNumbered cache (ts ++ t ∷ []) (ns ++ n ∷ [])
AreNumbered-push cache [] [] t n h g = (g, tt)
AreNumbered-push cache [] (m ∷ ns) t n h g = absurd h
AreNumbered-push cache (u ∷ ts) [] t n h g = absurd h
AreNumbered-push cache (u ∷ ts) (m ∷ ns) t n h g = (h.0, AreNumbered-push cache ts ns t n h.1 g)

pub AreNumbered-take : (cache : CacheValue) (k : ℕ) (ts : List Term) (ns : List (Option ℕ))
    → AreNumbered cache ts ns → AreNumbered cache (take k ts) (take k ns)
AreNumbered-take cache zero [] [] h = tt
AreNumbered-take cache (suc k) [] [] h = tt
AreNumbered-take cache k [] (n ∷ ns) h = absurd h
AreNumbered-take cache k (t ∷ ts) [] h = absurd h
AreNumbered-take cache zero (t ∷ ts) (n ∷ ns) h = tt
AreNumbered-take cache (suc k) (t ∷ ts) (n ∷ ns) h = (h.0, AreNumbered-take cache k ts ns h.1)

pub AreNumbered-drop : (cache : CacheValue) (k : ℕ) (ts : List Term) (ns : List (Option ℕ))
    → AreNumbered cache ts ns → AreNumbered cache (drop k ts) (drop k ns)
AreNumbered-drop cache zero [] [] h = tt
AreNumbered-drop cache (suc k) [] [] h = tt
AreNumbered-drop cache k [] (n ∷ ns) h = absurd h
AreNumbered-drop cache k (t ∷ ts) [] h = absurd h
AreNumbered-drop cache zero (t ∷ ts) (n ∷ ns) h = h
AreNumbered-drop cache (suc k) (t ∷ ts) (n ∷ ns) h = AreNumbered-drop cache k ts ns h.1

pub AreNumbered-length : (cache : CacheValue) (ts : List Term) (ns : List (Option ℕ))
    → AreNumbered cache ts ns → length ts ≡ length ns
AreNumbered-length cache [] [] h = refl
AreNumbered-length cache [] (n ∷ ns) h = absurd h
AreNumbered-length cache (t ∷ ts) [] h = absurd h
AreNumbered-length cache (t ∷ ts) (n ∷ ns) h = ap suc (AreNumbered-length cache ts ns h.1)

-- one more element, for which the cache was asked
pub AreNumbered-added : (cache later : CacheValue) (u : Term) (ts us : List Term)
    (ns ms : List (Option ℕ)) (i : Interned)
    → AreNumbered cache ts ns → later ≡ intern cache u → IsNumbered later i
    → us ≡ ts ++ i.element ∷ [] → ms ≡ ns ++ i.number ∷ [] → AreNumbered later us ms
AreNumbered-added cache later u ts us ns ms i h e n f g =
    let old : AreNumbered later ts ns =
    subst (λ c. AreNumbered c ts ns) (sym e) (AreNumbered-intern cache u ts ns h) in
    subst (λ vs. AreNumbered later vs ms) (sym f)
    (subst (λ ks. AreNumbered later (ts ++ i.element ∷ []) ks) (sym g)
    (AreNumbered-push later ts ns i.element i.number old n.numbered))

-- ---- which node is eligible

pub all_have_numbers : (ns : List ℕ) → list_all (λ n. is_some n) (map (λ n. Some n) ns) ≡ true
all_have_numbers [] = refl
all_have_numbers (n ∷ ns) = all_have_numbers ns

is_eligible-forest : (limit : ℕ) (ts : List Term)
    → is_eligible_forest limit (forest ts) ≡ list_all (is_eligible limit) ts
is_eligible-forest limit [] = refl
is_eligible-forest limit (Node n ∷ ts) =
    ap (λ b. is_eligible limit (Node n) && b) (is_eligible-forest limit ts)
is_eligible-forest limit (Token t ∷ ts) = is_eligible-forest limit ts

is_some-eligible : (cache : CacheValue) (t : Term) (number : Option ℕ) → HasNumber cache t number
    → is_eligible cache.limit t ≡ is_some number
is_some-eligible cache t None h = h
is_some-eligible cache t (Some n) h = h.0

all_eligible : (cache : CacheValue) (ts : List Term) (ns : List (Option ℕ))
    → AreNumbered cache ts ns → list_all (is_eligible cache.limit) ts ≡ list_all (λ n. is_some n) ns
all_eligible cache [] [] h = refl
all_eligible cache [] (n ∷ ns) h = absurd h
all_eligible cache (t ∷ ts) [] h = absurd h
all_eligible cache (t ∷ ts) (n ∷ ns) h =
    ap (λ b. b && list_all (is_eligible cache.limit) ts) (is_some-eligible cache t n h.0)
    ∙ ap (λ b. is_some n && b) (all_eligible cache ts ns h.1)

is_eligible-elements : (cache : CacheValue) (k : ℕ) (ts : List Term) (ns : List (Option ℕ))
    → AreNumbered cache ts ns
    → is_eligible cache.limit (Node (node_of k ts)) ≡ gets_number cache.limit ns
is_eligible-elements cache k ts ns h =
    ap (λ n. nat_le n cache.limit && is_eligible_forest cache.limit (forest ts))
    (ap length (terms-forest ts) ∙ AreNumbered-length cache ts ns h)
    ∙ ap (λ b. nat_le (length ns) cache.limit && b)
    (is_eligible-forest cache.limit ts ∙ all_eligible cache ts ns h)

-- ---- where the elements stand

pub StandAt-elements : (cache : CacheValue) (ts : List Term) (os : List (Option ℕ)) (ns : List ℕ)
    → AreNumbered cache ts os → ListsNumbers os ns → StandAt cache.seen ns ts
StandAt-elements cache [] [] [] h e = tt
StandAt-elements cache [] [] (n ∷ ns) h e = absurd cc
StandAt-elements cache [] (o ∷ os) ns h e = absurd h
StandAt-elements cache (t ∷ ts) [] ns h e = absurd h
StandAt-elements cache (t ∷ ts) (o ∷ os) [] h e = absurd cc
StandAt-elements cache (t ∷ ts) (o ∷ os) (n ∷ ns) h e =
    let here : o ≡ Some n = cc in
    let rest : os ≡ map (λ n. Some n) ns = cc in
    ((subst (λ p. HasNumber cache t p) here h.0).1, StandAt-elements cache ts os ns h.1 rest)

-- the only number is one of those of a list
pub StandAt-only : (seen : List Term) (n : ℕ) (ts : List Term) → StandAt seen (n ∷ []) ts
    → n < length seen
StandAt-only seen n [] s = absurd s
StandAt-only seen n (t ∷ ts) s = slice_get_within seen n t s.0

-- a list of one item
pub only_item : (os : List (Option ℕ)) → length os ≡ 1 → os ≡ get_or os 0 None ∷ []
only_item [] one = absurd (omega (arith, one))
only_item (o ∷ []) one = refl
only_item (o ∷ p ∷ os) one = absurd (omega (arith, one))

pub only_number : (ns : List ℕ) → length ns ≡ 1 → ns ≡ get_or ns 0 0 ∷ []
only_number [] one = absurd (omega (arith, one))
only_number (n ∷ []) one = refl
only_number (n ∷ m ∷ ns) one = absurd (omega (arith, one))

pub StandAt-length : (seen : List Term) (ns : List ℕ) (ts : List Term) → StandAt seen ns ts
    → length ns ≡ length ts
StandAt-length seen [] [] h = refl
StandAt-length seen [] (t ∷ ts) h = absurd h
StandAt-length seen (n ∷ ns) [] h = absurd h
StandAt-length seen (n ∷ ns) (t ∷ ts) h = ap suc (StandAt-length seen ns ts h.1)

-- numbers stand for one list of terms
pub StandAt-terms : (seen : List Term) (ns : List ℕ) (ts us : List Term) → StandAt seen ns ts
    → StandAt seen ns us → ts ≡ us
StandAt-terms seen [] [] [] h g = refl
StandAt-terms seen [] [] (u ∷ us) h g = absurd g
StandAt-terms seen [] (t ∷ ts) us h g = absurd h
StandAt-terms seen (n ∷ ns) [] us h g = absurd h
StandAt-terms seen (n ∷ ns) (t ∷ ts) [] h g = absurd g
StandAt-terms seen (n ∷ ns) (t ∷ ts) (u ∷ us) h g =
    let here : Some t ≡ Some u = sym h.0 ∙ g.0 in
    let first : t ≡ u = cc in
    ap (λ v. v ∷ ts) first ∙ ap (λ vs. u ∷ vs) (StandAt-terms seen ns ts us h.1 g.1)

-- and where no term stands twice, a list of terms stands at one list of places
pub StandAt-numbers : (seen : List Term)
    → ((i j : ℕ) (t : Term) → slice_get seen i ≡ Some t → slice_get seen j ≡ Some t → i ≡ j)
    → (ns ms : List ℕ) (ts : List Term) → StandAt seen ns ts → StandAt seen ms ts → ns ≡ ms
StandAt-numbers seen once [] [] [] h g = refl
StandAt-numbers seen once [] (m ∷ ms) [] h g = absurd g
StandAt-numbers seen once [] ms (t ∷ ts) h g = absurd h
StandAt-numbers seen once (n ∷ ns) ms [] h g = absurd h
StandAt-numbers seen once (n ∷ ns) [] (t ∷ ts) h g = absurd g
StandAt-numbers seen once (n ∷ ns) (m ∷ ms) (t ∷ ts) h g =
    ap (λ k. k ∷ ns) (once n m t h.0 g.0)
    ∙ ap (λ ks. m ∷ ks) (StandAt-numbers seen once ns ms ts h.1 g.1)

pub StandAt-grown : (seen more : List Term) (ns : List ℕ) (ts : List Term) → StandAt seen ns ts
    → StandAt (seen ++ more) ns ts
StandAt-grown seen more [] [] h = tt
StandAt-grown seen more [] (t ∷ ts) h = absurd h
StandAt-grown seen more (n ∷ ns) [] h = absurd h
StandAt-grown seen more (n ∷ ns) (t ∷ ts) h =
    (slice_get-grown seen more n t h.0, StandAt-grown seen more ns ts h.1)

-- whether a node of elements is eligible, as the numbers say it
pub is_eligible-kept : (cache : CacheValue) (k : ℕ) (ts : List Term) (ns : List (Option ℕ))
    (kept : Bool) → AreNumbered cache ts ns → kept ≡ gets_number cache.limit ns
    → is_eligible cache.limit (Node (node_of k ts)) ≡ kept
is_eligible-kept cache k ts ns kept h e = is_eligible-elements cache k ts ns h ∙ sym e

-- ---- what has a number

pub IsNumbered-none : (cache : CacheValue) (t element : Term) → element ≡ t
    → is_eligible cache.limit t ≡ false
    → IsNumbered cache (record { number = None; element = element })
IsNumbered-none cache t element e no_fit =
    record { numbered = ap (is_eligible cache.limit) e ∙ no_fit }

pub IsNumbered-at : (cache : CacheValue) (place : ℕ) (t : Term) (i : Interned)
    → is_eligible cache.limit t ≡ true → slice_get cache.seen place ≡ Some t → i.element ≡ t
    → i.number ≡ Some place → IsNumbered cache i
IsNumbered-at cache place t i fit stands is at =
    record {
      numbered = subst (λ o. HasNumber cache i.element o) (sym at)
          (ap (is_eligible cache.limit) is ∙ fit, stands ∙ ap (λ u. Some u) (sym is));
    }
