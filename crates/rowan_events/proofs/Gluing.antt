-- Tokens that touch, one place on.
use Rattle.std.proofs.Common.{◌≡◌, ℕ, zero, suc, ◌+◌, ◌<◌, ◌≤◌, List, [], ◌∷◌, length, drop, get_or}
use Rattle.std.proofs.Common.{refl, sym, ◌∙◌, ap, arith, tests, add-one}
use Rattle.std.proofs.lemmas.List.{drop_all}
use Rattle.std.specs.Prelude.{Bool, true, false, ◌&&◌, ◌==◌, Some, slice_get}
use Rattle.rowan_events.specs.Log.{Piece}
use Rattle.rowan_events.specs.Seen.{is_glued, is_next_glued}

drop-nil : (n : ℕ) → drop {A = Piece} n [] ≡ []
drop-nil zero = refl
drop-nil (suc n) = refl

one_on : {K : Type 0} (meaning : ℕ → K) (same : K → K → Bool) (n : ℕ) (b : Bool) (kinds : List K)
    (left : List Piece)
    (kind : K) → n < length kinds → kind ≡ get_or kinds n kind
    → is_glued meaning same b (drop n kinds) (drop n left)
    ≡ is_next_glued meaning same b kind (slice_get left n)
    && is_glued meaning same false (drop (suc n) kinds) (drop (suc n) left)
one_on meaning same n b [] left kind some is = absurd (omega (arith, some))
one_on meaning same zero b (k ∷ kinds) left kind some is =
    ap (λ k. is_next_glued meaning same b k (slice_get left 0)
    && is_glued meaning same false kinds (drop 1 left)) (sym is)
one_on meaning same (suc n) b (k ∷ kinds) [] kind some is =
    let so : n < length kinds = omega (arith, some) in
    ap (λ (l : List Piece). is_glued meaning same b (drop n kinds) l) (sym (drop-nil n))
    ∙ one_on meaning same n b kinds [] kind so is
one_on meaning same (suc n) b (k ∷ kinds) (t ∷ left) kind some is =
    let so : n < length kinds = omega (arith, some) in
    one_on meaning same n b kinds left kind so is

pub goes_on : {K : Type 0} (meaning : ℕ → K) (same : K → K → Bool) (n : ℕ) (kinds : List K)
    (left : List Piece)
    (kind : K) (all : Bool) → n < length kinds → kind ≡ get_or kinds n kind
    → is_next_glued meaning same (n == 0) kind (slice_get left n) ≡ true
    → is_glued meaning same (n == 0) (drop n kinds) (drop n left) ≡ all
    → is_glued meaning same (n + 1 == 0) (drop (n + 1) kinds) (drop (n + 1) left) ≡ all
goes_on meaning same n kinds left kind all some is here so =
    let later : Bool = is_glued meaning same false (drop (suc n) kinds) (drop (suc n) left) in
    let not_first : (suc n == 0) ≡ false = grind (arith, tests) in
    rw add-one
    (ap (λ (b : Bool). is_glued meaning same b (drop (suc n) kinds) (drop (suc n) left)) not_first
    ∙ sym (ap (λ (b : Bool). b && later) here)
    ∙ sym (one_on meaning same n (n == 0) kinds left kind some is) ∙ so)

pub ends : {K : Type 0} (meaning : ℕ → K) (same : K → K → Bool) (n : ℕ) (kinds : List K)
    (left : List Piece)
    (kind : K) (all : Bool) → n < length kinds → kind ≡ get_or kinds n kind
    → is_next_glued meaning same (n == 0) kind (slice_get left n) ≡ false
    → is_glued meaning same (n == 0) (drop n kinds) (drop n left) ≡ all
    → false ≡ all
ends meaning same n kinds left kind all some is here so =
    let later : Bool = is_glued meaning same false (drop (suc n) kinds) (drop (suc n) left) in
    sym (ap (λ (b : Bool). b && later) here)
    ∙ sym (one_on meaning same n (n == 0) kinds left kind some is) ∙ so

second : (a b : Bool) → a && b ≡ true → b ≡ true
second true b h = h
second false b h = absurd cc

-- where the first tokens have these kinds, so many are left
pub glued_are_left : {K : Type 0} (meaning : ℕ → K) (same : K → K → Bool) (b : Bool)
    (kinds : List K) (left : List Piece) → is_glued meaning same b kinds left ≡ true
    → length kinds ≤ length left
glued_are_left meaning same b [] left h = omega arith
glued_are_left meaning same b (kind ∷ kinds) [] h = absurd cc
glued_are_left meaning same b (kind ∷ kinds) (t ∷ left) h =
    let so : length kinds ≤ length left =
    glued_are_left meaning same false kinds left
    (second (is_next_glued meaning same b kind (Some t)) (is_glued meaning same false kinds left) h)
    in
    omega (arith, so)

-- where all kinds were seen
pub all_glued : {K : Type 0} (meaning : ℕ → K) (same : K → K → Bool) (n : ℕ) (kinds : List K)
    (left : List Piece) (all : Bool) → length kinds ≤ n
    → is_glued meaning same (n == 0) (drop n kinds) (drop n left) ≡ all → all ≡ true
all_glued {K} meaning same n kinds left all past so =
    sym so
    ∙ ap (λ (ks : List K). is_glued meaning same (n == 0) ks (drop n left))
    (drop_all n kinds past)
