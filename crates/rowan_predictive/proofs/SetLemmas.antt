-- Sets of tokens as the bits of a number.
use Rattle.std.proofs.Common.{◌≡◌, ℕ, ◌==◌, ◌||◌, Bool, true, false, refl, sym, ◌∙◌, ap, arith}
use Rattle.std.specs.Prelude.{◌&&◌, ltb, Option, Some, None, List}
use Rattle.std.specs.Int.{bit_at}
use Rattle.std.specs.Int.RustNames.{bit_and}
use Rattle.std.proofs.lemmas.Bool.{false_from_ne_true}
use Rattle.std.proofs.lemmas.Bool.Decides.{nat_tests}
use Rattle.std.proofs.lemmas.Nat.Bits.{bit_at_and, bit_at-zero}
use Rattle.rowan_events.specs.Seen.{has}
use Rattle.rowan_predictive.specs.declared.rules.Entry.{Entry}
use Rattle.rowan_predictive.specs.Predictive.{Begins, BeginsIn, FollowsIn, IsBefore, IsApart, IsOneOf}
use Rattle.rowan_predictive.specs.Sets.{first_set, follow_set}

abbrev pub AreWithin : ℕ → ℕ → Type 0
AreWithin a b = (k : ℕ) → has a k ≡ true → has b k ≡ true

abbrev pub AreApartSets : ℕ → ℕ → Type 0
AreApartSets a b = (k : ℕ) → has a k ≡ true → has b k ≡ true → ⊥

-- a union with a set that is no larger than it
pub within-union : (a b u : ℕ) → ((k : ℕ) → has u k ≡ (has a k || has b k)) → u ≡ b → AreWithin a b
within-union a b u is same k h =
    ap (λ (n : ℕ). has n k) (sym same) ∙ is k ∙ ap (λ (x : Bool). x || has b k) h

second : (x y : Bool) → (x && y) ≡ true → y ≡ true
second true y e = e
second false y e = absurd (cc)

bit-is : (n : ℕ) → (n == 1) ≡ true → n ≡ 1
bit-is n e = grind (arith, nat_tests)

bit-set : (a k : ℕ) → has a k ≡ true → bit_at a k ≡ 1
bit-set a k h = bit-is (bit_at a k) (second (ltb k 128) (bit_at a k == 1) h)

pub apart-and : (a b : ℕ) → bit_and a b ≡ 0 → AreApartSets a b
apart-and a b e k h g =
    let p = bit-set a k h in
    let q = bit-set b k g in
    let r = bit_at_and a b k in
    let z : bit_at (bit_and a b) k ≡ 0 = ap (λ (n : ℕ). bit_at n k) e ∙ bit_at-zero k in
    omega (arith, p, q, r, z)

pub none-in : (a : ℕ) → a ≡ 0 → (k : ℕ) → has a k ≡ true → ⊥
none-in a e k h =
    let p = bit-set a k h in
    let z : bit_at a k ≡ 0 = ap (λ (n : ℕ). bit_at n k) e ∙ bit_at-zero k in
    omega (arith, p, z)

pub has-zero : (k : ℕ) → has 0 k ≡ false
has-zero k = false_from_ne_true (has 0 k) (λ h. none-in 0 refl k h)

module _ (entries : List Entry) where
  pub begins-in : (a i x y : ℕ) → x ≡ first_set entries a → y ≡ first_set entries i → AreWithin x y → BeginsIn entries a i
  begins-in a i x y p q within None h = h
  begins-in a i x y p q within (Some k) h =
      ap (λ (n : ℕ). has n k) (sym q) ∙ within k (ap (λ (n : ℕ). has n k) p ∙ h)

  pub follows-in : (i a x y : ℕ) → x ≡ follow_set entries i → y ≡ follow_set entries a → AreWithin x y → FollowsIn entries i a
  follows-in i a x y p q within None h = h
  follows-in i a x y p q within (Some k) h =
      ap (λ (n : ℕ). has n k) (sym q) ∙ within k (ap (λ (n : ℕ). has n k) p ∙ h)

  pub is-before : (a b x y : ℕ) → x ≡ first_set entries b → y ≡ follow_set entries a → AreWithin x y → IsBefore entries a b
  is-before a b x y p q within None h = h
  is-before a b x y p q within (Some k) h =
      ap (λ (n : ℕ). has n k) (sym q) ∙ within k (ap (λ (n : ℕ). has n k) p ∙ h)

  pub is-clear : (i x y : ℕ) → x ≡ first_set entries i → y ≡ follow_set entries i → AreApartSets x y → IsApart entries i
  is-clear i x y p q apart None h g = cc
  is-clear i x y p q apart (Some k) h g = apart k (ap (λ (n : ℕ). has n k) p ∙ h) (ap (λ (n : ℕ). has n k) q ∙ g)

  pub firsts-differ : (a b x y : ℕ) → x ≡ first_set entries a → y ≡ first_set entries b → AreApartSets x y
      → (next : Option ℕ) → Begins entries a next → Begins entries b next → ⊥
  firsts-differ a b x y p q apart None h g = cc
  firsts-differ a b x y p q apart (Some k) h g = apart k (ap (λ (n : ℕ). has n k) p ∙ h) (ap (λ (n : ℕ). has n k) q ∙ g)

  or-else : (x y : Bool) → (x || y) ≡ true → (x ≡ true → ⊥) → y ≡ true
  or-else true y e out = absurd (out refl)
  or-else false y e out = e

  pub one-of-two : (i a b x y z u : ℕ) → x ≡ first_set entries i → y ≡ first_set entries a → z ≡ first_set entries b
      → ((k : ℕ) → has u k ≡ (has y k || has z k)) → AreWithin x u → IsOneOf entries i a b
  one-of-two i a b x y z u p q r both within None h out = h
  one-of-two i a b x y z u p q r both within (Some k) h out =
      let e : (has y k || has z k) ≡ true = sym (both k) ∙ within k (ap (λ (n : ℕ). has n k) p ∙ h) in
      ap (λ (n : ℕ). has n k) (sym r)
      ∙ or-else (has y k) (has z k) e (λ g. out (ap (λ (n : ℕ). has n k) (sym q) ∙ g))

  pub begins-never : (i x : ℕ) → x ≡ first_set entries i → x ≡ 0 → (next : Option ℕ) → Begins entries i next → ⊥
  begins-never i x p e None h = cc
  begins-never i x p e (Some k) h = none-in x e k (ap (λ (n : ℕ). has n k) p ∙ h)
