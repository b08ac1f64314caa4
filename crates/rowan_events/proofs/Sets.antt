-- Sets of kinds as the bits of a number.
use Rattle.std.proofs.Common.{◌≡◌, ℕ, zero, suc, ◌*◌, ◌<◌, ◌==◌, ◌^◌, ◌%◌, ◌||◌, max, refl, sym, ◌∙◌, ap}
use Rattle.std.proofs.Common.{Bool, true, false, inl, inr, arith}
use Rattle.std.specs.Prelude.{◌&&◌, ltb}
use Rattle.std.specs.Int.{bit_at}
use Rattle.std.specs.Int.Bits.{bit_or}
use Rattle.std.proofs.lemmas.Bool.Decides.{eqb_tells}
use Rattle.std.proofs.lemmas.Nat.Bits.{bit_at_or, bit_at-lt, bit_at-pow_same, bit_at-pow_other}
use Rattle.std.proofs.Math.Nat.{mod-eq_of_lt}
use Rattle.std.proofs.Math.Pow.{pow-lt}
use Rattle.rowan_events.specs.Seen.{has}

bit-or : (x y : ℕ) → x < 2 → y < 2 → (max x y == 1) ≡ ((x == 1) || (y == 1))
bit-or zero zero p q = refl
bit-or zero (suc zero) p q = refl
bit-or (suc zero) zero p q = refl
bit-or (suc zero) (suc zero) p q = refl
bit-or zero (suc (suc y)) p q = absurd (omega (arith, q))
bit-or (suc zero) (suc (suc y)) p q = absurd (omega (arith, q))
bit-or (suc (suc x)) y p q = absurd (omega (arith, p))

and-or : (b x y : Bool) → (b && (x || y)) ≡ ((b && x) || (b && y))
and-or true x y = refl
and-or false x y = refl

pub has-or : (a b k : ℕ) → has (bit_or a b) k ≡ (has a k || has b k)
has-or a b k =
    let x = bit_at a k in
    let y = bit_at b k in
    ap (λ n. ltb k 128 && (n == 1)) (bit_at_or a b k)
    ∙ ap (λ (c : Bool). ltb k 128 && c) (bit-or x y (bit_at-lt a k) (bit_at-lt b k))
    ∙ and-or (ltb k 128) (x == 1) (y == 1)

pub has-one : (j k : ℕ) → has (2 ^ j) k ≡ (ltb k 128 && (k == j))
has-one j k =
    elim (eqb_tells k j) [
      | inl h ↦
          ap (λ n. ltb k 128 && (bit_at (2 ^ j) n == 1)) h.1
          ∙ ap (λ n. ltb k 128 && (n == 1)) (bit_at-pow_same j)
          ∙ sym (ap (λ (c : Bool). ltb k 128 && c) h.0)
      | inr h ↦
          ap (λ n. ltb k 128 && (n == 1)) (bit_at-pow_other j k h.1)
          ∙ sym (ap (λ (c : Bool). ltb k 128 && c) h.0)
    ]

-- bit number j of 128, as a shift makes it
pub has-with : (a j k : ℕ) → j < 128
    → has (bit_or a (1 * 2 ^ j % 340282366920938463463374607431768211456)) k
    ≡ (has a k || (ltb k 128 && (k == j)))
has-with a j k less =
    let one : 1 * 2 ^ j ≡ 2 ^ j = omega arith in
    let fits : 2 ^ j % 340282366920938463463374607431768211456 ≡ 2 ^ j =
    mod-eq_of_lt (pow-lt less) in
    ap (λ n. has (bit_or a n) k)
    (ap (λ n. n % 340282366920938463463374607431768211456) one ∙ fits)
    ∙ has-or a (2 ^ j) k
    ∙ ap (λ (b : Bool). has a k || b) (has-one j k)
