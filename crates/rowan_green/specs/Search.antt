-- The child of a node at a range of its text, and binary digits.
--     Of a range with bytes, it is the child that has all of them. At most one has.
--     An empty range is a place between bytes. The child at it is the one that has bytes on both
--     sides of the place; else the
--     last that ends there, if children end there or before; and else the first, if it begins
--     there.
-- Offsets count from the node's start. A search by halves of n children looks at no more of them
-- than n has binary digits.
use Rattle.std.specs.Prelude.{◌≡◌, ℕ, ◌+◌, ◌<◌, ◌≤◌, List, length, take}
use Rattle.std.specs.Int.Digits.{digits_of}
use Rattle.rowan_green.specs.Term.{Term, sum_of_lens}

-- where the child at place k begins, and where it ends
abbrev pub child_start : List Term → ℕ → ℕ
child_start ts k = sum_of_lens (take k ts)

abbrev pub child_end : List Term → ℕ → ℕ
child_end ts k = sum_of_lens (take (k + 1) ts)

-- the range from a to b lies in that of the child at place k
pub record HasRange (ts : List Term) (a b k : ℕ) : Type 0 where
  pub place : k < length ts
  pub from : child_start ts k ≤ a
  pub to : b ≤ child_end ts k

-- the child at place k has bytes on both sides of x
pub record HasInside (ts : List Term) (x k : ℕ) : Type 0 where
  pub place : k < length ts
  pub before : child_start ts k < x
  pub behind : x < child_end ts k

-- the child at place k ends at x, and is the last that ends there or before
pub record IsLastBefore (ts : List Term) (x k : ℕ) : Type 0 where
  pub place : k < length ts
  pub ends : child_end ts k ≡ x
  pub last : (j : ℕ) → j < length ts → child_end ts j ≤ x → j ≤ k

-- the child at place k is the first and begins at x, and no child ends there or before
pub record IsFirstBehind (ts : List Term) (x k : ℕ) : Type 0 where
  pub place : k < length ts
  pub first : k ≡ 0
  pub begins : child_start ts k ≡ x
  pub none : (j : ℕ) → j < length ts → x < child_end ts j

-- the child at place k is the one at the range from a to b
pub data IsChildAt (ts : List Term) (a b k : ℕ) : Type 0 where
  has_bytes : a < b → HasRange ts a b k → IsChildAt ts a b k
  has_place : a ≡ b → HasInside ts a k → IsChildAt ts a b k
  ends_there : a ≡ b → IsLastBefore ts a k → IsChildAt ts a b k
  begins_there : a ≡ b → IsFirstBehind ts a k → IsChildAt ts a b k

-- no other child than that at place k can be the one at the range, and it is if the range lies in
-- its own
pub record IsOnlyChoice (ts : List Term) (a b k : ℕ) : Type 0 where
  pub is : HasRange ts a b k → IsChildAt ts a b k
  pub only : (j : ℕ) → IsChildAt ts a b j → (j ≡ k) × HasRange ts a b k

-- the number of binary digits of n, 0 for 0
unfoldable pub digits : ℕ → ℕ
digits n = length (digits_of 2 n)
