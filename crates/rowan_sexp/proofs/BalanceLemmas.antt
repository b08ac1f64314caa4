-- The bytes of a text so far, and one more.
use Rattle.std.proofs.Common.{◌≡◌, ◌≢◌, ℕ, ◌+◌, ◌<◌, ◌≤◌, List, [], ◌∷◌, length, take, get_or, ◌∙◌}
use Rattle.std.proofs.Common.{ap, arith, cond, inl, inr}
use Rattle.std.proofs.lemmas.Bool.{cases_lt}
use Rattle.std.proofs.lemmas.List.{take_more}
use Rattle.std.proofs.lemmas.List.Sums.{sum_by-append, count_by-le-length}
use Rattle.std.specs.Prelude.{◌==◌}
use Rattle.rowan_sexp.specs.Grammar.{count_of}

-- one more byte
pub count_of-more : (byte : ℕ) (text : List ℕ) (i : ℕ) → i < length text
    → count_of byte (take (i + 1) text)
    ≡ count_of byte (take i text) + count_of byte (get_or text i 0 ∷ [])
count_of-more byte text i h = ap (count_of byte) (take_more text i 0 h)
    ∙ sum_by-append (λ x. cond (x == byte) 1 0) (take i text) (get_or text i 0 ∷ [])

-- before a list that is not closed yet, no list was closed
pub unclosed_more : (text : List ℕ) (i depth : ℕ)
    → ((k : ℕ) → 0 < k → k < i + 1 → count_of 40 (take k text) ≢ count_of 41 (take k text))
    → count_of 41 (take (i + 1) text) + depth ≡ count_of 40 (take (i + 1) text) → 0 < depth
    → (k : ℕ) → 0 < k → k < i + 1 + 1 → count_of 40 (take k text) ≢ count_of 41 (take k text)
unclosed_more text i depth before counted positive k some small =
    elim (cases_lt k (i + 1)) [
      | inl less ↦ before k some less
      | inr least ↦
          (λ e.
          let same : k ≡ i + 1 = omega arith in
          omega (
            arith,
            counted,
            positive,
            e,
            ap (λ n. count_of 40 (take n text)) same,
            ap (λ n. count_of 41 (take n text)) same,
          ))
    ]

-- one byte opens at most one list
pub at_most_one : (byte : ℕ) (b : ℕ) → count_of byte (b ∷ []) ≤ 1
at_most_one byte b = count_by-le-length (λ x. x == byte) (b ∷ [])
