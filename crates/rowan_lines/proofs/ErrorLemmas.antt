-- The errors of a text, one after the other.
use Rattle.std.proofs.Common.{◌≡◌, ℕ, List, [], ◌∷◌, ◌++◌, length, take, min, sym, ◌∙◌, ap, subst, inl, inr, arith, append_assoc, append-nil}
use Rattle.std.proofs.lemmas.Bool.{cases_lt}
use Rattle.std.proofs.lemmas.List.{take_all}
use Rattle.rowan_lines.specs.declared.syntax_error.SyntaxError.{SyntaxError}
use Rattle.rowan_lines.specs.Printed.{error_text, errors_text, IsInShortLine, AreInShortLines}

pub errors-step : (text name out out2 all : List ℕ) (e : SyntaxError) (rest others : List SyntaxError)
    → rest ≡ e ∷ others
    → AreInShortLines text rest × (out ++ errors_text name text rest ≡ all)
    → (IsInShortLine text e.range → out2 ≡ out ++ error_text name text e)
    → AreInShortLines text others × (out2 ++ errors_text name text others ≡ all)
errors-step text name out out2 all e rest others is before put =
    let here = subst (λ r. AreInShortLines text r × (out ++ errors_text name text r ≡ all)) is before in (
      here.0.1,
      ap (λ o. o ++ errors_text name text others) (put here.0.0)
          ∙ append_assoc out (error_text name text e) (errors_text name text others)
          ∙ here.1,
    )

pub errors-done : (text name out all : List ℕ) (rest : List SyntaxError) → length rest ≡ 0
    → out ++ errors_text name text rest ≡ all → out ≡ all
errors-done text name out all [] none before = sym (append-nil out) ∙ before
errors-done text name out all (e ∷ es) none before = absurd (omega (arith, none))

pub first-errors : (errors : List SyntaxError) (limit : ℕ)
    → take (min (length errors) limit) errors ≡ take limit errors
first-errors errors limit = elim (cases_lt limit (length errors)) [
  | inl less ↦
      let e : min (length errors) limit ≡ limit = omega (arith, less) in
      ap (λ n. take n errors) e
  | inr more ↦
      let e : min (length errors) limit ≡ length errors = omega (arith, more) in
      ap (λ n. take n errors) e ∙ take_all (length errors) errors (omega arith) ∙ sym
      (take_all limit errors more)
]
