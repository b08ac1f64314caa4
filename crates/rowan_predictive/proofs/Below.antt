-- What is tested of each entry, one after the other.
use Rattle.std.proofs.Common.{◌≡◌, ℕ, ◌+◌, ◌<◌, Bool, true, false, eqb, List, Some, slice_get, arith, refl, sym, subst}
use Rattle.std.proofs.lemmas.Bool.Decides.{nat_tests}
use Rattle.rowan_predictive.specs.declared.rules.Entry.{Entry}
use Rattle.rowan_predictive.specs.declared.rules.Rule.{Rule}

module _ (P : ℕ → Rule → Type 0) (entries : List Entry) (i : ℕ)
    (before : (k : ℕ) (entry : Entry) → k < i → slice_get entries k ≡ Some entry → P k entry.rule)
    (here : (entry : Entry) → slice_get entries i ≡ Some entry → P i entry.rule) where
  by : (b : Bool) (k : ℕ) (entry : Entry) → eqb k i ≡ b → k < i + 1 → slice_get entries k ≡ Some entry → P k entry.rule
  by true k entry is less e =
      let q : i ≡ k = grind (arith, nat_tests) in
      subst (λ (x : ℕ). P x entry.rule) q
      (here entry (subst (λ (x : ℕ). slice_get entries x ≡ Some entry) (sym q) e))
  by false k entry is less e = before k entry (grind (arith, nat_tests)) e

  -- what holds below a number, and at it, holds below the next one
  pub extended : (k : ℕ) (entry : Entry) → k < i + 1 → slice_get entries k ≡ Some entry → P k entry.rule
  extended k entry less e = by (eqb k i) k entry refl less e
