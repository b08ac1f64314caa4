-- What fits in how many words.
use Rattle.std.proofs.Common.{◌≡◌, ℕ, ◌+◌, ◌*◌, ◌^◌, ◌<◌, ap, sym, ◌∙◌, arith}
use native.Mathlib.Nat.{mul_assoc}
use denote.RattleType.{RattleType}
use Rattle.std.specs.Mem.{type_size}
use Rattle.rowan_thin_rc.specs.Ownership.{Cut, front_words}
use Rattle.rowan_thin_rc.specs.Shape.{Fits}

module _ (F R : RattleType) (f s : ℕ) (fits : Fits F R f s) where
  pub words_are : f ≡ front_words F
  words_are = let i = fits.2 in omega arith

  pub cut_of : (c n : ℕ) → n ≡ f + c * s → n < 2 ^ 60 → Cut F R c n
  cut_of c n e small =
      let i = fits.2 in
      let times : c * type_size R ≡ c * s * 8 =
      ap (λ (k : ℕ). c * k) fits.3 ∙ sym (mul_assoc c s 8) in
      (fits.0, fits.1, omega arith, omega arith, small)
