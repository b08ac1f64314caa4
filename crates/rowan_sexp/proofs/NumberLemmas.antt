-- Numbers that are read and computed: what they are, and whether 64 bits hold them.
use Rattle.std.proofs.Common.{◌≡◌, ℕ, ◌^◌, Bool, true, false, cond, List, length, Some, None, refl}
use Rattle.std.proofs.Common.{sym, ◌∙◌, ap}
use Rattle.std.specs.Prelude.{ℤ, pos, negsuc, ◌&&◌, FitsSigned, Result, Ok, Err, nat_lt}
use Rattle.std.specs.Result.{result_ok}
use Rattle.std.specs.Str.{all_ascii_digits}
use Rattle.std.specs.Str.Parse.{IsNumeral, ParsesSigned, digits_value, without_leading_sign}
use Rattle.std.specs.Str.Parse.{signed_digits_value}
use Rattle.std.proofs.lemmas.Bool.{ltb-true, lt-ltb}
use Rattle.std.proofs.lemmas.Str.Parse.{IsNumeralModel, numerals_by_value, tells_all_ascii_digits}
use Rattle.std.specs.Int.{w64}
use Rattle.rowan_sexp.specs.Eval.{is_i64, if_i64, is_digits, number_in}

-- 64 bits hold a number exactly where the test says so
held : (z : ℤ) → FitsSigned w64 z → is_i64 z ≡ true
held (pos n) h = lt-ltb n (2 ^ 63) h.sfits
held (negsuc n) h = lt-ltb n (2 ^ 63) h.sfits

holds : (z : ℤ) → is_i64 z ≡ true → FitsSigned w64 z
holds (pos n) e = record { sfits = ltb-true n (2 ^ 63) e }
holds (negsuc n) e = record { sfits = ltb-true n (2 ^ 63) e }

digits : IsNumeralModel (λ ds. all_ascii_digits ds ≡ true) (digits_value 10)
digits = numerals_by_value (λ ds. all_ascii_digits ds ≡ true) tells_all_ascii_digits

-- a text is a numeral exactly where the test says so
is_numeral : (ds : List ℕ) → is_digits ds ≡ true → IsNumeral 10 ds
is_numeral ds e = by (nat_lt 0 (length ds)) refl e
  where
    by : (b : Bool) → nat_lt 0 (length ds) ≡ b → b && all_ascii_digits ds ≡ true → IsNumeral 10 ds
    by true h e = (ltb-true 0 (length ds) h, digits.to ds e)
    by false h e = absurd cc

numeral-is : (ds : List ℕ) → IsNumeral 10 ds → is_digits ds ≡ true
numeral-is ds h = ap (λ b. b && all_ascii_digits ds) (lt-ltb 0 (length ds) h.0) ∙ digits.from ds h.1

-- `parse` gives the number that a text writes
pub parsed : {E : Type 0} (text : List ℕ) (r : Result ℤ E) → ParsesSigned w64 10 text r
    → result_ok r ≡ number_in text
parsed text (Ok n) h =
    ap (λ m. Some m) h.1
    ∙ sym (ap (λ b. cond b (if_i64 (signed_digits_value 10 text)) None)
    (numeral-is (without_leading_sign text) h.0.0)
    ∙ ap (λ b. cond b (Some (signed_digits_value 10 text)) None)
    (held (signed_digits_value 10 text) h.0.1))
parsed text (Err e) h = by (is_digits (without_leading_sign text)) refl
    (is_i64 (signed_digits_value 10 text)) refl
  where
    by : (a : Bool) → is_digits (without_leading_sign text) ≡ a → (b : Bool)
        → is_i64 (signed_digits_value 10 text) ≡ b
        → None ≡ cond a (cond b (Some (signed_digits_value 10 text)) None) None
    by true d true i = absurd (h (
      is_numeral (without_leading_sign text) d,
      holds (signed_digits_value 10 text) i,
    ))
    by true d false i = refl
    by false d b i = refl
