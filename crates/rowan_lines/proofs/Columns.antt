-- Columns in characters: where lines begin, and how many units of UTF-16 characters take.
use Rattle.std.proofs.Common.{◌≡◌, ℕ, zero, suc, ◌+◌, ◌-◌, ◌<◌, ◌≤◌, ◌==◌, ◌⊎◌, ◌&&◌, Bool, true, false, List, [], ◌∷◌, ◌++◌, length, take, get_or, refl, sym, ◌∙◌, ap, subst, inl, inr, arith, length-append}
use Rattle.std.proofs.lemmas.Bool.{eqb-true, cases_lt, cond_below, cond_above}
use Rattle.std.proofs.lemmas.List.{append_cancel_left}
use Rattle.std.proofs.lemmas.Str.{chars-nil, chars_past_char, encodes-chars, scalars-chars, IsCharBoundary-start, IsCharBoundary-after_ascii, len_utf8_bounds, length-encode}
use Rattle.std.specs.Char.Escape.{encode_utf16}
use Rattle.std.specs.Char.{len_utf8, encode_utf8}
use Rattle.std.proofs.Math.Utf8.{scalar}
use Rattle.std.specs.Str.{chars, IsUtf8, IsCharBoundary, encode_utf8_all, all_scalars}
use Rattle.std.specs.Borrow.{Bor}
use Rattle.std.specs.Prelude.{Option, Some, None, IsSome}
use Rattle.std.specs.Str.Pattern.{GetsRange}
use Rattle.rowan_lines.specs.declared.line_index.LineColumn.{LineColumn}
use Rattle.rowan_lines.specs.Lines.{since, bytes_since, utf16_len, IsInLine}

-- Either no line ends before k, or the bytes since the last end stand behind an end.
abbrev BeginsLine : List ℕ → ℕ → ℕ → ℕ → Type 0
BeginsLine bs n k c = (c ≡ n + k) ⊎ ((j : ℕ) × (j + 1 + c ≡ k) × (get_or bs j 0 ≡ 10))

since-end : (bs : List ℕ) (n k : ℕ) → k ≤ length bs → BeginsLine bs n k (bytes_since n (take k bs))
since-end bs n zero within = inl (omega arith)
since-end [] n (suc k) within = absurd (omega (arith, within))
since-end (b ∷ bs) n (suc k) within = by (b == 10) refl (λ m. since-end bs m k
    (omega (arith, within)))
  where
    later : (m c : ℕ) → BeginsLine bs m k c → (c ≡ m + k → BeginsLine (b ∷ bs) n (suc k) c) →
        BeginsLine (b ∷ bs) n (suc k) c
    later m c (inl e) first = first e
    later m c (inr h) first = inr (suc h.0, omega (arith, h.1), h.2)

    by : (e : Bool) → (b == 10) ≡ e → ((m : ℕ) → BeginsLine bs m k (bytes_since m (take k bs))) →
        BeginsLine (b ∷ bs) n (suc k) (bytes_since (since e n) (take k bs))
    by true is next = later 0 (bytes_since 0 (take k bs)) (next 0)
        (λ e. inr (0, omega (arith, e), eqb-true b 10 is))
    by false is next = later (n + 1) (bytes_since (n + 1) (take k bs)) (next (n + 1))
        (λ e. inl (omega (arith, e)))

-- a line begins where a character does
pub line_border : (text : List ℕ) (offset : ℕ) → IsUtf8 text → offset ≤ length text → IsCharBoundary
    text (offset - bytes_since 0 (take offset text))
line_border text offset utf8 within = elim (since-end text 0 offset within) [
  | inl e ↦
      let at : 0 ≡ offset - bytes_since 0 (take offset text) = omega (arith, e) in
      subst (IsCharBoundary text) at (IsCharBoundary-start text utf8)
  | inr h ↦
      let at : h.0 + 1 ≡ offset - bytes_since 0 (take offset text) = omega (arith, h.1) in
      subst (IsCharBoundary text) at (IsCharBoundary-after_ascii text h.0 utf8
      (omega (arith, h.1, within)) (omega (arith, h.2)))
]

pub utf16-units : (c n : ℕ) → (c < 65536 → n ≡ 1) → (65536 ≤ c → n ≡ 2) → n ≡ length
    (encode_utf16 c)
utf16-units c n one two = elim (cases_lt c 65536) [
  | inl less ↦ one less ∙ ap length (cond_below c 65536 (c ∷ []) _ less)
  | inr more ↦ two more ∙ ap length (cond_above c 65536 (c ∷ []) _ _ more refl)
]

-- a character has no more units of UTF-16 than bytes of UTF-8
units-le : (c : ℕ) → length (encode_utf16 c) ≤ len_utf8 c
units-le c = elim (cases_lt c 65536) [
  | inl less ↦
      let one : 1 ≡ length (encode_utf16 c) = utf16-units c 1 (λ h. refl)
      (λ h. absurd (omega (arith, less, h))) in
      omega (arith, one, (len_utf8_bounds c).0)
  | inr more ↦
      let two : 2 ≡ length (encode_utf16 c) = utf16-units c 2 (λ h. absurd (omega (arith, more, h)))
      (λ h. refl) in
      let four : 4 ≡ len_utf8 c = cond_above c 128 1 _ 4 (omega (arith, more))
      (cond_above c 2048 2 _ 4 (omega (arith, more)) (cond_above c 65536 3 4 4 more refl)) in
      omega (arith, two, four)
]

-- ---- a step over one character

right-of : (a b : Bool) → (a && b) ≡ true → b ≡ true
right-of true b e = e
right-of false true e = refl
right-of false false e = e

pub utf8-rest : (bs rest : List ℕ) (c : ℕ) → IsUtf8 bs → bs ≡ encode_utf8 c ++ rest → IsUtf8 rest
utf8-rest bs rest c utf8 e =
    let first = chars_past_char bs rest c utf8 e in (
      chars rest,
      (
        right-of (scalar c) (all_scalars (chars rest)) (sym (ap all_scalars first) ∙ scalars-chars
            bs utf8),
        append_cancel_left (encode_utf8 c) (encode_utf8_all (chars rest)) rest
            (sym (ap encode_utf8_all first) ∙ encodes-chars bs utf8 ∙ e),
      ),
    )

pub units-counted : (bs rest : List ℕ) (c n units all : ℕ) → IsUtf8 bs → bs ≡ encode_utf8 c ++ rest
    → units ≡ length (encode_utf16 c) → n + utf16_len (chars bs) ≡ all → n + units + utf16_len
    (chars rest) ≡ all
units-counted bs rest c n units all utf8 e same before = omega
    (arith, ap utf16_len (chars_past_char bs rest c utf8 e), same, before)

pub units-within : (bs rest : List ℕ) (c n units all : ℕ) → bs ≡ encode_utf8 c ++ rest → units ≡
    length (encode_utf16 c) → n + length bs ≤ all → n + units + length rest ≤ all
units-within bs rest c n units all e same before = omega (
  arith,
  ap length e,
  length-append
      (encode_utf8 c) rest,
  length-encode c,
  units-le c,
  same,
  before,
)

pub rest-less : (bs rest : List ℕ) (c : ℕ) → bs ≡ encode_utf8 c ++ rest → length rest < length bs
rest-less bs rest c e = omega (
  arith,
  ap length e,
  length-append (encode_utf8 c) rest,
  length-encode
      c,
  (len_utf8_bounds c).0,
)

pub units-none : (bs : List ℕ) → length bs ≡ 0 → utf16_len (chars bs) ≡ 0
units-none [] none = ap utf16_len chars-nil
units-none (b ∷ bs) none = absurd (omega (arith, none))

-- a text is got where a line and a character end
pub got-line : (text : List ℕ) (end start : ℕ) (place : LineColumn) (r : Option (Bor (List ℕ))) →
    IsUtf8 text → IsInLine text end place → IsCharBoundary text end → start ≡ end - place.column →
    GetsRange text start end r → IsSome r
got-line text end start place (Some x) utf8 at border is got = refl
got-line text end start place None utf8 at border is got =
    let same : end - bytes_since 0 (take end text) ≡ start = omega (arith, is, at.column) in
    absurd (got (omega (arith, is)) (subst (IsCharBoundary text) same
    (line_border text end utf8 at.within)) border)
