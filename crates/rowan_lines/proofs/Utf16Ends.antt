-- Fronts of a text that take so many units of UTF-16.
use Rattle.std.proofs.Common.{◌≡◌, ℕ, ◌+◌, ◌-◌, ◌<◌, ◌≤◌, List, [], ◌∷◌, ◌++◌, length, take, drop, get_or, refl, sym, ◌∙◌, ap, subst, inl, inr, arith, length-append}
use Rattle.std.proofs.lemmas.Bool.{cases_lt}
use Rattle.std.proofs.lemmas.List.{take-take, take-append-drop, length-take-le, length-drop}
use Rattle.std.proofs.lemmas.Str.{chars-nil, chars-append, chars_past_char, encodes-chars, length-encode, len_utf8_bounds, IsUtf8-between}
use Rattle.std.specs.Char.Escape.{encode_utf16}
use Rattle.std.specs.Char.{len_utf8, encode_utf8}
use Rattle.std.specs.List.{slice_range}
use Rattle.std.specs.Prelude.{Option, Some}
use Rattle.std.specs.Str.{chars, IsUtf8, encode_utf8_all}
use Rattle.rowan_lines.specs.declared.line_index.LineColumn.{LineColumn}
use Rattle.rowan_lines.specs.Lines.{utf16_len, line_start, IsLineUpTo, IsCounted, IsUtf16End, line_ends}
use Rattle.rowan_lines.proofs.Columns.{utf16-units}
use Rattle.rowan_lines.proofs.LineLemmas.{line_start-within, line_start-border, start-column, offset-le-next}

units-some : (c : ℕ) → 1 ≤ length (encode_utf16 c)
units-some c = elim (cases_lt c 65536) [
  | inl less ↦
      let one : 1 ≡ length (encode_utf16 c) = utf16-units c 1 (λ h. refl)
      (λ h. absurd (omega (arith, less, h))) in
      omega (arith, one)
  | inr more ↦
      let two : 2 ≡ length (encode_utf16 c) = utf16-units c 2 (λ h. absurd (omega (arith, more, h)))
      (λ h. refl) in
      omega (arith, two)
]

-- ---- no units

pub end-zero : (bs : List ℕ) → IsUtf16End bs 0 0
end-zero bs = record { front = []; back = chars bs; cut = refl; end = refl; counted = refl }

nothing-counted : (front : List ℕ) → utf16_len front ≡ 0 → length (encode_utf8_all front) ≡ 0
nothing-counted [] e = refl
nothing-counted (c ∷ cs) e = absurd (omega (arith, units-some c, e))

pub end-none : (bs : List ℕ) (k : ℕ) → IsUtf16End bs 0 k → k ≡ 0
end-none bs k h = h.end ∙ nothing-counted h.front h.counted

-- no characters
pub end-empty : (bs : List ℕ) (left k : ℕ) → length bs ≡ 0 → IsUtf16End bs left k → left ≡ 0
end-empty (b ∷ bs) left k none h = absurd (omega (arith, none))
end-empty [] left k none h = by h.front h.back (sym chars-nil ∙ h.cut) h.counted
  where
    by : (front back : List ℕ) → [] ≡ front ++ back → utf16_len front ≡ left → left ≡ 0
    by [] back cut counted = sym counted
    by (c ∷ cs) back cut counted = absurd (omega (arith, ap length cut))

-- ---- one character

pub end-past : (bs rest : List ℕ) (c units left k : ℕ) → IsUtf8 bs → bs ≡ encode_utf8 c ++ rest
    → units ≡ length (encode_utf16 c) → 0 < left → IsUtf16End bs left k → (units ≤ left) ×
    (len_utf8 c ≤ k) × IsUtf16End rest (left - units) (k - len_utf8 c)
end-past bs rest c units left k utf8 e same some h = by h.front h.back
    (sym (chars_past_char bs rest c utf8 e) ∙ h.cut) h.end h.counted
  where
    by : (front back : List ℕ) → c ∷ chars rest ≡ front ++ back → k ≡ length (encode_utf8_all front)
        → utf16_len front ≡ left → (units ≤ left) × (len_utf8 c ≤ k) × IsUtf16End rest (left - units)
        (k - len_utf8 c)
    by [] back cut end counted = absurd (omega (arith, counted, some))
    by (d ∷ ds) back cut end counted =
        let first : c ≡ d = ap (λ cs. get_or cs 0 0) cut in
        let units_are : units ≡ length (encode_utf16 d) = same ∙ ap (λ n. length (encode_utf16 n))
        first in
        let len_is : len_utf8 c ≡ length (encode_utf8 d) = ap len_utf8 first ∙ sym (length-encode d)
        in
        let all = length-append (encode_utf8 d) (encode_utf8_all ds) in (
          omega (arith, units_are, counted),
          omega (arith, len_is, all, end),
          record {
            front = ds;
            back = back;
            cut = ap (λ cs. drop 1 cs) cut;
            end = omega (arith, len_is, all, end);
            counted = omega (arith, units_are, counted);
          },
        )

pub end-before : (bs rest : List ℕ) (c units left k : ℕ) → IsUtf8 bs → bs ≡ encode_utf8 c ++ rest
    → units ≡ length (encode_utf16 c) → units ≤ left → IsUtf16End rest (left - units) k → IsUtf16End
    bs left (len_utf8 c + k)
end-before bs rest c units left k utf8 e same less h = record {
  front = c ∷ h.front;
  back = h.back;
  cut = chars_past_char bs rest c utf8 e ∙ ap (λ cs. c ∷ cs) h.cut;
  end = omega (arith, length-append (encode_utf8 c) (encode_utf8_all h.front), length-encode c, h.end);
  counted = omega (arith, same, h.counted, less);
}

-- what a loop knows of the ends of the text by those of what is left
pub all-step : (text bs rest : List ℕ) (c n units left end left2 end2 : ℕ) → IsUtf8 bs
    → bs ≡ encode_utf8 c ++ rest → n ≡ length (encode_utf16 c) → 0 < left → left2 + n ≡ left
    → end2 ≡ end + len_utf8 c
    → ((k : ℕ) → IsUtf16End text units k → (end ≤ k) × IsUtf16End bs left (k - end))
    → (k : ℕ) → IsUtf16End text units k → (end2 ≤ k) × IsUtf16End rest left2 (k - end2)
all-step text bs rest c n units left end left2 end2 utf8 e same some lefts ends before k h =
    let g = before k h in
    let p = end-past bs rest c n left (k - end) utf8 e same some g.1 in
    let l : left - n ≡ left2 = omega (arith, lefts) in
    let m : k - end - len_utf8 c ≡ k - end2 = omega (arith, ends, g.0) in (
      omega (arith, g.0, p.1, ends),
      subst (λ i. IsUtf16End rest left2 i) m (subst (λ i. IsUtf16End rest i (k - end - len_utf8 c))
          l p.2),
    )

pub there-step : (text bs rest : List ℕ) (c n units left end left2 end2 : ℕ) → IsUtf8 bs
    → bs ≡ encode_utf8 c ++ rest → n ≡ length (encode_utf16 c) → left2 + n ≡ left
    → end2 ≡ end + len_utf8 c
    → ((k : ℕ) → IsUtf16End bs left k → IsUtf16End text units (end + k))
    → (k : ℕ) → IsUtf16End rest left2 k → IsUtf16End text units (end2 + k)
there-step text bs rest c n units left end left2 end2 utf8 e same lefts ends before k h =
    let l : left2 ≡ left - n = omega (arith, lefts) in
    let m : end + (len_utf8 c + k) ≡ end2 + k = omega (arith, ends) in
    subst (IsUtf16End text units) m (before (len_utf8 c + k) (end-before bs rest c n left k utf8 e
    same (omega (arith, lefts)) (subst (λ i. IsUtf16End rest i k) l h)))

-- nothing is left to be counted
pub last-there : (text rest : List ℕ) (units left end : ℕ) → left ≡ 0
    → ((k : ℕ) → IsUtf16End rest left k → IsUtf16End text units (end + k)) → IsUtf16End text units end
last-there text rest units left end none before =
    let e : end + 0 ≡ end = omega arith in
    subst (IsUtf16End text units) e (before 0 (subst (λ n. IsUtf16End rest n 0) (sym none)
    (end-zero rest)))

pub last-all : (text rest : List ℕ) (units left end : ℕ) → left ≡ 0
    → ((k : ℕ) → IsUtf16End text units k → (end ≤ k) × IsUtf16End rest left (k - end))
    → (k : ℕ) → IsUtf16End text units k → end ≡ k
last-all text rest units left end none before k h =
    let g = before k h in
    let z = end-none rest (k - end) (subst (λ n. IsUtf16End rest n (k - end)) none g.1) in
    omega (arith, g.0, z)

-- no character is left, or the next one has too many units
pub none-empty : (text rest : List ℕ) (units left end : ℕ) → length rest ≡ 0 → 0 < left
    → ((k : ℕ) → IsUtf16End text units k → (end ≤ k) × IsUtf16End rest left (k - end))
    → (k : ℕ) → IsUtf16End text units k → ⊥
none-empty text rest units left end none some before k h =
    let e = end-empty rest left (k - end) none (before k h).1 in
    omega (arith, some, e)

pub none-less : (text bs rest : List ℕ) (c n units left end : ℕ) → IsUtf8 bs
    → bs ≡ encode_utf8 c ++ rest → n ≡ length (encode_utf16 c) → 0 < left → left < n
    → ((k : ℕ) → IsUtf16End text units k → (end ≤ k) × IsUtf16End bs left (k - end))
    → (k : ℕ) → IsUtf16End text units k → ⊥
none-less text bs rest c n units left end utf8 e same some less before k h =
    let p = end-past bs rest c n left (k - end) utf8 e same some (before k h).1 in
    omega (arith, less, p.0)

-- ---- one end has one count

pub end-counts : (bs : List ℕ) (a b k : ℕ) → IsUtf16End bs a k → IsUtf16End bs b k → a ≡ b
end-counts bs a b k g h =
    sym g.counted
    ∙ by g.front h.front g.back h.back (sym g.cut ∙ h.cut) (sym g.end ∙ h.end)
    ∙ h.counted
  where
    by : (cs ds xs ys : List ℕ) → cs ++ xs ≡ ds ++ ys → length (encode_utf8_all cs) ≡ length
        (encode_utf8_all ds) → utf16_len cs ≡ utf16_len ds
    by [] [] xs ys cut same = refl
    by [] (d ∷ ds) xs ys cut same = absurd (omega (
      arith,
      same,
      length-append
          (encode_utf8 d) (encode_utf8_all ds),
      length-encode d,
      (len_utf8_bounds d).0,
    ))
    by (c ∷ cs) [] xs ys cut same = absurd (omega (
      arith,
      same,
      length-append
          (encode_utf8 c) (encode_utf8_all cs),
      length-encode c,
      (len_utf8_bounds c).0,
    ))
    by (c ∷ cs) (d ∷ ds) xs ys cut same =
        let first : c ≡ d = ap (λ es. get_or es 0 0) cut in
        let one : length (encode_utf8 c) ≡ length (encode_utf8 d) = ap (λ n. length (encode_utf8 n))
        first in
        let units : length (encode_utf16 c) ≡ length (encode_utf16 d) = ap
        (λ n. length (encode_utf16 n)) first in
        let rest = by cs ds xs ys (ap (λ es. drop 1 es) cut) (omega (
          arith,
          same,
          one,
          length-append (encode_utf8 c) (encode_utf8_all cs),
          length-append (encode_utf8 d) (encode_utf8_all ds),
        )) in
        omega (arith, units, rest)

-- ---- in a line of a text

-- a line with its end
abbrev pub whole_line : List ℕ → ℕ → List ℕ
whole_line text n = slice_range text (line_start text n) (line_start text (n + 1))

pub up_to-end : (text before : List ℕ) (place : LineColumn) → IsUtf8 text → IsLineUpTo text place
    before → IsUtf16End (whole_line text place.line) (utf16_len (chars before)) place.column
up_to-end text before place utf8 h =
    let start = line_start text place.line in
    let end = line_start text (place.line + 1) in
    let sum : start + place.column ≡ h.offset = subst (λ n. line_start text n + place.column ≡
    h.offset) (sym h.at.line) (subst (λ n. line_start text (line_ends (take h.offset text)) + n ≡
    h.offset) (sym h.at.column) (start-column text h.offset h.at.within)) in
    let reach : h.offset ≤ end = subst (λ n. h.offset ≤ line_start text (n + 1)) (sym h.at.line)
    (offset-le-next text h.offset h.at.within) in
    let below = line_start-within text (place.line + 1) in
    let column : h.offset - start ≡ place.column = omega (arith, sum) in
    let from : h.offset - place.column ≡ start = omega (arith, sum) in
    let front : take place.column (whole_line text place.line) ≡ take place.column (drop start text) =
    take-take place.column (end - start) (drop start text) (omega (arith, sum, reach)) in
    let is : before ≡ take place.column (whole_line text place.line) =
    h.is
    ∙ ap (λ n. take (h.offset - n) (drop n text)) from
    ∙ ap (λ n. take n (drop start text)) column
    ∙ sym front in
    let spelled : IsUtf8 (take place.column (whole_line text place.line)) = subst IsUtf8
    (ap (λ n. take n (drop start text)) column ∙ sym front) (IsUtf8-between text start h.offset utf8
    (omega (arith, sum)) (line_start-border text place.line utf8) h.border) in
    let long : length (whole_line text place.line) ≡ end - start = length-take-le (end - start)
    (drop start text) (omega (arith, length-drop start text, below)) in
    let size : length (take place.column (whole_line text place.line)) ≡ place.column = length-take-le
    place.column (whole_line text place.line) (omega (arith, long, sum, reach)) in
    record {
      front = chars (take place.column (whole_line text place.line));
      back = chars (drop place.column (whole_line text place.line));
      cut = ap chars (sym (take-append-drop place.column (whole_line text place.line)))
          ∙ chars-append (take place.column (whole_line text place.line))
          (drop place.column (whole_line text place.line)) spelled;
      end = sym (ap length (encodes-chars (take place.column (whole_line text place.line)) spelled)
          ∙ size);
      counted = ap (λ bs. utf16_len (chars bs)) (sym is);
    }

pub counted-end : (text : List ℕ) (other place : LineColumn) → IsUtf8 text → IsCounted utf16_len text
    other place → IsUtf16End (whole_line text place.line) place.column other.column
counted-end text other place utf8 h = subst
    (λ n. IsUtf16End (whole_line text place.line) n other.column) (sym h.column)
    (subst (λ n. IsUtf16End (whole_line text n) (utf16_len (chars h.before)) other.column)
    (sym h.line) (up_to-end text h.before other utf8 h.up_to))

-- what was found in the line is the place that is counted, and the other way round
pub found-end : (text line : List ℕ) (other place : LineColumn) (found : Option ℕ) → IsUtf8 text
    → line ≡ whole_line text place.line → IsCounted utf16_len text other place
    → ((end : ℕ) → IsUtf16End line place.column end → found ≡ Some end) → found ≡ Some other.column
found-end text line other place found utf8 is h all = all other.column
    (subst (λ l. IsUtf16End l place.column other.column) (sym is) (counted-end text other place utf8
    h))

pub found-counted : (text line before : List ℕ) (place found : LineColumn) → IsUtf8 text
    → line ≡ whole_line text place.line → found.line ≡ place.line
    → IsUtf16End line place.column found.column → IsLineUpTo text found before
    → IsCounted utf16_len text found place
found-counted text line before place found utf8 is same end h = record {
  before = before;
  up_to = h;
  line = sym same;
  column = end-counts (whole_line text place.line) place.column (utf16_len (chars before))
      found.column (subst (λ l. IsUtf16End l place.column found.column) is end)
      (subst (λ n. IsUtf16End (whole_line text n) (utf16_len (chars before)) found.column) same
      (up_to-end text before found utf8 h));
}
