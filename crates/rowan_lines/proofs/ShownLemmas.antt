-- Where a text may be cut, and the line of a range.
use Rattle.std.proofs.Common.{◌≡◌, ℕ, zero, suc, ◌+◌, ◌-◌, ◌^◌, ◌<◌, ◌≤◌, ◌⊎◌, ◌==◌, Bool, true, false, List, [], ◌∷◌, ◌++◌, length, take, drop, max, get_or, refl, sym, ◌∙◌, ap, subst, inl, inr, if◌then◌else◌, arith, append_assoc}
use Rattle.std.proofs.lemmas.Bool.{cases_lt}
use Rattle.std.proofs.lemmas.List.{length-take, take_all, drop_all, get_or-take, get_or-drop, take-append-drop}
use Rattle.std.proofs.lemmas.Str.{IsUtf8-take, IsCharBoundary-end}
use Rattle.std.proofs.Math.Seq.{take-length}
use Rattle.std.specs.List.{slice_range}
use Rattle.std.specs.Str.{chars, IsUtf8, IsCharBoundary}
use Rattle.rowan_lines.specs.Lines.{line_ends, bytes_since, line_start, line_text, is_end, without_end, counted}
use Rattle.std.specs.Fmt.{decimal}
use Rattle.rowan_green.specs.Span.{Span}
use Rattle.rowan_lines.specs.Pictures.{pictured, columns}
use Rattle.rowan_lines.specs.Printed.{IsCut, place_line, bar_line, source_line, caret_line, shown_line, shown_range, FitsWhole, IsInShortLine}
use Rattle.rowan_lines.proofs.LineLemmas.{line_start-within, start-column}
use Rattle.rowan_lines.proofs.PictureLemmas.{pictured-append}

-- ---- a cut at the last border that is not past it

floor-is : (text : List ℕ) (at floor : ℕ) → floor ≤ at → IsCharBoundary text floor
    → ((i : ℕ) → floor < i → i ≤ at → ¬ (IsCharBoundary text i)) → IsCut text at
    → (floor ≡ at) ⊎ ((floor ≡ length text) × (length text ≤ at))
floor-is text at floor le border nearest (inl there) = elim (cases_lt floor at) [
  | inl less ↦ absurd (nearest at less (omega arith) there)
  | inr more ↦ inl (omega (arith, le, more))
]
floor-is text at floor le border nearest (inr past) = elim (cases_lt floor (length text)) [
  | inl less ↦ absurd (nearest (length text) less past (IsCharBoundary-end text))
  | inr more ↦ inr (omega (arith, border.0, more), past)
]

pub cut-front : (text : List ℕ) (at floor : ℕ) → floor ≤ at → IsCharBoundary text floor
    → ((i : ℕ) → floor < i → i ≤ at → ¬ (IsCharBoundary text i)) → IsCut text at
    → take floor text ≡ take at text
cut-front text at floor le border nearest cut = elim (floor-is text at floor le border nearest cut) [
  | inl e ↦ ap (λ n. take n text) e
  | inr h ↦ ap (λ n. take n text) h.0 ∙ take-length text ∙ sym (take_all at text h.1)
]

pub cut-back : (text : List ℕ) (at floor : ℕ) → floor ≤ at → IsCharBoundary text floor
    → ((i : ℕ) → floor < i → i ≤ at → ¬ (IsCharBoundary text i)) → IsCut text at
    → drop floor text ≡ drop at text
cut-back text at floor le border nearest cut = elim (floor-is text at floor le border nearest cut) [
  | inl e ↦ ap (λ n. drop n text) e
  | inr h ↦ ap (λ n. drop n text) h.0 ∙ drop_all (length text) text (omega arith) ∙ sym (drop_all at text h.1)
]

cut-utf8 : (text : List ℕ) (at : ℕ) → IsUtf8 text → IsCut text at → IsUtf8 (take at text)
cut-utf8 text at utf8 (inl there) = IsUtf8-take text at utf8 there
cut-utf8 text at utf8 (inr past) = subst IsUtf8 (sym (take_all at text past)) utf8

-- the pictures of the parts are those of the line
pub pictured-parts : (line : List ℕ) (start end : ℕ) → IsUtf8 line → IsCut line end → IsCut
    (take end line) start
    → pictured (take start (take end line)) ++ (pictured (drop start (take end line)) ++ pictured
    (drop end line)) ≡ pictured line
pictured-parts line start end utf8 cut inner =
    let front = cut-utf8 line end utf8 cut in
    let before = cut-utf8 (take end line) start front inner in
    let whole : pictured (take start (take end line)) ++ pictured (drop start (take end line)) ≡
    pictured (take end line) =
    sym (pictured-append (take start (take end line)) (drop start (take end line)) before)
    ∙ ap pictured (take-append-drop start (take end line)) in
    sym (append_assoc (pictured (take start (take end line))) (pictured
    (drop start (take end line))) (pictured (drop end line)))
    ∙ ap (λ (bs : List ℕ). bs ++ pictured (drop end line)) whole
    ∙ sym (pictured-append (take end line) (drop end line) front)
    ∙ ap pictured (take-append-drop end line)

-- ---- the line of an offset

pub line_ends-le : (bs : List ℕ) (n : ℕ) → line_ends (take n bs) ≤ n
line_ends-le bs zero = omega arith
line_ends-le [] (suc n) = omega arith
line_ends-le (b ∷ bs) (suc n) = by (b == 10) (line_ends-le bs n)
  where
    by : (e : Bool) → line_ends (take n bs) ≤ n → counted e (line_ends (take n bs)) ≤ suc n
    by true le = omega (arith, le)
    by false le = omega (arith, le)

-- no byte of the range is in a later line
pub one-line : (text : List ℕ) (last start : ℕ) → line_ends (take last text) ≤ line_ends
    (take start text) → line_ends (take (max last start) text) ≤ line_ends (take start text)
one-line text last start le = elim (cases_lt last start) [
  | inl less ↦
      let e : max last start ≡ start = omega (arith, less) in
      subst (λ n. line_ends (take n text) ≤ line_ends (take start text)) (sym e) (omega arith)
  | inr more ↦
      let e : max last start ≡ last = omega (arith, more) in
      subst (λ n. line_ends (take n text) ≤ line_ends (take start text)) (sym e) le
]

-- a line without its end is the front of the line
without_end-at : (bs : List ℕ) (p d : ℕ) → p < length (without_end bs) → get_or (without_end bs) p d ≡
    get_or bs p d
without_end-at [] p d there = absurd (omega (arith, there))
without_end-at (b ∷ bs) p d there = by (is_end (b ∷ bs)) p there (λ q. without_end-at bs q d)
  where
    by : (e : Bool) (p : ℕ) → p < length (if e then [] else (b ∷ without_end bs))
        → ((q : ℕ) → q < length (without_end bs) → get_or (without_end bs) q d ≡ get_or bs q d)
        → get_or (if e then [] else (b ∷ without_end bs)) p d ≡ get_or (b ∷ bs) p d
    by true p there next = absurd (omega (arith, there))
    by false zero there next = refl
    by false (suc q) there next = next q (omega (arith, there))

without_end-le : (bs : List ℕ) → length (without_end bs) ≤ length bs
without_end-le [] = omega arith
without_end-le (b ∷ bs) = by (is_end (b ∷ bs)) (without_end-le bs)
  where
    by : (e : Bool) → length (without_end bs) ≤ length bs → length
        (if e then [] else (b ∷ without_end bs)) ≤ suc (length bs)
    by true le = omega arith
    by false le = omega (arith, le)

-- a byte of a line is that of the text
line_text-at : (text : List ℕ) (i p d : ℕ) → p < length (line_text text i) → get_or
    (line_text text i) p d ≡ get_or text (line_start text i + p) d
line_text-at text i p d there =
    let start = line_start text i in
    let end = line_start text (i + 1) in
    let less : p < end - start = omega (
      arith,
      there,
      without_end-le (slice_range text start end),
      length-take (end - start) (drop start text),
    ) in
    without_end-at (slice_range text start end) p d there
    ∙ get_or-take (end - start) (drop start text) p d less
    ∙ get_or-drop start text p d

line_text-within : (text : List ℕ) (i p : ℕ) → p < length (line_text text i) → line_start text i + p <
    length text
line_text-within text i p there =
    let start = line_start text i in
    let end = line_start text (i + 1) in
    omega (
      arith,
      there,
      without_end-le (slice_range text start end),
      length-take (end - start) (drop start text),
      line_start-within text (i + 1),
    )

-- a line may be cut where the text may
pub cut-line : (text : List ℕ) (i p offset : ℕ) → line_start text i + p ≡ offset → IsCharBoundary
    text offset → IsCut (line_text text i) p
cut-line text i p offset at border = elim (cases_lt p (length (line_text text i))) [
  | inl less ↦
      let same : get_or (line_text text i) p 0 ≡ get_or text offset 0 =
      line_text-at text i p 0 less ∙ ap (λ n. get_or text n 0) at in
      inl (
        omega (arith, less),
        λ there high.
            let big : 192 ≤ get_or text offset 0 = border.1 (omega (
              arith,
              less,
              at,
              same,
              line_text-within text i p less,
            )) (omega (arith, high, same)) in
            omega (arith, big, same),
      )
  | inr more ↦ inr more
]

-- a front of a line may be cut where the line may
pub cut-take : (line : List ℕ) (end p : ℕ) → IsCut line p → IsCut (take end line) p
cut-take line end p (inr past) = inr (omega (arith, past, length-take end line))
cut-take line end p (inl border) = elim (cases_lt p (length (take end line))) [
  | inl less ↦
      let same : get_or (take end line) p 0 ≡ get_or line p 0 = get_or-take end line p 0
      (omega (arith, less, length-take end line)) in
      inl (
        omega (arith, less),
        λ there high.
            let big : 192 ≤ get_or line p 0 = border.1
            (omega (arith, less, length-take end line)) (omega (arith, high, same)) in
            omega (arith, big, same),
      )
  | inr more ↦ inr more
]

-- ---- what is printed

abbrev pub printed : List ℕ → ℕ → ℕ → List ℕ → List ℕ → List ℕ → List ℕ
printed name line column shown before inside =
    place_line (length (decimal line)) name line column
    ++ (bar_line (length (decimal line))
    ++ (source_line line shown
    ++ caret_line (length (decimal line)) (columns before) (columns inside)))

pub shown-line : (name whole : List ℕ) (number line column : ℕ)
    (front part before inside shown : List ℕ) → line ≡ number → column ≡ length (chars front) + 1
    → before ≡ pictured front → inside ≡ pictured part → shown ≡ pictured whole
    → printed name line column shown before inside ≡ shown_line name number whole front part
shown-line name whole number line column front part before inside shown lines columns_are befores insides wholes =
    ap (λ n. printed name n column shown before inside) lines
    ∙ ap (λ n. printed name number n shown before inside) columns_are
    ∙ ap (λ bs. printed name number (length (chars front) + 1) bs before inside) wholes
    ∙ ap (λ bs. printed name number (length (chars front) + 1) (pictured whole) bs inside) befores
    ∙ ap (λ bs. printed name number (length (chars front) + 1) (pictured whole) (pictured front) bs) insides

-- ---- a range in one line

pub later-line : (text : List ℕ) (range : Span) (last line last_line : ℕ)
    → last ≡ max (range.end - 1) range.start → line ≡ line_ends (take range.start text)
    → last_line ≡ line_ends (take last text) → line < last_line → IsInShortLine text range → ⊥
later-line text range last line last_line is lines lasts less h =
    let same : line_ends (take last text) ≡ line_ends (take (max (range.end - 1) range.start) text) =
    ap (λ n. line_ends (take n text)) is in
    omega (arith, one-line text (range.end - 1) range.start h.one_line, same, lines, lasts, less)

pub record IsShown (text : List ℕ) (line column len : ℕ) : Type 0 where
  pub low : line < 2 ^ 32
  pub bound : column + len < 2 ^ 34
  pub fits : FitsWhole (line_text text line)
  pub cut : IsCut (line_text text line) (column + len)
  pub front : IsCut (take (column + len) (line_text text line)) column

pub range-holds : (text : List ℕ) (range : Span) (line column len : ℕ)
    → line ≡ line_ends (take range.start text) → column ≡ bytes_since 0 (take range.start text)
    → range.start + len ≡ range.end → range.start < 2 ^ 32 → len < 2 ^ 33 → IsInShortLine text range
    → IsShown text line column len
range-holds text range line column len lines columns_are lens small little h =
    let sum = start-column text range.start h.start.0 in
    let at : line_start text line + column ≡ range.start =
    ap (λ n. line_start text n + column) lines
    ∙ ap (λ n. line_start text (line_ends (take range.start text)) + n) columns_are
    ∙ sum in
    record {
      low = omega (arith, lines, line_ends-le text range.start, small);
      bound = omega (arith, at, small, little);
      fits = subst (λ n. FitsWhole (line_text text n)) (sym lines) h.fits;
      cut = cut-line text line (column + len) range.end (omega (arith, at, lens)) h.end;
      front = cut-take (line_text text line) (column + len) column
          (cut-line text line column range.start at h.start);
    }

-- the line as it is shown, by its number, the column and the length of the range
abbrev pub one : List ℕ → List ℕ → ℕ → ℕ → ℕ → List ℕ
one text name line column len =
    shown_line name (line + 1) (line_text text line)
    (take column (take (column + len) (line_text text line)))
    (drop column (take (column + len) (line_text text line)))

pub range-same : (text name : List ℕ) (range : Span) (line column len : ℕ)
    → line ≡ line_ends (take range.start text) → column ≡ bytes_since 0 (take range.start text)
    → range.start + len ≡ range.end → one text name line column len ≡ shown_range name text range
range-same text name range line column len lines columns_are lens =
    let size : len ≡ range.end - range.start = omega (arith, lens) in
    ap (λ n. one text name n column len) lines
    ∙ ap (λ n. one text name (line_ends (take range.start text)) n len) columns_are
    ∙ ap (λ n. one text name (line_ends (take range.start text))
    (bytes_since 0 (take range.start text)) n) size

-- what was made for a line and its parts is the line as it is shown
pub one-shown : (text name : List ℕ) (number column len : ℕ)
    (line before inside after eb ei ea : List ℕ) (shown_number shown_column end : ℕ)
    → line ≡ line_text text number → end ≡ column + len → IsUtf8 line → number < 2 ^ 32
    → FitsWhole (line_text text number) → IsCut (line_text text number) (column + len)
    → IsCut (take (column + len) (line_text text number)) column
    → (IsCut line end → after ≡ drop end line)
    → (IsCut line end → IsCut (take end line) column
    → (before ≡ take column (take end line)) × (inside ≡ drop column (take end line)))
    → (number < 2 ^ 32 → shown_number ≡ number + 1)
    → (length line ≤ 640 → length before ≤ 640 → shown_column ≡ length (chars before) + 1)
    → (FitsWhole line → (eb ≡ pictured before) × (ei ≡ pictured inside) × (ea ≡ pictured after))
    → printed name shown_number shown_column (eb ++ (ei ++ ea)) eb ei
    ≡ one text name number column len
one-shown text name number column len line before inside after eb ei ea shown_number shown_column
    end lines ends utf8 low fits cut front afters fronts numbers columns_are excerpt =
    let whole = subst FitsWhole (sym lines) fits in
    let cut_here : IsCut line end = subst (λ n. IsCut line n) (sym ends)
    (subst (λ l. IsCut l (column + len)) (sym lines) cut) in
    let cut_front : IsCut (take end line) column = subst (λ n. IsCut (take n line) column)
    (sym ends) (subst (λ l. IsCut (take (column + len) l) column) (sym lines) front) in
    let parts = fronts cut_here cut_front in
    let made = excerpt whole in
    let eb_is : eb ≡ pictured (take column (take end line)) = made.0 ∙ ap pictured parts.0 in
    let ei_is : ei ≡ pictured (drop column (take end line)) = made.1 ∙ ap pictured parts.1 in
    let ea_is : ea ≡ pictured (drop end line) = made.2 ∙ ap pictured (afters cut_here) in
    let text_is : eb ++ (ei ++ ea) ≡ pictured line =
    ap (λ bs. bs ++ (ei ++ ea)) eb_is
    ∙ ap (λ bs. pictured (take column (take end line)) ++ (bs ++ ea)) ei_is
    ∙ ap (λ bs. pictured (take column (take end line))
    ++ (pictured (drop column (take end line)) ++ bs)) ea_is
    ∙ pictured-parts line column end utf8 cut_here cut_front in
    let short : length before ≤ 640 = omega (
      arith,
      ap length parts.0,
      length-take column (take end line),
      length-take end line,
      whole.bytes,
    ) in
    let column_is : shown_column ≡ length (chars (take column (take end line))) + 1 =
    columns_are whole.bytes short ∙ ap (λ bs. length (chars bs) + 1) parts.0 in
    shown-line name line (number + 1) shown_number shown_column (take column (take end line))
    (drop column (take end line)) eb ei (eb ++ (ei ++ ea)) (numbers low) column_is eb_is ei_is
    text_is
    ∙ ap (λ n. shown_line name (number + 1) line (take column (take n line))
    (drop column (take n line))) ends
    ∙ ap (λ l. shown_line name (number + 1) l (take column (take (column + len) l))
    (drop column (take (column + len) l))) lines
