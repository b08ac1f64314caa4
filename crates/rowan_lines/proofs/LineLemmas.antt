-- The line of an offset, and its column.
use Rattle.std.proofs.Common.{◌≡◌, ℕ, zero, suc, ◌+◌, ◌-◌, ◌<◌, ◌≤◌, ◌==◌, Bool, true, false, List, [], ◌∷◌, length, take, min, get_or, refl, sym, ◌∙◌, ap, subst, inl, inr, arith}
use Rattle.std.proofs.lemmas.Bool.{cases_lt, eqb-true}
use Rattle.std.proofs.lemmas.List.{take_all}
use Rattle.std.proofs.lemmas.Str.{IsCharBoundary-start, IsCharBoundary-after_ascii}
use Rattle.std.proofs.Math.Seq.{take-length}
use Rattle.std.specs.Str.{IsUtf8, IsCharBoundary}
use Rattle.rowan_lines.specs.declared.line_index.LineColumn.{LineColumn}
use Rattle.rowan_lines.specs.Lines.{counted, line_ends, since, bytes_since, with_start, starts_from, line_starts, line_start, IsLast, IsInLine}

-- each start behind an offset is past it
starts-past : (bs : List ℕ) (n j : ℕ) → j < length (starts_from n bs) → n < get_or
    (starts_from n bs) j 0
starts-past [] n j some = absurd (omega arith)
starts-past (b ∷ bs) n j some = by (b == 10) j some (starts-past bs (n + 1))
  where
    by : (e : Bool) (j : ℕ) → j < length (with_start e (n + 1) (starts_from (n + 1) bs))
        → ((k : ℕ) → k < length (starts_from (n + 1) bs) → n + 1 < get_or (starts_from (n + 1) bs) k
        0)
        → n < get_or (with_start e (n + 1) (starts_from (n + 1) bs)) j 0
    by true zero some past = omega arith
    by true (suc j) some past = let next = past j (omega (arith, some)) in omega (arith, next)
    by false j some past = let next = past j some in omega (arith, next)

-- the last start that is not past an offset is that of its line
line-of : (bs : List ℕ) (n k s i : ℕ)
    → i < length (s ∷ starts_from n bs)
    → get_or (s ∷ starts_from n bs) i 0 ≤ n + k
    → (suc i < length (s ∷ starts_from n bs) → n + k < get_or (s ∷ starts_from n bs) (suc i) 0)
    → i ≡ line_ends (take k bs)
line-of [] n zero s i there reached last = omega (arith, there)
line-of [] n (suc k) s i there reached last = omega (arith, there)
line-of (b ∷ bs) n zero s zero there reached last = refl
line-of (b ∷ bs) n zero s (suc j) there reached last =
    let past = starts-past (b ∷ bs) n j (omega (arith, there)) in
    absurd (omega (arith, past, reached))
line-of (b ∷ bs) n (suc k) s i there reached last = by (b == 10) i there reached last
    (line-of bs (n + 1) k)
  where
    by : (e : Bool) (i : ℕ)
        → i < length (s ∷ with_start e (n + 1) (starts_from (n + 1) bs))
        → get_or (s ∷ with_start e (n + 1) (starts_from (n + 1) bs)) i 0 ≤ n + suc k
        → (suc i < length (s ∷ with_start e (n + 1) (starts_from (n + 1) bs))
        → n + suc k < get_or (s ∷ with_start e (n + 1) (starts_from (n + 1) bs)) (suc i) 0)
        → ((r j : ℕ)
        → j < length (r ∷ starts_from (n + 1) bs)
        → get_or (r ∷ starts_from (n + 1) bs) j 0 ≤ n + 1 + k
        → (suc j < length (r ∷ starts_from (n + 1) bs)
        → n + 1 + k < get_or (r ∷ starts_from (n + 1) bs) (suc j) 0)
        → j ≡ line_ends (take k bs))
        → i ≡ counted e (line_ends (take k bs))
    by true zero there reached last next =
        let past : n + suc k < n + 1 = last (omega arith) in
        absurd (omega (arith, past))
    by true (suc j) there reached last next =
        let first : get_or ((n + 1) ∷ starts_from (n + 1) bs) j 0 ≤ n + suc k = reached in
        let e : j ≡ line_ends (take k bs) = next (n + 1) j (omega (arith, there))
        (omega (arith, first)) (λ more.
        let past : n + suc k < get_or ((n + 1) ∷ starts_from (n + 1) bs) (suc j) 0 = last
        (omega (arith, more)) in
        omega (arith, past)) in
        ap suc e
    by false i there reached last next = next s i there (omega (arith, reached))
        (λ more. let past = last more in omega (arith, past))

-- the start of the line and the bytes since make the offset
column-of : (bs : List ℕ) (n k c s : ℕ) → s + c ≡ n → k ≤ length bs
    → get_or (s ∷ starts_from n bs) (line_ends (take k bs)) 0 + bytes_since c (take k bs) ≡ n + k
column-of [] n zero c s e within = omega (arith, e)
column-of [] n (suc k) c s e within = absurd (omega (arith, within))
column-of (b ∷ bs) n zero c s e within = omega (arith, e)
column-of (b ∷ bs) n (suc k) c s e within = by (b == 10) (column-of bs (n + 1) k)
  where
    by : (d : Bool)
        → ((c s : ℕ) → s + c ≡ n + 1 → k ≤ length bs
        → get_or (s ∷ starts_from (n + 1) bs) (line_ends (take k bs)) 0 + bytes_since c (take k bs)
        ≡ n + 1 + k)
        → get_or (s ∷ with_start d (n + 1) (starts_from (n + 1) bs))
        (counted d (line_ends (take k bs))) 0 + bytes_since (since d c) (take k bs) ≡ n + suc k
    by true next =
        let h : get_or (s ∷ with_start true (n + 1) (starts_from (n + 1) bs))
        (counted true (line_ends (take k bs))) 0 + bytes_since (since true c) (take k bs) ≡ n +
        1 + k = next 0 (n + 1) (omega arith) (omega (arith, within)) in
        omega (arith, h)
    by false next =
        let h : get_or (s ∷ with_start false (n + 1) (starts_from (n + 1) bs))
        (counted false (line_ends (take k bs))) 0 + bytes_since (since false c) (take k bs) ≡ n
        + 1 + k = next (c + 1) s (omega (arith, e)) (omega (arith, within)) in
        omega (arith, h)

pub IsLast-line : (text : List ℕ) (offset i : ℕ) → IsLast (line_starts text) offset i → i ≡
    line_ends (take offset text)
IsLast-line text offset i h =
    let one : i + 1 ≡ suc i = omega arith in
    line-of text 0 offset 0 i h.there (omega (arith, h.reached)) (λ more.
    let past = subst (λ m. offset < get_or (line_starts text) m 0) one
    (h.last (omega (arith, more))) in
    omega (arith, past))

pub IsLast-column : (text : List ℕ) (offset i : ℕ) → offset ≤ length text → IsLast
    (line_starts text) offset i → get_or (line_starts text) i 0 + bytes_since 0 (take offset text) ≡
    offset
IsLast-column text offset i within last =
    let h = column-of text 0 offset 0 0 refl within in
    subst (λ j. get_or (line_starts text) j 0 + bytes_since 0 (take offset text) ≡ offset)
    (sym (IsLast-line text offset i last)) (omega (arith, h))

-- an offset past the end stands for the end
take-min : (text : List ℕ) (asked : ℕ) → take (min asked (length text)) text ≡ take asked text
take-min text asked = elim (cases_lt asked (length text)) [
  | inl less ↦ let e : min asked (length text) ≡ asked = omega (arith, less) in ap
      (λ n. take n text) e
  | inr more ↦
      let e : min asked (length text) ≡ length text = omega (arith, more) in
      ap (λ n. take n text) e ∙ take-length text ∙ sym (take_all asked text more)
]

pub line-found : (text starts : List ℕ) (asked offset i : ℕ) → starts ≡ line_starts text → offset ≡
    min asked (length text) → IsLast starts offset i → i ≡ line_ends (take asked text)
line-found text starts asked offset i same e last =
    IsLast-line text offset i (subst (λ ss. IsLast ss offset i) same last)
    ∙ ap line_ends (ap (λ n. take n text) e ∙ take-min text asked)

get_or-any : (ss : List ℕ) (j a b : ℕ) → j < length ss → get_or ss j a ≡ get_or ss j b
get_or-any [] j a b some = absurd (omega (arith, some))
get_or-any (s ∷ ss) zero a b some = refl
get_or-any (s ∷ ss) (suc j) a b some = get_or-any ss j a b (omega (arith, some))

pub column-found : (text starts : List ℕ) (asked offset i start column : ℕ) → starts ≡ line_starts
    text → offset ≡ min asked (length text) → IsLast starts offset i → start ≡ get_or starts i start
    → column ≡ offset - start → column ≡ bytes_since 0 (take asked text)
column-found text starts asked offset i start column same e last at is =
    let whole = IsLast-column text offset i (omega (arith, e))
    (subst (λ ss. IsLast ss offset i) same last) in
    let first : get_or (line_starts text) i 0 ≡ start =
    ap (λ ss. get_or ss i 0) (sym same) ∙ get_or-any starts i 0 start last.there ∙ sym at in
    let here : column ≡ bytes_since 0 (take offset text) = omega (arith, whole, first, is) in
    here ∙ ap (bytes_since 0) (ap (λ n. take n text) e ∙ take-min text asked)

-- the line of an offset has a start
line-there : (bs : List ℕ) (n k s : ℕ) → line_ends (take k bs) < length (s ∷ starts_from n bs)
line-there [] n zero s = omega arith
line-there [] n (suc k) s = omega arith
line-there (b ∷ bs) n zero s = omega arith
line-there (b ∷ bs) n (suc k) s = by (b == 10) (line-there bs (n + 1) k)
  where
    by : (d : Bool)
        → ((r : ℕ) → line_ends (take k bs) < length (r ∷ starts_from (n + 1) bs))
        → counted d (line_ends (take k bs)) < length (s ∷ with_start d (n + 1)
        (starts_from (n + 1) bs))
    by true next = let h = next (n + 1) in omega (arith, h)
    by false next = next s

-- a place of the text has a start, from which its column leads to its offset
pub place-line : (text starts : List ℕ) (offset : ℕ) (place : LineColumn) → starts ≡ line_starts
    text → IsInLine text offset place → place.line < length starts
place-line text starts offset place same h =
    subst (λ ss. place.line < length ss) (sym same) (subst (λ n. n < length (line_starts text))
    (sym h.line) (line-there text 0 offset 0))

pub place-sum : (text starts : List ℕ) (offset start : ℕ) (place : LineColumn) → starts ≡
    line_starts text → IsInLine text offset place → start ≡ get_or starts place.line start → start +
    place.column ≡ offset
place-sum text starts offset start place same h at =
    let whole = column-of text 0 offset 0 0 refl h.within in
    let first : start ≡ get_or (line_starts text) (line_ends (take offset text)) 0 =
    at
    ∙ get_or-any starts place.line start 0 (place-line text starts offset place same h)
    ∙ ap (λ ss. get_or ss place.line 0) same
    ∙ ap (λ n. get_or (line_starts text) n 0) h.line in
    omega (arith, whole, first, h.column)

-- ---- where lines start and end

-- a start is not past the next one, nor past the end
starts-rise : (bs : List ℕ) (n s d j : ℕ) → s ≤ n → d ≡ n + length bs
    → j < length (s ∷ starts_from n bs)
    → get_or (s ∷ starts_from n bs) j d ≤ get_or (s ∷ starts_from n bs) (suc j) d
starts-rise [] n s d zero le e there = omega (arith, le, e)
starts-rise [] n s d (suc j) le e there = absurd (omega (arith, there))
starts-rise (b ∷ bs) n s d j le e there = by (b == 10) j there (starts-rise bs (n + 1))
  where
    by : (x : Bool) (j : ℕ)
        → j < length (s ∷ with_start x (n + 1) (starts_from (n + 1) bs))
        → ((r d j : ℕ) → r ≤ n + 1 → d ≡ n + 1 + length bs
        → j < length (r ∷ starts_from (n + 1) bs)
        → get_or (r ∷ starts_from (n + 1) bs) j d ≤ get_or (r ∷ starts_from (n + 1) bs) (suc j) d)
        → get_or (s ∷ with_start x (n + 1) (starts_from (n + 1) bs)) j d ≤ get_or
        (s ∷ with_start x (n + 1) (starts_from (n + 1) bs)) (suc j) d
    by true zero there next = omega (arith, le)
    by true (suc j) there next = next (n + 1) d j (omega arith) (omega (arith, e))
        (omega (arith, there))
    by false j there next = next s d j (omega (arith, le)) (omega (arith, e)) there

-- the start behind the line of an offset is not before the offset
starts-reach : (bs : List ℕ) (n k s d : ℕ) → d ≡ n + length bs → k ≤ length bs
    → n + k ≤ get_or (s ∷ starts_from n bs) (suc (line_ends (take k bs))) d
starts-reach [] n zero s d e within = omega (arith, e)
starts-reach [] n (suc k) s d e within = absurd (omega (arith, within))
starts-reach (b ∷ bs) n zero s d e within = by (b == 10) (λ r. starts-reach bs (n + 1) 0 r d
    (omega (arith, e)) (omega arith))
  where
    by : (x : Bool)
        → ((r : ℕ) → n + 1 + 0 ≤ get_or (r ∷ starts_from (n + 1) bs) (suc (line_ends (take 0 bs))) d)
        → n + 0 ≤ get_or (s ∷ with_start x (n + 1) (starts_from (n + 1) bs)) 1 d
    by true next = omega arith
    by false next = let h = next s in omega (arith, h)
starts-reach (b ∷ bs) n (suc k) s d e within = by (b == 10) (λ r. starts-reach bs (n + 1) k r d
    (omega (arith, e)) (omega (arith, within)))
  where
    by : (x : Bool)
        → ((r : ℕ) → n + 1 + k ≤ get_or (r ∷ starts_from (n + 1) bs) (suc (line_ends (take k bs))) d)
        → n + suc k ≤ get_or (s ∷ with_start x (n + 1) (starts_from (n + 1) bs)) (suc
        (counted x (line_ends (take k bs)))) d
    by true next = let h = next (n + 1) in omega (arith, h)
    by false next = let h = next s in omega (arith, h)

get_or-past : (ss : List ℕ) (j d : ℕ) → length ss ≤ j → get_or ss j d ≡ d
get_or-past [] j d past = refl
get_or-past (s ∷ ss) zero d past = absurd (omega (arith, past))
get_or-past (s ∷ ss) (suc j) d past = get_or-past ss j d (omega (arith, past))

pub line_start-le-next : (text : List ℕ) (i : ℕ) → line_start text i ≤ line_start text (i + 1)
line_start-le-next text i =
    let one : i + 1 ≡ suc i = omega arith in
    subst (λ m. line_start text i ≤ line_start text m) (sym one) (elim
    (cases_lt i (length (line_starts text))) [
      | inl there ↦ starts-rise text 0 0 (length text) i (omega arith) (omega arith) there
      | inr past ↦
          let here : line_start text i ≡ length text = get_or-past (line_starts text) i
          (length text) past in
          let next : line_start text (suc i) ≡ length text = get_or-past (line_starts text) (suc i)
          (length text) (omega (arith, past)) in
          omega (arith, here, next)
    ])

-- a start is that of the text, or stands behind the end of a line
start-after : (bs : List ℕ) (n j d : ℕ) → j < length (starts_from n bs)
    → (k : ℕ) × (get_or (starts_from n bs) j d ≡ n + k + 1) × (k < length bs) × (get_or bs k 0 ≡ 10)
start-after [] n j d there = absurd (omega (arith, there))
start-after (b ∷ bs) n j d there = by (b == 10) refl j there (start-after bs (n + 1))
  where
    by : (x : Bool) → (b == 10) ≡ x → (j : ℕ)
        → j < length (with_start x (n + 1) (starts_from (n + 1) bs))
        → ((j d : ℕ) → j < length (starts_from (n + 1) bs) → (k : ℕ)
        × (get_or (starts_from (n + 1) bs) j d ≡ n + 1 + k + 1) × (k < length bs)
        × (get_or bs k 0 ≡ 10))
        → (k : ℕ) × (get_or (with_start x (n + 1) (starts_from (n + 1) bs)) j d ≡ n + k + 1)
        × (k < suc (length bs)) × (get_or (b ∷ bs) k 0 ≡ 10)
    by true is zero there next = (0, omega arith, omega arith, eqb-true b 10 is)
    by true is (suc j) there next =
        let h = next j d (omega (arith, there)) in
        (suc h.0, omega (arith, h.1), omega (arith, h.2), h.3)
    by false is j there next =
        let h = next j d there in
        (suc h.0, omega (arith, h.1), omega (arith, h.2), h.3)

-- no start is past the end of the text, and a character begins there or the text ends
pub line_start-within : (text : List ℕ) (i : ℕ) → line_start text i ≤ length text
line_start-within text zero = omega arith
line_start-within text (suc j) = elim (cases_lt j (length (starts_from 0 text))) [
  | inl there ↦ let h = start-after text 0 j (length text) there in omega (arith, h.1, h.2)
  | inr past ↦
      let e : line_start text (suc j) ≡ length text = get_or-past (starts_from 0 text) j
      (length text) past in
      omega (arith, e)
]

pub line_start-border : (text : List ℕ) (i : ℕ) → IsUtf8 text → IsCharBoundary text
    (line_start text i)
line_start-border text zero utf8 = IsCharBoundary-start text utf8
line_start-border text (suc j) utf8 = elim (cases_lt j (length (starts_from 0 text))) [
  | inl there ↦
      let h = start-after text 0 j (length text) there in
      let at : h.0 + 1 ≡ line_start text (suc j) = omega (arith, h.1) in
      subst (IsCharBoundary text) at (IsCharBoundary-after_ascii text h.0 utf8
      (omega (arith, h.2)) (omega (arith, h.3)))
  | inr past ↦
      let e : line_start text (suc j) ≡ length text = get_or-past (starts_from 0 text) j
      (length text) past in
      (omega (arith, e), λ less. absurd (omega (arith, e, less)))
]

-- a start that was looked up, and the end of the text where there is none
pub start-found : (text starts : List ℕ) (i start : ℕ) → starts ≡ line_starts text → i < length starts
    → start ≡ get_or starts i start → start ≡ line_start text i
start-found text starts i start same there at =
    at ∙ get_or-any starts i start (length text) there ∙ ap (λ ss. get_or ss i (length text)) same

pub start-none : (text starts : List ℕ) (i : ℕ) → starts ≡ line_starts text → length starts ≤ i
    → length text ≡ line_start text i
start-none text starts i same past =
    sym (get_or-past starts i (length text) past) ∙ ap (λ ss. get_or ss i (length text)) same

-- the start of an offset's line and its column make the offset
pub start-column : (text : List ℕ) (offset : ℕ) → offset ≤ length text → line_start text
    (line_ends (take offset text)) + bytes_since 0 (take offset text) ≡ offset
start-column text offset within =
    let whole = column-of text 0 offset 0 0 refl within in
    let first : get_or (line_starts text) (line_ends (take offset text)) 0 ≡ line_start text
    (line_ends (take offset text)) = get_or-any (line_starts text) (line_ends (take offset text)) 0
    (length text) (line-there text 0 offset 0) in
    omega (arith, whole, first)

-- an offset is not past the end of its line
pub offset-le-next : (text : List ℕ) (offset : ℕ) → offset ≤ length text → offset ≤ line_start text
    (line_ends (take offset text) + 1)
offset-le-next text offset within =
    let one : line_ends (take offset text) + 1 ≡ suc (line_ends (take offset text)) = omega arith in
    let reach = starts-reach text 0 offset 0 (length text) (omega arith) within in
    subst (λ m. offset ≤ line_start text m) (sym one) (omega (arith, reach))
