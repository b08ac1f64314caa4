-- Ranges of a text: of two texts that stand one behind the other, of a term's text, and of chunks.
use Rattle.std.proofs.Common.{◌≡◌, ℕ, zero, suc, ◌+◌, ◌-◌, ◌<◌, ◌≤◌, Bool, true, false, cond, List}
use Rattle.std.proofs.Common.{[], ◌∷◌, ◌++◌, length, take, drop, get_or, Some, inl, inr, refl, sym}
use Rattle.std.proofs.Common.{subst, ◌∙◌, ap, arith}
use Rattle.std.specs.Prelude.{slice_range, nat_le, ◌&&◌}
use Rattle.std.specs.List.{concat}
use Rattle.std.proofs.lemmas.Bool.{cases_lt, leb-false, true≢false}
use Rattle.std.proofs.lemmas.List.{append-nil, take_all, drop_all, length-drop, length-take-le}
use Rattle.std.proofs.lemmas.List.{get_or-take, get_or-drop, take-append-le, drop-append-le}
use Rattle.std.proofs.lemmas.List.{take-append-drop}
use Rattle.std.specs.Str.{IsCharBoundary}
use Rattle.std.proofs.lemmas.Str.{IsCharBoundary-end}
use Rattle.std.proofs.Math.Seq.{take-append-add, drop-append-add}
use Rattle.rowan_green.specs.declared.utility_types.NodeOrToken.TheVariants.{Node}
use Rattle.rowan_green.specs.Span.{Span}
use Rattle.rowan_green.specs.Term.{Term, term_text, node_text}
use Rattle.rowan_terms.specs.Path.{Path, subterm, offset, range, text_of}
use Rattle.rowan_terms.proofs.OffsetLemmas.{text-cut, range-within}
use Rattle.rowan_table.specs.Cursor.{term_at, text_at}
use Rattle.rowan_table.specs.Equal.{start_of}
use Rattle.rowan_table.specs.SyntaxText.{TextSlice, slice_text, token_texts, meets, common_part}
use Rattle.rowan_table.specs.SyntaxText.{cut_chunks, chunks, IsBorder, IsTextSlice, part_of}
use Rattle.rowan_table.specs.SyntaxText.{CanCut}
use Rattle.rowan_table.proofs.TextLemmas.{text-tokens}

-- Two texts.
pub range-front : (xs ys : List ℕ) (a b : ℕ) → a ≤ b → b ≤ length xs
    → slice_range (xs ++ ys) a b ≡ slice_range xs a b
range-front xs ys a b order within =
    ap (take (b - a)) (drop-append-le a xs ys (omega arith))
    ∙ take-append-le (b - a) (drop a xs) ys (omega (arith, length-drop a xs))

pub range-back : (xs ys : List ℕ) (a b : ℕ) → slice_range (xs ++ ys) (length xs + a) (length xs + b)
    ≡ slice_range ys a b
range-back xs ys a b =
    let e : (length xs + b) - (length xs + a) ≡ b - a = omega arith in
    ap (λ n. take n (drop (length xs + a) (xs ++ ys))) e
    ∙ ap (take (b - a)) (drop-append-add xs ys a)

take_none : (n : ℕ) → ◌≡◌ {A = List ℕ} (take n []) []
take_none zero = refl
take_none (suc n) = refl

range-past : (xs : List ℕ) (a b : ℕ) → length xs ≤ a → slice_range xs a b ≡ []
range-past xs a b h = ap (take (b - a)) (drop_all a xs h) ∙ take_none (b - a)

range-none : (xs : List ℕ) (a b : ℕ) → b ≤ a → slice_range xs a b ≡ []
range-none xs a b h = let e : b - a ≡ 0 = omega arith in ap (λ n. take n (drop a xs)) e

pub range-append : (xs ys : List ℕ) (a b : ℕ) → a ≤ b
    → slice_range (xs ++ ys) a b ≡ slice_range xs a b
    ++ slice_range ys (a - length xs) (b - length xs)
range-append xs ys a b order = elim (cases_lt (length xs) b) [
  | inl past ↦ elim (cases_lt a (length xs)) [
    | inl before ↦ (
        let first : slice_range xs a b ≡ drop a xs =
        take_all (b - a) (drop a xs) (omega (arith, length-drop a xs)) in
        let from : a - length xs ≡ 0 = omega arith in
        let whole : b - length xs ≡ (b - length xs) - 0 = omega arith in
        let count : b - a ≡ length (drop a xs) + (b - length xs) =
        omega (arith, length-drop a xs) in
        ap (take (b - a)) (drop-append-le a xs ys (omega arith))
        ∙ ap (λ n. take n (drop a xs ++ ys)) count ∙ take-append-add (drop a xs) ys (b - length xs)
        ∙ ap (λ us. us ++ take (b - length xs) ys) (sym first)
        ∙ ap (λ n. slice_range xs a b ++ take n ys) whole
        ∙ ap (λ n. slice_range xs a b ++ slice_range ys n (b - length xs)) (sym from))
    | inr behind ↦ (
        let from : a ≡ length xs + (a - length xs) = omega arith in
        let until : b ≡ length xs + (b - length xs) = omega arith in
        ap (λ n. slice_range (xs ++ ys) n b) from
        ∙ ap (slice_range (xs ++ ys) (length xs + (a - length xs))) until
        ∙ range-back xs ys (a - length xs) (b - length xs)
        ∙ ap (λ us. us ++ slice_range ys (a - length xs) (b - length xs))
        (sym (range-past xs a b (omega arith))))
  ]
  | inr within ↦ (
      let none = range-none ys (a - length xs) (b - length xs) (omega arith) in
      range-front xs ys a b order (omega arith) ∙ sym (append-nil (slice_range xs a b))
      ∙ ap (λ us. slice_range xs a b ++ us) (sym none))
]

-- Of a term's text.
-- a part stands in a text behind so many bytes
pub record StandsIn (text : List ℕ) (at : ℕ) (part : List ℕ) : Type 0 where
  pub before : List ℕ
  pub after : List ℕ
  pub parts : text ≡ before ++ (part ++ after)
  pub len : length before ≡ at

cut_out : (text : List ℕ) (a b : ℕ) → a ≤ length text → StandsIn text a (slice_range text a b)
cut_out text a b within =
    record {
      before = take a text;
      after = drop (b - a) (drop a text);
      parts = sym (ap (λ us. take a text ++ us) (take-append-drop (b - a) (drop a text))
          ∙ take-append-drop a text);
      len = length-take-le a text within;
    }

-- the text of what stands at a path, behind the bytes of its offset
stands_in : (t : Term) (p : Path) (u : Term) → subterm t p ≡ Some u
    → StandsIn (term_text t) (offset t p) (term_text u)
stands_in t p u e =
    let place = range t p in
    let within : place.start ≤ length (term_text t) = omega (arith, range-within t p u e) in
    subst (StandsIn (term_text t) place.start) (sym (text-cut t p) ∙ ap text_of e)
    (cut_out (term_text t) place.start place.end within)

-- a range of the text that lies in a part, as a range of that part
pub range_in : (text part : List ℕ) (at a b : ℕ) → StandsIn text at part → at ≤ a → a ≤ b
    → b ≤ at + length part → slice_range text a b ≡ slice_range part (a - at) (b - at)
range_in text part at a b s from order to =
    let rest = part ++ s.after in
    let first : a ≡ length s.before + (a - at) = omega (arith, s.len) in
    let last : b ≡ length s.before + (b - at) = omega (arith, s.len) in
    ap (λ us. slice_range us a b) s.parts
    ∙ ap (λ k. slice_range (s.before ++ rest) k b) first
    ∙ ap (slice_range (s.before ++ rest) (length s.before + (a - at))) last
    ∙ range-back s.before rest (a - at) (b - at)
    ∙ range-front part s.after (a - at) (b - at) (omega arith) (omega arith)

-- Of chunks.
apart_past : (range : Span) (at : ℕ) (text : List ℕ) → range.start ≤ range.end
    → meets range at text ≡ false → common_part range at text ≡ []
apart_past range at text order h = by (nat_le at range.end) (nat_le range.start (at + length text))
    refl refl
  where
    by : (b c : Bool) → nat_le at range.end ≡ b → nat_le range.start (at + length text) ≡ c
        → common_part range at text ≡ []
    by false c e f = range-none text (range.start - at) (range.end - at)
        (omega (arith, leb-false at range.end e, order))
    by true false e f = range-past text (range.start - at) (range.end - at)
        (omega (arith, leb-false range.start (at + length text) f))
    by true true e f = absurd (true≢false
        (sym (ap (λ b. b && nat_le range.start (at + length text)) e ∙ f) ∙ h))

part_joined : (b : Bool) (part : List ℕ) (rest : List (List ℕ)) → (b ≡ false → part ≡ [])
    → concat (cond b (part ∷ []) [] ++ rest) ≡ part ++ concat rest
part_joined true part rest h = refl
part_joined false part rest h = ap (λ us. us ++ concat rest) (sym (h refl))

pub cut_chunks-joined : (range : Span) (at : ℕ) (texts : List (List ℕ)) → range.start ≤ range.end
    → concat (cut_chunks range at texts) ≡ slice_range (concat texts) (range.start - at)
    (range.end - at)
cut_chunks-joined range at [] order = sym (range-past [] (range.start - at) (range.end - at)
    (omega arith))
cut_chunks-joined range at (text ∷ texts) order =
    let from : range.start - (at + length text) ≡ (range.start - at) - length text = omega arith in
    let to : range.end - (at + length text) ≡ (range.end - at) - length text = omega arith in
    part_joined (meets range at text) (common_part range at text)
    (cut_chunks range (at + length text) texts) (apart_past range at text order)
    ∙ ap (λ us. common_part range at text ++ us)
    (cut_chunks-joined range (at + length text) texts order
    ∙ ap (λ k. slice_range (concat texts) k (range.end - (at + length text))) from
    ∙ ap (slice_range (concat texts) ((range.start - at) - length text)) to)
    ∙ sym (range-append text (concat texts) (range.start - at) (range.end - at) (omega arith))

-- the text of a slice, as a range of its node's text
pub slice_text-node : (s : TextSlice) (u : Term) → term_at s.node ≡ Some u → IsTextSlice s
    → slice_text s ≡ slice_range (term_text u) (s.range.start - start_of s.node)
    (s.range.end - start_of s.node)
slice_text-node s u e is =
    range_in (node_text s.node.root) (term_text u) (start_of s.node) s.range.start s.range.end
    (stands_in (Node s.node.root) s.node.path u e)
    is.from is.order (omega (arith, is.to, ap (λ o. length (text_of o)) e))

-- the chunks of a slice, one after the other, are its text
pub chunks-joined : (s : TextSlice) (u : Term) → term_at s.node ≡ Some u → IsTextSlice s
    → concat (chunks s) ≡ slice_text s
chunks-joined s u e is =
    cut_chunks-joined s.range (start_of s.node) (token_texts (term_at s.node)) is.order
    ∙ ap (λ us. slice_range us (s.range.start - start_of s.node) (s.range.end - start_of s.node))
    (text-tokens (term_at s.node) ∙ ap text_of e)
    ∙ sym (slice_text-node s u e is)

-- a slice has as many bytes as its range
pub slice_text-len : (s : TextSlice) (u : Term) → term_at s.node ≡ Some u → IsTextSlice s
    → length (slice_text s) ≡ s.range.end - s.range.start
slice_text-len s u e is =
    let start = start_of s.node in
    let text = term_text u in
    ap length (slice_text-node s u e is)
    ∙ length-take-le ((s.range.end - start) - (s.range.start - start))
    (drop (s.range.start - start) text) (omega (
      arith,
      length-drop (s.range.start - start) text,
      is.order,
      is.to,
      is.from,
      ap (λ o. length (text_of o)) e,
    ))
    ∙ omega (arith, is.from)

-- the whole text of a node is a slice
pub whole_is_slice : (s : TextSlice) → s.range.start ≡ start_of s.node
    → s.range.end ≡ start_of s.node + length (text_at s.node) → IsTextSlice s
whole_is_slice s from to =
    let start = start_of s.node in
    let text = text_at s.node in
    let last : s.range.end - start ≡ length text = omega arith in
    record {
      from = omega arith;
      order = omega arith;
      to = omega arith;
      start_border = λ h. absurd (omega arith);
      end_border = λ h. subst (IsCharBoundary text) (sym last) (IsCharBoundary-end text);
    }

pub empty_text : (xs : List ℕ) → length xs ≡ 0 → xs ≡ []
empty_text [] h = refl
empty_text (x ∷ xs) h = absurd (omega arith)

-- A part of a slice.
range-len : (xs : List ℕ) (p q : ℕ) → p ≤ q → q ≤ length xs → length (slice_range xs p q) ≡ q - p
range-len xs p q order to = length-take-le (q - p) (drop p xs) (omega (arith, length-drop p xs))

border_in : (xs : List ℕ) (p q a : ℕ) → p ≤ q → q ≤ length xs → IsBorder xs q → a ≤ q - p
    → IsCharBoundary (slice_range xs p q) a → IsBorder xs (p + a)
border_in xs p q a order to end within b = elim (cases_lt a (q - p)) [
  | inl l ↦ (
      let same : get_or (slice_range xs p q) a 0 ≡ get_or xs (p + a) 0 =
      get_or-take (q - p) (drop p xs) a 0 l ∙ get_or-drop p xs a 0 in
      let here : a < length (slice_range xs p q) = omega (arith, range-len xs p q order to) in
      λ h. (
        omega arith,
        λ m high. subst (λ x. 192 ≤ x) same
            (b.1 here (subst (λ x. 128 ≤ x) (sym same) high)),
      ))
  | inr g ↦ (let e : q ≡ p + a = omega arith in subst (IsBorder xs) e end)
]

part_border : (s : TextSlice) (u : Term) (a : ℕ) → term_at s.node ≡ Some u → IsTextSlice s
    → a ≤ s.range.end - s.range.start → IsCharBoundary (slice_text s) a
    → IsBorder (text_at s.node) ((s.range.start + a) - start_of s.node)
part_border s u a e is within b =
    let start = start_of s.node in
    let p = s.range.start - start in
    let q = s.range.end - start in
    let same : text_at s.node ≡ term_text u = ap text_of e in
    let place : p + a ≡ (s.range.start + a) - start = omega (arith, is.from) in
    let last : IsBorder (term_text u) q = subst (λ v. IsBorder v q) same is.end_border in
    let cut : IsCharBoundary (slice_range (term_text u) p q) a =
    subst (λ v. IsCharBoundary v a) (slice_text-node s u e is) b in
    let found = border_in (term_text u) p q a (omega (arith, is.order))
    (omega (arith, is.to, ap length same)) last (omega (arith, is.from, is.order)) cut in
    subst (λ v. IsBorder v ((s.range.start + a) - start)) (sym same)
    (subst (IsBorder (term_text u)) place found)

pub part_is_slice : (s : TextSlice) (u : Term) (a b : ℕ) → term_at s.node ≡ Some u → IsTextSlice s
    → CanCut s a b → IsTextSlice (part_of s a b)
part_is_slice s u a b e is can =
    record {
      from = omega (arith, is.from);
      order = omega (arith, can.order);
      to = omega (arith, is.to, is.order, can.within);
      start_border = part_border s u a e is (omega (arith, can.order, can.within)) can.start_border;
      end_border = part_border s u b e is can.within can.end_border;
    }
