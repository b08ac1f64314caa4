-- Walks over chunks: what is left at a token, and what a step takes from it.
use Rattle.std.proofs.Common.{◌≡◌, ℕ, ◌+◌, ◌-◌, ◌<◌, ◌≤◌, true, false, cond, List, [], ◌∷◌, ◌++◌}
use Rattle.std.proofs.Common.{map, length, filter, Option, Some, None, IfSome, IfNone, inl, inr, refl, sym}
use Rattle.std.proofs.Common.{◌∙◌, ap, subst, arith, length-append}
use Rattle.std.specs.Prelude.{nat_le, ◌&&◌}
use Rattle.std.specs.List.{concat}
use Rattle.std.specs.Str.{IsCharBoundary, IsUtf8}
use Rattle.std.proofs.lemmas.Str.{IsCharBoundary-start, IsCharBoundary-end}
use Rattle.std.proofs.lemmas.Bool.{cond-true, true≢false, lt-leb, cases_lt}
use Rattle.std.proofs.lemmas.List.{append-nil, get_or_append_left, get_or-append-add}
use Rattle.std.proofs.lemmas.List.Elements.{filter-append}
use Rattle.rowan_green.specs.declared.utility_types.NodeOrToken.TheVariants.{Node, Token}
use Rattle.rowan_green.specs.Fits.{byte_limit}
use Rattle.rowan_green.specs.Span.{Span}
use Rattle.rowan_green.specs.Term.{NodeTerm, TokenTerm, Term}
use Rattle.rowan_terms.specs.Path.{Path, subterm, len_of, text_of, begins}
use Rattle.rowan_table.specs.declared.table.Table.{Table}
use Rattle.rowan_table.specs.declared.table.chunks.ChunkWalk.{ChunkWalk}
use Rattle.rowan_table.specs.Chunks.{texts_at, remaining_leaves, remaining_texts, MayCut}
use Rattle.rowan_table.specs.Chunks.{IsTokenInside, IsWalk}
use Rattle.rowan_table.specs.Moves.{children_of, is_node, is_node_at, first_at}
use Rattle.rowan_table.specs.Pass.{of_some, after, since, since_child, leaf_list, first_inside}
use Rattle.rowan_table.specs.Pass.{ComesNext}
use Rattle.rowan_table.specs.SyntaxText.{token_texts, meets, common_part, cut_chunks}
use Rattle.rowan_table.specs.TablePass.{StandsInside, first_token_past}
use Rattle.rowan_table.specs.TableView.{root_of, path_at, entries_of}
use Rattle.rowan_table.proofs.LeafLemmas.{find-first, since_child-none}
use Rattle.rowan_table.proofs.TextLemmas.{texts_at-below}
use Rattle.rowan_table.proofs.TokenLemmas.{all_below, after-outside, found_token, stands_at}

-- Leaves that are left.
none-first : (qs : List Path) → first_at qs ≡ None → qs ≡ []
none-first [] e = refl
none-first (q ∷ qs) e = absurd cc

pub nothing_inside : (top : Path) (qs : List Path) → first_inside top qs ≡ None
    → filter (begins top) qs ≡ []
nothing_inside top qs e = none-first (filter (begins top) qs) (sym (find-first (begins top) qs) ∙ e)

pub inside-own : (root : NodeTerm) (p : Path)
    → filter (begins p) (since leaf_list (Some (Node root)) p)
    ≡ map (λ q. p ++ q) (of_some leaf_list (subterm (Node root) p))
inside-own root p =
    let own = map (λ q. p ++ q) (of_some leaf_list (subterm (Node root) p)) in
    let ls = after leaf_list (Some (Node root)) p in
    filter-append (begins p) own ls
    ∙ ap (λ us. us ++ filter (begins p) ls) (all_below p
    (of_some leaf_list (subterm (Node root) p)))
    ∙ ap (λ us. own ++ us) (after-outside leaf_list (Some (Node root)) p) ∙ append-nil own

token_children : (t : Option Term) → is_node t ≡ false → length (children_of t) ≡ 0
token_children None h = refl
token_children (Some (Node n)) h = absurd (true≢false h)
token_children (Some (Token t)) h = refl

-- a token is the first of what is left at it, and then comes what is behind it
pub token-left : (root : NodeTerm) (top p : Path) (c : Term) → subterm (Node root) p ≡ Some c
    → is_node_at root p ≡ false → begins top p ≡ true
    → filter (begins top) (since leaf_list (Some (Node root)) p)
    ≡ p ∷ filter (begins top) (since_child leaf_list (Some (Node root)) p 0)
token-left root top p c e h inside =
    let ls = after leaf_list (Some (Node root)) p in
    let none = since_child-none leaf_list (Some (Node root)) p 0
    (omega (arith, token_children (subterm (Node root) p) h)) in
    ap (λ us. filter (begins top) (map (λ q. p ++ q) us ++ ls))
    (found_token (subterm (Node root) p) c e h)
    ∙ ap (λ q. filter (begins top) (q ∷ ls)) (append-nil p)
    ∙ cond-true (begins top p) (p ∷ filter (begins top) ls) (filter (begins top) ls) inside
    ∙ ap (λ us. p ∷ filter (begins top) us) (sym none)

-- the same by the number of the element that a step leads to
pub left-step : (table : Table) (top n : ℕ) (next : Option ℕ) → IsTokenInside table top n
    → IfSome next (λ m. ComesNext (root_of table) (path_at table n) (path_at table m))
    → IfNone next (first_token_past table top n ≡ None)
    → remaining_leaves table top (Some n) ≡ path_at table n ∷ remaining_leaves table top next
left-step table top n None is next end =
    let here = path_at table n in
    let there = stands_at (entries_of table) table.complete n is.place.within in
    token-left (root_of table) (path_at table top) here there.0 there.1 is.token is.place.inside
    ∙ ap (λ qs. here ∷ qs) (nothing_inside (path_at table top)
    (since_child leaf_list (Some (Node (root_of table))) here 0) end)
left-step table top n (Some m) is next end =
    let here = path_at table n in
    let there = stands_at (entries_of table) table.complete n is.place.within in
    token-left (root_of table) (path_at table top) here there.0 there.1 is.token is.place.inside
    ∙ ap (λ qs. here ∷ filter (begins (path_at table top)) qs) (sym (next.same leaf_list))

-- the text of a token is the first of what is left at it
pub remaining_texts-token : (table : Table) (top n : ℕ) (next : Option ℕ) (t : TokenTerm)
    → remaining_leaves table top (Some n) ≡ path_at table n ∷ remaining_leaves table top next
    → subterm (Node (root_of table)) (path_at table n) ≡ Some (Token t)
    → remaining_texts table top (Some n) ≡ t.text ∷ remaining_texts table top next
remaining_texts-token table top n next t left at =
    ap (texts_at (root_of table)) left ∙ ap (λ u. text_of u ∷ remaining_texts table top next) at

pub remaining_texts-step : (table : Table) (top m n : ℕ) (here next : Option ℕ) (t : TokenTerm)
    (text : List ℕ) → here ≡ Some m
    → remaining_leaves table top (Some n) ≡ remaining_leaves table top (Some m)
    → remaining_leaves table top (Some n) ≡ path_at table n ∷ remaining_leaves table top next
    → subterm (Node (root_of table)) (path_at table n) ≡ Some (Token t) → text ≡ t.text
    → remaining_texts table top here ≡ text ∷ remaining_texts table top next
remaining_texts-step table top m n here next t text is found left at same =
    ap (remaining_texts table top) is ∙ ap (texts_at (root_of table)) (sym found)
    ∙ remaining_texts-token table top n next t left at
    ∙ ap (λ u. u ∷ remaining_texts table top next) (sym same)

-- where no token is found, no text is left
pub remaining_texts-end : (table : Table) (top m : ℕ) (here : Option ℕ) → here ≡ Some m
    → [] ≡ remaining_leaves table top (Some m) → remaining_texts table top here ≡ []
remaining_texts-end table top m here is none =
    ap (remaining_texts table top) is ∙ ap (texts_at (root_of table)) (sym none)

-- Chunks that are left.
pub chunks-skip : (range : Span) (at : ℕ) (text : List ℕ) (texts : List (List ℕ))
    → meets range at text ≡ false → cut_chunks range at (text ∷ texts)
    ≡ cut_chunks range (at + length text) texts
chunks-skip range at text texts h =
    ap (λ b. cond b (common_part range at text ∷ []) []
    ++ cut_chunks range (at + length text) texts) h

pub chunks-take : (range : Span) (at : ℕ) (text : List ℕ) (texts : List (List ℕ))
    → meets range at text ≡ true → cut_chunks range at (text ∷ texts)
    ≡ common_part range at text ∷ cut_chunks range (at + length text) texts
chunks-take range at text texts h =
    ap (λ b. cond b (common_part range at text ∷ []) []
    ++ cut_chunks range (at + length text) texts) h

-- Borders.
border-front : (s t : List ℕ) (i : ℕ) → i ≤ length s → IsCharBoundary (s ++ t) i
    → IsCharBoundary s i
border-front s t i h b = (
  h,
  λ l high. (let same = get_or_append_left s t 0 i l in let more = length-append s t in
      subst (λ x. 192 ≤ x) same (b.1 (omega arith) (subst (λ x. 128 ≤ x) (sym same) high))),
)

border-back : (s t : List ℕ) (i : ℕ) → IsCharBoundary (s ++ t) (length s + i) → IsCharBoundary t i
border-back s t i b =
    let more = length-append s t in
    let same = get_or-append-add s t i 0 in (
      omega (arith, b.0),
      λ l high. subst (λ x. 192 ≤ x) same
          (b.1 (omega arith) (subst (λ x. 128 ≤ x) (sym same) high)),
    )

pub cut-front : (s t : List ℕ) (at o : ℕ) → MayCut (s ++ t) at o → MayCut s at o
cut-front s t at o m =
    record {
      border = λ l h. (let more = length-append s t in
          border-front s t (o - at) (omega arith) (m.border l (omega arith)));
    }

pub cut-back : (s t : List ℕ) (at o : ℕ) → MayCut (s ++ t) at o → MayCut t (at + length s) o
cut-back s t at o m =
    record {
      border = λ l h. (
          let more = length-append s t in
          let here : o - at ≡ length s + (o - (at + length s)) = omega arith in
          border-back s t (o - (at + length s))
          (subst (IsCharBoundary (s ++ t)) here (m.border (omega arith) (omega arith))));
    }

-- The first of a walk.
pub len-text : (t : Option Term) → length (text_of t) ≡ len_of t
len-text None = refl
len-text (Some t) = refl

pub remaining_texts-start : (table : Table) (top : ℕ) (next : Option ℕ)
    → remaining_leaves table top next ≡ remaining_leaves table top (Some top)
    → remaining_texts table top next ≡ token_texts
    (subterm (Node (root_of table)) (path_at table top))
remaining_texts-start table top next left =
    ap (texts_at (root_of table)) (left ∙ inside-own (root_of table) (path_at table top))
    ∙ texts_at-below (root_of table) (path_at table top)

-- A step of a walk.
pub walk_step : (table : Table) (walk : ChunkWalk) (next : Option ℕ) (at : ℕ) (text : List ℕ)
    → IsWalk table walk → remaining_texts table walk.slice.node walk.next
    ≡ text ∷ remaining_texts table walk.slice.node next
    → IfSome next (StandsInside table walk.slice.node) → at ≡ walk.at + length text
    → IsWalk table (record walk { next = next; at = at })
walk_step table walk next at text w left place there =
    let rest = concat (remaining_texts table walk.slice.node next) in
    let cut : (o : ℕ) → MayCut (concat (remaining_texts table walk.slice.node walk.next)) walk.at o
    → MayCut rest at o =
    λ o m. subst (λ a. MayCut rest a o) (sym there)
    (cut-back text rest walk.at o (subst (λ ts. MayCut (concat ts) walk.at o) left m)) in
    record {
      within = w.within;
      order = w.order;
      place = place;
      limit = omega (
        arith,
        w.limit,
        ap (λ ts. length (concat ts)) left,
        length-append text rest,
        there,
      );
      start_cut = cut walk.slice.start w.start_cut;
      end_cut = cut walk.slice.end w.end_cut;
    }

-- a walk to which nothing is left has come to the end
pub walk_end : (table : Table) (walk : ChunkWalk) → IsWalk table walk
    → remaining_texts table walk.slice.node walk.next ≡ []
    → IsWalk table (record walk { next = None })
walk_end table walk w none =
    let same : remaining_texts table walk.slice.node walk.next
    ≡ remaining_texts table walk.slice.node None = none in
    record {
      within = w.within;
      order = w.order;
      place = tt;
      limit = subst (λ ts. walk.at + length (concat ts) ≤ byte_limit) same w.limit;
      start_cut = subst (λ ts. MayCut (concat ts) walk.at walk.slice.start) same w.start_cut;
      end_cut = subst (λ ts. MayCut (concat ts) walk.at walk.slice.end) same w.end_cut;
    }

pub cut_here : (table : Table) (o : ℕ) (walk : ChunkWalk) (text : List ℕ) (texts : List (List ℕ))
    → MayCut (concat (remaining_texts table walk.slice.node walk.next)) walk.at o
    → remaining_texts table walk.slice.node walk.next ≡ text ∷ texts → MayCut text walk.at o
cut_here table o walk text texts m left =
    cut-front text (concat texts) walk.at o (subst (λ ts. MayCut (concat ts) walk.at o) left m)

pub fits_here : (table : Table) (walk : ChunkWalk) (text : List ℕ) (texts : List (List ℕ))
    → IsWalk table walk → remaining_texts table walk.slice.node walk.next ≡ text ∷ texts
    → walk.at + length text ≤ byte_limit
fits_here table walk text texts w left =
    omega (arith, w.limit, ap (λ ts. length (concat ts)) left, length-append text (concat texts))

-- where the range has ended no chunk is left
pub chunks-past : (range : Span) (at : ℕ) (texts : List (List ℕ)) → range.end < at
    → cut_chunks range at texts ≡ []
chunks-past range at [] h = refl
chunks-past range at (text ∷ texts) h =
    chunks-skip range at text texts (ap (λ b. b && nat_le range.start (at + length text))
    (lt-leb at range.end h)) ∙ chunks-past range (at + length text) texts (omega arith)

-- where a part may end
pub part_end : (text : List ℕ) (at o to : ℕ) → IsUtf8 text → MayCut text at o → at ≤ o
    → to ≤ length text → (to < length text → to ≡ o - at) → IsCharBoundary text to
part_end text at o to utf8 m order within until = elim (cases_lt to (length text)) [
  | inr end ↦ (let e : to ≡ length text = omega arith in
      subst (IsCharBoundary text) (sym e) (IsCharBoundary-end text))
  | inl l ↦ (
      let same = until l in
      elim (cases_lt 0 to) [
        | inl some ↦ subst (IsCharBoundary text) (sym same) (m.border (omega arith) (omega arith))
        | inr none ↦ (let e : to ≡ 0 = omega arith in
            subst (IsCharBoundary text) (sym e) (IsCharBoundary-start text utf8))
      ])
]
