-- Where a walk over chunks begins: down from child to child, past tokens that end before the slice.
use Rattle.std.proofs.Common.{◌≡◌, ℕ, zero, suc, ◌+◌, ◌-◌, ◌<◌, ◌≤◌, Bool, true, false, ◌&&◌, List}
use Rattle.std.proofs.Common.{cond, [], ◌∷◌, ◌++◌, map, length, filter, take, drop, Option, Some, None}
use Rattle.std.proofs.Common.{inl, inr, refl, sym, ◌∙◌, ap, subst, arith, length-append}
use Rattle.std.proofs.Common.{append_assoc}
use Rattle.std.specs.Prelude.{nat_le, slice_get, slice_range}
use Rattle.std.specs.List.{concat}
use Rattle.std.specs.Str.{IsCharBoundary}
use Rattle.std.proofs.lemmas.Bool.{cases_lt, cond-true, lt-leb}
use Rattle.std.proofs.lemmas.List.{map-append, same_from_push, take_all, length-drop}
use Rattle.std.proofs.lemmas.List.Elements.{filter-append}
use Rattle.std.proofs.lemmas.List.Folds.{concat-append}
use Rattle.std.proofs.lemmas.List.FromFn.{length-map-range_with_len}
use Rattle.std.proofs.lemmas.Option.{same_Some}
use Rattle.std.proofs.lemmas.Simd.{map-map}
use Rattle.rowan_green.specs.declared.utility_types.NodeOrToken.TheVariants.{Node, Token}
use Rattle.rowan_green.specs.Search.{child_start}
use Rattle.rowan_green.specs.Span.{Span}
use Rattle.rowan_green.specs.Term.{NodeTerm, Term, node_children, node_len, sum_of_lens, forest}
use Rattle.rowan_terms.specs.Path.{Path, subterm_of, subterm, offset, len_of, text_of, begins}
use Rattle.rowan_green.proofs.SearchLemmas.{child_start-le}
use Rattle.rowan_green.proofs.Terms.{terms-forest}
use Rattle.rowan_table.specs.declared.table.Table.{Table}
use Rattle.rowan_table.specs.declared.table.slice.Slice.{Slice}
use Rattle.rowan_table.specs.Chunks.{texts_at, remaining_leaves, remaining_texts, MayCut, IsWalk}
use Rattle.rowan_table.specs.Chunks.{SkipsTo, span_of, slice_of, walk_at, WalksOver}
use Rattle.rowan_table.specs.Chunks.{remaining_chunks}
use Rattle.rowan_table.specs.Equal.{start_of}
use Rattle.rowan_table.specs.Moves.{children_of, child_count, child_paths, is_node}
use Rattle.rowan_table.specs.Pass.{Lists, below_children, after, since, leaf_list}
use Rattle.rowan_table.specs.Search.{IsChildBefore}
use Rattle.rowan_table.specs.SyntaxText.{chunks, meets, common_part, cut_chunks, slice_len}
use Rattle.rowan_table.specs.SyntaxText.{IsBorder, IsTextSlice}
use Rattle.rowan_table.specs.Table.{IsTable, IsRow, entry_path, Facts}
use Rattle.rowan_table.specs.TableView.{IsWithin, root_of, path_at, cursor_of, entries_of}
use Rattle.rowan_table.proofs.ChunkLemmas.{remaining_texts-start, chunks-skip, cut-back, len-text}
use Rattle.rowan_table.proofs.LeafLemmas.{since_child-child, leaf_list-node}
use Rattle.rowan_table.proofs.OffsetLemmas.{Fill, row-fills, leaves-fill}
use Rattle.rowan_table.proofs.PathLemmas.{offset-child, node_len-children, subterm_of-append}
use Rattle.rowan_table.proofs.PathLemmas.{begins-self}
use Rattle.rowan_table.proofs.RowLemmas.{row-get}
use Rattle.rowan_table.proofs.SliceLemmas.{cut_chunks-joined}
use Rattle.rowan_table.proofs.TableLemmas.{slice_get-some, is_entry}
use Rattle.rowan_table.proofs.TextLemmas.{map_same, text-tokens}
use Rattle.rowan_table.proofs.TokenLemmas.{begins-longer, inside-child, since-node, apart_paths}

-- Children by their numbers.
pub row_count : (es : List Facts) (root : NodeTerm) (p : Path) (a b : ℕ)
    → IsRow es a b (child_paths root p) → b - a ≡ child_count root p
row_count es root p a b row =
    omega (
      arith,
      length-map-range_with_len (entry_path es) a (b - a),
      ap length row.row,
      length-map-range_with_len (λ k. p ++ k ∷ []) 0 (child_count root p),
    )

-- the path of the child with a number, by the number of the first child
pub child_path : (es : List Facts) (root : NodeTerm) (p : Path) (a b m : ℕ)
    → IsRow es a b (child_paths root p) → a ≤ m → m < b
    → (entry_path es m ≡ p ++ (m - a) ∷ []) × (m - a < child_count root p)
child_path es root p a b m row from to =
    let i = m - a in
    let count = child_count root p in
    let within : i < count = omega (arith, row_count es root p a b row) in
    let here : a + i ≡ m = omega arith in
    let place : 0 + i ≡ i = omega arith in (
      same_Some (entry_path es m) (p ++ i ∷ [])
          (ap (λ k. Some (entry_path es k)) (sym here)
          ∙ sym (row-get (entry_path es) a (b - a) i (omega arith))
          ∙ ap (λ ps. slice_get ps i) row.row ∙ row-get (λ k. p ++ k ∷ []) 0 count i within
          ∙ ap (λ k. Some (p ++ k ∷ [])) place),
      within,
    )

no_root : (p : Path) (i : ℕ) → [] ≡ p ++ i ∷ [] → ⊥
no_root [] i e = cc
no_root (j ∷ p) i e = cc

-- a child has a later number
pub child_later : (es : List Facts) → IsTable es → (n m i : ℕ) → n < length es → m < length es
    → entry_path es m ≡ entry_path es n ++ i ∷ [] → n < m
child_later es t n zero i h k e = absurd (no_root (entry_path es n) i e)
child_later es t n (suc m) i h k e =
    let d = slice_get-some es (suc m) k in
    let up = (is_entry es t (suc m) d.0 d.1).below (omega arith) in
    let same = (same_from_push (entry_path es n) (entry_path es d.0.parent) i _
    (sym e ∙ up.path)).0 in
    elim (cases_lt n (suc m)) [
      | inl l ↦ l
      | inr g ↦ absurd (apart_paths es t n d.0.parent h (omega (arith, up.earlier))
          (λ f. omega (arith, up.earlier)) same)
    ]

-- a child behind one that does not start before an offset does not either
pub child_behind : (root : NodeTerm) (p : Path) (x i j : ℕ) → i ≤ j → j < child_count root p
    → x ≤ offset (Node root) (p ++ i ∷ []) → x ≤ offset (Node root) (p ++ j ∷ [])
child_behind root p x i j order within from =
    omega (
      arith,
      from,
      offset-child root p i (omega (arith, order, within)),
      offset-child root p j within,
      child_start-le (children_of (subterm (Node root) p)) i j order,
    )

-- The leaves of the children before a place, and of those from it on.
below_children-cut : (g : Lists) (m i : ℕ) (ts : List Term)
    → below_children g m ts ≡ below_children g m (take i ts) ++ below_children g (m + i) (drop i ts)
below_children-cut g m zero ts = let e : m ≡ m + 0 = omega arith in
    ap (λ k. below_children g k ts) e
below_children-cut g m (suc i) [] = refl
below_children-cut g m (suc i) (t ∷ ts) =
    let e : suc m + i ≡ m + suc i = omega arith in
    let own = map (λ q. m ∷ q) (g t) in
    let front = below_children g (suc m) (take i ts) in
    ap (λ us. own ++ us) (below_children-cut g (suc m) i ts
    ∙ ap (λ k. front ++ below_children g k (drop i ts)) e)
    ∙ sym (append_assoc own front (below_children g (m + suc i) (drop i ts)))

-- the texts at some paths of a term
abbrev texts_in : Term → List Path → List (List ℕ)
texts_in t qs = map (λ q. text_of (subterm t q)) qs

fill-len : (t : Term) (start : ℕ) (qs : List Path) (end : ℕ) → Fill t start qs end
    → start + length (concat (texts_in t qs)) ≡ end
fill-len t start [] end f = omega (arith, f)
fill-len t start (q ∷ qs) end f =
    omega (
      arith,
      length-append (text_of (subterm t q)) (concat (texts_in t qs)),
      len-text (subterm t q),
      fill-len t (start + len_of (subterm t q)) qs end f.1,
    )

-- the texts at the leaves of the children before a place are as long as these children
front-len : (n : NodeTerm) (i : ℕ) → length (concat
    (texts_in (Node n) (below_children leaf_list 0 (take i (node_children n)))))
    ≡ child_start (node_children n) i
front-len n i =
    let ts = node_children n in
    let front = below_children leaf_list 0 (take i ts) in
    let back = below_children leaf_list i (drop i ts) in
    let place : 0 + i ≡ i = omega arith in
    let all : leaf_list (Node n) ≡ front ++ back = leaf_list-node n
    ∙ below_children-cut leaf_list 0 i ts ∙ ap (λ k. front
    ++ below_children leaf_list k (drop i ts)) place in
    let texts : texts_in (Node n) (leaf_list (Node n))
    ≡ texts_in (Node n) front ++ texts_in (Node n) back = ap (texts_in (Node n)) all
    ∙ map-append (λ q. text_of (subterm (Node n) q)) front back in
    let rest : Fill (Node n) (child_start ts i) back (sum_of_lens ts) =
    subst (λ us. Fill (Node n) (child_start ts i) (below_children leaf_list i us) (sum_of_lens ts))
    (terms-forest (drop i ts)) (row-fills n i (forest (drop i ts))
    (sym (terms-forest (drop i ts)))) in
    omega (
      arith,
      fill-len (Node n) 0 (leaf_list (Node n)) (node_len n) (leaves-fill (Node n)),
      fill-len (Node n) (child_start ts i) back (sum_of_lens ts) rest,
      node_len-children n,
      ap (λ us. length (concat us)) texts,
      ap length (concat-append (texts_in (Node n) front) (texts_in (Node n) back)),
      length-append (concat (texts_in (Node n) front)) (concat (texts_in (Node n) back)),
    )

kept_below : (top p : Path) (qs : List Path) → begins top p ≡ true
    → filter (begins top) (map (λ q. p ++ q) qs) ≡ map (λ q. p ++ q) qs
kept_below top p [] h = refl
kept_below top p (q ∷ qs) h =
    cond-true (begins top (p ++ q)) ((p ++ q) ∷ filter (begins top) (map (λ q. p ++ q) qs))
    (filter (begins top) (map (λ q. p ++ q) qs)) (begins-longer top p q h)
    ∙ ap (λ us. (p ++ q) ∷ us) (kept_below top p qs h)

-- what is left at a node: the leaves of the children before a place, and then what is left at the
-- child there
left-child : (root : NodeTerm) (top p : Path) (n : NodeTerm) (i : ℕ) (c : Term)
    → begins top p ≡ true → subterm (Node root) p ≡ Some (Node n)
    → slice_get (node_children n) i ≡ Some c
    → filter (begins top) (since leaf_list (Some (Node root)) p)
    ≡ map (λ q. p ++ q) (below_children leaf_list 0 (take i (node_children n)))
    ++ filter (begins top) (since leaf_list (Some (Node root)) (p ++ i ∷ []))
left-child root top p n i c inside there at =
    let ts = node_children n in
    let front = map (λ q. p ++ q) (below_children leaf_list 0 (take i ts)) in
    let back = below_children leaf_list i (drop i ts) in
    let ls = after leaf_list (Some (Node root)) p in
    let child = since leaf_list (Some (Node root)) (p ++ i ∷ []) in
    let place : 0 + i ≡ i = omega arith in
    let children : children_of (subterm (Node root) p) ≡ ts = ap children_of there in
    let cut = below_children-cut leaf_list 0 i ts
    ∙ ap (λ k. below_children leaf_list 0 (take i ts) ++ below_children leaf_list k (drop i ts))
    place in
    let later : map (λ q. p ++ q) back ++ ls ≡ child =
    ap (λ us. map (λ q. p ++ q) (below_children leaf_list i (drop i us)) ++ ls) (sym children)
    ∙ since_child-child leaf_list (Some (Node root)) p i c
    (ap (λ us. slice_get us i) children ∙ at) in
    let all : since leaf_list (Some (Node root)) p ≡ front ++ child =
    since-node root p (ap is_node there) ∙ ap (λ us. map (λ q. p ++ q)
    (below_children leaf_list 0 us) ++ ls) children
    ∙ ap (λ us. map (λ q. p ++ q) us ++ ls) cut
    ∙ ap (λ us. us ++ ls) (map-append (λ q. p ++ q) (below_children leaf_list 0 (take i ts)) back)
    ∙ append_assoc front (map (λ q. p ++ q) back) ls ∙ ap (λ us. front ++ us) later in
    ap (filter (begins top)) all ∙ filter-append (begins top) front child
    ∙ ap (λ us. us ++ filter (begins top) child)
    (kept_below top p (below_children leaf_list 0 (take i ts)) inside)

-- Skips.
pub skip_nothing : (table : Table) (x top : ℕ) → IsWithin table top → SkipsTo table x top top
skip_nothing table x top within =
    record {
      place = record {
        top_within = within;
        within = within;
        inside = begins-self (path_at table top);
      };
      texts = [];
      parts = refl;
      start = omega arith;
      early = λ h. absurd (omega (arith, h));
    }

node_of-child : (o : Option Term) (i : ℕ) → i < length (children_of o)
    → (n : NodeTerm) × (o ≡ Some (Node n))
node_of-child None i h = absurd (omega (arith, h))
node_of-child (Some (Node n)) i h = (n, refl)
node_of-child (Some (Token t)) i h = absurd (omega (arith, h))

pub skip_child : (table : Table) (x top n m : ℕ) → SkipsTo table x top n → IsWithin table m
    → IsChildBefore (root_of table) x (path_at table n) (path_at table m) → SkipsTo table x top m
skip_child table x top n m s within c =
    let root = root_of table in
    let p = path_at table n in
    let i = c.place in
    let node = node_of-child (subterm (Node root) p) i c.count in
    let ts = node_children node.0 in
    let children : children_of (subterm (Node root) p) ≡ ts = ap children_of node.1 in
    let child = slice_get-some ts i (omega (arith, c.count, ap length children)) in
    let front = below_children leaf_list 0 (take i ts) in
    let texts = texts_at root (map (λ q. p ++ q) front) in
    let same : texts ≡ texts_in (Node node.0) front =
    map-map (λ q. text_of (subterm (Node root) q)) (λ q. p ++ q) front
    ∙ map_same (λ q. text_of (subterm (Node root) (p ++ q)))
    (λ q. text_of (subterm (Node node.0) q)) front
    (λ q. ap text_of (subterm_of-append (Some (Node root)) p q
    ∙ ap (λ o. subterm_of o q) node.1)) in
    let len : length (concat texts) ≡ child_start ts i = ap (λ us. length (concat us)) same
    ∙ front-len node.0 i in
    let start : start_of (cursor_of table m) ≡ start_of (cursor_of table n) + child_start ts i =
    ap (offset (Node root)) c.path ∙ offset-child root p i c.count
    ∙ ap (λ us. offset (Node root) p + child_start us i) children in
    let left : remaining_texts table top (Some n) ≡ texts ++ remaining_texts table top (Some m) =
    ap (texts_at root) (left-child root (path_at table top) p node.0 i child.0 s.place.inside node.1
    child.1 ∙ ap (λ q. map (λ q. p ++ q) front
    ++ filter (begins (path_at table top)) (since leaf_list (Some (Node root)) q)) (sym c.path))
    ∙ map-append (λ q. text_of (subterm (Node root) q)) (map (λ q. p ++ q) front)
    (remaining_leaves table top (Some m)) in
    record {
      place = record {
        top_within = s.place.top_within;
        within = within;
        inside = inside-child (path_at table top) p (path_at table m) i s.place.inside c.path;
      };
      texts = s.texts ++ texts;
      parts = s.parts ∙ ap (λ us. s.texts ++ us) left
          ∙ sym (append_assoc s.texts texts (remaining_texts table top (Some m)));
      start = omega (
        arith,
        s.start,
        start,
        len,
        ap length (concat-append s.texts texts),
        length-append (concat s.texts) (concat texts),
      );
      early = λ h. elim (cases_lt 0 i) [
        | inl some ↦ c.before some
        | inr none ↦ (
            let first : i ≡ 0 = omega (arith, none) in
            let nothing : length texts ≡ 0 = ap (λ k. length
            (texts_at root (map (λ q. p ++ q) (below_children leaf_list 0 (take k ts))))) first in
            let here : child_start ts i ≡ 0 = ap (child_start ts) first in
            omega (
              arith,
              s.early (omega (arith, h, length-append s.texts texts, nothing)),
              start,
              here,
            ))
      ];
    }

-- A walk from where a skip leads.
and-false : (b : Bool) → (b && false) ≡ false
and-false true = refl
and-false false = refl

chunks-skip_all : (range : Span) (at : ℕ) (texts rest : List (List ℕ))
    → (0 < length texts → at + length (concat texts) < range.start)
    → cut_chunks range at (texts ++ rest) ≡ cut_chunks range (at + length (concat texts)) rest
chunks-skip_all range at [] rest h = let e : at ≡ at + 0 = omega arith in
    ap (λ k. cut_chunks range k rest) e
chunks-skip_all range at (text ∷ texts) rest h =
    let len = length-append text (concat texts) in
    let early : at + length (text ++ concat texts) < range.start = h (omega arith) in
    let apart : meets range at text ≡ false =
    ap (λ b. nat_le at range.end && b) (lt-leb range.start (at + length text)
    (omega (arith, len, early))) ∙ and-false (nat_le at range.end) in
    let there : (at + length text) + length (concat texts) ≡ at + length (text ++ concat texts) =
    omega (arith, len) in
    chunks-skip range at text (texts ++ rest) apart
    ∙ chunks-skip_all range (at + length text) texts rest (λ l. omega (arith, len, early))
    ∙ ap (λ k. cut_chunks range k rest) there

pub walk_from : (table : Table) (slice : Slice) (n x : ℕ) → SkipsTo table x slice.node n
    → IsTextSlice (slice_of table slice) → IsWalk table (walk_at table slice n)
walk_from table slice n x s is =
    let root = root_of table in
    let top = slice.node in
    let e = slice_get-some (entries_of table) top s.place.top_within in
    let entry = is_entry (entries_of table) table.complete top e.0 e.1 in
    let u = subterm (Node root) (path_at table top) in
    let rest = remaining_texts table top (Some n) in
    let start = start_of (cursor_of table top) in
    let here = start_of (cursor_of table n) in
    let text : text_of u ≡ concat s.texts ++ concat rest =
    sym (text-tokens u) ∙ ap concat (sym (remaining_texts-start table top (Some top) refl) ∙ s.parts)
    ∙ concat-append s.texts rest in
    let there : start + length (concat s.texts) ≡ here = omega (arith, s.start) in
    let cut : (o : ℕ) → IsBorder (text_of u) (o - start) → MayCut (concat rest) here o =
    λ o b. (
    let whole : MayCut (concat s.texts ++ concat rest) start o =
    record {
      border = λ l h. subst (λ v. IsCharBoundary v (o - start)) text (b (omega (arith, l)));
    } in
    subst (λ k. MayCut (concat rest) k o) there
    (cut-back (concat s.texts) (concat rest) start o whole)) in
    record {
      within = s.place.top_within;
      order = is.order;
      place = s.place;
      limit = omega (
        arith,
        ap length text,
        length-append (concat s.texts) (concat rest),
        len-text u,
        there,
        entry.start,
        entry.end,
      );
      start_cut = cut slice.start is.start_border;
      end_cut = cut slice.end is.end_border;
    }

pub chunks_from : (table : Table) (slice : Slice) (n : ℕ) → SkipsTo table slice.start slice.node n
    → remaining_chunks table (walk_at table slice n) ≡ chunks (slice_of table slice)
chunks_from table slice n s =
    let top = slice.node in
    let range = span_of slice in
    let start = start_of (cursor_of table top) in
    let rest = remaining_texts table top (Some n) in
    ap (λ k. cut_chunks range k rest) s.start
    ∙ sym (chunks-skip_all range start s.texts rest (λ l. omega (arith, s.early l, s.start)))
    ∙ ap (cut_chunks range start) (sym s.parts ∙ remaining_texts-start table top (Some top) refl)

-- A walk from the token on that has a byte.
nothing_there : (texts : List (List ℕ)) → length texts ≡ 0 → texts ≡ []
nothing_there [] h = refl
nothing_there (text ∷ texts) h = absurd (omega arith)

cut-append : (range : Span) (at : ℕ) (texts rest : List (List ℕ))
    → cut_chunks range at (texts ++ rest) ≡ cut_chunks range at texts
    ++ cut_chunks range (at + length (concat texts)) rest
cut-append range at [] rest = let e : at ≡ at + 0 = omega arith in
    ap (λ k. cut_chunks range k rest) e
cut-append range at (text ∷ texts) rest =
    let first = cond (meets range at text) (common_part range at text ∷ []) [] in
    let own = cut_chunks range (at + length text) texts in
    let there : (at + length text) + length (concat texts) ≡ at + length (text ++ concat texts) =
    omega (arith, length-append text (concat texts)) in
    ap (λ us. first ++ us) (cut-append range (at + length text) texts rest)
    ∙ ap (λ k. first ++ (own ++ cut_chunks range k rest)) there
    ∙ sym (append_assoc first own (cut_chunks range (at + length (text ++ concat texts)) rest))

-- bytes that end before a range does: those in the range
range-len_front : (xs : List ℕ) (a b : ℕ) → length xs ≤ b
    → length (slice_range xs a b) ≡ length xs - a
range-len_front xs a b h =
    ap length (take_all (b - a) (drop a xs) (omega (arith, length-drop a xs))) ∙ length-drop a xs

pub walks_over : (table : Table) (slice : Slice) (n offset : ℕ)
    → SkipsTo table (slice.start + offset + 1) slice.node n → IsTextSlice (slice_of table slice)
    → offset < slice_len (slice_of table slice)
    → WalksOver table slice offset (walk_at table slice n)
walks_over table slice n offset s is within =
    let top = slice.node in
    let range = span_of slice in
    let start = start_of (cursor_of table top) in
    let rest = remaining_texts table top (Some n) in
    let skipped = length (concat s.texts) in
    let early : start + skipped ≤ slice.start + offset = elim (cases_lt 0 (length s.texts)) [
      | inl some ↦ omega (arith, s.early some, s.start)
      | inr none ↦ omega (
        arith,
        is.from,
        ap length (ap concat (nothing_there s.texts (omega (arith, none)))),
      )
    ] in
    record {
      before = cut_chunks range start s.texts;
      parts = ap (cut_chunks range start)
          (sym (remaining_texts-start table top (Some top) refl) ∙ s.parts)
          ∙ cut-append range start s.texts rest
          ∙ ap (λ k. cut_chunks range start s.texts ++ cut_chunks range k rest) (sym s.start);
      len = ap length (cut_chunks-joined range start s.texts is.order)
          ∙ range-len_front (concat s.texts) (slice.start - start) (slice.end - start)
          (omega (arith, early, within, is.from))
          ∙ omega (arith, s.start, is.from);
      early = omega (arith, s.start, early);
    }
