-- Laws of a draft: what one child more, and all children of a node, leave true, and how much is
-- left to be done.
use Rattle.std.proofs.Common.{◌≡◌, ℕ, ◌+◌, ◌-◌, ◌<◌, ◌≤◌, List, [], ◌∷◌, ◌++◌, length, take, drop}
use Rattle.std.proofs.Common.{Some, None, refl, sym, ◌∙◌, ap, subst, arith, length-append}
use Rattle.std.specs.Prelude.{slice_get}
use Rattle.std.specs.List.Sorted.{IsPermutation}
use Rattle.std.proofs.Math.ListN.{set, length-set}
use Rattle.std.proofs.lemmas.List.{take_more, take_all, drop_all, take-append-drop, length-drop}
use Rattle.std.proofs.lemmas.List.{append-nil}
use Rattle.std.proofs.lemmas.List.Sorted.{IsPermutation-append_right, length_permutation}
use Rattle.std.proofs.lemmas.List.Sorted.{sum_by-IsPermutation}
use Rattle.std.proofs.lemmas.List.Sums.{sum_by-append}
use Rattle.std.proofs.lemmas.Option.{slice_get_within, get_or_from_slice_get, none-some, same_Some}
use Rattle.rowan_green.specs.Fits.{byte_limit}
use Rattle.rowan_green.specs.Lent.{into_node}
use Rattle.rowan_green.specs.Search.{child_start}
use Rattle.rowan_green.specs.Sizes.{term_size, terms_size}
use Rattle.rowan_green.specs.declared.utility_types.NodeOrToken.TheVariants.{Node, Token}
use Rattle.rowan_green.specs.Term.{NodeTerm, Term, node_children, sum_of_lens}
use Rattle.rowan_green.proofs.Drops.{terms_size-node_children}
use Rattle.rowan_terms.proofs.Lists.{slice_get-grown, slice_get-last}
use Rattle.rowan_table.specs.declared.table.entry.Entry.{Entry}
use Rattle.rowan_table.specs.Nodes.{Inner}
use Rattle.rowan_table.specs.declared.table.draft.Draft.{Draft}
use Rattle.rowan_table.specs.declared.table.draft.Waiting.{Waiting}
use Rattle.rowan_table.specs.DraftView.{AreFilled, first_node, IsFilled, IsFilledWith, HasTheirs}
use Rattle.rowan_table.specs.DraftView.{draft_root, draft_root_with, IsNextIndex, waiting_size}
use Rattle.rowan_table.specs.DraftView.{AddsChild, IsKept}
use Rattle.rowan_table.specs.Table.{child_counts, root_node, all_facts}
use Rattle.rowan_table.proofs.FillLemmas.{child_starts, first_node-kept, filled-token, filled-node}
use Rattle.rowan_table.proofs.FillLemmas.{filled-place, filled-turned, root_stays, set_here}
use Rattle.rowan_table.proofs.FillLemmas.{AreWhole, whole}

-- ---- sizes

terms_size-append : (ts us : List Term) → terms_size (ts ++ us) ≡ terms_size ts + terms_size us
terms_size-append [] us = omega arith
terms_size-append (t ∷ ts) us = omega (arith, terms_size-append ts us)

pub terms_size-more : (ts : List Term) (i : ℕ) (t : Term) → slice_get ts i ≡ Some t
    → terms_size (take (i + 1) ts) ≡ terms_size (take i ts) + term_size t
terms_size-more ts i t at =
    let more : take (i + 1) ts ≡ take i ts ++ t ∷ [] = take_more ts i t (slice_get_within ts i t at)
    ∙ ap (λ u. take i ts ++ u ∷ []) (get_or_from_slice_get ts i t t at) in
    ap terms_size more ∙ terms_size-append (take i ts) (t ∷ []) ∙ omega arith

node-size : (u : Term) (n : NodeTerm) → into_node u ≡ Some n
    → 1 + terms_size (node_children n) ≤ term_size u
node-size (Node m) n is =
    omega (
      arith,
      terms_size-node_children m,
      ap (λ (k : NodeTerm). terms_size (node_children k)) (same_Some m n is),
    )
node-size (Token t) n is = absurd (none-some n is)

pub waiting_size-more : (ws : List Waiting) (w : Waiting)
    → waiting_size (ws ++ w ∷ []) ≡ waiting_size ws + (1 + terms_size (node_children w.node.now))
waiting_size-more ws w =
    sum_by-append (λ (v : Waiting). 1 + terms_size (node_children v.node.now)) ws (w ∷ [])
    ∙ omega arith

pub waiting_size-turned : (ws vs : List Waiting) → IsPermutation ws vs
    → waiting_size vs ≡ waiting_size ws
waiting_size-turned ws vs turned =
    sum_by-IsPermutation (λ (v : Waiting). 1 + terms_size (node_children v.node.now)) ws vs turned

-- ---- lists that are those of a draft

pub filled_as : (d : Draft) (es : List Entry) (ns : List Inner) (ws : List Waiting)
    → d.entries.items ≡ es → d.nodes ≡ ns → d.waiting.items ≡ ws → AreFilled es ns ws → IsFilled d
filled_as d es ns ws entries nodes waiting f =
    subst (λ xs. AreFilled xs d.nodes d.waiting.items) (sym entries)
    (subst (λ xs. AreFilled es xs d.waiting.items) (sym nodes)
    (subst (AreFilled es ns) (sym waiting) f))

-- ---- one more child

pub start_fits : (d : Draft) (w : Waiting) (i : ℕ) → IsFilled d → IsNextIndex d w i
    → w.start + sum_of_lens (take i (node_children w.node.now)) ≤ byte_limit
start_fits d w i f p =
    omega (
      arith,
      p.start,
      ap (λ (n : NodeTerm). sum_of_lens (take i (node_children n))) p.green,
      child_starts d.entries.items d.nodes d.waiting.items f w.number p.place p.entry p.inner p.at
          p.named p.node i,
    )

module _ (d new : Draft) (w : Waiting) (i : ℕ) (f : IsFilled d) (p : IsNextIndex d w i) (u : Term)
    (child : slice_get (node_children w.node.now) i ≡ Some u) (e : Entry)
    (begins : e.start ≡ w.start + child_start (node_children w.node.now) i)
    (above : e.parent ≡ w.number) (bare : e.node ≡ None)
    (grown : new.entries.items ≡ d.entries.items ++ e ∷ []) (nodes : new.nodes ≡ d.nodes) where
  at : slice_get d.entries.items e.parent ≡ Some p.entry
  at = ap (slice_get d.entries.items) above ∙ p.at

  here : slice_get (node_children p.inner.green) i ≡ Some u
  here = ap (λ (n : NodeTerm). slice_get (node_children n) i) p.green ∙ child

  from : e.start ≡ p.entry.start + child_start (node_children p.inner.green) i
  from = omega (
    arith,
    begins,
    p.start,
    ap (λ (n : NodeTerm). child_start (node_children n) i)
        p.green,
  )

  placed : 0 < length d.nodes
  placed = omega (arith, slice_get_within d.nodes p.place p.inner p.node)

  pub adds_token_child : new.waiting.items ≡ d.waiting.items → into_node u ≡ None
      → AddsChild d new w.node.now i
  adds_token_child waiting token = record {
    child = u;
    at = child;
    entry = e;
    entries = grown;
    nodes = nodes;
    more = omega (arith, ap length waiting);
    filled = filled_as new (d.entries.items ++ e ∷ []) d.nodes d.waiting.items grown nodes waiting
        (filled-token d.entries.items d.nodes d.waiting.items f e p.entry at p.place p.named p.inner
        p.node i p.next u here from bare token);
    root = ap (λ ns. first_node ns new.waiting.items) nodes ∙ ap (first_node d.nodes) waiting;
    size = omega (arith, ap waiting_size waiting);
  }

  pub adds_node_child : (v : Waiting) → new.waiting.items ≡ d.waiting.items ++ v ∷ []
      → into_node u ≡ Some v.node.now → v.start ≡ e.start → v.number ≡ length d.entries.items
      → AddsChild d new w.node.now i
  adds_node_child v waiting is starts number = record {
    child = u;
    at = child;
    entry = e;
    entries = grown;
    nodes = nodes;
    more = omega (arith, ap length waiting, length-append d.waiting.items (v ∷ []));
    filled = filled_as new (d.entries.items ++ e ∷ []) d.nodes (d.waiting.items ++ v ∷ []) grown
        nodes waiting
        (filled-node d.entries.items d.nodes d.waiting.items f e p.entry at p.place p.named p.inner
        p.node i p.next u here from bare v is starts number);
    root = ap (λ ns. first_node ns new.waiting.items) nodes
        ∙ first_node-kept d.nodes new.waiting.items d.waiting.items placed;
    size = omega (
      arith,
      ap waiting_size waiting,
      waiting_size-more d.waiting.items v,
      node-size u v.node.now is,
    );
  }

-- ---- the place of the next node, and all of its children

pub next_within : (d : Draft) (w : Waiting) → IsFilledWith d w → w.number < length d.entries.items
next_within d w f =
    let h = f.waits (length d.waiting.items) w (slice_get-last d.waiting.items w) in
    slice_get_within d.entries.items w.number h.entry h.at

pub child_counts-append : (ns : List Inner) (x : Inner)
    → child_counts (ns ++ x ∷ []) ≡ child_counts ns + length (node_children x.green)
child_counts-append ns x =
    sum_by-append (λ (y : Inner). length (node_children y.green)) ns (x ∷ []) ∙ omega arith

-- the node has its place, and none of its children an entry
pub record IsPlaced (d a : Draft) (w : Waiting) : Type 0 where
  pub filled : IsFilled a
  pub next : IsNextIndex a w 0
  pub root : draft_root a ≡ draft_root_with d w
  pub children : child_counts a.nodes ≡ child_counts d.nodes + length (node_children w.node.now)

module _ (d r a : Draft) (w : Waiting) (x : Inner) (old e : Entry) (f : IsFilledWith d w)
    (theirs : HasTheirs d) (kept : IsKept d r) (green : x.green ≡ w.node.now)
    (first : x.first_child ≡ length d.entries.items)
    (found : slice_get r.entries.items w.number ≡ Some old) (start : e.start ≡ old.start)
    (parent : e.parent ≡ old.parent) (named : e.node ≡ Some (length r.nodes))
    (entries : a.entries.items ≡ set r.entries.items w.number e)
    (nodes : a.nodes ≡ r.nodes ++ x ∷ []) (waiting : a.waiting.items ≡ r.waiting.items) where
  set_so : a.entries.items ≡ set d.entries.items w.number e
  set_so = entries ∙ ap (λ xs. set xs w.number e) kept.entries

  pushed_so : a.nodes ≡ d.nodes ++ x ∷ []
  pushed_so = nodes ∙ ap (λ xs. xs ++ x ∷ []) kept.nodes

  waiting_so : a.waiting.items ≡ d.waiting.items
  waiting_so = waiting ∙ kept.waiting

  found_so : slice_get d.entries.items w.number ≡ Some old
  found_so = ap (λ xs. slice_get xs w.number) (sym kept.entries) ∙ found

  named_so : e.node ≡ Some (length d.nodes)
  named_so = named ∙ ap (λ xs. Some (length xs)) kept.nodes

  pub placed_next : IsPlaced d a w
  placed_next =
      let es = d.entries.items in
      let ns = d.nodes in
      let ws = d.waiting.items in
      let h = f.waits (length ws) w (slice_get-last ws w) in
      record {
        filled = filled_as a (set es w.number e) (ns ++ x ∷ []) ws set_so pushed_so waiting_so
            (filled-place es ns ws w f theirs x green first old e found_so start parent named_so);
        next = record {
          entry = e;
          at = ap (λ xs. slice_get xs w.number) set_so
              ∙ set_here es w.number e (slice_get_within es w.number old found_so);
          start = start ∙ ap (λ (y : Entry). y.start) (same_Some old h.entry (sym found_so ∙ h.at))
              ∙ h.start;
          place = length ns;
          named = named_so;
          inner = x;
          node = ap (λ xs. slice_get xs (length ns)) pushed_so ∙ slice_get-last ns x;
          green = green;
          next = omega (arith, first, ap length set_so, length-set es w.number e);
        };
        root = ap (λ xs. first_node xs a.waiting.items) pushed_so
            ∙ ap (first_node (ns ++ x ∷ [])) waiting_so
            ∙ root_stays es ns ws w f theirs x green first old e found_so start parent named_so;
        children = ap child_counts pushed_so ∙ child_counts-append ns x
            ∙ ap (λ (n : NodeTerm). child_counts ns + length (node_children n)) green;
      }

pub next_index : (d new : Draft) (w : Waiting) (i : ℕ) (e : Entry) → IsNextIndex d w i
    → new.entries.items ≡ d.entries.items ++ e ∷ [] → new.nodes ≡ d.nodes
    → IsNextIndex new w (i + 1)
next_index d new w i e p grown nodes = record {
  entry = p.entry;
  at = ap (λ xs. slice_get xs w.number) grown
      ∙ slice_get-grown d.entries.items (e ∷ []) w.number p.entry p.at;
  start = p.start;
  place = p.place;
  named = p.named;
  inner = p.inner;
  node = ap (λ xs. slice_get xs p.place) nodes ∙ p.node;
  green = p.green;
  next = omega (arith, p.next, ap length grown, length-append d.entries.items (e ∷ []));
}

-- ---- those that wait, in another order

-- a list in which the part from k on was put into another order, as a reference to it leaves it
pub part_turned : {X : Type 0} (xs lent new : List X) (k l : ℕ) → lent ≡ xs → l ≡ length xs
    → k ≤ length xs → IsPermutation (take (length lent - k) (drop k lent)) new
    → IsPermutation xs (take l (take k lent ++ (new ++ drop (length lent - k) (drop k lent))
    ++ drop (length (take k lent ++ (new ++ drop (length lent - k) (drop k lent)))) xs))
part_turned xs lent new k l is len within turned =
    let behind = drop k xs in
    let n = length xs - k in
    let all : take n behind ≡ behind = take_all n behind (omega (arith, length-drop k xs)) in
    let turned_so : IsPermutation behind new =
    subst (λ ys. IsPermutation ys new) all (subst
    (λ ys. IsPermutation (take (length ys - k) (drop k ys)) new) is turned) in
    let long : length (take k xs ++ new) ≡ length xs =
    omega (
      arith,
      length-append (take k xs) new,
      length_permutation behind new turned_so,
      length-append (take k xs) behind,
      ap length (take-append-drop k xs),
    ) in
    let part : new ++ drop n behind ≡ new = ap (λ ys. new ++ ys)
    (drop_all n behind (omega (arith, length-drop k xs))) ∙ append-nil new in
    let rest : drop (length (take k xs ++ (new ++ drop n behind))) xs ≡ [] =
    drop_all (length (take k xs ++ (new ++ drop n behind))) xs
    (omega (arith, long, ap (λ ys. length (take k xs ++ ys)) part)) in
    let whole : take l (take k xs ++ (new ++ drop n behind)
    ++ drop (length (take k xs ++ (new ++ drop n behind))) xs) ≡ take k xs ++ new =
    ap (λ ys. take l (take k xs ++ (new ++ drop n behind) ++ ys)) rest
    ∙ ap (take l) (append-nil (take k xs ++ (new ++ drop n behind))
    ∙ ap (λ ys. take k xs ++ ys) part)
    ∙ take_all l (take k xs ++ new) (omega (arith, long, len)) in
    let order : IsPermutation xs (take k xs ++ new) =
    subst (λ ys. IsPermutation ys (take k xs ++ new)) (take-append-drop k xs)
    (IsPermutation-append_right (take k xs) behind new turned_so) in
    subst (λ ys. IsPermutation xs (take l (take k ys ++ (new ++ drop (length ys - k) (drop k ys))
    ++ drop (length (take k ys ++ (new ++ drop (length ys - k) (drop k ys)))) xs))) (sym is)
    (subst (IsPermutation xs) (sym whole) order)

module _ (d new : Draft) (w : Waiting) (i : ℕ) (f : IsFilled d) (p : IsNextIndex d w i)
    (turned : IsPermutation d.waiting.items new.waiting.items)
    (entries : new.entries.items ≡ d.entries.items) (nodes : new.nodes ≡ d.nodes) where
  some_placed : 0 < length d.nodes
  some_placed = omega (arith, slice_get_within d.nodes p.place p.inner p.node)

  pub turned_filled : IsFilled new
  turned_filled =
      filled_as new d.entries.items d.nodes new.waiting.items entries nodes refl
      (filled-turned d.entries.items d.nodes d.waiting.items new.waiting.items some_placed turned f)

  pub turned_root : draft_root new ≡ draft_root d
  turned_root =
      ap (λ ns. first_node ns new.waiting.items) nodes
      ∙ first_node-kept d.nodes new.waiting.items d.waiting.items some_placed

-- ---- a table in the end

pub no_items : {X : Type 0} (xs : List X) → length xs ≡ 0 → xs ≡ []
no_items [] none = refl
no_items (x ∷ xs) none = absurd (omega (arith, none))

module _ (d : Draft) (ns : List Inner) (es : List Entry) (f : IsFilled d) (theirs : HasTheirs d)
    (done : length d.waiting.items ≡ 0) (nodes : ns ≡ d.nodes) (entries : es ≡ d.entries.items)
  where
    none : d.waiting.items ≡ []
    none = no_items d.waiting.items done

    pub finished : AreWhole es ns
    finished =
        whole es ns (subst (λ xs. AreFilled xs ns []) (sym entries)
        (subst (λ xs. AreFilled d.entries.items xs []) (sym nodes)
        (subst (AreFilled d.entries.items d.nodes) none f)))
        (ap length entries ∙ theirs ∙ ap (λ xs. child_counts xs + 1) (sym nodes))

    pub finished_root : root_node (all_facts ns es) ≡ draft_root d
    finished_root =
        finished.root ∙ ap (λ xs. first_node xs []) nodes ∙ ap (first_node d.nodes) (sym none)
