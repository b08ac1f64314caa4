-- Laws of filling a table: what one entry more, and one place more, leave true, and that a table is
-- there in the end.
use Rattle.std.proofs.Common.{◌≡◌, ℕ, zero, suc, ◌+◌, ◌-◌, ◌<◌, ◌≤◌, ◌⊎◌, inl, inr, List, [], ◌∷◌}
use Rattle.std.proofs.Common.{◌++◌, length, take, Option, Some, None, refl, sym, ◌∙◌, ap, subst}
use Rattle.std.proofs.Common.{arith, length-append}
use Rattle.std.specs.Prelude.{false, nat_eq, map, slice_get, Contains}
use Rattle.std.specs.List.{AllByRecursion, IsDistinct}
use Rattle.std.specs.List.Sorted.{IsPermutation}
use Rattle.std.specs.Option.{option_map}
use Rattle.std.proofs.Math.ListN.{set, length-set}
use Rattle.std.proofs.lemmas.List.{length-map, take_all, take-append-le}
use Rattle.std.proofs.lemmas.Bool.{eq-eqb, ne_eqb, true≢false}
use Rattle.std.proofs.lemmas.Bool.Decides.{eqb_tells}
use Rattle.std.proofs.lemmas.List.Sorted.{Contains-permutation, IsPermutation-map}
use Rattle.std.proofs.lemmas.List.Sorted.{IsPermutation-sym, length_permutation}
use Rattle.std.proofs.lemmas.Map.Keys.{IsDistinct-IsPermutation}
use Rattle.std.proofs.lemmas.Option.{slice_get_within, slice_get_read, get_or_from_slice_get}
use Rattle.std.proofs.lemmas.Option.{none-some, same_Some}
use Rattle.rowan_green.specs.declared.utility_types.NodeOrToken.TheVariants.{Node, Token}
use Rattle.rowan_green.specs.Fits.{byte_limit}
use Rattle.rowan_green.specs.Lent.{into_node}
use Rattle.rowan_green.specs.Search.{child_start}
use Rattle.rowan_green.specs.Term.{NodeTerm, Term, node_children, node_len, term_len, sum_of_lens}
use Rattle.rowan_terms.proofs.Lists.{slice_get-cases, slice_get-grown, slice_get-last}
use Rattle.rowan_green.proofs.SearchLemmas.{child_start-le_all}
use Rattle.rowan_table.specs.declared.table.entry.Entry.{Entry}
use Rattle.rowan_table.specs.Nodes.{Inner}
use Rattle.rowan_table.specs.declared.table.draft.Waiting.{Waiting}
use Rattle.rowan_table.specs.DraftView.{first_node, HasPlace, IsAwaited, entry_number, HasEntry}
use Rattle.rowan_table.specs.DraftView.{IsChildEntry, IsRootEntry, AreFilled}
use Rattle.rowan_table.specs.Table.{Facts, AreNodes, IsTable, IsTop, IsChildOf, IsAmong, inner_at}
use Rattle.rowan_table.specs.Table.{entry_facts, facts_of, all_facts, child_counts, node_in}
use Rattle.rowan_table.specs.Table.{root_node}
use Rattle.rowan_table.specs.Table.{green_of, children_in, len_in}
use Rattle.rowan_table.proofs.NodeLemmas.{facts_at, row_end-before, row_end-within}
use Rattle.rowan_table.proofs.TableLemmas.{slice_get-some, child_end, sum_of_lens-children}
use Rattle.rowan_table.proofs.TableLemmas.{kept_within}

-- ---- lists

pub set_here : {X : Type 0} (xs : List X) (n : ℕ) (x : X) → n < length xs
    → slice_get (set xs n x) n ≡ Some x
set_here [] n x within = absurd (omega (arith, within))
set_here (y ∷ xs) zero x within = refl
set_here (y ∷ xs) (suc n) x within = set_here xs n x (omega (arith, within))

set_there : {X : Type 0} (xs : List X) (n m : ℕ) (x : X) → (m ≡ n → ⊥)
    → slice_get (set xs n x) m ≡ slice_get xs m
set_there [] n m x apart = refl
set_there (y ∷ xs) zero zero x apart = absurd (apart refl)
set_there (y ∷ xs) zero (suc m) x apart = refl
set_there (y ∷ xs) (suc n) zero x apart = refl
set_there (y ∷ xs) (suc n) (suc m) x apart = set_there xs n m x (λ e. apart (ap suc e))

-- an element of a list in which one was replaced: it is that one, or was there
set_cases : {X : Type 0} (xs : List X) (n : ℕ) (x : X) (m : ℕ) (y : X) → n < length xs
    → slice_get (set xs n x) m ≡ Some y → ((m ≡ n → ⊥) × (slice_get xs m ≡ Some y))
    ⊎ ((m ≡ n) × (x ≡ y))
set_cases [] n x m y within at = absurd (omega (arith, within))
set_cases (z ∷ xs) zero x zero y within at = inr (refl, same_Some x y at)
set_cases (z ∷ xs) zero x (suc m) y within at = inl (λ e. omega (arith, e), at)
set_cases (z ∷ xs) (suc n) x zero y within at = inl (λ e. omega (arith, e), at)
set_cases (z ∷ xs) (suc n) x (suc m) y within at =
    elim (set_cases xs n x m y (omega (arith, within)) at)
    [ inl h ↦ inl (λ e. h.0 (omega (arith, e)), h.1) | inr h ↦ inr (ap suc h.0, h.1) ]

one_case : {X : Type 0} (x y : X) (n : ℕ) → slice_get (x ∷ []) n ≡ Some y → (n ≡ 0) × (x ≡ y)
one_case x y zero at = (refl, same_Some x y at)
one_case x y (suc n) at = absurd (none-some y at)

-- ---- what is known of a draft's entries

-- each has its green
green_there : (es : List Entry) (ns : List Inner) (ws : List Waiting) → (f : AreFilled es ns ws)
    → (n : ℕ) (e : Entry) → slice_get es n ≡ Some e
    → (g : Option NodeTerm) × (slice_get f.greens n ≡ Some g)
green_there es ns ws f n e at =
    slice_get-some f.greens n (omega (arith, f.count, slice_get_within es n e at))

-- the node of an entry that names a place is the one there
placed_green : (es : List Entry) (ns : List Inner) (ws : List Waiting) → (f : AreFilled es ns ws)
    → (n k : ℕ) (e : Entry) (x : Inner) → slice_get es n ≡ Some e → e.node ≡ Some k
    → slice_get ns k ≡ Some x → slice_get f.greens n ≡ Some (Some x.green)
placed_green es ns ws f n k e x at named node =
    let p = f.named n k e at named in
    p.green ∙ ap (λ (y : Inner). Some (Some y.green)) (same_Some p.inner x (sym p.at ∙ node))

-- and its text ends within the limit
placed_end : (es : List Entry) (ns : List Inner) (ws : List Waiting) → AreFilled es ns ws
    → (n k : ℕ) (e : Entry) (x : Inner) → slice_get es n ≡ Some e → e.node ≡ Some k
    → slice_get ns k ≡ Some x → e.start + node_len x.green ≤ byte_limit
placed_end es ns ws f n k e x at named node =
    f.ends n e (Some x.green) at (placed_green es ns ws f n k e x at named node)

-- a child starts within the limit
pub child_starts : (es : List Entry) (ns : List Inner) (ws : List Waiting) → AreFilled es ns ws
    → (n k : ℕ) (e : Entry) (x : Inner) → slice_get es n ≡ Some e → e.node ≡ Some k
    → slice_get ns k ≡ Some x → (i : ℕ) → e.start + sum_of_lens (take i (node_children x.green))
    ≤ byte_limit
child_starts es ns ws f n k e x at named node i =
    omega (
      arith,
      placed_end es ns ws f n k e x at named node,
      child_start-le_all (node_children x.green) i,
      sum_of_lens-children (Node x.green),
    )

len_of-content : (t : Term) → len_in (into_node t) ≤ term_len t
len_of-content (Node n) = omega arith
len_of-content (Token t) = omega arith

-- the numbers of those that wait differ
number_last : (P : ℕ → Type 0) (ws : List Waiting) (w : Waiting)
    → AllByRecursion P (map entry_number (ws ++ w ∷ [])) → P w.number
number_last P [] w all = all.0
number_last P (v ∷ ws) w all = number_last P ws w all.1

numbers_before : (P : ℕ → Type 0) (ws : List Waiting) (w : Waiting)
    → AllByRecursion P (map entry_number (ws ++ w ∷ [])) → AllByRecursion P (map entry_number ws)
numbers_before P [] w all = tt
numbers_before P (v ∷ ws) w all = (all.0, numbers_before P ws w all.1)

numbers_with : (P : ℕ → Type 0) (ws : List Waiting) (w : Waiting)
    → AllByRecursion P (map entry_number ws) → P w.number
    → AllByRecursion P (map entry_number (ws ++ w ∷ []))
numbers_with P [] w all last = (last, tt)
numbers_with P (v ∷ ws) w all last = (all.0, numbers_with P ws w all.1 last)

apart_before : (ws : List Waiting) (w : Waiting)
    → IsDistinct nat_eq (map entry_number (ws ++ w ∷ [])) → IsDistinct nat_eq (map entry_number ws)
unfolding IsDistinct
apart_before [] w apart = tt
apart_before (v ∷ ws) w apart =
    (numbers_before (λ n. nat_eq v.number n ≡ false) ws w apart.0, apart_before ws w apart.1)

apart_last : (ws : List Waiting) (w : Waiting) → IsDistinct nat_eq (map entry_number (ws ++ w ∷ []))
    → (i : ℕ) (v : Waiting) → slice_get ws i ≡ Some v → v.number ≡ w.number → ⊥
unfolding IsDistinct
apart_last [] w apart i v at same = absurd (none-some v at)
apart_last (u ∷ ws) w apart zero v at same =
    true≢false (sym (eq-eqb u.number w.number (ap entry_number (same_Some u v at) ∙ same))
    ∙ number_last (λ n. nat_eq u.number n ≡ false) ws w apart.0)
apart_last (u ∷ ws) w apart (suc i) v at same = apart_last ws w apart.1 i v at same

apart_with : (ws : List Waiting) (w : Waiting) → IsDistinct nat_eq (map entry_number ws)
    → ((i : ℕ) (v : Waiting) → slice_get ws i ≡ Some v → v.number ≡ w.number → ⊥)
    → IsDistinct nat_eq (map entry_number (ws ++ w ∷ []))
unfolding IsDistinct
apart_with [] w apart new = (tt, tt)
apart_with (v ∷ ws) w apart new = (
  numbers_with (λ n. nat_eq v.number n ≡ false) ws w apart.0
      (ne_eqb v.number w.number (new 0 v refl)),
  apart_with ws w apart.1 (λ i u at. new (suc i) u at),
)

apart_one : (w : Waiting) → IsDistinct nat_eq (map entry_number (w ∷ []))
unfolding IsDistinct
apart_one w = (tt, tt)

-- a node that waits is another one than those before it
waits_apart : (es : List Entry) (ns : List Inner) (ws : List Waiting) (w : Waiting)
    → AreFilled es ns (ws ++ w ∷ []) → (i : ℕ) (v : Waiting) → slice_get ws i ≡ Some v
    → v.number ≡ w.number → ⊥
waits_apart es ns ws w f = apart_last ws w f.apart

-- the root stays, where a node has its place
pub first_node-kept : (ns : List Inner) (vs ws : List Waiting) → 0 < length ns
    → first_node ns vs ≡ first_node ns ws
first_node-kept [] vs ws some = absurd (omega (arith, some))
first_node-kept (x ∷ ns) vs ws some = refl

first_stays : (ns : List Inner) (ws : List Waiting) (w : Waiting) (x : Inner) → x.green ≡ w.node.now
    → (ns ≡ [] → (i : ℕ) (v : Waiting) → slice_get ws i ≡ Some v → ⊥)
    → first_node (ns ++ x ∷ []) ws ≡ first_node ns (ws ++ w ∷ [])
first_stays [] [] w x green alone = green
first_stays [] (v ∷ ws) w x green alone = absurd (alone refl 0 v refl)
first_stays (y ∷ ns) ws w x green alone = refl

-- ---- the entry of one more child

child_entry-grown : (gs : List (Option NodeTerm)) (es : List Entry) (ns : List Inner)
    (g : Option NodeTerm) (e : Entry) (n : ℕ) (c : Entry) → length gs ≡ length es → n < length es
    → IsChildEntry gs es ns n c → IsChildEntry (gs ++ g ∷ []) (es ++ e ∷ []) ns n c
child_entry-grown gs es ns g e n c count within h =
    let green = slice_get-some gs n (omega (arith, within, count)) in
    record {
      above = h.above;
      at = slice_get-grown es (e ∷ []) c.parent h.above h.at;
      earlier = h.earlier;
      place = h.place;
      named = h.named;
      inner = h.inner;
      node = h.node;
      from = h.from;
      child = h.child ∙ green.1 ∙ sym (slice_get-grown gs (g ∷ []) n green.0 green.1);
      start = h.start;
    }

entry-grown : (gs : List (Option NodeTerm)) (es : List Entry) (g : Option NodeTerm) (e : Entry)
    (w : Waiting) → HasEntry gs es w → HasEntry (gs ++ g ∷ []) (es ++ e ∷ []) w
entry-grown gs es g e w h = record {
  entry = h.entry;
  at = slice_get-grown es (e ∷ []) w.number h.entry h.at;
  start = h.start;
  bare = h.bare;
  green = slice_get-grown gs (g ∷ []) w.number (Some w.node.now) h.green;
}

place-grown : (gs : List (Option NodeTerm)) (ns : List Inner) (g : Option NodeTerm) (n k : ℕ)
    → HasPlace gs ns n k → HasPlace (gs ++ g ∷ []) ns n k
place-grown gs ns g n k h = record {
  inner = h.inner;
  at = h.at;
  green = slice_get-grown gs (g ∷ []) n (Some h.inner.green) h.green;
}

-- the entry `above` has its place, and its child at index i is to get entry e
module _ (es : List Entry) (ns : List Inner) (ws : List Waiting) (f : AreFilled es ns ws)
    (e above : Entry) (at : slice_get es e.parent ≡ Some above) (k : ℕ)
    (named : above.node ≡ Some k) (x : Inner) (node : slice_get ns k ≡ Some x) (i : ℕ)
    (next : length es ≡ x.first_child + i)
    (u : Term) (child : slice_get (node_children x.green) i ≡ Some u)
    (start : e.start ≡ above.start + child_start (node_children x.green) i) (bare : e.node ≡ None)
  where
    index : i ≡ length es - x.first_child
    index = omega (arith, next)

    placed : 0 < length ns
    placed = omega (arith, slice_get_within ns k x node)

    child_entry : IsChildEntry (f.greens ++ into_node u ∷ []) (es ++ e ∷ []) ns (length es) e
    child_entry = record {
      above = above;
      at = slice_get-grown es (e ∷ []) e.parent above at;
      earlier = slice_get_within es e.parent above at;
      place = k;
      named = named;
      inner = x;
      node = node;
      from = omega (arith, next);
      child = ap (λ j. option_map into_node (slice_get (node_children x.green) j)) (sym index)
          ∙ ap (option_map into_node) child ∙ sym (slice_get-last f.greens (into_node u))
          ∙ ap (slice_get (f.greens ++ into_node u ∷ [])) f.count;
      start = start ∙ ap (λ j. above.start + child_start (node_children x.green) j) index;
    }

    child_ends : e.start + len_in (into_node u) ≤ byte_limit
    child_ends =
        omega (
          arith,
          start,
          child_end (Node x.green) i u child,
          len_of-content u,
          placed_end es ns ws f e.parent k above x at named node,
        )

    -- of the last entry
    last_green : (n : ℕ) (g : Option NodeTerm) → n ≡ length es
        → slice_get (f.greens ++ into_node u ∷ []) n ≡ Some g → into_node u ≡ g
    last_green n g last at_g =
        same_Some (into_node u) g (sym (slice_get-last f.greens (into_node u))
        ∙ ap (slice_get (f.greens ++ into_node u ∷ [])) (f.count ∙ sym last) ∙ at_g)

    -- of an entry before
    old_green : (n : ℕ) (d : Entry) (g : Option NodeTerm) → slice_get es n ≡ Some d
        → slice_get (f.greens ++ into_node u ∷ []) n ≡ Some g → slice_get f.greens n ≡ Some g
    old_green n d g at_d at_g =
        let old = green_there es ns ws f n d at_d in
        old.1 ∙ sym (slice_get-grown f.greens (into_node u ∷ []) n old.0 old.1) ∙ at_g

    not_named : (d : Entry) (j : ℕ) → e ≡ d → d.node ≡ Some j → ⊥
    not_named d j same is = none-some j (sym bare ∙ ap (λ (y : Entry). y.node) same ∙ is)

    -- with those that wait then
    module _ (vs : List Waiting) (fewer : length ns + length vs ≤ length es + 1)
        (kept : (n : ℕ) → IsAwaited ws n → IsAwaited vs n)
        (new : (g : NodeTerm) → into_node u ≡ Some g → IsAwaited vs (length es))
        (entries : (j : ℕ) (w : Waiting) → slice_get vs j ≡ Some w
        → HasEntry (f.greens ++ into_node u ∷ []) (es ++ e ∷ []) w)
        (apart : IsDistinct nat_eq (map entry_number vs)) where
      filled_more : AreFilled (es ++ e ∷ []) ns vs
      filled_more = record {
        greens = f.greens ++ into_node u ∷ [];
        count = omega (
          arith,
          f.count,
          length-append f.greens (into_node u ∷ []),
          length-append es (e ∷ []),
        );
        some = omega (arith, f.some, length-append es (e ∷ []));
        fewer = omega (arith, fewer, length-append es (e ∷ []));
        root = λ d at_d. elim (slice_get-cases es e 0 d at_d) [
          | inl h ↦ (
              let r = f.root d h in
              record {
                start = r.start;
                green = slice_get-grown f.greens (into_node u ∷ []) 0 (Some (first_node ns ws))
                    r.green ∙ ap (λ (r : NodeTerm). Some (Some r))
                    (first_node-kept ns ws vs placed);
              })
          | inr h ↦ absurd (omega (arith, h.0, f.some))
        ];
        ends = λ n d g at_d at_g. elim (slice_get-cases es e n d at_d) [
          | inl h ↦ f.ends n d g h (old_green n d g h at_g)
          | inr h ↦ omega (
            arith,
            child_ends,
            ap (λ (y : Entry). y.start) h.1,
            ap len_in (last_green n g h.0 at_g),
          )
        ];
        named = λ n j d at_d is. elim (slice_get-cases es e n d at_d) [
          | inl h ↦ place-grown f.greens ns (into_node u) n j (f.named n j d h is)
          | inr h ↦ absurd (not_named d j h.1 is)
        ];
        once = λ n m j c d at_c at_d is too. elim (slice_get-cases es e n c at_c) [
          | inl h ↦ elim (slice_get-cases es e m d at_d) [
            | inl l ↦ f.once n m j c d h l is too
            | inr l ↦ absurd (not_named d j l.1 too)
          ]
          | inr h ↦ absurd (not_named c j h.1 is)
        ];
        bare = λ n d g at_d is at_g. elim (slice_get-cases es e n d at_d) [
          | inl h ↦ kept n (f.bare n d g h is (old_green n d (Some g) h at_g))
          | inr h ↦ subst (IsAwaited vs) (sym h.0) (new g (last_green n (Some g) h.0 at_g))
        ];
        waits = entries;
        apart = apart;
        firsts = f.firsts;
        children = λ n c at_c behind. elim (slice_get-cases es e n c at_c) [
          | inl h ↦ child_entry-grown f.greens es ns (into_node u) e n c f.count
              (slice_get_within es n c h) (f.children n c h behind)
          | inr h ↦ subst (IsChildEntry (f.greens ++ into_node u ∷ []) (es ++ e ∷ []) ns n) h.1
              (subst (λ m. IsChildEntry (f.greens ++ into_node u ∷ []) (es ++ e ∷ []) ns m e)
              (sym h.0)
              child_entry)
        ];
      }

    pub filled-token : into_node u ≡ None → AreFilled (es ++ e ∷ []) ns ws
    filled-token token =
        filled_more ws (omega (arith, f.fewer)) (λ n h. h)
        (λ g is. absurd (none-some g (sym token ∙ is)))
        (λ j w at_w. entry-grown f.greens es (into_node u) e w (f.waits j w at_w)) f.apart

    pub filled-node : (v : Waiting) → into_node u ≡ Some v.node.now → v.start ≡ e.start
        → v.number ≡ length es → AreFilled (es ++ e ∷ []) ns (ws ++ v ∷ [])
    filled-node v is starts number =
        filled_more (ws ++ v ∷ []) (omega (arith, f.fewer, length-append ws (v ∷ [])))
        (λ n h. record {
          index = h.index;
          waiting = h.waiting;
          at = slice_get-grown ws (v ∷ []) h.index h.waiting h.at;
          number = h.number;
        }) (λ g is_g. record {
          index = length ws;
          waiting = v;
          at = slice_get-last ws v;
          number = number;
        }) (λ j w at_w. elim (slice_get-cases ws v j w at_w) [
          | inl h ↦ entry-grown f.greens es (into_node u) e w (f.waits j w h)
          | inr h ↦ subst (HasEntry (f.greens ++ into_node u ∷ []) (es ++ e ∷ [])) h.1 record {
            entry = e;
            at = ap (slice_get (es ++ e ∷ [])) number ∙ slice_get-last es e;
            start = sym starts;
            bare = bare;
            green = ap (slice_get (f.greens ++ into_node u ∷ [])) (number ∙ sym f.count)
                ∙ slice_get-last f.greens (into_node u) ∙ ap (λ (o : Option NodeTerm). Some o) is;
          }
        ]) (apart_with ws v f.apart (λ j w at_w same.
        let old = f.waits j w at_w in
        omega (arith, slice_get_within es w.number old.entry old.at, number, same)))

-- ---- the place of the next node

-- an entry from before, entry_facts its place or not
record WasEntry (es : List Entry) (n : ℕ) (e : Entry) : Type 0 where
  pub old : Entry
  pub at : slice_get es n ≡ Some old
  pub start : old.start ≡ e.start
  pub parent : old.parent ≡ e.parent

module _ (es : List Entry) (ns : List Inner) (ws : List Waiting) (w : Waiting)
    (f : AreFilled es ns (ws ++ w ∷ [])) (theirs : length es ≡ child_counts ns + 1) (x : Inner)
    (green : x.green ≡ w.node.now) (first : x.first_child ≡ length es) (old e : Entry)
    (at : slice_get es w.number ≡ Some old)
    (start : e.start ≡ old.start) (parent : e.parent ≡ old.parent)
    (named : e.node ≡ Some (length ns)) where
  h : HasEntry f.greens es w
  h = f.waits (length ws) w (slice_get-last ws w)

  same : h.entry ≡ old
  same = same_Some h.entry old (sym h.at ∙ at)

  old_bare : old.node ≡ None
  old_bare = ap (λ (y : Entry). y.node) (sym same) ∙ h.bare

  within : w.number < length es
  within = slice_get_within es w.number old at

  was : (n : ℕ) (d : Entry) → slice_get (set es w.number e) n ≡ Some d → WasEntry es n d
  was n d at_d = elim (set_cases es w.number e n d within at_d) [
    | inl g ↦ record {
      old = d;
      at = g.1;
      start = refl;
      parent = refl;
    }
    | inr g ↦ record {
      old = old;
      at = ap (slice_get es) g.0 ∙ at;
      start = sym start ∙ ap (λ (y : Entry). y.start) g.1;
      parent = sym parent ∙ ap (λ (y : Entry). y.parent) g.1;
    }
  ]

  -- an entry that names a place stays
  named_stays : (n j : ℕ) (d : Entry) → slice_get es n ≡ Some d → d.node ≡ Some j
      → slice_get (set es w.number e) n ≡ Some d
  named_stays n j d at_d is =
      set_there es w.number n e (λ here. none-some j
      (sym old_bare ∙ ap (λ (y : Entry). y.node)
      (same_Some old d (sym at ∙ ap (slice_get es) (sym here) ∙ at_d)) ∙ is)) ∙ at_d

  new_place : (d : Entry) (j : ℕ) → e ≡ d → d.node ≡ Some j → j ≡ length ns
  new_place d j eq is =
      sym (same_Some (length ns) j (sym named ∙ ap (λ (y : Entry). y.node) eq ∙ is))

  old_place : (n j : ℕ) (d : Entry) → slice_get es n ≡ Some d → d.node ≡ Some j → j < length ns
  old_place n j d at_d is =
      let p = f.named n j d at_d is in
      slice_get_within ns j p.inner p.at

  -- of those that wait, the first is the root, where no node has its place
  pub root_stays : first_node (ns ++ x ∷ []) ws ≡ first_node ns (ws ++ w ∷ [])
  root_stays = first_stays ns ws w x green (λ none j v at_v.
      let g = f.waits j v (slice_get-grown ws (w ∷ []) j v at_v) in
      waits_apart es ns ws w f j v at_v (omega
      (arith, slice_get_within es v.number g.entry g.at, within, theirs, ap child_counts none)))

  kept_entry : (i : ℕ) (v : Waiting) → slice_get ws i ≡ Some v
      → HasEntry f.greens (set es w.number e) v
  kept_entry i v at_v =
      let g = f.waits i v (slice_get-grown ws (w ∷ []) i v at_v) in
      record {
        entry = g.entry;
        at = set_there es w.number v.number e (waits_apart es ns ws w f i v at_v) ∙ g.at;
        start = g.start;
        bare = g.bare;
        green = g.green;
      }

  still_awaited : (n : ℕ) → (n ≡ w.number → ⊥) → IsAwaited (ws ++ w ∷ []) n → IsAwaited ws n
  still_awaited n apart a = elim (slice_get-cases ws w a.index a.waiting a.at) [
    | inl g ↦ record {
      index = a.index;
      waiting = a.waiting;
      at = g;
      number = a.number;
    }
    | inr g ↦ absurd (apart (sym a.number ∙ ap (λ (y : Waiting). y.number) (sym g.1)))
  ]

  child_entry-placed : (n : ℕ) (d c : Entry) → d.start ≡ c.start → d.parent ≡ c.parent
      → IsChildEntry f.greens es ns n d → IsChildEntry f.greens (set es w.number e) (ns ++ x ∷ []) n
      c
  child_entry-placed n d c starts above g = record {
    above = g.above;
    at = named_stays c.parent g.place g.above (ap (slice_get es) (sym above) ∙ g.at) g.named;
    earlier = omega (arith, above, g.earlier);
    place = g.place;
    named = g.named;
    inner = g.inner;
    node = slice_get-grown ns (x ∷ []) g.place g.inner g.node;
    from = g.from;
    child = g.child;
    start = sym starts ∙ g.start;
  }

  pub filled-place : AreFilled (set es w.number e) (ns ++ x ∷ []) ws
  filled-place = record {
    greens = f.greens;
    count = f.count ∙ sym (length-set es w.number e);
    some = omega (arith, f.some, length-set es w.number e);
    fewer = omega (
      arith,
      f.fewer,
      length-set es w.number e,
      length-append ns (x ∷ []),
      length-append ws (w ∷ []),
    );
    root = λ d at_d.
        let o = was 0 d at_d in
        let r = f.root o.old o.at in
        record {
          start = sym o.start ∙ r.start;
          green = r.green ∙ ap (λ (r : NodeTerm). Some (Some r)) (sym root_stays);
        };
    ends = λ n d g at_d at_g.
        let o = was n d at_d in
        omega (arith, o.start, f.ends n o.old g o.at at_g);
    named = λ n j d at_d is. elim (set_cases es w.number e n d within at_d) [
      | inl g ↦ (
          let p = f.named n j d g.1 is in
          record {
            inner = p.inner;
            at = slice_get-grown ns (x ∷ []) j p.inner p.at;
            green = p.green;
          })
      | inr g ↦ record {
        inner = x;
        at = ap (slice_get (ns ++ x ∷ [])) (new_place d j g.1 is) ∙ slice_get-last ns x;
        green = ap (slice_get f.greens) g.0 ∙ h.green
            ∙ ap (λ (r : NodeTerm). Some (Some r)) (sym green);
      }
    ];
    once = λ n m j c d at_c at_d is too. elim (set_cases es w.number e n c within at_c) [
      | inl g ↦ elim (set_cases es w.number e m d within at_d) [
        | inl l ↦ f.once n m j c d g.1 l.1 is too
        | inr l ↦ absurd (omega (arith, old_place n j c g.1 is, new_place d j l.1 too))
      ]
      | inr g ↦ elim (set_cases es w.number e m d within at_d) [
        | inl l ↦ absurd (omega (arith, old_place m j d l.1 too, new_place c j g.1 is))
        | inr l ↦ g.0 ∙ sym l.0
      ]
    ];
    bare = λ n d g at_d is at_g. elim (set_cases es w.number e n d within at_d) [
      | inl l ↦ still_awaited n l.0 (f.bare n d g l.1 is at_g)
      | inr l ↦ absurd (none-some (length ns)
          (sym is ∙ ap (λ (y : Entry). y.node) (sym l.1) ∙ named))
    ];
    waits = kept_entry;
    apart = apart_before ws w f.apart;
    firsts = λ k y at_y. elim (slice_get-cases ns x k y at_y) [
      | inl g ↦ f.firsts k y g ∙ ap (λ ms. child_counts ms + 1)
          (sym (take-append-le k ns (x ∷ []) (omega (arith, slice_get_within ns k y g))))
      | inr g ↦ ap (λ (z : Inner). z.first_child) (sym g.1) ∙ first ∙ theirs
          ∙ ap (λ ms. child_counts ms + 1) (sym (take-append-le k ns (x ∷ []) (omega (arith, g.0))
          ∙ take_all k ns (omega (arith, g.0))))
    ];
    children = λ n c at_c behind.
        let o = was n c at_c in
        child_entry-placed n o.old c o.start o.parent (f.children n o.old o.at behind);
  }

-- ---- those that wait, in another order

contains_at : {X : Type 0} (xs : List X) (i : ℕ) (x : X) → slice_get xs i ≡ Some x → Contains xs x
contains_at xs i x at = (i, slice_get_within xs i x at, get_or_from_slice_get xs i x x at)

contained_at : {X : Type 0} (xs : List X) (x : X) → Contains xs x
    → (i : ℕ) × (slice_get xs i ≡ Some x)
contained_at xs x h = (h.0, slice_get_read xs (length xs) h.0 x refl h.1 (sym h.2))

nat_eq-flips : (m n : ℕ) → nat_eq m n ≡ nat_eq n m
nat_eq-flips m n = elim (eqb_tells m n) [
  | inl h ↦ h.0 ∙ sym (eq-eqb n m (sym h.1))
  | inr h ↦ h.0
      ∙ sym (ne_eqb n m (λ e. h.1 (sym e)))
]

awaited-turned : (ws vs : List Waiting) (n : ℕ) → IsPermutation ws vs → IsAwaited ws n
    → IsAwaited vs n
awaited-turned ws vs n turned a =
    let there = contained_at vs a.waiting (Contains-permutation ws vs a.waiting turned
    (contains_at ws a.index a.waiting a.at)) in
    record {
      index = there.0;
      waiting = a.waiting;
      at = there.1;
      number = a.number;
    }

pub filled-turned : (es : List Entry) (ns : List Inner) (ws vs : List Waiting) → 0 < length ns
    → IsPermutation ws vs → AreFilled es ns ws → AreFilled es ns vs
filled-turned es ns ws vs placed turned f = record {
  greens = f.greens;
  count = f.count;
  some = f.some;
  fewer = omega (arith, f.fewer, length_permutation ws vs turned);
  root = λ e at. subst (λ (r : NodeTerm). IsRootEntry r f.greens e)
      (first_node-kept ns ws vs placed) (f.root e at);
  ends = f.ends;
  named = f.named;
  once = f.once;
  bare = λ n e g at is at_g. awaited-turned ws vs n turned (f.bare n e g at is at_g);
  waits = λ i v at.
      let back = contained_at ws v (Contains-permutation vs ws v (IsPermutation-sym ws vs turned)
      (contains_at vs i v at)) in
      f.waits back.0 v back.1;
  apart = IsDistinct-IsPermutation nat_eq nat_eq-flips (map entry_number ws) (map entry_number vs)
      (IsPermutation-map entry_number ws vs turned) f.apart;
  firsts = f.firsts;
  children = f.children;
}

-- ---- a table in the end

-- entry n is that of a token
record TellsToken (gs : List (Option NodeTerm)) (ns : List Inner) (n : ℕ) (e : Entry) : Type 0 where
  pub tells : facts_of ns e ≡ entry_facts e None
  pub green : slice_get gs n ≡ Some None

-- entry n is that of a node that has its place
record TellsNode (gs : List (Option NodeTerm)) (ns : List Inner) (n : ℕ) (e : Entry) : Type 0 where
  pub place : ℕ
  pub inner : Inner
  pub named : e.node ≡ Some place
  pub node : slice_get ns place ≡ Some inner
  pub tells : facts_of ns e ≡ entry_facts e (Some inner)
  pub green : slice_get gs n ≡ Some (Some inner.green)

-- what holds of what each entry tells
for_facts : (ns : List Inner) (es : List Entry) (P : ℕ → Facts → Type 0)
    → ((n : ℕ) (e : Entry) → slice_get es n ≡ Some e → P n (facts_of ns e)) → (n : ℕ) (a : Facts)
    → slice_get (all_facts ns es) n ≡ Some a → P n a
for_facts ns es P all n a at =
    let e = slice_get-some es n (omega (
      arith,
      slice_get_within (all_facts ns es) n a at,
      length-map es (facts_of ns),
    )) in
    subst (P n) (same_Some (facts_of ns e.0) a (sym (facts_at ns es n e.0 e.1) ∙ at))
    (all n e.0 e.1)

root_node-first : (fs : List Facts) (a : Facts) → slice_get fs 0 ≡ Some a
    → root_node fs ≡ node_in (green_of a)
root_node-first [] a at = absurd (none-some a at)
root_node-first (b ∷ fs) a at = ap (λ (x : Facts). node_in (green_of x)) (same_Some b a at)

one_place : (k j : ℕ) → (k < j → ⊥) → (j < k → ⊥) → k ≡ j
one_place k j p q = omega arith

-- the list of nodes and the entries are those of a table
pub record AreWhole (es : List Entry) (ns : List Inner) : Type 0 where
  pub numbered : AreNodes ns es
  pub complete : IsTable (all_facts ns es)
  pub root : root_node (all_facts ns es) ≡ first_node ns []

module _ (es : List Entry) (ns : List Inner) (f : AreFilled es ns [])
    (theirs : length es ≡ child_counts ns + 1) where
  tells_token : (n : ℕ) (e : Entry) → slice_get es n ≡ Some e → e.node ≡ None
      → (g : Option NodeTerm) → slice_get f.greens n ≡ Some g → TellsToken f.greens ns n e
  tells_token n e at is None at_g = record {
    tells = ap (λ o. entry_facts e (inner_at ns o)) is;
    green = at_g;
  }
  tells_token n e at is (Some g) at_g =
      let a = f.bare n e g at is at_g in
      absurd (none-some a.waiting a.at)

  tells_by : (n : ℕ) (e : Entry) → slice_get es n ≡ Some e → (o : Option ℕ) → e.node ≡ o
      → TellsToken f.greens ns n e ⊎ TellsNode f.greens ns n e
  tells_by n e at None is =
      let g = green_there es ns [] f n e at in
      inl (tells_token n e at is g.0 g.1)
  tells_by n e at (Some k) is =
      let p = f.named n k e at is in
      inr record {
        place = k;
        inner = p.inner;
        named = is;
        node = p.at;
        tells = ap (λ o. entry_facts e (inner_at ns o)) is ∙ ap (entry_facts e) p.at;
        green = p.green;
      }

  entry_tells : (n : ℕ) (e : Entry) → slice_get es n ≡ Some e
      → TellsToken f.greens ns n e ⊎ TellsNode f.greens ns n e
  entry_tells n e at = tells_by n e at e.node refl

  told_green : (n : ℕ) (e : Entry) → slice_get es n ≡ Some e
      → slice_get f.greens n ≡ Some (green_of (facts_of ns e))
  told_green n e at = elim (entry_tells n e at) [
    | inl t ↦ t.green ∙ ap (λ (a : Facts). Some (green_of a)) (sym t.tells)
    | inr t ↦ t.green ∙ ap (λ (a : Facts). Some (green_of a)) (sym t.tells)
  ]

  top_green : (e : Entry) → slice_get es 0 ≡ Some e
      → green_of (facts_of ns e) ≡ Some (first_node ns [])
  top_green e at =
      same_Some (green_of (facts_of ns e)) (Some (first_node ns []))
      (sym (told_green 0 e at) ∙ (f.root e at).green)

  root_is : root_node (all_facts ns es) ≡ first_node ns []
  root_is =
      let e = slice_get-some es 0 f.some in
      root_node-first (all_facts ns es) (facts_of ns e.0) (facts_at ns es 0 e.0 e.1)
      ∙ ap node_in (top_green e.0 e.1)

  top_behind : (e : Entry) → slice_get es 0 ≡ Some e → 0 < (facts_of ns e).first_child
  top_behind e at = elim (entry_tells 0 e at) [
    | inl t ↦ absurd (none-some (first_node ns [])
        (same_Some None (Some (first_node ns [])) (sym t.green ∙ (f.root e at).green)))
    | inr t ↦ omega (
      arith,
      ap (λ (a : Facts). a.first_child) t.tells,
      f.firsts t.place t.inner t.node,
    )
  ]

  top : (n : ℕ) (e : Entry) → slice_get es n ≡ Some e → n ≡ 0
      → IsTop (all_facts ns es) (facts_of ns e)
  top n e at first =
      let here = ap (slice_get es) (sym first) ∙ at in
      record {
        green = top_green e here ∙ ap (λ (r : NodeTerm). Some r) (sym root_is);
        start = (f.root e here).start;
        first = top_behind e here;
      }

  parents : (n : ℕ) (e : Entry) → slice_get es n ≡ Some e → (p : Facts) → 0 < n
      → slice_get (all_facts ns es) e.parent ≡ Some p → IsChildOf p n (facts_of ns e)
  parents n e at p behind above =
      let c = f.children n e at behind in
      let here : facts_of ns c.above ≡ entry_facts c.above (Some c.inner) =
      ap (λ o. entry_facts c.above (inner_at ns o)) c.named ∙ ap (entry_facts c.above) c.node in
      subst (λ (q : Facts). IsChildOf q n (facts_of ns e))
      (sym here ∙ same_Some (facts_of ns c.above) p
      (sym (facts_at ns es e.parent c.above c.at) ∙ above)) record {
        place = c.from;
        child = c.child ∙ told_green n e at;
        start = c.start;
      }

  rows : (n : ℕ) (e : Entry) → slice_get es n ≡ Some e
      → (facts_of ns e).first_child + length (children_in (green_of (facts_of ns e)))
      ≤ length (all_facts ns es)
  rows n e at = elim (entry_tells n e at) [
    | inl t ↦ omega (
      arith,
      ap (λ (a : Facts). a.first_child + length (children_in (green_of a)))
          t.tells,
    )
    | inr t ↦ omega (
      arith,
      ap (λ (a : Facts). a.first_child + length (children_in (green_of a))) t.tells,
      f.firsts t.place t.inner t.node,
      row_end-within ns t.place t.inner t.node,
      theirs,
      length-map es (facts_of ns),
    )
  ]

  -- the children of one node are not among those of another
  same_place : (k j m : ℕ) (x y : Inner) → slice_get ns k ≡ Some x → slice_get ns j ≡ Some y
      → x.first_child ≤ m → m < x.first_child + length (node_children x.green) → y.first_child ≤ m
      → m < y.first_child + length (node_children y.green) → k ≡ j
  same_place k j m x y at_x at_y from to start end =
      one_place k j (λ less. omega (
        arith,
        row_end-before ns k j x at_x less,
        f.firsts k x at_x,
        f.firsts j y at_y,
      )) (λ less. omega (
        arith,
        row_end-before ns j k y at_y less,
        f.firsts k x at_x,
        f.firsts j y at_y,
      ))

  owned_by : (n m : ℕ) (e c : Entry) → slice_get es n ≡ Some e → slice_get es m ≡ Some c
      → (t : TellsNode f.greens ns n e) → IsAmong (entry_facts e (Some t.inner)) m
      → (0 < m) × (c.parent ≡ n)
  owned_by n m e c at_e at_c t g =
      let behind : 0 < m = omega (arith, g.from, f.firsts t.place t.inner t.node) in
      let h = f.children m c at_c behind in
      let inside : m - h.inner.first_child < length (node_children h.inner.green) =
      kept_within (node_children h.inner.green) (m - h.inner.first_child) (green_of (facts_of ns c))
      (h.child ∙ told_green m c at_c) in
      let same : t.place ≡ h.place = same_place t.place h.place m t.inner h.inner t.node h.node
      g.from g.to h.from (omega (arith, inside, h.from)) in (
        behind,
        f.once c.parent n h.place h.above e h.at at_e h.named
            (t.named ∙ ap (λ k. Some k) same),
      )

  owned : (n m : ℕ) (e c : Entry) → slice_get es n ≡ Some e → slice_get es m ≡ Some c
      → IsAmong (facts_of ns e) m → (0 < m) × (c.parent ≡ n)
  owned n m e c at_e at_c among = elim (entry_tells n e at_e) [
    | inl t ↦ (
        let none : IsAmong (entry_facts e None) m =
        subst (λ (a : Facts). IsAmong a m) t.tells among in
        absurd (omega (arith, none.to)))
    | inr t ↦ owned_by n m e c at_e at_c t (subst (λ (a : Facts). IsAmong a m) t.tells among)
  ]

  complete : IsTable (all_facts ns es)
  complete = record {
    some = omega (arith, f.some, length-map es (facts_of ns));
    top = λ a at. for_facts ns es (λ n b. n ≡ 0 → IsTop (all_facts ns es) b) top 0 a at refl;
    ends = for_facts ns es (λ n a. a.start + len_in (green_of a) ≤ byte_limit)
        (λ n e at. f.ends n e (green_of (facts_of ns e)) at (told_green n e at));
    earlier = for_facts ns es (λ n a. 0 < n → a.parent < n)
        (λ n e at behind. (f.children n e at behind).earlier);
    parents = λ n a p at. for_facts ns es (λ m b. (q : Facts) → 0 < m
        → slice_get (all_facts ns es) b.parent ≡ Some q → IsChildOf q m b) parents n a at p;
    rows = for_facts ns es (λ n a. a.first_child + length (children_in (green_of a))
        ≤ length (all_facts ns es)) rows;
    owned = λ n m a b at_a at_b. for_facts ns es (λ k x. IsAmong x m → (0 < m) × (b.parent ≡ k))
        (λ k e at_e. for_facts ns es (λ j y. IsAmong (facts_of ns e) j → (0 < j) × (y.parent ≡ k))
        (λ j c at_c. owned k j e c at_e at_c) m b at_b) n a at_a;
  }

  pub whole : AreWhole es ns
  whole = record {
    numbered = record {
      there = λ n e k at is.
          let p = f.named n k e at is in
          slice_get_within ns k p.inner p.at;
      firsts = f.firsts;
      all = theirs;
    };
    complete = complete;
    root = root_is;
  }

-- ---- the root alone

pub filled-root : (e : Entry) (w : Waiting) → e.start ≡ 0 → e.node ≡ None → w.start ≡ 0
    → w.number ≡ 0 → node_len w.node.now ≤ byte_limit → AreFilled (e ∷ []) [] (w ∷ [])
filled-root e w start bare starts number fits = record {
  greens = Some w.node.now ∷ [];
  count = refl;
  some = omega arith;
  fewer = omega arith;
  root = λ d at. record {
    start = ap (λ (y : Entry). y.start) (sym (same_Some e d at)) ∙ start;
    green = refl;
  };
  ends = λ n d g at at_g. (
      let one = one_case e d n at in
      let here : Some w.node.now ≡ g = same_Some (Some w.node.now) g
      (ap (slice_get (Some w.node.now ∷ [])) (sym one.0) ∙ at_g) in
      omega (arith, fits, start, ap (λ (y : Entry). y.start) one.1, ap len_in here));
  named = λ n k d at is. absurd (none-some k (sym bare
      ∙ ap (λ (y : Entry). y.node) (one_case e d n at).1 ∙ is));
  once = λ n m k c d at_c at_d is too. (one_case e c n at_c).0 ∙ sym (one_case e d m at_d).0;
  bare = λ n d g at is at_g. record {
    index = 0;
    waiting = w;
    at = refl;
    number = number ∙ sym (one_case e d n at).0;
  };
  waits = λ i v at. subst (HasEntry (Some w.node.now ∷ []) (e ∷ [])) (one_case w v i at).1 record {
    entry = e;
    at = ap (slice_get (e ∷ [])) number;
    start = start ∙ sym starts;
    bare = bare;
    green = ap (slice_get (Some w.node.now ∷ [])) number;
  };
  apart = apart_one w;
  firsts = λ k x at. absurd (none-some x at);
  children = λ n c at behind. absurd (omega (arith, (one_case e c n at).0, behind));
}
