-- The text of an edited term.
use Rattle.std.proofs.Common.{◌≡◌, ◌≢◌, ℕ, zero, suc, ◌+◌, ◌-◌, ◌<◌, ◌≤◌, true, List, [], ◌∷◌, ◌++◌}
use Rattle.std.proofs.Common.{length, take, drop, set, Option, Some, None, inl, inr, refl, sym, ◌∙◌}
use Rattle.std.proofs.Common.{ap, subst, arith, append_assoc, length-append, length-set}
use Rattle.std.specs.Prelude.{slice_get}
use Rattle.std.specs.List.{AllByRecursion}
use Rattle.std.proofs.Math.Seq.{drop-append_seam, take-append_seam, take-add}
use Rattle.std.proofs.lemmas.Grind.{flat_map-append}
use Rattle.std.proofs.lemmas.List.{take-append-drop, drop-drop}
use Rattle.std.proofs.lemmas.Option.{slice_get_within}
use Rattle.rowan_green.specs.declared.utility_types.NodeOrToken.TheVariants.{Node, Token}
use Rattle.rowan_green.specs.Edits.{spliced, replaced}
use Rattle.rowan_terms.specs.Path.{Path, subterm, subterm_of, leaves, node_leaves}
use Rattle.rowan_terms.specs.Path.{text_of, offset, with_child}
use Rattle.rowan_green.specs.Term.{NodeTerm, node, Term, terms, node_of, node_children}
use Rattle.rowan_green.specs.Term.{term_text, joined_text, sum_of_lens}
use Rattle.rowan_terms.proofs.EditLaws.{text-replaced, text-spliced}
use Rattle.rowan_terms.proofs.OffsetLemmas.{lens_before, offset_of, offset-lens, lens_before-node}
use Rattle.rowan_terms.proofs.OffsetLemmas.{joined-terms, joined-around}
use Rattle.rowan_terms.proofs.Paths.{offset-empty}
use Rattle.rowan_terms.proofs.PutLemmas.{child-of, get-set, get-set_other, term_children-with_child}
use Rattle.rowan_green.proofs.Terms.{length-joined_text, sum_of_lens-append, terms-forest}
use Rattle.rowan_changes.specs.Edit.{Edit, edited, edited_once, place, ends_before}
use Rattle.rowan_changes.specs.Plan.{IsOf, EndInTurn, AreInOrder}
use Rattle.rowan_changes.specs.Changes.{end_place}
use Rattle.rowan_changes.specs.TextWith.{text_with}
use Rattle.rowan_changes.proofs.Places.{Before, true-before}
use Rattle.rowan_changes.proofs.Untouched.{edit_at, edited-below}

-- no bytes stand before the top
pub top-offset : (o : Option Term) → offset_of o [] ≡ 0
top-offset None = refl
top-offset (Some t) = sym (offset-lens t []) ∙ offset-empty t

-- ---- one edit

-- a list in three parts
cut : {A : Type 0} (xs : List A) (s e : ℕ) → s ≤ e
    → xs ≡ take s xs ++ (take (e - s) (drop s xs) ++ drop e xs)
cut xs s e h =
    let all : s + (e - s) ≡ e = omega arith in
    sym (take-append-drop s xs) ∙ ap (λ ys. take s xs ++ ys)
    (sym (take-append-drop (e - s) (drop s xs)) ∙ ap (λ ys. take (e - s) (drop s xs) ++ ys)
    (drop-drop (e - s) s xs ∙ ap (λ n. drop n xs) all))

pub took : {A : Type 0} (xs : List A) (s e : ℕ) → s ≤ e
    → take e xs ≡ take s xs ++ take (e - s) (drop s xs)
took xs s e h =
    let all : s + (e - s) ≡ e = omega arith in
    ap (λ n. take n xs) (sym all) ∙ take-add s (e - s) xs

-- more text on both sides
around : (first before middle behind last : List ℕ)
    → first ++ ((before ++ (middle ++ behind)) ++ last) ≡ (first ++ before)
    ++ (middle ++ (behind ++ last))
around first before middle behind last =
    ap (λ bs. first ++ bs) (append_assoc before (middle ++ behind) last
    ∙ ap (λ bs. before ++ bs) (append_assoc middle behind last))
    ∙ sym (append_assoc first before (middle ++ (behind ++ last)))

-- the text of the old term and of the new one, which differ between the places of the edit
pub record SplicesText (t : Term) (p : Path) (s e : ℕ) (new : List Term) : Type 0 where
  pub before : List ℕ
  pub middle : List ℕ
  pub behind : List ℕ
  pub old : term_text t ≡ before ++ (middle ++ behind)
  pub made : term_text (edited_once t (edit_at p s e new)) ≡ before ++ (joined_text new ++ behind)
  pub start : length before ≡ lens_before (p ++ s ∷ []) (leaves t)
  pub end : length before + length middle ≡ lens_before (p ++ e ∷ []) (leaves t)

pub splices : (t : Term) (p : Path) (s e : ℕ) (new : List Term) (n : NodeTerm)
    → subterm t p ≡ Some (Node n) → s ≤ e → SplicesText t p s e new
splices (Token t) [] s e new n h order = absurd cc
splices (Token t) (i ∷ p) s e new n h order = absurd cc
splices (Node (node k f)) [] s e new n h order =
    let cs = terms f in
    let middle = take (e - s) (drop s cs) in
    let all : joined_text cs ≡ joined_text (take s cs)
    ++ (joined_text middle ++ joined_text (drop e cs)) =
    ap joined_text (cut cs s e order)
    ∙ flat_map-append term_text (take s cs) (middle ++ drop e cs)
    ∙ ap (λ bs. joined_text (take s cs) ++ bs) (flat_map-append term_text middle (drop e cs)) in
    record {
      before = joined_text (take s cs);
      middle = joined_text middle;
      behind = joined_text (drop e cs);
      old = joined-terms f ∙ all;
      made = text-spliced k cs s e new
          ∙ append_assoc (joined_text (take s cs)) (joined_text new) (joined_text (drop e cs));
      start = omega (
        arith,
        length-joined_text (take s cs),
        lens_before-node (node k f) s [],
        top-offset (slice_get cs s),
      );
      end = omega (
        arith,
        length-joined_text (take s cs),
        length-joined_text middle,
        sum_of_lens-append (take s cs) middle,
        ap sum_of_lens (took cs s e order),
        lens_before-node (node k f) e [],
        top-offset (slice_get cs e),
      );
    }
splices (Node (node k f)) (i ∷ p) s e new n h order =
    let cs = terms f in
    let c = child-of (slice_get cs i) p (Node n) h in
    let r = splices c.0 p s e new n (ap (λ o. subterm_of o p) (sym c.1) ∙ h) order in
    let first = joined_text (take i cs) in
    let last = joined_text (drop (suc i) cs) in
    let next : i + 1 ≡ suc i = omega arith in
    let u = edited_once c.0 (edit_at p s e new) in
    record {
      before = first ++ r.before;
      middle = r.middle;
      behind = r.behind ++ last;
      old = joined-terms f ∙ joined-around cs i ∙ ap (λ o. first ++ (text_of o ++ last)) c.1
          ∙ ap (λ bs. first ++ (bs ++ last)) r.old ∙ around first r.before r.middle r.behind last;
      made = ap term_text (edited-below (Node (node k f)) i p s e new c.0 c.1)
          ∙ text-replaced k cs i u (slice_get_within cs i c.0 c.1)
          ∙ ap (λ n. first ++ term_text u ++ joined_text (drop n cs)) next
          ∙ append_assoc first (term_text u) last ∙ ap (λ bs. first ++ (bs ++ last)) r.made
          ∙ around first r.before (joined_text new) r.behind last;
      start = omega (
        arith,
        length-append first r.before,
        r.start,
        length-joined_text (take i cs),
        lens_before-node (node k f) i (p ++ s ∷ []),
        ap (λ o. offset_of o (p ++ s ∷ [])) c.1,
      );
      end = omega (
        arith,
        length-append first r.before,
        r.end,
        length-joined_text (take i cs),
        lens_before-node (node k f) i (p ++ e ∷ []),
        ap (λ o. offset_of o (p ++ e ∷ [])) c.1,
      );
    }

one-text : (t : Term) (e : Edit) (n : NodeTerm) → subterm t e.parent ≡ Some (Node n)
    → e.start ≤ e.end → term_text (edited_once t e)
    ≡ spliced (term_text t) (offset t (place e)) (offset t (end_place e)) (joined_text e.new)
one-text t e n h order =
    let r = splices t e.parent e.start e.end e.new n h order in
    let new = joined_text e.new in
    let from : length r.before ≡ offset t (place e) = r.start ∙ sym (offset-lens t (place e)) in
    let to : length (r.before ++ r.middle) ≡ offset t (end_place e) =
    length-append r.before r.middle ∙ r.end ∙ sym (offset-lens t (end_place e)) in
    let first : take (offset t (place e)) (term_text t) ≡ r.before =
    ap (λ n. take n (term_text t)) (sym from) ∙ ap (take (length r.before)) r.old
    ∙ take-append_seam r.before (r.middle ++ r.behind) in
    let last : drop (offset t (end_place e)) (term_text t) ≡ r.behind =
    ap (λ n. drop n (term_text t)) (sym to) ∙ ap (drop (length (r.before ++ r.middle)))
    (r.old ∙ sym (append_assoc r.before r.middle r.behind))
    ∙ drop-append_seam (r.before ++ r.middle) r.behind in
    r.made ∙ sym (append_assoc r.before new r.behind)
    ∙ ap (λ bs. bs ++ new ++ r.behind) (sym first)
    ∙ ap (λ bs. take (offset t (place e)) (term_text t) ++ new ++ bs) (sym last)

-- ---- what stands before an edit

-- a node stands at the path, and has this many children
pub record HasNode (t : Term) (q : Path) (k : ℕ) : Type 0 where
  pub node : NodeTerm
  pub stands : subterm t q ≡ Some (Node node)
  pub within : k ≤ length (node_children node)

-- the place before the child at the index k is as far from the start, and still there
pub record Stays (t u : Term) (q : Path) (k : ℕ) : Type 0 where
  pub lens : lens_before (q ++ k ∷ []) (leaves u) ≡ lens_before (q ++ k ∷ []) (leaves t)
  pub node : HasNode t q k → HasNode u q k

stays-trans : (t u v : Term) (q : Path) (k : ℕ) → Stays t u q k → Stays u v q k → Stays t v q k
stays-trans t u v q k a b = record { lens = b.lens ∙ a.lens; node = λ h. b.node (a.node h) }

-- two nodes with the same first children
same-front : (n m : NodeTerm) (i : ℕ) (r : Path)
    → take i (node_children m) ≡ take i (node_children n)
    → offset_of (slice_get (node_children m) i) r ≡ offset_of (slice_get (node_children n) i) r
    → lens_before (i ∷ r) (node_leaves m) ≡ lens_before (i ∷ r) (node_leaves n)
same-front n m i r e o =
    omega (arith, lens_before-node m i r, lens_before-node n i r, ap sum_of_lens e, o)

take-spliced : {A : Type 0} (xs : List A) (s e k : ℕ) (new : List A) → k ≤ s → s ≤ length xs
    → take k (spliced xs s e new) ≡ take k xs
take-spliced {A = A} xs s e k new h w =
    ap (take k) (append_assoc (take s xs) new (drop e xs)) ∙ front xs s k (new ++ drop e xs) h w
  where
    front : (ys : List A) (m j : ℕ) (zs : List A) → j ≤ m → m ≤ length ys
        → take j (take m ys ++ zs) ≡ take j ys
    front ys m zero zs l u = refl
    front ys zero (suc j) zs l u = absurd (omega arith)
    front [] (suc m) (suc j) zs l u = absurd (omega arith)
    front (y ∷ ys) (suc m) (suc j) zs l u =
        ap (λ ws. y ∷ ws) (front ys m j zs (omega arith) (omega arith))

get-spliced : {A : Type 0} (xs : List A) (s e k : ℕ) (new : List A) → k < s → s ≤ length xs
    → slice_get (spliced xs s e new) k ≡ slice_get xs k
get-spliced {A = A} xs s e k new h w =
    ap (λ ys. slice_get ys k) (append_assoc (take s xs) new (drop e xs))
    ∙ front xs s k (new ++ drop e xs) h w
  where
    front : (ys : List A) (m j : ℕ) (zs : List A) → j < m → m ≤ length ys
        → slice_get (take m ys ++ zs) j ≡ slice_get ys j
    front ys zero j zs l u = absurd (omega arith)
    front [] (suc m) j zs l u = absurd (omega arith)
    front (y ∷ ys) (suc m) zero zs l u = refl
    front (y ∷ ys) (suc m) (suc j) zs l u = front ys m j zs (omega arith) (omega arith)

take-set : {A : Type 0} (xs : List A) (j k : ℕ) (x : A) → k ≤ j → take k (set xs j x) ≡ take k xs
take-set xs j zero x h = refl
take-set [] j (suc k) x h = refl
take-set (y ∷ ys) zero (suc k) x h = absurd (omega arith)
take-set (y ∷ ys) (suc j) (suc k) x h = ap (λ zs. y ∷ zs) (take-set ys j k x (omega arith))

length-spliced : {A : Type 0} (xs : List A) (s e : ℕ) (new : List A) → s ≤ length xs
    → s ≤ length (spliced xs s e new)
length-spliced {A = A} xs s e new w =
    omega (
      arith,
      length-append (take s xs ++ new) (drop e xs),
      length-append (take s xs) new,
      long xs s w,
    )
  where
    long : (ys : List A) (m : ℕ) → m ≤ length ys → length (take m ys) ≡ m
    long ys zero u = refl
    long [] (suc m) u = absurd (omega arith)
    long (y ∷ ys) (suc m) u = ap suc (long ys m (omega arith))

stays : (q : Path) (k : ℕ) (t : Term) (p : Path) (s e : ℕ) (new : List Term) (n : NodeTerm)
    → Before q k (p ++ s ∷ []) → subterm t p ≡ Some (Node n) → s ≤ length (node_children n)
    → Stays t (edited_once t (edit_at p s e new)) q k
stays q k (Token t) [] s e new n b h w = absurd cc
stays q k (Token t) (j ∷ p) s e new n b h w = absurd cc
stays [] k (Node (node x f)) [] s e new n b h w =
    let cs = terms f in
    let same : n ≡ node x f = cc in
    let few : s ≤ length cs = subst (λ m. s ≤ length (node_children m)) same w in
    let m = node_of x (spliced cs s e new) in
    let tf = terms-forest (spliced cs s e new) in
    record {
      lens = same-front (node x f) m k [] (ap (take k) tf ∙ take-spliced cs s e k new b few)
          (top-offset (slice_get (node_children m) k) ∙ sym (top-offset (slice_get cs k)));
      node = λ g. record {
        node = m;
        stands = refl;
        within = omega (arith, b, length-spliced cs s e new few, ap length tf);
      };
    }
stays (i ∷ q) k (Node (node x f)) [] s e new n b h w =
    let cs = terms f in
    let same : n ≡ node x f = cc in
    let few : s ≤ length cs = subst (λ m. s ≤ length (node_children m)) same w in
    let m = node_of x (spliced cs s e new) in
    let tf = terms-forest (spliced cs s e new) in
    let less : i < s = elim b [ inl before ↦ before | inr both ↦ absurd both.1 ] in
    let get : slice_get (node_children m) i ≡ slice_get cs i =
    ap (λ ys. slice_get ys i) tf ∙ get-spliced cs s e i new less few in
    record {
      lens = same-front (node x f) m i (q ++ k ∷ [])
          (ap (take i) tf ∙ take-spliced cs s e i new (omega arith) few)
          (ap (λ o. offset_of o (q ++ k ∷ [])) get);
      node = λ g. record {
        node = g.node;
        stands = ap (λ o. subterm_of o q) get ∙ g.stands;
        within = g.within;
      };
    }
stays [] k (Node (node x f)) (j ∷ p) s e new n b h w =
    let cs = terms f in
    let t : Term = Node (node x f) in
    let c = child-of (slice_get cs j) p (Node n) h in
    let v = edited_once c.0 (edit_at p s e new) in
    let u = with_child t j v in
    let m = node_of x (replaced cs j v) in
    let tc : node_children m ≡ set cs j v = term_children-with_child t j v in
    let made : Stays t u [] k = record {
      lens = same-front (node x f) m k [] (ap (take k) tc ∙ take-set cs j k v b)
          (top-offset (slice_get (node_children m) k) ∙ sym (top-offset (slice_get cs k)));
      node = λ (g : HasNode t [] k). (
          let same : g.node ≡ node x f = top-node (node x f) g.node g.stands in
          let old : k ≤ length cs = subst (λ y. k ≤ length (node_children y)) same g.within in
          let now : HasNode u [] k = record {
            node = m;
            stands = refl;
            within = omega (arith, old, ap length tc, length-set cs j v);
          } in
          now);
    } in
    subst (λ y. Stays t y [] k) (sym (edited-below t j p s e new c.0 c.1)) made
  where
    top-node : (a y : NodeTerm) → subterm (Node a) [] ≡ Some (Node y) → y ≡ a
    top-node a y g = cc
stays (i ∷ q) k (Node (node x f)) (j ∷ p) s e new n b h w =
    let cs = terms f in
    let t : Term = Node (node x f) in
    let c = child-of (slice_get cs j) p (Node n) h in
    let inner : subterm c.0 p ≡ Some (Node n) = ap (λ o. subterm_of o p) (sym c.1) ∙ h in
    let v = edited_once c.0 (edit_at p s e new) in
    let u = with_child t j v in
    let m = node_of x (replaced cs j v) in
    let tc : node_children m ≡ set cs j v = term_children-with_child t j v in
    let rest = q ++ k ∷ [] in
    let made : Stays t u (i ∷ q) k = elim b [
      | inl before ↦
          let other : j ≢ i = λ e. omega (arith, before, e) in
          let get : slice_get (node_children m) i ≡ slice_get cs i =
          ap (λ ys. slice_get ys i) tc ∙ get-set_other cs j i v other in
          record {
            lens = same-front (node x f) m i rest
                (ap (take i) tc ∙ take-set cs j i v (omega (arith, before)))
                (ap (λ o. offset_of o rest) get);
            node = λ g. record {
              node = g.node;
              stands = ap (λ o. subterm_of o q) get ∙ g.stands;
              within = g.within;
            };
          }
      | inr both ↦
          let r = stays q k c.0 p s e new n both.1 inner w in
          let get : slice_get (node_children m) i ≡ Some v =
          ap (slice_get (node_children m)) both.0 ∙ ap (λ ys. slice_get ys j) tc
          ∙ get-set cs j v c.0 c.1 in
          let old : slice_get cs i ≡ Some c.0 = ap (slice_get cs) both.0 ∙ c.1 in
          record {
            lens = same-front (node x f) m i rest
                (ap (take i) tc ∙ take-set cs j i v (omega (arith, both.0)))
                (ap (λ o. offset_of o rest) get ∙ r.lens ∙ sym (ap (λ o. offset_of o rest) old));
            node = λ g. (
                let y = r.node (record {
                  node = g.node;
                  stands = ap (λ o. subterm_of o q) (sym old) ∙ g.stands;
                  within = g.within;
                }) in
                record {
                  node = y.node;
                  stands = ap (λ o. subterm_of o q) get ∙ y.stands;
                  within = y.within;
                });
          }
    ] in
    subst (λ y. Stays t y (i ∷ q) k) (sym (edited-below t j p s e new c.0 c.1)) made

-- ---- all edits

pub before-less : (p : Path) (k end : ℕ) (z : Path) → Before p end z → k ≤ end → Before p k z
before-less p k end [] h l = h
before-less [] k end (j ∷ z) h l = omega (arith, h, l)
before-less (i ∷ p) k end (j ∷ z) h l = elim h [
  | inl less ↦ inl less
  | inr both ↦ inr (both.0, before-less p k end z both.1 l)
]

pub all-before : (d : Edit) (k : ℕ) (es : List Edit) → k ≤ d.end
    → AllByRecursion (λ e. ends_before d e ≡ true) es
    → AllByRecursion (λ e. Before d.parent k (place e)) es
all-before d k [] l a = tt
all-before d k (e ∷ es) l a = (
  before-less d.parent k d.end (place e) (true-before d.parent d.end (place e) a.0) l,
  all-before d k es l a.1,
)

pub place-in : (root : NodeTerm) (e : Edit) → IsOf root e → HasNode (Node root) e.parent e.end
place-in root e h = record { node = h.node; stands = h.stands; within = h.within }

pub stays-all : (root : NodeTerm) (es : List Edit) (q : Path) (k : ℕ)
    → AllByRecursion (λ e. Before q k (place e)) es → EndInTurn es → AllByRecursion (IsOf root) es
    → Stays (Node root) (edited (Node root) es) q k
stays-all root [] q k b turn of = record { lens = refl; node = λ h. h }
stays-all root (e ∷ es) q k b turn of =
    let t : Term = Node root in
    let u = edited t es in
    let here = (stays-all root es e.parent e.end (all-before e e.end es (omega arith) turn.1) turn.2
    of.1).node (place-in root e of.0) in
    let few : e.start ≤ length (node_children here.node) = omega (arith, turn.0, here.within) in
    stays-trans t u (edited_once u e) q k (stays-all root es q k b.1 turn.2 of.1)
    (stays q k u e.parent e.start e.end e.new here.node b.0 here.stands few)

pub text-edited : (root : NodeTerm) (es : List Edit) → AreInOrder root es
    → term_text (edited (Node root) es) ≡ text_with (Node root) es
text-edited root es h = by_turns es h.of_tree h.in_turn
  where
    by_turns : (ds : List Edit) → AllByRecursion (IsOf root) ds → EndInTurn ds
        → term_text (edited (Node root) ds) ≡ text_with (Node root) ds
    by_turns [] of turn = refl
    by_turns (e ∷ ds) of turn =
        let t : Term = Node root in
        let u = edited t ds in
        let new = joined_text e.new in
        let from = stays-all root ds e.parent e.start (all-before e e.start ds turn.0 turn.1) turn.2
        of.1 in
        let to = stays-all root ds e.parent e.end (all-before e e.end ds (omega arith) turn.1)
        turn.2 of.1 in
        let here = to.node (place-in root e of.0) in
        let a : offset u (place e) ≡ offset t (place e) =
        offset-lens u (place e) ∙ from.lens ∙ sym (offset-lens t (place e)) in
        let b : offset u (end_place e) ≡ offset t (end_place e) =
        offset-lens u (end_place e) ∙ to.lens ∙ sym (offset-lens t (end_place e)) in
        one-text u e here.node here.stands turn.0
        ∙ ap (λ x. spliced (term_text u) x (offset u (end_place e)) new) a
        ∙ ap (λ x. spliced (term_text u) (offset t (place e)) x new) b
        ∙ ap (λ bs. spliced bs (offset t (place e)) (offset t (end_place e)) new)
        (by_turns ds of.1 turn.2)
