-- Edits that each put one term in place of one, and replacements in any order.
use Rattle.std.proofs.Common.{◌≡◌, ℕ, zero, suc, ◌+◌, ◌<◌, ◌≤◌, true, List, [], ◌∷◌, ◌++◌}
use Rattle.std.proofs.Common.{length, Some, IsPermutation, inl, inr, refl, sym, ◌∙◌, ap, subst}
use Rattle.std.proofs.Common.{arith}
use Rattle.std.specs.Prelude.{slice_get}
use Rattle.std.specs.List.{AllByRecursion}
use Rattle.std.proofs.lemmas.List.Elements.{All-from_recursion}
use Rattle.std.proofs.lemmas.List.Kept.{AllPairs-cons}
use Rattle.rowan_green.specs.declared.utility_types.NodeOrToken.TheVariants.{Node}
use Rattle.rowan_terms.specs.Path.{Path, subterm, put, separate}
use Rattle.rowan_terms.specs.Replacements.{Replacement, Makes, PairwiseSeparate}
use Rattle.rowan_green.specs.Term.{NodeTerm, Term, node_children}
use Rattle.rowan_terms.proofs.PutLemmas.{subterm-apart, put-commute}
use Rattle.rowan_terms.proofs.PutOrders.{makes-permuted}
use Rattle.rowan_terms.proofs.SeparateLemmas.{Part, separate-part, separate-sym}
use Rattle.rowan_table.specs.Moves.{children_of}
use Rattle.rowan_table.proofs.PathLemmas.{subterm-child}
use Rattle.rowan_changes.specs.Edit.{Edit, edited, edited_once, place, ends_before}
use Rattle.rowan_edit_laws.specs.Orders.{IsReplacement, AreReplacements}
use Rattle.rowan_changes.specs.Plan.{IsOf, EndInTurn, AreInOrder}
use Rattle.rowan_edit.proofs.KeptLemmas.{one-put}
use Rattle.rowan_changes.proofs.Places.{Before, true-before}
use Rattle.rowan_changes.proofs.TextLaw.{all-before, place-in, stays-all}
use Rattle.rowan_changes.proofs.Untouched.{edit_at}

-- ---- separate paths

abbrev Apart : Path → List Replacement → Type 0
Apart p rs = AllByRecursion (λ r. separate p r.path ≡ true) rs

abbrev AllApart : List Replacement → Type 0
AllApart [] = Unit {0}
AllApart (r ∷ rs) = Apart r.path rs × AllApart rs

pairwise : (rs : List Replacement) → AllApart rs → PairwiseSeparate rs
pairwise [] h = λ i j d l m. absurd (omega (arith, m))
pairwise (r ∷ rs) h =
    AllPairs-cons (λ x y. separate x.path y.path ≡ true) r rs
    (All-from_recursion (λ s. separate r.path s.path ≡ true) rs h.0) (pairwise rs h.1)

-- a child and what lies behind it
child-part : (q : Path) (k : ℕ) (z : Path) → Before q (suc k) z → Part (q ++ k ∷ []) z
child-part q k [] b = absurd b
child-part [] k (j ∷ z) b = inl (λ e. omega (arith, b, e))
child-part (i ∷ q) k (j ∷ z) b = elim b [
  | inl less ↦ inl (λ e. omega (arith, less, e))
  | inr both ↦ inr (both.0, child-part q k z both.1)
]

apart-behind : (e : Edit) (r : Replacement) (es : List Edit) (rs : List Replacement)
    → IsReplacement e r → AreReplacements es rs → AllByRecursion (λ f. ends_before e f ≡ true) es
    → Apart r.path rs
apart-behind e r [] [] is are h = tt
apart-behind e r [] (s ∷ rs) is are h = absurd are
apart-behind e r (f ∷ es) [] is are h = absurd are
apart-behind e r (f ∷ es) (s ∷ rs) is are h =
    let next : e.end ≡ suc e.start = omega (arith, is.one) in
    let b : Before e.parent (suc e.start) (place f) =
    subst (λ n. Before e.parent n (place f)) next
    (true-before e.parent e.end (place f) h.0) in
    let own : separate (place e) (place f) ≡ true =
    separate-part (place e) (place f) (child-part e.parent e.start (place f) b) in (
      ap (λ p. separate p s.path) is.path ∙ ap (separate (place e)) are.0.path ∙ own,
      apart-behind e r es rs is are.1 h.1,
    )

all-apart : (es : List Edit) (rs : List Replacement) → AreReplacements es rs → EndInTurn es
    → AllApart rs
all-apart [] [] are turn = tt
all-apart [] (r ∷ rs) are turn = absurd are
all-apart (e ∷ es) [] are turn = absurd are
all-apart (e ∷ es) (r ∷ rs) are turn =
    (apart-behind e r es rs are.0 are.1 turn.1, all-apart es rs are.1 turn.2)

-- ---- one after the other

abbrev put_all : Term → List Replacement → Term
put_all t [] = t
put_all t (r ∷ rs) = put_all (put t r.path r.new) rs

-- the first one may come last
late : (t : Term) (r : Replacement) (rs : List Replacement) → Apart r.path rs
    → put (put_all t rs) r.path r.new ≡ put_all (put t r.path r.new) rs
late t r [] h = refl
late t r (s ∷ rs) h =
    late (put t s.path s.new) r rs h.1
    ∙ ap (λ u. put_all u rs) (put-commute t s.path r.path s.new r.new
    (separate-sym s.path r.path ∙ h.0))

once : (u : Term) (e : Edit) (r : Replacement) (n : NodeTerm) → IsReplacement e r
    → subterm u e.parent ≡ Some (Node n) → e.end ≤ length (node_children n)
    → edited_once u e ≡ put u r.path r.new
once u e r n is stands within =
    ap (λ x. edited_once u (edit_at e.parent e.start x e.new)) is.one
    ∙ ap (λ xs. edited_once u (edit_at e.parent e.start (e.start + 1) xs)) is.new
    ∙ one-put u e.parent e.start r.new n stands (omega (arith, within, is.one))
    ∙ ap (λ p. put u p r.new) (sym is.path)

edited-all : (root : NodeTerm) (es : List Edit) (rs : List Replacement) → AreReplacements es rs
    → AllByRecursion (IsOf root) es → EndInTurn es → edited (Node root) es ≡ put_all (Node root) rs
edited-all root [] [] are of turn = refl
edited-all root [] (r ∷ rs) are of turn = absurd are
edited-all root (e ∷ es) [] are of turn = absurd are
edited-all root (e ∷ es) (r ∷ rs) are of turn =
    let t : Term = Node root in
    let ends = all-before e e.end es (omega arith) turn.1 in
    let here = (stays-all root es e.parent e.end ends turn.2 of.1).node (place-in root e of.0) in
    once (edited t es) e r here.node are.0 here.stands here.within
    ∙ ap (λ u. put u r.path r.new) (edited-all root es rs are.1 of.1 turn.2)
    ∙ late t r rs (apart-behind e r es rs are.0 are.1 turn.1)

-- ---- what stands at their paths

abbrev HasPlace : Term → Replacement → Type 0
HasPlace t r = (w : Term) × (subterm t r.path ≡ Some w)

get-some : (xs : List Term) (i : ℕ) → i < length xs → (x : Term) × (slice_get xs i ≡ Some x)
get-some [] i h = absurd (omega arith)
get-some (x ∷ xs) zero h = (x, refl)
get-some (x ∷ xs) (suc i) h = get-some xs i (omega arith)

have-places : (root : NodeTerm) (es : List Edit) (rs : List Replacement) → AreReplacements es rs
    → AllByRecursion (IsOf root) es → AllByRecursion (HasPlace (Node root)) rs
have-places root [] [] are of = tt
have-places root [] (r ∷ rs) are of = absurd are
have-places root (e ∷ es) [] are of = absurd are
have-places root (e ∷ es) (r ∷ rs) are of =
    let t : Term = Node root in
    let n = of.0.node in
    let c = get-some (node_children n) e.start (omega (arith, are.0.one, of.0.within)) in (
      (
        c.0,
        ap (subterm t) are.0.path ∙ subterm-child (Some t) e.parent e.start
            ∙ ap (λ o. slice_get (children_of o) e.start) of.0.stands ∙ c.1,
      ),
      have-places root es rs are.1 of.1,
    )

makes : (t : Term) (rs : List Replacement) → AllApart rs → AllByRecursion (HasPlace t) rs
    → Makes t rs (put_all t rs)
makes t [] h there = refl
makes t (r ∷ rs) h there =
    (there.0.0, there.0.1, makes (put t r.path r.new) rs h.1 (after rs h.0 there.1))
  where
    after : (ss : List Replacement) → Apart r.path ss → AllByRecursion (HasPlace t) ss
        → AllByRecursion (HasPlace (put t r.path r.new)) ss
    after [] a b = tt
    after (s ∷ ss) a b = (
      (b.0.0, subterm-apart t r.path s.path r.new a.0 ∙ b.0.1),
      after ss a.1 b.1,
    )

pub in-any-order : (root : NodeTerm) (es : List Edit) (rs ss : List Replacement)
    → AreInOrder root es → AreReplacements es rs → IsPermutation rs ss
    → Makes (Node root) ss (edited (Node root) es)
in-any-order root es rs ss h are same =
    let t : Term = Node root in
    let apart = all-apart es rs are h.in_turn in
    makes-permuted t rs ss (edited t es) (pairwise rs apart) same
    (subst (Makes t rs) (sym (edited-all root es rs are h.of_tree h.in_turn))
    (makes t rs apart (have-places root es rs are h.of_tree)))
