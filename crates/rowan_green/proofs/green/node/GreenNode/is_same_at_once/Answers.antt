use Rattle.std.proofs.Common.{◌≡◌, ◌==◌, ◌∙◌, ℕ, Bool, true, false, not, true≢false, refl, sym}
use Rattle.std.proofs.Common.{ap, arith}
use Rattle.rowan_green.specs.Term.{NodeTerm, node_len}
use Rattle.rowan_green.specs.Same.{same_node, same_node-decides}
use Rattle.std.proofs.lemmas.Bool.Decides.{Decides-eqb}
use Rattle.rowan_green.proofs.green.node.GreenNode.is_same_at_once.Goals as goal

when_not : (r : Bool) → ¬ (r ≡ true) → false ≡ r
when_not true k = absurd (k refl)
when_not false k = refl

-- two nodes that differ in what a function reads are not the same
differ : (f : NodeTerm → ℕ) (a b : NodeTerm) → ¬ (f a ≡ f b) → false ≡ same_node a b
differ f a b h = when_not (same_node a b) (λ e. h (ap f ((same_node-decides a b).0 e)))

tested_differ : (x y : ℕ) → true ≡ not (x == y) → ¬ (x ≡ y)
tested_differ x y h e = true≢false (h ∙ ap not ((Decides-eqb x y).1 e))

tested_same : (x y : ℕ) → false ≡ not (x == y) → x ≡ y
tested_same x y h = (Decides-eqb x y).0 (grind arith)

pub returns-then-is_shared_with-clause-told : goal.returns-then-is_shared_with-clause-told
returns-then-is_shared_with-clause-told c =
    sym ((same_node-decides c.args.self.now c.args.other.now).1
    (c.is_shared_with.ensures c.if-is_shared_with.true))

pub returns-then-ne-2-clause-told : goal.returns-then-ne-2-clause-told
returns-then-ne-2-clause-told c =
    differ node_len c.args.self.now c.args.other.now
    (λ e. tested_differ c.text_len.result c.text_len-2.result c.if-ne-2.ensures
    (c.text_len.ensures.len ∙ e ∙ sym c.text_len-2.ensures.len))

pub returns-clause-kinds : goal.returns-clause-kinds
returns-clause-kinds c none =
    sym c.kind.ensures.kind ∙ tested_same c.kind.result.0 c.kind-2.result.0 c.if-ne.ensures
    ∙ c.kind-2.ensures.kind
