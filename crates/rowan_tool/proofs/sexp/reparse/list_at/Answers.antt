use Rattle.std.proofs.Common.{◌≡◌, ◌∙◌, sym, ap, subst, Some, arith}
use Rattle.std.specs.Prelude.{slice_get}
use Rattle.rowan_green.specs.declared.utility_types.NodeOrToken.TheVariants.{Node, Token}
use Rattle.rowan_green.specs.Lent.{pointee}
use Rattle.rowan_green.specs.Term.{node_children}
use Rattle.rowan.proofs.ChainLemmas.{size_at}
use Rattle.rowan_tool.specs.declared.sexp.reparse.Ancestor.{Ancestor}
use Rattle.rowan_tool.specs.Ancestors.{path_below}
use Rattle.rowan_tool.proofs.AncestorLemmas.{IsDescending, descent-begins, descent-goes-on}
use Rattle.rowan_tool.proofs.AncestorLemmas.{descent-smaller, child-before, descent-ends}
use Rattle.rowan_tool.proofs.AncestorLemmas.{descent-ends-token, list-found}
use Rattle.rowan_tool.proofs.sexp.reparse.list_at.Goals as goal

pub loop-node-init : goal.loop-node-init
loop-node-init c =
    subst (λ xs. IsDescending c.args.green.now c.args.range xs c.args.green.now c.args.range)
    (sym c.new-ancestors.ensures.items) (descent-begins c.args.green.now c.args.range)

pub returns-in_default-clause-err : goal.returns-in_default-clause-err
returns-in_default-clause-err c = λ _.
    let node = c.loop-node.node.now in
    descent-ends c.args.green.now c.args.range c.loop-node.ancestors.items node c.loop-node.within
    c.loop-node.invariant (sym c.loop-node-test.ensures) (c.in_default.ensures.none (search))

pub returns-in_default-child-clause-err : goal.returns-in_default-child-clause-err
returns-in_default-child-clause-err c = λ _.
    let node = c.loop-node.node.now in
    let token = c.in_default-child.field-0.now in
    let child : slice_get (node_children node) c.in-Some.index ≡ Some (Token token) =
    c.in-Some.ensures.some.2 ∙ ap (λ e. Some (pointee e)) ((search) ∙ c.in_default-child.is) in
    descent-ends-token c.args.green.now c.args.range c.loop-node.ancestors.items node
    c.loop-node.within c.in-Some.index token c.loop-node.invariant
    (sym c.loop-node-test.ensures) c.in-Some.ensures.some.0 child

pub range_from-within-requires : goal.range_from-within-requires
range_from-within-requires c =
    let before = child-before (node_children c.loop-node.node.now) c.loop-node.within.start
    c.loop-node.within.end c.in-Some.index c.in-Some.start c.in-Some.ensures.some.0
    c.in-Some.ensures.some.1 in
    grind (arith, before)

pub loop-node-smaller : goal.loop-node-smaller
loop-node-smaller c =
    let a : Ancestor = record { node = c.loop-node.node; index = c.in-Some.index } in
    omega (
      arith,
      ap (λ xs. size_at c.args.green.now (path_below xs)) c.in_ok-push.ensures.items,
      descent-smaller c.args.green.now c.args.range c.loop-node.ancestors.items a c.loop-node.within
          c.loop-node.invariant c.in-Some.ensures.some.0,
    )

pub loop-node-preserved : goal.loop-node-preserved
loop-node-preserved c =
    let a : Ancestor = record { node = c.loop-node.node; index = c.in-Some.index } in
    let child = c.in-Node.child.now in
    let is : slice_get (node_children a.node.now) a.index ≡ Some (Node child) =
    c.in-Some.ensures.some.2 ∙ ap (λ e. Some (pointee e))
    (let same : c.in-Some.child ≡ Node c.in-Node.child = cc in same) in
    let next = c.range_from-within.result in
    subst (λ xs. IsDescending c.args.green.now c.args.range xs child next)
    (sym c.in_ok-push.ensures.items)
    (descent-goes-on c.args.green.now c.args.range c.loop-node.ancestors.items a c.loop-node.within
    child next c.loop-node.invariant (sym c.loop-node-test.ensures) record {
      at = c.in-Some.ensures.some.0;
      child = is;
      start = grind (arith, c.in-Some.ensures.some.1, c.range_from-within.ensures.start);
      end = grind (arith, c.in-Some.ensures.some.1, c.range_from-within.ensures.end);
    })

pub returns-clause-ok : goal.returns-clause-ok
returns-clause-ok c =
    list-found c.args.green.now c.args.range c.loop-node.ancestors.items c.loop-node.node.now
    c.loop-node.within c.loop-node.invariant (sym c.loop-node-test.ensures)

pub returns-clause-ancestors : goal.returns-clause-ancestors
returns-clause-ancestors c = c.loop-node.invariant.ancestors
