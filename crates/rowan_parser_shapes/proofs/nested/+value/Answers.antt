use Rattle.std.proofs.Common.{rules}
use Rattle.rowan_parser.proofs.Made.{made_kept, made_node, made_list}
use Rattle.rowan_parser.proofs.Rules.{lists, then_joins, then_no_more, then_made_item}
use Rattle.rowan_parser.proofs.Making.{closes}
use Rattle.rowan_parser.specs.Log.{Seen}
use Rattle.rowan_parser.specs.Making.{HasList}
use Rattle.rowan_parser.specs.Shape.{none, token_then}
use Rattle.rowan_parser_shapes.specs.Shapes.{IsValue}
use Rattle.rowan_parser_shapes.proofs.Values.{literal_is_value, list_is_value}
use Rattle.rowan_parser_shapes.proofs.nested.+value.Goals as goal
use Rattle.rowan_parser_shapes.proofs.nested.+value.Goals.{list-else-items-test}
use Rattle.rowan_parser_shapes.proofs.nested.+value.Goals.{list-then-items-test+then-not-eat}

pub list-items-preserved : goal.list-items-preserved
list-items-preserved t c = record { made = search (rules, lists); left = search rules }

pub list-returns-clause-made : goal.list-returns-clause-made
list-returns-clause-made t c =
    let P = IsValue c.args.depth in
    let Q : Seen → Type 0 = λ s. HasList P c.args.p.now s c.start-node.result (token_then none) in
    let has : Q c.items-test.p = elim c.items-test.branch [
      | list-else-items-test w ↦
          then_joins P _ _ _ _ _ w.p-is (then_no_more P _ _ _ _ c.items.invariant.made)
      | list-then-items-test+then-not-eat w ↦ then_joins P _ _ _ _ _ w.p-is
          (then_made_item P _ _ _ _ _ _ _ w.eat.ensures.taken w.if-not-eat.true
          w.value.ensures.made c.items.invariant.made)
    ] in
    closes P _ _ _ _ _ _ _ _ _ _ has c.expect.ensures.taken c.expect.ensures.some
    c.complete.ensures.node c.complete.ensures.marker

pub value-returns-then-at-clause-made : goal.value-returns-then-at-clause-made
value-returns-then-at-clause-made t c =
    made_kept _ _ _ _ (c.in-Some.ensures.kept (search rules))
    (made_node _ _ _ _ _ _ c.literal.ensures.node (literal_is_value _ _ c.in-Some.ensures.depth))

pub value-returns-then-at-2-clause-made : goal.value-returns-then-at-2-clause-made
value-returns-then-at-2-clause-made t c =
    made_kept _ _ _ _ (c.in-Some.ensures.kept (search rules))
    (made_list _ _ _ _ _ _ _ c.list.ensures.made (list_is_value _ _ c.in-Some.ensures.depth))
