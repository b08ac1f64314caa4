use Rattle.std.proofs.Common.{◌≡◌, ◌∷◌, length, sym, ◌∙◌, ap, arith}
use Rattle.std.specs.Option.{option_map}
use Rattle.rowan_api.specs.Refs.{node_place}
use Rattle.rowan.specs.AroundOffset.{merged, from_node, rest_at_offset}
use Rattle.rowan.proofs.AroundLemmas.{steps_left, steps_right}
use Rattle.rowan.proofs.ast.ancestors_at_offset.AncestorsAtOffsetIterator.next.Goals as goal

pub returns-in_ok-right-clause-steps : goal.returns-in_ok-right-clause-steps
returns-in_ok-right-clause-steps g c =
    let left = option_map node_place c.args.self.now.left in
    let right = option_map node_place c.args.self.now.right in
    let d = node_place c.in_ok-right.right in
    steps_right left right d (ap (option_map node_place) c.in_ok-right.was)
    (sym c.takes_right.ensures ∙ c.if-takes_right.true)
    ∙ ap (λ o. d ∷ merged (from_node left) (from_node o)) (sym c.parent-self.ensures)

pub returns-in_ok-right-clause-goes : goal.returns-in_ok-right-clause-goes
returns-in_ok-right-clause-goes g c = record {
  on = λ f. (tt, tt, omega (arith, ap length (returns-in_ok-right-clause-steps g c)));
  keeps = tt;
  rests = λ f. tt;
}

pub returns-in_ok-left-clause-steps : goal.returns-in_ok-left-clause-steps
returns-in_ok-left-clause-steps g c =
    let left = option_map node_place c.args.self.now.left in
    let right = option_map node_place c.args.self.now.right in
    let d = node_place c.in_ok-left.left in
    steps_left left right d (ap (option_map node_place) c.in_ok-left.was)
    (sym c.takes_right.ensures ∙ c.if-takes_right.false)
    ∙ ap (λ o. d ∷ merged (from_node o) (from_node right))
    (sym c.parent-self-else-takes_right.ensures)

pub returns-in_ok-left-clause-goes : goal.returns-in_ok-left-clause-goes
returns-in_ok-left-clause-goes g c = record {
  on = λ f. (tt, tt, omega (arith, ap length (returns-in_ok-left-clause-steps g c)));
  keeps = tt;
  rests = λ f. tt;
}
