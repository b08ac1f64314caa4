use Rattle.std.proofs.Common.{◌≡◌}
use Rattle.std.specs.List.{find}
use Rattle.rowan_cursor.specs.Kinds.{tokens_in}
use Rattle.rowan_api.specs.Kinds.{has_kind}
use Rattle.rowan_api.proofs.api.elements_ref.TypedElementsRef.first_token_by_kind.Given as goal

abbrev pub invariant-loop-element : goal.invariant-loop-element
invariant-loop-element g l =
    let holds = has_kind g.L.Language.meaning g.L.Kind.PartialEq.eq l.kind in
    let rest = g.I.ElementsRef.rest in
    ((goal.iterator-loop-element g).can_next l.self
    × (goal.iterator-loop-element g).is_finite l.self)
    × (find holds (tokens_in (rest l.initial.self.raw)) ≡ find holds (tokens_in (rest l.self.raw)))
