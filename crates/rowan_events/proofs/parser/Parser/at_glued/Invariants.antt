use Rattle.std.proofs.Common.{◌≡◌, drop}
use Rattle.std.specs.Prelude.{true, ◌==◌}
use Rattle.rowan_events.specs.Seen.{is_glued}
use Rattle.rowan_events.proofs.parser.Parser.at_glued.Given as goal

abbrev pub invariant-loop-n : goal.invariant-loop-n
invariant-loop-n g l =
    let on = is_glued g.L.Language.meaning g.L.Kind.PartialEq.eq in
    on (l.n == 0) (drop l.n l.kinds) (drop l.n l.self.left) ≡ on true l.kinds l.self.left
