use Rattle.std.proofs.Common.{arith, tests, ap}
use Rattle.rowan_events.specs.Log.{Seen}
use Rattle.rowan_events.proofs.Taking.{past_none, none_past}
use Rattle.rowan_events.proofs.parser.Parser.at_end.Goals as goal

pub returns : goal.returns
returns g c =
    let n = c.self.inside.position in
    let ts = c.self.inside.tokens.items in
    let e = ap (λ (s : Seen). s.left) c.self.view_is in (
      λ is. past_none n ts c.args.self.now.left e (grind (arith, tests)),
      λ is. let h = none_past n ts c.args.self.now.left e is in grind (arith, tests),
    )
