use Rattle.std.proofs.Common.{refl, arith}
use Rattle.rowan_events.proofs.Taking.{takes_one}
use Rattle.rowan_events.proofs.parser.Parser.take.Goals as goal

pub returns-then-self-len : goal.returns-then-self-len
returns-then-self-len g c =
    takes_one c.args.event c.self.inside.position c.self.inside.tokens.items _ c.args.self.now _
    c.self.view_is refl refl (omega (arith, c.len.ensures)) c.push.ensures
