use Rattle.rowan_events.specs.Log.{complained}
use Rattle.rowan_events.specs.Seen.{has}
use Rattle.rowan_events.proofs.Skipping.{recovers_over}
use Rattle.rowan_events.proofs.parser.Parser.deeper_or_recover.Goals as goal

pub returns-then-is_none-clause-recovered : goal.returns-then-is_none-clause-recovered
returns-then-is_none-clause-recovered g c = λ _.
    recovers_over (has c.args.set.0) (has c.args.brackets.open.0) (has c.args.brackets.close.0)
    (g.L.Language.code c.args.kind) (complained c.args.message.now c.args.self.now)
    c.error.new.self c.recover_over.new.self c.error.ensures c.recover_over.ensures
