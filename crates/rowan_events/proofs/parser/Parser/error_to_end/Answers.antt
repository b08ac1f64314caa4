use Rattle.std.proofs.Common.{ℕ, ◌∙◌, subst}
use Rattle.std.specs.Prelude.{Bool}
use Rattle.rowan_events.specs.Log.{Is, Seen, recovered, complained}
use Rattle.rowan_events.proofs.Skipping.{recovers, empty_set, left-ended}
use Rattle.rowan_events.proofs.parser.Parser.error_to_end.Goals as goal

pub returns : goal.returns
returns g c =
    let kind = g.L.Language.code c.args.kind in
    let told : Seen = complained c.args.message.now c.args.self.now in
    let P : (ℕ → Bool)
    → Type 0 = λ stops. Is (recovered kind stops told) c.recover_until.new.self in
    let made = subst P empty_set
    (recovers kind _ told _ c.recover_until.new.self c.error.ensures c.recover_until.ensures) in
    record { ended = made; nothing_left = made.left ∙ left-ended kind told }
