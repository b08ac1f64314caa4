use Rattle.std.proofs.Common.{◌-◌, sym, ◌∙◌, arith}
use Rattle.rowan_events.specs.Seen.{has}
use Rattle.rowan_parser.proofs.Trivial.{at_cut}
use Rattle.rowan_parser.proofs.tree.outside_of_run.Goals as goal

pub returns-then-has_blank_line : goal.returns-then-has_blank_line
returns-then-has_blank_line c =
    at_cut (λ t. has c.args.kinds.0 t.kind.0) c.args.run.now c.loop-place.place
    (c.loop-place.place - 1) c.loop-place.outside _ (omega arith) (omega arith)
    (sym c.contains.ensures ∙ c.if-contains.false)
    (sym c.has_blank_line.ensures ∙ c.if-has_blank_line.true) c.loop-place.invariant.back
