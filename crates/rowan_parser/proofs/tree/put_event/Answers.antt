use Rattle.std.proofs.Common.{◌∷◌, sym, subst}
use Rattle.std.specs.Prelude.{IfErr}
use Rattle.rowan_builder.specs.Loan.{word_of}
use Rattle.rowan_parser.specs.Building.{WhyRefused, to_come}
use Rattle.rowan_parser.specs.Shape.{steps}
use Rattle.rowan_parser.proofs.Refusals.{close_refuses_if}
use Rattle.rowan_parser.proofs.tree.put_event.Goals as goal

pub returns-in-Close-clause-err : goal.returns-in-Close-clause-err
returns-in-Close-clause-err c =
    subst (λ e. IfErr c.close_node.result (WhyRefused (to_come c.args.source.now
    (word_of c.args.builder.now) c.args.progress (steps (e ∷ c.args.others.now)))
    c.args.source.now.tokens.now)) (sym c.in-Close.is)
    (close_refuses_if c.close_node.result c.args.source.now (steps c.args.others.now) _
    c.args.progress c.close_node.ensures.some c.close_node.ensures.err)
