use Rattle.std.proofs.Common.{length, sym, ◌∙◌}
use Rattle.std.proofs.lemmas.Bool.{eqb-true}
use Rattle.std.proofs.lemmas.Result.{IfOk-weaker}
use Rattle.rowan_parser.proofs.Trivial.{puts_all}
use Rattle.rowan_parser.proofs.tree.put_trivia_before.Goals as goal

pub returns-then-is_empty-clause-puts : goal.returns-then-is_empty-clause-puts
returns-then-is_empty-clause-puts c =
    IfOk-weaker c.put_trivia.result _ _ (λ p h. puts_all c.args.source.now.trivia c.args.node.0
    c.args.source.now.tokens.now _ _ _ _
    (eqb-true (length c.args.source.now.trivia.attached.now) 0
    (sym c.is_empty.ensures ∙ c.if-is_empty.true)) h) c.put_trivia.ensures.puts
