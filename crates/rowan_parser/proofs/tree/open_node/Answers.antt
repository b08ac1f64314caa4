use Rattle.std.proofs.Common.{◌+◌, length, sym, ap, ◌∙◌}
use Rattle.std.proofs.lemmas.Bool.{eqb-true}
use Rattle.std.proofs.lemmas.Result.{IfOk-weaker}
use Rattle.rowan_parser.proofs.Spelling.{done_enter, done_enter_if, puts_opening, puts_unattached}
use Rattle.rowan_parser.proofs.tree.open_node.Goals as goal

pub returns-clause-done : goal.returns-clause-done
returns-clause-done c =
    let more = c.in_ok-progress-2.ensures.more ∙ ap (λ n. n + 1) c.in_ok-progress.ensures.same in
    done_enter_if c.put_trivia.result c.args.source.now c.args.kind.0 _ _ c.args.progress
    (IfOk-weaker c.put_trivia.result _ _ (λ p same. same ∙ more) c.put_trivia.ensures.same)
    (IfOk-weaker c.put_trivia.result _ _ (λ p h. puts_opening
    c.args.source.now.trivia c.args.kind.0 c.args.source.now.tokens.now _ _ _ _ _ _ _ _
    c.in_ok-progress.ensures.puts c.in_ok-progress-2.ensures.opens c.in_ok-progress-2.ensures.same
    h) c.put_trivia.ensures.puts)

pub returns-then-is_empty-clause-done : goal.returns-then-is_empty-clause-done
returns-then-is_empty-clause-done c =
    done_enter c.args.source.now c.args.kind.0 _ _ c.args.progress _
    (c.in_ok-progress-2.ensures.more ∙ ap (λ n. n + 1) c.in_ok-progress.ensures.same)
    (puts_unattached c.args.source.now.trivia c.args.kind.0 c.args.source.now.tokens.now _ _ _ _ _ _
    (eqb-true (length c.args.source.now.trivia.attached.now) 0
    (sym c.is_empty.ensures ∙ c.if-is_empty.true))
    c.in_ok-progress.ensures.puts c.in_ok-progress-2.ensures.opens c.in_ok-progress-2.ensures.same)
