use Rattle.std.proofs.Common.{◌≡◌, ap}
use Rattle.std.proofs.lemmas.Result.{IfErr-weaker, on_ok_weaker}
use Rattle.rowan_green.specs.declared.fault.Fault.{Fault}
use Rattle.rowan_green.specs.declared.fault.Fault.TheVariants.{Memory}
use Rattle.rowan_green.specs.Word.{WhyNotClosed}
use Rattle.rowan_sexp.proofs.ParsingLemmas.{IsInRoot-refuses, IsTree-closes}
use Rattle.std.proofs.lemmas.Result.{on_err_weaker}
use Rattle.rowan_sexp.proofs.sexp.parser.close_root.Goals as goal

pub returns-clause-ok : goal.returns-clause-ok
returns-clause-ok c = on_ok_weaker c.finish_node.result
    (λ h. IsTree-closes c.args.builder.now.inner.word c.finish_node.new.self.inner.word
    c.requires.in_root h.closes) c.finish_node.ensures.ok

pub returns-clause-err : goal.returns-clause-err
returns-clause-err c =
    let w = c.args.builder.now.inner.word in
    IfErr-weaker c.finish_node.result (WhyNotClosed w) (λ (e : Fault). e ≡ Memory)
    (λ e why. IsInRoot-refuses w 0 e c.requires.in_root c.requires.room why)
    c.finish_node.ensures.err

pub returns-clause-word : goal.returns-clause-word
returns-clause-word c = on_ok_weaker c.finish_node.result
    (λ h. h.closes.closed) c.finish_node.ensures.ok

pub returns-clause-unchanged : goal.returns-clause-unchanged
returns-clause-unchanged c = on_err_weaker c.finish_node.result
    (λ h. ap (λ b. b.word) h) c.finish_node.ensures.unchanged
