use Rattle.std.proofs.Common.{◌≡◌, ◌+◌, ◌-◌, length, ap, ◌∙◌, subst, arith}
use Rattle.std.proofs.lemmas.Result.{err_from_is_err_and}
use Rattle.rowan_builder.proofs.StreamLemmas.{BuildsOn-trans}
use Rattle.rowan_sexp.specs.Parsing.{IsInRoot}
use Rattle.rowan_sexp.proofs.ParsingLemmas.{IsInRoot-refuses, IsInRoot-closes}
use Rattle.rowan_sexp.proofs.WordLemmas.{closings_more}
use Rattle.rowan_sexp.proofs.AskedLemmas.{on_err_any, begun-closings}
use Rattle.rowan_sexp.proofs.sexp.parser.close_lists.Goals as goal

pub returns-in_err-finish_node-clause-err : goal.returns-in_err-finish_node-clause-err
returns-in_err-finish_node-clause-err c =
    let p = err_from_is_err_and c.from_residual.result c.from_residual.ensures.1 in
    let now = c.loop-list.builder.inner.word in
    rw (p.1, p.2) (IsInRoot-refuses now _ c.in_err-finish_node.field-0.0
    c.loop-list.invariant.in_root (omega
    (arith, ap length c.loop-list.invariant.same_text, c.requires.room))
    c.in_err-finish_node.ensures.err)

pub loop-list-preserved : goal.loop-list-preserved
loop-list-preserved c =
    let v = c.loop-list.builder.inner.word in
    let w = c.finish_node.new.self.inner.word in
    let n = c.args.open_lists - c.loop-list._list in
    let closes = c.in_ok-finish_node.ensures.ok.closes in
    let e : n - 1 ≡ c.args.open_lists - (c.loop-list._list + 1) = omega arith in
    record {
      in_root = subst (λ k. IsInRoot w k) e
          (IsInRoot-closes v w n c.loop-list.invariant.in_root (omega arith) closes);
      word = closings_more c.args.builder.now.inner.word v w c.loop-list._list
          c.loop-list.invariant.word closes.closed;
      same_text = c.finish_node.ensures.text ∙ c.loop-list.invariant.same_text;
      builds = BuildsOn-trans _ _ _ c.loop-list.invariant.builds c.finish_node.ensures.stream;
      same_loan = c.finish_node.ensures.loan ∙ c.loop-list.invariant.same_loan;
    }

pub returns-in_err-finish_node-clause-begun : goal.returns-in_err-finish_node-clause-begun
returns-in_err-finish_node-clause-begun c =
    on_err_any _ (begun-closings c.args.builder.now.inner.word c.loop-list.builder.inner.word
    c.finish_node.new.self.inner.word c.loop-list._list c.args.open_lists
    (omega arith) c.loop-list.invariant.word
    (ap (λ b. b.word) c.in_err-finish_node.ensures.unchanged))
