use Rattle.std.proofs.Common.{◌≡◌, ◌+◌, ◌++◌, refl, ◌∙◌, ap, subst, arith}
use Rattle.std.specs.Prelude.{Some, Ok, Err}
use Rattle.std.proofs.lemmas.Result.{err_from_is_err_and, IfErr-weaker, IfOk-weaker}
use denote.Param.Always.{mut_next}
use Rattle.rowan_green.specs.declared.utility_types.NodeOrToken.TheVariants.{Node, Token}
use Rattle.rowan_green.specs.Lent.{pointee}
use Rattle.rowan_green.specs.Span.{Span}
use Rattle.rowan_green.specs.Term.{token_len}
use Rattle.rowan_green.proofs.Terms.{Fits-len}
use Rattle.rowan_rewrite.specs.Drafts.{child_of, Leaves}
use Rattle.rowan_rewrite.specs.Rewriting.{change_of}
use Rattle.rowan_rewrite.proofs.RewritingCallLemmas.{at_first, goes_on, takes_one, called-next}
use Rattle.rowan_rewrite.proofs.RewritingCallLemmas.{place-limit, changes-end, at_end}
use Rattle.rowan_rewrite.proofs.RewritingCallLemmas.{refused, stops, stops_at}
use Rattle.rowan_rewrite.proofs.rewriting.rewrite_tokens.Goals as goal

pub loop-child-init : goal.loop-child-init
loop-child-init g c =
    let root = c.args.root.now in
    let first = c.new-pass.ensures in (
      c.requires,
      at_first g.F.FnMut c.args.rewrite.now root c.from-at.result c.new-changes.result.items
          c.new-pass.result (Fits-len (Node root) c.text_len-text_len.ensures.fits)
          c.from-at.ensures c.new-changes.ensures.items first.pass first.root first.left first.tree,
    )

pub loop-child-preserved-in-Node : goal.loop-child-preserved-in-Node
loop-child-preserved-in-Node g c = (
  c.loop-child.invariant.0,
  goes_on g.F.FnMut c.args.rewrite.now c.loop-child.rewrite c.args.root.now c.loop-child.at
      c.loop-child.changes.items c.loop-child.pass c.in_ok-pass-in-Node.pass
      c.loop-child.invariant.1 c.in_ok-pass-in-Node.ensures.ok,
)

pub at-range-requires : goal.at-range-requires
at-range-requires g c =
    let p = c.loop-child.pass in
    let t = c.in-Token.token.now in
    let here : child_of p ≡ Some (Token t) =
    c.in-Some.ensures ∙ ap (λ e. Some (pointee e)) c.in-Token.is in
    let limit = place-limit g.F.FnMut c.args.rewrite.now c.loop-child.rewrite c.args.root.now
    c.loop-child.at c.loop-child.changes.items p t c.loop-child.invariant.1 here in
    omega (arith, limit, c.text_len.ensures.len)

pub token_at-requires-clause-child : goal.token_at-requires-clause-child
token_at-requires-clause-child g c =
    c.in-Some.ensures ∙ ap (λ e. Some (pointee e)) c.in-Token.is

pub token_at-requires-clause-fits : goal.token_at-requires-clause-fits
token_at-requires-clause-fits g c =
    let p = c.loop-child.pass in
    let t = c.in-Token.token.now in
    let here : child_of p ≡ Some (Token t) =
    c.in-Some.ensures ∙ ap (λ e. Some (pointee e)) c.in-Token.is in
    place-limit g.F.FnMut c.args.rewrite.now c.loop-child.rewrite c.args.root.now
    c.loop-child.at c.loop-child.changes.items p t c.loop-child.invariant.1 here

pub returns-in-Err-clause-err : goal.returns-in-Err-clause-err
returns-in-Err-clause-err g c =
    let p = c.loop-child.pass in
    let t = c.in-Token.token.now in
    let here : child_of p ≡ Some (Token t) =
    c.in-Some.ensures ∙ ap (λ e. Some (pointee e)) c.in-Token.is in
    let seen = c.token_at.ensures in
    let call = called-next g.F.FnMut c.args.rewrite.now c.loop-child.rewrite _ c.args.root.now
    c.loop-child.at c.loop-child.changes.items p t c.token_at.result c.rewrite.result
    (Err c.in-Err.refusal) c.loop-child.invariant.1 here seen.token seen.parent seen.index
    seen.start c.rewrite.ensures c.in-Err.is in
    refused g.F.FnMut c.args.rewrite.now c.loop-child.rewrite _ c.args.root.now c.loop-child.at
    c.loop-child.changes.items p t c.in-Err.refusal c.loop-child.invariant.1 here call

pub loop-child-preserved-in-Token : goal.loop-child-preserved-in-Token
loop-child-preserved-in-Token g c =
    let p = c.loop-child.pass in
    let t = c.in-Token.token.now in
    let here : child_of p ≡ Some (Token t) =
    c.in-Some.ensures ∙ ap (λ e. Some (pointee e)) c.in-Token.is in
    let seen = c.token_at.ensures in
    let call = called-next g.F.FnMut c.args.rewrite.now c.loop-child.rewrite _ c.args.root.now
    c.loop-child.at c.loop-child.changes.items p t c.token_at.result c.rewrite.result
    (Ok c.in-Ok.answer) c.loop-child.invariant.1 here seen.token seen.parent seen.index seen.start
    c.rewrite.ensures c.in-Ok.is in
    let lies : c.at-range.result ≡ record {
      start = c.loop-child.at;
      end = c.loop-child.at + token_len t;
    } = c.at-range.ensures
    ∙ ap (λ n. record { start = c.loop-child.at; end = c.loop-child.at + n })
    c.text_len.ensures.len in
    let end = c.end-at.ensures.offset ∙ ap (λ (r : Span). r.end) lies in (
      mut_next g.F.FnMut _ _ _ _ _ c.rewrite.ensures refl c.loop-child.invariant.0,
      takes_one g.F.FnMut c.args.rewrite.now c.loop-child.rewrite _ c.args.root.now
          c.loop-child.at c.loop-child.changes.items p c.in_ok-pass-in-Ok.pass t c.in-Ok.answer
          c.end-at.result c.note.new.changes.items c.loop-child.invariant.1
          (c.in_ok-pass-in-Ok.ensures.ok t here) call end
          (λ within. (c.in_ok-note-in-Ok.ensures.ok within
          ∙ ap (λ r. c.loop-child.changes.items ++ change_of r c.in-Ok.answer) lies)),
    )

pub returns-in_err-pass-in-Node-clause-err : goal.returns-in_err-pass-in-Node-clause-err
returns-in_err-pass-in-Node-clause-err g c =
    let fault = c.in_err-pass-in-Node.field-0.0 in
    let residual = c.from_residual in
    let p = err_from_is_err_and residual.result residual.ensures.1 in
    rw (p.1, p.2) (stops g.F.FnMut c.args.rewrite.now c.loop-child.rewrite c.args.root.now
    c.loop-child.at c.loop-child.changes.items c.loop-child.pass fault c.loop-child.invariant.1
    (λ other. absurd (other c.in_err-pass-in-Node.ensures.err)))

pub returns-in_err-note-in-Ok-clause-err : goal.returns-in_err-note-in-Ok-clause-err
returns-in_err-note-in-Ok-clause-err g c =
    let p = c.loop-child.pass in
    let t = c.in-Token.token.now in
    let here : child_of p ≡ Some (Token t) =
    c.in-Some.ensures ∙ ap (λ e. Some (pointee e)) c.in-Token.is in
    let seen = c.token_at.ensures in
    let call = called-next g.F.FnMut c.args.rewrite.now c.loop-child.rewrite _ c.args.root.now
    c.loop-child.at c.loop-child.changes.items p t c.token_at.result c.rewrite.result
    (Ok c.in-Ok.answer) c.loop-child.invariant.1 here seen.token seen.parent seen.index seen.start
    c.rewrite.ensures c.in-Ok.is in
    let fault = c.in_err-note-in-Ok.field-0.0 in
    let residual = c.from_residual-in_err-note-in-Ok in
    let given = err_from_is_err_and residual.result residual.ensures.1 in
    rw (given.1, given.2) (stops_at g.F.FnMut c.args.rewrite.now c.loop-child.rewrite _
    c.args.root.now c.loop-child.at c.loop-child.changes.items p t c.in-Ok.answer fault
    c.loop-child.invariant.1 here call c.in_err-note-in-Ok.ensures.err)

pub returns-in_err-pass-in-Ok-clause-err : goal.returns-in_err-pass-in-Ok-clause-err
returns-in_err-pass-in-Ok-clause-err g c =
    let p = c.loop-child.pass in
    let t = c.in-Token.token.now in
    let here : child_of p ≡ Some (Token t) =
    c.in-Some.ensures ∙ ap (λ e. Some (pointee e)) c.in-Token.is in
    let seen = c.token_at.ensures in
    let call = called-next g.F.FnMut c.args.rewrite.now c.loop-child.rewrite _ c.args.root.now
    c.loop-child.at c.loop-child.changes.items p t c.token_at.result c.rewrite.result
    (Ok c.in-Ok.answer) c.loop-child.invariant.1 here seen.token seen.parent seen.index seen.start
    c.rewrite.ensures c.in-Ok.is in
    let fault = c.in_err-pass-in-Ok.field-0.0 in
    let residual = c.from_residual-in_err-pass-in-Ok in
    let given = err_from_is_err_and residual.result residual.ensures.1 in
    rw (given.1, given.2) (stops_at g.F.FnMut c.args.rewrite.now c.loop-child.rewrite _
    c.args.root.now c.loop-child.at c.loop-child.changes.items p t c.in-Ok.answer fault
    c.loop-child.invariant.1 here call c.in_err-pass-in-Ok.ensures.err)

pub returns-in_err-parent-in-None-clause-err : goal.returns-in_err-parent-in-None-clause-err
returns-in_err-parent-in-None-clause-err g c =
    let fault = c.in_err-parent-in-None.field-0.0 in
    let residual = c.from_residual-in_err-parent-in-None in
    let p = err_from_is_err_and residual.result residual.ensures.1 in
    rw (p.1, p.2) (stops g.F.FnMut c.args.rewrite.now c.loop-child.rewrite c.args.root.now
    c.loop-child.at c.loop-child.changes.items c.loop-child.pass fault c.loop-child.invariant.1
    c.in_err-parent-in-None.ensures.err)

pub loop-child-preserved : goal.loop-child-preserved
loop-child-preserved g c = (
  c.loop-child.invariant.0,
  goes_on g.F.FnMut c.args.rewrite.now c.loop-child.rewrite c.args.root.now c.loop-child.at
      c.loop-child.changes.items c.loop-child.pass c.in-ToParent.parent c.loop-child.invariant.1
      (subst (Leaves c.loop-child.pass) c.in-ToParent.is c.in_ok-parent-in-None.ensures.ok),
)

pub with_changes-requires : goal.with_changes-requires
with_changes-requires g c = λ fits.
    (changes-end g.F.FnMut c.args.rewrite.now c.loop-child.rewrite c.args.root.now c.in-Tree.green
    c.loop-child.at c.loop-child.changes.items c.loop-child.pass c.loop-child.invariant.1
    (subst (Leaves c.loop-child.pass) c.in-Tree.is c.in_ok-parent-in-None.ensures.ok) fits)

pub returns-in-Tree-clause-ok : goal.returns-in-Tree-clause-ok
returns-in-Tree-clause-ok g c = IfOk-weaker c.with_changes.result _ _
    (λ r h. at_end g.F.FnMut c.args.rewrite.now c.loop-child.rewrite c.args.root.now
    c.in-Tree.green r c.loop-child.at c.loop-child.changes.items c.loop-child.pass
    c.loop-child.invariant.1
    (subst (Leaves c.loop-child.pass) c.in-Tree.is c.in_ok-parent-in-None.ensures.ok)
    h.0 h.1 h.2) c.with_changes.ensures.ok

pub returns-in-Tree-clause-err : goal.returns-in-Tree-clause-err
returns-in-Tree-clause-err g c = IfErr-weaker c.with_changes.result _ _
    (λ e memory. stops g.F.FnMut c.args.rewrite.now c.loop-child.rewrite c.args.root.now
    c.loop-child.at c.loop-child.changes.items c.loop-child.pass e c.loop-child.invariant.1
    (λ other. absurd (other memory))) c.with_changes.ensures.err
