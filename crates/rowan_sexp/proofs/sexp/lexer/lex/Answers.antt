use Rattle.std.proofs.Common.{[], subst, append-nil}
use Rattle.rowan_sexp.proofs.SexpRuns.{IsCutInto, one_more, lexed_from_cuts}
use Rattle.rowan_sexp.proofs.sexp.lexer.lex.Goals as goal

pub loop-token-preserved : goal.loop-token-preserved
loop-token-preserved c = (
  c.in-Some.ensures.text,
  one_more c.args.text.now c.loop-token.rest.now _ c.loop-token.tokens.items _ c.in-Some.token
      c.in-Some.ensures.cut c.in_ok-push.ensures.items c.loop-token.invariant.1,
)

pub returns-clause-lexed : goal.returns-clause-lexed
returns-clause-lexed c =
    lexed_from_cuts c.args.text.now c.loop-token.tokens.items
    (subst (IsCutInto c.args.text.now) (append-nil c.loop-token.tokens.items)
    (c.loop-token.invariant.1 [] c.in_default.ensures.cut))
