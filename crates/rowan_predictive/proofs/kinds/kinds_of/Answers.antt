use Rattle.std.proofs.Common.{arith, ap, ◌++◌}
use Rattle.std.proofs.lemmas.List.{drop_more}
use Rattle.rowan_predictive.specs.Parsing.{kinds_of}
use Rattle.rowan_predictive.proofs.TokenLemmas.{kinds-more, kinds-end}
use Rattle.rowan_predictive.proofs.kinds.kinds_of.Goals as goal

pub loop-token-init : goal.loop-token-init
loop-token-init c = ap (λ ks. ks ++ kinds_of c.args.trivia c.args.tokens.now) c.in_ok-kinds.ensures.items

pub loop-token-preserved : goal.loop-token-preserved
loop-token-preserved c =
    let next = drop_more c.args.tokens.now c.loop-token.token-index _ (omega arith) in
    kinds-more c.args.trivia c.args.tokens.now _ _ _ c.is_trivia.result _ _ next c.is_trivia.ensures
    c.in_ok-push_kind.ensures.kinds c.loop-token.invariant

pub returns-clause-kinds : goal.returns-clause-kinds
returns-clause-kinds c = kinds-end c.args.trivia c.args.tokens.now c.loop-token.token-index _
    (omega arith) c.loop-token.invariant
