use Rattle.std.proofs.Common.{ap, sym, ◌∙◌, ◌++◌, ◌+◌, length, map, drop, arith}
use Rattle.std.proofs.lemmas.List.{drop_more}
use Rattle.rowan_parser.specs.Parsing.{pieces_since, pieces}
use Rattle.rowan_events.specs.Seen.{piece}
use Rattle.rowan_events.specs.Tokens.{tokens_text}
use Rattle.rowan_parser.proofs.Pieces.{seen_all}
use Rattle.rowan_parser.proofs.Ranges.{left_more}
use Rattle.rowan_parser.proofs.parsing.seen_tokens.Goals as goal

pub loop-token-init : goal.loop-token-init
loop-token-init c = record {
  left = omega arith;
  seen = ap (λ ts. map piece ts ++ pieces c.args.trivia c.args.tokens.now)
      c.in_ok-seen.ensures.items;
}

pub loop-token-preserved : goal.loop-token-preserved
loop-token-preserved c =
    let next = drop_more c.args.tokens.now c.loop-token.token-index _ (omega arith) in
    record {
      left = ap (λ n. n + length (tokens_text (drop (c.loop-token.token-index + 1)
          c.args.tokens.now))) c.in_ok-gap.ensures.start
          ∙ left_more _ _ _ c.loop-token.gap.start _ next c.loop-token.invariant.left;
      seen = c.in_ok-gap.ensures.seen (drop (c.loop-token.token-index + 1) c.args.tokens.now)
          ∙ ap (λ ts. map piece c.loop-token.seen.items ++ pieces_since c.loop-token.gap.start
          c.loop-token.gap.is_joined c.loop-token.gap.is_after_line c.args.trivia ts)
          (sym next)
          ∙ c.loop-token.invariant.seen;
    }

pub returns-clause-seen : goal.returns-clause-seen
returns-clause-seen c = seen_all _ _ _ _ c.args.trivia c.args.tokens.now c.loop-token.token-index _
    (omega arith) c.loop-token.invariant.seen
