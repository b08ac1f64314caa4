use Rattle.std.proofs.Common.{◌≡◌, ◌+◌, ◌++◌, length, map, drop}
use Rattle.rowan_parser.specs.Parsing.{pieces_since, pieces}
use Rattle.rowan_events.specs.Seen.{piece}
use Rattle.rowan_events.specs.Tokens.{tokens_text}
use Rattle.rowan_parser.proofs.parsing.seen_tokens.Given as goal

abbrev pub invariant-loop-token : goal.invariant-loop-token
invariant-loop-token l = record {
  left : l.gap.start + length (tokens_text (drop l.token-index l.tokens))
      ≡ length (tokens_text l.tokens);
  seen : map piece l.seen.items ++ pieces_since l.gap.start l.gap.is_joined l.gap.is_after_line
      l.trivia (drop l.token-index l.tokens)
      ≡ pieces l.trivia l.tokens;
}
