use Rattle.std.proofs.Common.{◌≡◌, ◌+◌, ◌++◌, length, drop}
use Rattle.rowan_parser.specs.Parsing.{ranges_from}
use Rattle.rowan_events.specs.Tokens.{tokens_text}
use Rattle.rowan_parser.proofs.places.token_ranges.Given as goal

abbrev pub invariant-loop-token : goal.invariant-loop-token
invariant-loop-token l = record {
  left : l.end + length (tokens_text (drop l.token-index l.tokens)) ≡ length (tokens_text l.tokens);
  so_far : l.ranges.items ++ ranges_from l.end l.trivia (drop l.token-index l.tokens)
      ≡ ranges_from 0 l.trivia l.tokens;
}
