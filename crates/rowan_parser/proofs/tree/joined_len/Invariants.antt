use Rattle.std.proofs.Common.{◌≡◌, ◌+◌, length, drop}
use Rattle.rowan_parser.specs.Events.{up_to}
use Rattle.rowan_parser.proofs.tree.joined_len.Given as goal

abbrev pub invariant-loop-token : goal.invariant-loop-token
invariant-loop-token l = record {
  counted : l.len ≡ l.token-index;
  so_far : l.len + length (up_to l.trivia l.count (drop l.token-index l.tokens))
      ≡ length (up_to l.trivia l.fn.count l.tokens);
}
