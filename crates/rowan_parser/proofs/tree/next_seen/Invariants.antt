use Rattle.std.proofs.Common.{◌≡◌, ◌-◌, ◌≤◌, length, drop}
use Rattle.rowan_parser.specs.Events.{is_trivia, past}
use Rattle.rowan_parser.proofs.tree.next_seen.Given as goal

abbrev pub invariant-loop-next : goal.invariant-loop-next
invariant-loop-next l = record {
  within : l.next ≤ length l.source.tokens.now;
  so_far : past (is_trivia l.source.trivia) (drop l.next l.source.tokens.now)
      ≡ past (is_trivia l.source.trivia) (drop l.put l.source.tokens.now);
}

abbrev pub decreases-loop-next : goal.decreases-loop-next
decreases-loop-next l = length l.source.tokens.now - l.next
