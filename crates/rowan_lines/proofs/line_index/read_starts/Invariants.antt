use Rattle.std.proofs.Common.{◌≡◌, ◌+◌, ◌++◌, length}
use Rattle.rowan_lines.specs.Lines.{line_starts, starts_from}
use Rattle.rowan_lines.proofs.line_index.read_starts.Given as goal

abbrev pub invariant-loop-byte : goal.invariant-loop-byte
invariant-loop-byte l = record {
  starts : l.starts.items ++ starts_from l.place l.rest ≡ line_starts l.text;
  read : l.place + length l.rest ≡ length l.text;
}

abbrev pub decreases-loop-byte : goal.decreases-loop-byte
decreases-loop-byte l = length l.rest
