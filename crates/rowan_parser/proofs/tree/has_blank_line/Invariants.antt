use Rattle.std.proofs.Common.{◌≡◌, ◌+◌, ◌≤◌, length}
use Rattle.rowan_lines.specs.Lines.{line_ends}
use Rattle.rowan_parser.proofs.tree.has_blank_line.Given as goal

abbrev pub invariant-loop-byte : goal.invariant-loop-byte
invariant-loop-byte l = record {
  counted : l.ends + line_ends l.rest ≡ line_ends l.text;
  within : l.ends + length l.rest ≤ length l.text;
}

abbrev pub decreases-loop-byte : goal.decreases-loop-byte
decreases-loop-byte l = length l.rest
