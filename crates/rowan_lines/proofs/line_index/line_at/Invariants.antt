use Rattle.std.proofs.Common.{◌-◌, ◌<◌, ◌≤◌, length, get_or}
use Rattle.rowan_lines.proofs.line_index.line_at.Given as goal

abbrev pub invariant-loop-end : goal.invariant-loop-end
invariant-loop-end l = record {
  some : l.line < l.end;
  within : l.end ≤ length l.starts;
  reached : get_or l.starts l.line 0 ≤ l.offset;
  past : l.end < length l.starts → l.offset < get_or l.starts l.end 0;
}

abbrev pub decreases-loop-end : goal.decreases-loop-end
decreases-loop-end l = l.end - l.line
