use Rattle.std.proofs.Common.{ℕ, ◌+◌, ◌-◌, ◌≤◌, length}
use Rattle.std.specs.Str.{IsUtf8}
use Rattle.std.specs.Str.Iter.{chars_rest}
use Rattle.rowan_lines.specs.Lines.{IsUtf16End}
use Rattle.rowan_lines.proofs.line_index.utf16_end.Given as goal

abbrev pub invariant-characters : goal.invariant-characters
invariant-characters l = record {
  utf8 : IsUtf8 (chars_rest l.rest);
  within : l.end + length (chars_rest l.rest) ≤ length l.text;
  all : (k : ℕ) → IsUtf16End l.text l.units k → (l.end ≤ k) × IsUtf16End (chars_rest l.rest) l.left
      (k - l.end);
  there : (k : ℕ) → IsUtf16End (chars_rest l.rest) l.left k → IsUtf16End l.text l.units (l.end + k);
}

abbrev pub decreases-characters : goal.decreases-characters
decreases-characters l = l.left
