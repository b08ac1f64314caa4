use Rattle.std.proofs.Common.{List, ℕ, string_bytes}
use Rattle.std.specs.List.{AllByRecursion}
use Rattle.rowan_print.specs.Opened.{open_size, Completes, IsWithin}
use Rattle.rowan_print.specs.Printed.{raw_name, AreNodeLines}
use Rattle.rowan_print.proofs.printed.tree.Given as goal

abbrev pub invariant-loop-parent : goal.invariant-loop-parent
invariant-loop-parent g l = record {
  within : AllByRecursion IsWithin l.opened.items;
  lines : (whole : List ℕ)
      → Completes (raw_name g.L.Language.name g.L.Language.meaning)
      (string_bytes l.text) l.opened.items whole
      → AreNodeLines (raw_name g.L.Language.name g.L.Language.meaning) l.fn.range.start 0 l.root
      whole;
}

abbrev pub decreases-loop-parent : goal.decreases-loop-parent
decreases-loop-parent g l = open_size l.opened.items
