use Rattle.std.proofs.Common.{take}
use Rattle.rowan_tool.specs.Reparse.{edits_of}
use Rattle.rowan_tool.proofs.EditLemmas.{IsEdited}
use Rattle.rowan_tool.proofs.sexp.reparse.reparse_all.Given as goal

-- the tree is that of the text after the edits so far
abbrev pub invariant-loop-range : goal.invariant-loop-range
invariant-loop-range l = IsEdited l.text (take l.range-index (edits_of l.edits)) l.green
