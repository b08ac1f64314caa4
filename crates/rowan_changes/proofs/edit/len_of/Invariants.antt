use Rattle.std.proofs.Common.{◌≡◌, take}
use Rattle.rowan_green.specs.Term.{sum_of_lens}
use Rattle.rowan_changes.proofs.edit.len_of.Given as goal

abbrev pub invariant-loop-element : goal.invariant-loop-element
invariant-loop-element l = l.sum ≡ sum_of_lens (take l.element-index l.elements)
