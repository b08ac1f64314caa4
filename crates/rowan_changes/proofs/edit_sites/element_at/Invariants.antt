use Rattle.std.proofs.Common.{◌≡◌, drop, Some}
use Rattle.rowan_green.specs.declared.utility_types.NodeOrToken.TheVariants.{Node}
use Rattle.rowan_green.specs.Lent.{pointee}
use Rattle.rowan_terms.specs.Path.{subterm, subterm_of}
use Rattle.rowan_changes.proofs.edit_sites.element_at.Given as goal

-- what stands on the rest of the path below the element stands on the whole path
abbrev pub invariant-loop-index : goal.invariant-loop-index
invariant-loop-index l =
    subterm_of (Some (pointee l.element)) (drop l.index-index l.path)
    ≡ subterm (Node l.fn.root) l.path
