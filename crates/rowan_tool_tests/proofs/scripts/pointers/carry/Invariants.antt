use Rattle.std.specs.Iterator.Adapters.{zip_first, zip_second}
use Rattle.std.specs.Slice.Iter.{iter_rest}
use Rattle.rowan_green.specs.declared.utility_types.NodeOrToken.TheVariants.{Node}
use Rattle.rowan.specs.Pointer.{carried_in_turn}
use Rattle.rowan.specs.Trace.{replacements, tree_of}
use Rattle.rowan_tool_tests.proofs.Carrying.{IsLeft}
use Rattle.rowan_tool_tests.proofs.scripts.pointers.carry.Given as goal

-- the steps that are left carry the pointer where all of them carry the first one
abbrev pub invariant-loop-step : goal.invariant-loop-step
invariant-loop-step g l =
    let start = Node l.start in
    let rest = l.step-iterator in
    IsLeft (iter_rest (zip_first rest)) (iter_rest (zip_second rest)) l.here l.pointer
    (carried_in_turn (tree_of start) (replacements start l.steps l.reports) l.fn.pointer)
