use Rattle.std.proofs.Common.{◌≡◌, map, length}
use Rattle.std.specs.Iterator.Adapters.{zip_first, zip_second}
use Rattle.std.specs.Slice.Iter.{iter_rest}
use Rattle.toml_format.specs.Skeleton.{mark_symbol}
use Rattle.toml_format.proofs.skeleton.are_same.Given as goal

-- where what is left is the same, all is
abbrev pub invariant-loop-mark : goal.invariant-loop-mark
invariant-loop-mark l =
    let new = iter_rest (zip_first l.mark-iterator) in
    let old = iter_rest (zip_second l.mark-iterator) in
    (length new ≡ length old)
    × (map mark_symbol new ≡ map mark_symbol old
    → map mark_symbol l.fn.new ≡ map mark_symbol l.fn.old)
