use Rattle.std.proofs.Common.{◌≡◌, ◌++◌, drop}
use Rattle.toml_values.specs.Keys.{key_ranges_of, ranges_from}
use Rattle.toml_values.proofs.value.ValueRef.key_ranges.Given as goal

-- the ranges so far and those that are left are all of them
abbrev pub invariant-loop-turn : goal.invariant-loop-turn
invariant-loop-turn l =
    l.ranges.items ++ ranges_from l.self.values.now.keys.items (drop l._turn-index l._turn-items) l.next
    ≡ key_ranges_of l.self
