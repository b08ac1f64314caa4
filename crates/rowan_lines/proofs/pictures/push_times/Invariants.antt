use Rattle.std.proofs.Common.{◌≡◌, ◌++◌, ◌<◌}
use Rattle.std.specs.Prelude.{replicate, string_bytes}
use Rattle.rowan_lines.proofs.pictures.push_times.Given as goal

abbrev pub invariant-loop-place : goal.invariant-loop-place
invariant-loop-place l = l.character < 128 → string_bytes l.out ≡ string_bytes l.fn.out ++ replicate
    l.place l.character
