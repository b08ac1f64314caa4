use Rattle.std.proofs.Common.{◌≡◌, ◌++◌, length}
use Rattle.std.specs.Prelude.{string_bytes}
use Rattle.rowan_lines.specs.Printed.{errors_text, AreInShortLines}
use Rattle.rowan_lines.proofs.rendering.Renderer.push_errors.Given as goal

abbrev pub invariant-errors : goal.invariant-errors
invariant-errors l = AreInShortLines l.self.index.now l.errors → AreInShortLines l.self.index.now
    l.rest × (string_bytes l.out ++ errors_text l.self.name.now l.self.index.now l.rest
    ≡ string_bytes l.fn.out ++ errors_text l.self.name.now l.self.index.now l.errors)

abbrev pub decreases-errors : goal.decreases-errors
decreases-errors l = length l.rest
