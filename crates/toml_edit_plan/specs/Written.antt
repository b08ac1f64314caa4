-- The texts of new values.
use Rattle.std.specs.Prelude.{◌≡◌, ℕ, List, ⊤}
use Rattle.toml_edit_plan.specs.declared.written.NewValue.{NewValue}
use Rattle.toml_edit_plan.specs.declared.written.NewValue.TheVariants.{Text, Typed}

-- the text of a new value: of one that is given as a text this text
abbrev pub IsTextOf : NewValue → List ℕ → Type 0
IsTextOf (Text text) written = written ≡ text.now
IsTextOf (Typed value) written = ⊤
