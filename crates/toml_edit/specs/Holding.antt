-- Texts that hold others.
use Rattle.std.specs.Prelude.{◌≡◌, ℕ, List, ◌++◌}
use Rattle.toml_edit_plan.specs.declared.written.NewValue.{NewValue}
use Rattle.toml_edit_plan.specs.Written.{IsTextOf}

-- a part stands in a text
pub record Holds (whole part : List ℕ) : Type 0 where
  pub before : List ℕ
  pub behind : List ℕ
  pub is : whole ≡ before ++ (part ++ behind)

-- the text of a new value stands in a text
pub record HoldsValue (value : NewValue) (whole : List ℕ) : Type 0 where
  pub text : List ℕ
  pub is_text : IsTextOf value text
  pub holds : Holds whole text
