-- Texts that hold others.
use Rattle.std.proofs.Common.{◌≡◌, ℕ, List, ◌++◌, Option, sym, ◌∙◌, ap, subst, append_assoc}
use Rattle.std.specs.Prelude.{Result, Ok, Err, IfOk, String, string_bytes}
use Rattle.rowan.specs.Term.{NodeTerm}
use Rattle.rowan_changes.specs.declared.changes.Edited.{Edited}
use Rattle.toml_edit.specs.declared.adding.Addition.{Addition}
use Rattle.toml_edit.specs.Additions.{addition_text, header_text}
use Rattle.toml_edit.specs.Edits.{IsGrown, IsSetAnew}
use Rattle.toml_edit.specs.Holding.{Holds, HoldsValue}
use Rattle.toml_edit_plan.specs.declared.error.TomlEditError.{TomlEditError}
use Rattle.toml_edit_plan.specs.declared.written.NewValue.{NewValue}
use Rattle.toml_edit_plan.specs.Written.{IsTextOf}

-- a part between two others
pub holds_between : (whole before part behind : List ℕ) → whole ≡ (before ++ part) ++ behind
    → Holds whole part
holds_between whole before part behind h =
    record { before = before; behind = behind; is = h ∙ append_assoc before part behind }

-- more text ahead
holds-behind : (more whole part : List ℕ) → Holds whole part → Holds (more ++ whole) part
holds-behind more whole part h = record {
  before = more ++ h.before;
  behind = h.behind;
  is = ap (λ bs. more ++ bs) h.is ∙ sym (append_assoc more h.before (part ++ h.behind));
}

-- an addition that holds the text of a value holds the value
pub holds_value : (value : NewValue) (text : List ℕ) (result : Result Addition TomlEditError)
    → IsTextOf value text → IfOk result (λ a. Holds (string_bytes a.text) text)
    → IfOk result (λ a. HoldsValue value (string_bytes a.text))
holds_value value text (Err x) is holds = tt
holds_value value text (Ok a) is holds = record { text = text; is_text = is; holds = holds }

-- the tree that has grown by an addition has a new key
pub set_anew : (old : NodeTerm) (value : NewValue) (a : Addition)
    (result : Result Edited TomlEditError) → HoldsValue value (string_bytes a.text)
    → IfOk result (IsGrown old (addition_text a)) → IfOk result (IsSetAnew old value)
set_anew old value a (Err x) holds grown = tt
set_anew old value a (Ok e) holds grown = record {
  text = addition_text a;
  holds = record {
    text = holds.text;
    is_text = holds.is_text;
    holds = holds-behind (header_text a.header) (string_bytes a.text) holds.text holds.holds;
  };
  grown = grown;
}
