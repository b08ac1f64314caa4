-- The texts of new nodes.
use Rattle.std.specs.Prelude.{ℕ, List, [], ◌++◌, Option, Some, None, String, string_bytes}
use Rattle.toml_edit.specs.declared.adding.Addition.{Addition}

-- the text of a header, if there is one
abbrev pub header_text : {Z : Type 0} → Option (String Z) → List ℕ
header_text None = []
header_text (Some header) = string_bytes header

-- the header of a new table, and its entries; else the entry or the value alone
abbrev pub addition_text : Addition → List ℕ
addition_text a = header_text a.header ++ string_bytes a.text
