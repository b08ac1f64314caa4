-- The kind and the text that a token stores.
use Rattle.std.specs.Prelude.{ℕ, List, string_bytes}
use Rattle.rowan_green.specs.declared.green.token_data.TokenData.{TokenData}
use Rattle.rowan_green.specs.declared.green.token_data.TokenData.TheVariants.{Short, Long}
use Rattle.rowan_green.specs.Term.{TokenTerm, token_of}

abbrev pub stored_kind : TokenData → ℕ
stored_kind (Short kind text) = kind.0
stored_kind (Long kind text) = kind.0

abbrev pub stored_text : TokenData → List ℕ
stored_text (Short kind text) = text
stored_text (Long kind text) = string_bytes text.value

abbrev pub stored_token : TokenData → TokenTerm
stored_token t = token_of (stored_kind t) (stored_text t)
