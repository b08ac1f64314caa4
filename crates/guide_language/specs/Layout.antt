-- What a formatter keeps.
use Rattle.std.specs.Prelude.{Bool, ◌==◌, not}
use Rattle.rowan.specs.Term.{TokenTerm}

-- a token is something else than white space, whose kind is 0
abbrev pub is_no_space : TokenTerm → Bool
is_no_space token = not (token.kind == 0)
