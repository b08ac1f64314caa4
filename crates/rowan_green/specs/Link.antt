-- A number or none in 32 bits: the greatest of them stands for none.
use Rattle.std.specs.Prelude.{ℕ, ◌==◌, Option, Some, None, cond}

-- the number that stands for none; a number that is one is below it
abbrev pub link_limit : ℕ
link_limit = 4294967295

abbrev pub linked : ℕ → Option ℕ
linked raw = cond (raw == link_limit) None (Some raw)

abbrev pub link_number : Option ℕ → ℕ
link_number None = link_limit
link_number (Some number) = number
