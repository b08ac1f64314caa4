-- Wrappers of s-expressions: the kinds that cast to each of them.
use Rattle.std.specs.Prelude.{◌≡◌, Bool, true, false, ◌||◌}
use Rattle.rowan_sexp.specs.declared.sexp.lang.SyntaxKind.{SyntaxKind}
use Rattle.rowan_sexp.specs.declared.sexp.lang.SyntaxKind.TheVariants.{LIST, ATOM, ROOT}
use Rattle.rowan_sexp.specs.contracts.sexp.lang.SyntaxKind.{the_type}
use denote.Enum.Bare.{same_true, sameb}

abbrev pub is_root : SyntaxKind → Bool
is_root ROOT = true
is_root _ = false

abbrev pub is_atom : SyntaxKind → Bool
is_atom ATOM = true
is_atom _ = false

abbrev pub is_list : SyntaxKind → Bool
is_list LIST = true
is_list _ = false

-- an expression is an atom or a list
abbrev pub is_sexp : SyntaxKind → Bool
is_sexp kind = is_atom kind || is_list kind

-- kinds that `==` holds equal are one kind
pub same_kind : (a b : SyntaxKind) → sameb the_type a b ≡ true → a ≡ b
same_kind a b same = same_true the_type tt a b same
