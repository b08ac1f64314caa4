-- Wrappers of s-expressions, as contracts see them.
use Rattle.rowan_table.specs.Cursor.{Cursor}
use Rattle.rowan_sexp.specs.declared.sexp.ast.Sexp.{Sexp}
use Rattle.rowan_sexp.specs.declared.sexp.ast.Sexp.TheVariants.{Atom, List}

-- the node of an expression
abbrev pub node_in : Sexp → Cursor
node_in (Atom node) = node
node_in (List node) = node
