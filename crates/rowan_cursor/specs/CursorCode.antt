-- A cursor is stored as its root and its path.
use Rattle.std.specs.Prelude.{ℕ, List, refl}
use Rattle.std.specs.Coded.{Coded, code_by, coded×, coded_ℕ, coded_list}
use Rattle.rowan_green.specs.Coding.{coded_node}
use Rattle.rowan_green.specs.Term.{NodeTerm}
use Rattle.rowan_table.specs.Cursor.{Cursor}

abbrev pub coded_cursor : Coded Cursor
coded_cursor =
    code_by (NodeTerm × List ℕ) (coded× coded_node (coded_list coded_ℕ)) (λ c. (c.root, c.path))
    (λ p. record { root = p.0; path = p.1 }) (λ _. refl)
