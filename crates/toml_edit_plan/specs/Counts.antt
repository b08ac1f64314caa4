-- How many nodes and commas stand among elements.
use Rattle.std.specs.Prelude.{ℕ, ◌+◌, ◌==◌, if◌then◌else◌, Bool, true, false, List, [], ◌∷◌}
use Rattle.std.specs.Prelude.{take, drop}
use Rattle.rowan.specs.Types.NodeOrToken.TheVariants.{Node, Token}
use Rattle.rowan.specs.Term.{Term}
use Rattle.toml_edit_plan.specs.declared.counts.Sort.{Sort}
use Rattle.toml_edit_plan.specs.declared.counts.Sort.TheVariants as sort

-- whether an element is a node, or a comma, whose kind has the number 17
abbrev pub is_sort : Sort → Term → Bool
is_sort sort.Node (Node n) = true
is_sort sort.Node (Token t) = false
is_sort sort.Comma (Node n) = false
is_sort sort.Comma (Token t) = t.kind == 17

abbrev pub bit : Bool → ℕ
bit true = 1
bit false = 0

abbrev pub count_of : Sort → List Term → ℕ
count_of sort [] = 0
count_of sort (t ∷ ts) = bit (is_sort sort t) + count_of sort ts

-- so many elements from an index on
abbrev pub part : ℕ → ℕ → List Term → List Term
part from count terms = take count (drop from terms)
