-- How many items a row and a climb have at most.
use Rattle.std.proofs.Common.{ℕ, ◌-◌, ◌≤◌, Bool, List}
use Rattle.std.proofs.Common.{length, refl, ◌∙◌, arith}
use Rattle.std.specs.Prelude.{not}
use Rattle.std.specs.List.{filter}
use Rattle.std.proofs.lemmas.List.{length-map, length-reverse}
use Rattle.std.proofs.lemmas.List.Filters.{length-filter_both}
use Rattle.std.proofs.lemmas.List.FromFn.{length-range_with_len}
use Rattle.rowan_green.specs.declared.utility_types.Direction.{Direction}
use Rattle.rowan_green.specs.declared.utility_types.Direction.TheVariants.{Next, Prev}
use Rattle.rowan_cursor.specs.declared.cursor.row.Row.{Row}
use Rattle.rowan_table.specs.declared.table.Table.{Table}
use Rattle.rowan_table.specs.Moves.{numbers}
use Rattle.rowan_table.specs.TableView.{cursor_of, element_of, stands_for_node}
use Rattle.rowan_cursor.specs.Walks.{numbers_between, row_numbers, node_numbers, row_nodes}
use Rattle.rowan_cursor.specs.Walks.{row_elements}

between-short : (d : Direction) (a b : ℕ) → length (numbers_between a b d) ≤ b
between-short Next a b = rw (length-range_with_len a (b - a)) (omega arith)
between-short Prev a b =
    rw (length-reverse (numbers a (b - a)) ∙ length-range_with_len a (b - a)) (omega arith)

pub filter-short : {A : Type 0} (p : A → Bool) (xs : List A) → length (filter p xs) ≤ length xs
filter-short p xs = omega (arith, length-filter_both p (λ x. not (p x)) (λ x. refl) xs)

-- a row of nodes, of elements, has no more items than its end is
pub row_nodes-short : (t : Table) (row : Row) → length (row_nodes t row) ≤ row.end
row_nodes-short t row = rw (length-map (node_numbers t row) (cursor_of t)) (omega (
  arith,
  filter-short (stands_for_node t) (row_numbers row),
  between-short row.direction row.start row.end,
))

pub row_elements-short : (t : Table) (row : Row) → length (row_elements t row) ≤ row.end
row_elements-short t row =
    rw (length-map (row_numbers row) (element_of t)) (between-short row.direction row.start row.end)
