-- A pass over the elements of a table, inside the element with the number `top`: what it still
-- finds at a number. A pass goes on, or back.
use Rattle.std.specs.Prelude.{◌≡◌, ℕ, true, Option, Some}
use Rattle.rowan_green.specs.declared.utility_types.NodeOrToken.TheVariants.{Node}
use Rattle.rowan_terms.specs.Path.{Path, begins}
use Rattle.rowan_table.specs.declared.table.Table.{Table}
use Rattle.rowan_table.specs.Moves.{child_count}
use Rattle.rowan_table.specs.Pass.{leaf_list, after, before, since, since_child, until}
use Rattle.rowan_table.specs.Pass.{until_child, first_inside, last_inside}
use Rattle.rowan_table.specs.TableView.{root_of, path_at, IsWithin}

-- the element is that at the top, or below it
pub record StandsInside (t : Table) (top number : ℕ) : Type 0 where
  pub top_within : IsWithin t top
  pub within : IsWithin t number
  pub inside : begins (path_at t top) (path_at t number) ≡ true

-- on: the first token from an element on, those below it too
abbrev pub first_token_from : Table → ℕ → ℕ → Option Path
first_token_from t top n =
    first_inside (path_at t top) (since leaf_list (Some (Node (root_of t))) (path_at t n))

-- on: the first token below an element or behind it
abbrev pub first_token_past : Table → ℕ → ℕ → Option Path
first_token_past t top n =
    first_inside (path_at t top) (since_child leaf_list (Some (Node (root_of t))) (path_at t n) 0)

-- on: the first token behind an element, and not below it
abbrev pub first_token_behind : Table → ℕ → ℕ → Option Path
first_token_behind t top n =
    first_inside (path_at t top) (after leaf_list (Some (Node (root_of t))) (path_at t n))

-- back: the last token up to an element's end, those below it too
abbrev pub last_token_to : Table → ℕ → ℕ → Option Path
last_token_to t top n =
    last_inside (path_at t top) (until leaf_list (Some (Node (root_of t))) (path_at t n))

-- back: the last token below an element or before it
abbrev pub last_token_until : Table → ℕ → ℕ → Option Path
last_token_until t top n =
    let p = path_at t n in
    let count = child_count (root_of t) p in
    last_inside (path_at t top) (until_child leaf_list (Some (Node (root_of t))) p count)

-- back: the last token before an element, and not below it
abbrev pub last_token_before : Table → ℕ → ℕ → Option Path
last_token_before t top n =
    last_inside (path_at t top) (before leaf_list (Some (Node (root_of t))) (path_at t n))
