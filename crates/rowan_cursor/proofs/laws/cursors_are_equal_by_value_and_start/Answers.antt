use Rattle.std.proofs.Common.{◌==◌}
use Rattle.std.proofs.lemmas.Bool.{and_from, and_parts}
use Rattle.std.proofs.lemmas.Bool.Decides.{Decides-eqb}
use Rattle.rowan_table.specs.Cursor.{term_at}
use Rattle.rowan_table.specs.Equal.{start_of, same_if_some, same_if_some-decides}
use Rattle.rowan_cursor.proofs.laws.cursors_are_equal_by_value_and_start.Goals as goal

pub returns : goal.returns
returns c = λ a b.
    let starts = Decides-eqb (start_of a) (start_of b) in
    let terms = same_if_some-decides (term_at a) (term_at b) in (
      (λ h.
          let p = and_parts (start_of a == start_of b) (same_if_some (term_at a) (term_at b)) h in
          (starts.0 p.0, terms.0 p.1)),
      (λ p. and_from (start_of a == start_of b) (same_if_some (term_at a) (term_at b))
          (starts.1 p.0) (terms.1 p.1)),
    )
