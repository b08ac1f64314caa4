use Rattle.std.proofs.Common.{◌==◌}
use Rattle.std.proofs.lemmas.Bool.{and_parts, false_from_ne_true}
use Rattle.rowan_table.specs.Cursor.{term_at}
use Rattle.rowan_table.specs.Equal.{start_of, same_place, same_if_some, same_if_some-decides}
use Rattle.rowan_cursor.proofs.SizeLemmas.{not_same-below}
use Rattle.rowan_cursor.proofs.laws.nothing_equals_what_is_in_it.Goals as goal

pub returns : goal.returns
returns c = λ a b i q t root path there.
    false_from_ne_true (same_place a b) (λ h.
    let p = and_parts (start_of a == start_of b) (same_if_some (term_at a) (term_at b)) h in
    not_same-below a b i q t root path there ((same_if_some-decides (term_at a) (term_at b)).0 p.1))
