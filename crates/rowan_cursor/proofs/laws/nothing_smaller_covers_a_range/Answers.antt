use Rattle.std.proofs.Common.{sym, subst}
use Rattle.rowan_table.specs.Cursor.{Cursor, text_range}
use Rattle.rowan_table.specs.Search.{LiesIn, FindsChild, Covers}
use Rattle.std.specs.Prelude.{None}
use Rattle.rowan_table.proofs.CoverLemmas.{HasSpan, covers-has_span, covers-ends, place_of-stands}
use Rattle.rowan_cursor.proofs.laws.nothing_smaller_covers_a_range.Goals as goal

pub returns-clause-has : goal.returns-clause-has
returns-clause-has c = λ a span t e there within s.
    let is : HasSpan a.root span a.path s.path =
    covers-has_span a.root span a.path s.path t there within s.true in
    subst (λ (x : Cursor). LiesIn span (text_range x))
    (sym (place_of-stands a.root (Covers a.root span a.path) e s)) is.lies

pub returns-clause-last : goal.returns-clause-last
returns-clause-last c = λ a span e s.
    subst (λ (x : Cursor). FindsChild span x None)
    (sym (place_of-stands a.root (Covers a.root span a.path) e s))
    (covers-ends a.root span a.path s.path s.true)
