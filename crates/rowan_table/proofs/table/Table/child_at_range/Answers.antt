use Rattle.std.proofs.Common.{refl, sym, subst}
use Rattle.rowan_table.specs.Search.{IsRangeChild}
use Rattle.rowan_table.specs.TableView.{root_of, path_at}
use Rattle.rowan_table.proofs.table.Table.child_at_range.Goals as goal

pub returns-in_err-child-clause-none : goal.returns-in_err-child-clause-none
returns-in_err-child-clause-none c = λ none q h.
    let t = c.args.self.now in
    c.in_err-child.ensures.none refl q (subst
    (λ n. IsRangeChild (root_of t) c.args.range (path_at t n) q) (sym c.place.ensures.number) h)
