use Rattle.std.proofs.Common.{ap, subst, arith}
use Rattle.rowan_green.specs.declared.utility_types.NodeOrToken.TheVariants.{Node}
use Rattle.rowan_terms.specs.Path.{range}
use Rattle.rowan_green.specs.Span.{Span}
use Rattle.rowan_table.specs.Search.{LiesIn}
use Rattle.rowan_table.specs.TableView.{root_of, path_at}
use Rattle.rowan_table.proofs.CoverLemmas.{child-has_span}
use Rattle.rowan_table.proofs.table.Table.child_in.Goals as goal

pub returns-then-not-contains_range-clause-none : goal.returns-then-not-contains_range-clause-none
returns-then-not-contains_range-clause-none c = λ none q h.
    let root = root_of c.args.self.now in
    let there = child-has_span root c.args.range (path_at c.args.self.now c.args.parent.now.number)
    q h in
    let lies : LiesIn c.args.range (range (Node root)
    (path_at c.args.self.now c.in_ok-only.only.number)) =
    subst (λ r. LiesIn c.args.range (range (Node root) r)) (c.in_ok-only.ensures.only.only q h)
    there.lies in
    let own = c.in_ok-only.ensures.place.lies in
    let yes = c.contains_range.ensures.contains.1 (
      omega (arith, lies.0, ap (λ (r : Span). r.start) own),
      omega (arith, lies.1, ap (λ (r : Span). r.end) own),
    ) in
    absurd (cc (yes, c.if-not-contains_range.true))
