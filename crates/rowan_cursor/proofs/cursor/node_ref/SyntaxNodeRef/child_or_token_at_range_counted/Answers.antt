use Rattle.std.proofs.Common.{subst}
use Rattle.std.specs.Prelude.{IfSome, IsNone}
use Rattle.std.specs.Option.{option_map}
use Rattle.rowan_terms.specs.Path.{Path}
use Rattle.rowan_table.specs.declared.table.Table.{Table}
use Rattle.rowan_cursor.specs.Refs.{element_place}
use Rattle.rowan_table.specs.Search.{IsRangeChild}
use Rattle.rowan_table.specs.TableView.{root_of, path_at}
use Rattle.rowan_table.proofs.SearchLemmas.{finds-answer}
use Rattle.rowan_cursor.proofs.cursor.node_ref.SyntaxNodeRef.child_or_token_at_range_counted.Goals as goal

pub returns-clause-found : goal.returns-clause-found
returns-clause-found c =
    let t = c.args.self.now.table.now.value in
    let n = c.args.self.now.number in
    let o = c.child_at_range-child.result in
    let range = c.args.range in
    let some = subst (λ (t : Table). IfSome o
    (λ k. IsRangeChild (root_of t) range (path_at t n) (path_at t k))) c.deref.ensures
    c.child_at_range-child.ensures.child in
    let none = subst (λ (t : Table). IsNone o → (q : Path)
    → ¬ IsRangeChild (root_of t) range (path_at t n) q) c.deref.ensures
    c.child_at_range-child.ensures.none in
    finds-answer t (IsRangeChild (root_of t) range (path_at t n)) o
    (option_map element_place c.found.result) c.found.ensures some none
