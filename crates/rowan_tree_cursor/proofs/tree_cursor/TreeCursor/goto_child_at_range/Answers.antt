use Rattle.std.proofs.Common.{◌≡◌, ◌-◌, ◌≤◌, Some, ◌∙◌, ap, subst, arith, rules}
use Rattle.std.proofs.lemmas.Result.{IfOk-weaker}
use Rattle.rowan_green.specs.declared.utility_types.NodeOrToken.TheVariants.{Node}
use Rattle.rowan_terms.specs.Path.{offset}
use Rattle.rowan_green.specs.Search.{IsChildAt}
use Rattle.rowan_green.specs.Span.{Span}
use Rattle.rowan_green.specs.Term.{node_children}
use Rattle.rowan_table.specs.Cursor.{term_at}
use Rattle.rowan_table.specs.Moves.{child_or_token_at_index}
use Rattle.rowan_tree_cursor.specs.TreeCursorMoves.{GoesTo, GoesToChild}
use Rattle.rowan_tree_cursor.proofs.TreeCursorMoveLemmas.{range-some}
use Rattle.rowan_tree_cursor.proofs.tree_cursor.TreeCursor.goto_child_at_range.Goals as goal

pub returns-clause-ok : goal.returns-clause-ok
returns-clause-ok c =
    let now = c.args.self.now in
    let new = c.goto_child_at_index.new.self in
    let span = c.args.range in
    let n = c.in-Node.node.now in
    let ts = node_children n in
    let i = c.in-Some.found.0 in
    let here : term_at now ≡ Some (Node n) = c.in-Node.ensures in
    let starts : c.start-start.result ≡ offset (Node now.root) now.path =
    c.start-start.ensures.offset ∙ ap (λ (r : Span). r.start) c.text_range.ensures in
    let order : c.start-start.result ≤ c.start.result = search rules in
    let from : offset (Node now.root) now.path ≤ span.start =
    omega (arith, order, starts, c.start.ensures.offset) in
    let child : IsChildAt ts (span.start - offset (Node now.root) now.path)
    (span.end - offset (Node now.root) now.path) i =
    subst (λ o. IsChildAt ts (span.start - o) (span.end - o) i) starts
    (subst (λ (r : Span). IsChildAt ts r.start r.end i) c.range_from.ensures
    c.in-Some.ensures.some.0) in
    IfOk-weaker c.goto_child_at_index.result
    (λ moved. GoesTo (child_or_token_at_index now i) now moved new)
    (λ moved. GoesToChild span now moved new)
    (λ moved to. range-some now n span i moved new here from child to)
    c.goto_child_at_index.ensures.ok
