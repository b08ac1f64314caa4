use Rattle.std.proofs.Common.{◌≡◌, ◌+◌, ◌<◌, ◌≤◌, [], ◌∷◌, ◌++◌, length, Some, refl, sym, ◌∙◌, ap}
use Rattle.std.proofs.Common.{subst, arith}
use Rattle.rowan_green.specs.declared.utility_types.NodeOrToken.TheVariants.{Node}
use Rattle.rowan_green.specs.Lent.{pointee}
use Rattle.rowan_green.specs.Search.{child_start}
use Rattle.rowan_green.specs.Span.{Span}
use Rattle.rowan_green.specs.Term.{node_children}
use Rattle.rowan_table.specs.Cursor.{Cursor, term_at}
use Rattle.rowan_table.specs.Moves.{cursor_at}
use Rattle.rowan_tree_cursor.specs.declared.tree_cursor.Frame.{Frame}
use Rattle.rowan_tree_cursor.specs.TreeCursor.{path_of, IsPlaced}
use Rattle.rowan_tree_cursor.proofs.TreeCursorLemmas.{path-more, placed-child, child-limit, get-within}
use Rattle.rowan_tree_cursor.proofs.TreeCursorMoveLemmas.{down-none, down-some}
use Rattle.rowan_tree_cursor.proofs.tree_cursor.TreeCursor.goto_child_at_index.Goals as goal

pub returns-in_default-child_ref-clause-ok : goal.returns-in_default-child_ref-clause-ok
returns-in_default-child_ref-clause-ok c =
    let n = c.in-Node.node.now in
    let here : term_at c.args.self.now ≡ Some (Node n) =
    ap term_at (sym c.self.view_is) ∙ c.self.invariant.stands
    ∙ ap (λ x. Some (pointee x)) c.in-Node.is in
    let past : length (node_children n) ≤ c.args.index =
    c.in_default-child_ref.ensures.none.0 refl in
    down-none c.args.self.now (Node n) c.args.index here past

pub at-requires : goal.at-requires
at-requires c =
    let s = c.self.inside in
    let n = c.in-Node.node.now in
    let placed : IsPlaced s.root.now s.above.items (Node n) s.start =
    subst (λ t. IsPlaced s.root.now s.above.items t s.start) (ap pointee c.in-Node.is)
    c.self.invariant in
    child-limit s.root.now s.above.items n s.start c.args.index _ _ placed c.in-Some.ensures.some.1
    c.in-Some.ensures.some.0

pub invariant_of-self-2 : goal.invariant_of-self-2
invariant_of-self-2 c =
    let s = c.self.inside in
    let all = s.above.items in
    let n = c.in-Node.node.now in
    let f : Frame = record { node = c.in-Node.node; start = s.start; index = c.args.index } in
    let placed : IsPlaced s.root.now all (Node n) s.start =
    subst (λ t. IsPlaced s.root.now all t s.start) (ap pointee c.in-Node.is) c.self.invariant in
    let list : all ++ f ∷ [] ≡ c.push_reserved.new.self.items =
    sym (c.push_reserved.ensures.items ∙ ap (λ fs. fs ++ f ∷ []) c.in_ok-reserve.ensures.items) in
    let begins : c.end-child_start.result ≡ s.start + child_start (node_children n) c.args.index =
    omega (
      arith,
      c.end-child_start.ensures.offset,
      ap (λ (r : Span). r.end) c.at.ensures,
      c.in-Some.ensures.some.0,
    ) in
    subst (λ fs. IsPlaced s.root.now fs (pointee c.in-Some.found.1) c.end-child_start.result) list
    (placed-child s.root.now all f s.start c.end-child_start.result (pointee c.in-Some.found.1)
    placed refl c.in-Some.ensures.some.1 begins)

pub returns-clause-ok : goal.returns-clause-ok
returns-clause-ok c =
    let s = c.self.inside in
    let all = s.above.items in
    let n = c.in-Node.node.now in
    let i = c.args.index in
    let f : Frame = record { node = c.in-Node.node; start = s.start; index = i } in
    let here : term_at c.args.self.now ≡ Some (Node n) =
    ap term_at (sym c.self.view_is) ∙ c.self.invariant.stands
    ∙ ap (λ x. Some (pointee x)) c.in-Node.is in
    let within : i < length (node_children n) = get-within _ _ _ c.in-Some.ensures.some.1 in
    let path : path_of c.push_reserved.new.self.items ≡ path_of all ++ i ∷ [] =
    ap path_of (c.push_reserved.ensures.items
    ∙ ap (λ fs. fs ++ f ∷ []) c.in_ok-reserve.ensures.items) ∙ path-more all f in
    down-some c.args.self.now n i _ here within
    (ap (cursor_at s.root.now) path
    ∙ ap (λ (d : Cursor). cursor_at d.root (d.path ++ i ∷ [])) c.self.view_is)
