use Rattle.std.proofs.Common.{◌≡◌, ◌+◌, ◌-◌, ◌≤◌, length, Some, refl, sym, ◌∙◌, ap, arith}
use Rattle.std.proofs.Common.{[], ◌∷◌, ◌++◌}
use Rattle.std.specs.Prelude.{slice_get}
use Rattle.std.specs.Option.{option_map}
use Rattle.rowan_green.specs.Lent.{pointee}
use Rattle.rowan_green.specs.Search.{child_start}
use Rattle.rowan_green.specs.Span.{Span}
use Rattle.rowan_green.specs.Term.{node_children}
use Rattle.rowan_table.specs.Moves.{prev_sibling_or_token, cursor_at, place_of}
use Rattle.rowan_tree_cursor.specs.declared.tree_cursor.Frame.{Frame}
use Rattle.rowan_tree_cursor.specs.TreeCursor.{path_of}
use Rattle.rowan_tree_cursor.proofs.TreeCursorLemmas.{ends-with, placed-parent, placed-sibling}
use Rattle.rowan_tree_cursor.proofs.TreeCursorLemmas.{child-limit}
use Rattle.rowan_tree_cursor.proofs.TreeCursorLemmas.{path-sibling, path-ends, get-within}
use Rattle.rowan_tree_cursor.proofs.TreeCursorMoveLemmas.{goes, stays, previous-some, previous-none}
use Rattle.rowan_tree_cursor.proofs.tree_cursor.TreeCursor.goto_previous_sibling.Goals as goal

pub returns-then-frame-eq0 : goal.returns-then-frame-eq0
returns-then-frame-eq0 c =
    let s = c.self.inside in
    let all = s.above.items in
    let f = c.in-Some.frame in
    let there : slice_get all (length all - 1) ≡ Some f = cc in
    let e = ends-with all f there in
    let zero : f.index ≡ 0 = omega arith in
    stays (option_map place_of (prev_sibling_or_token c.args.self.now)) c.args.self.now
    c.args.self.now
    (ap (λ d. option_map place_of (prev_sibling_or_token d)) (sym c.self.view_is)
    ∙ previous-none s.root.now (path_of e.before) (path_of all) f.index (path-ends all f e) zero)
    refl

pub returns-in_default-child_ref : goal.returns-in_default-child_ref
returns-in_default-child_ref c =
    let s = c.self.inside in
    let all = s.above.items in
    let f = c.in-Some.frame in
    let there : slice_get all (length all - 1) ≡ Some f = cc in
    let e = ends-with all f there in
    let up = placed-parent s.root.now all e.before f (pointee s.element) s.start c.self.invariant
    e.is in
    let within = get-within (node_children f.node.now) f.index (pointee s.element) up.child in
    let past : length (node_children f.node.now) ≤ f.index - 1 =
    c.in_default-child_ref.ensures.none.0 refl in
    absurd (omega (arith, within, past))

pub at-requires : goal.at-requires
at-requires c =
    let s = c.self.inside in
    let all = s.above.items in
    let f = c.in-Some.frame in
    let there : slice_get all (length all - 1) ≡ Some f = cc in
    let e = ends-with all f there in
    let up = placed-parent s.root.now all e.before f (pointee s.element) s.start c.self.invariant
    e.is in
    child-limit s.root.now e.before f.node.now f.start (f.index - 1) _ _ up.parent
    c.in-Some-child_ref.ensures.some.1 c.in-Some-child_ref.ensures.some.0

pub invariant_of-self : goal.invariant_of-self
invariant_of-self c =
    let s = c.self.inside in
    let all = s.above.items in
    let f = c.in-Some.frame in
    let there : slice_get all (length all - 1) ≡ Some f = cc in
    let e = ends-with all f there in
    let last : c.len-last.result - 1 ≡ length all - 1 =
    omega (arith, c.len-last.ensures, c.deref.ensures.len, ap length c.deref.ensures.value) in
    let g : Frame = record { node = f.node; start = f.start; index = f.index - 1 } in
    let begins : c.end-self-inside.result ≡ f.start
    + child_start (node_children f.node.now) (f.index - 1) =
    omega (
      arith,
      c.end-self-inside.ensures.offset,
      ap (λ (r : Span). r.end) c.at.ensures,
      c.in-Some-child_ref.ensures.some.0,
    ) in
    placed-sibling s.root.now all f g (pointee s.element) _ s.start _ _ c.self.invariant e last refl
    refl c.in-Some-child_ref.ensures.some.1 begins

pub returns : goal.returns
returns c =
    let s = c.self.inside in
    let all = s.above.items in
    let f = c.in-Some.frame in
    let there : slice_get all (length all - 1) ≡ Some f = cc in
    let e = ends-with all f there in
    let last : c.len-last.result - 1 ≡ length all - 1 =
    omega (arith, c.len-last.ensures, c.deref.ensures.len, ap length c.deref.ensures.value) in
    let step : f.index ≡ f.index - 1 + 1 = omega arith in
    let g : Frame = record { node = f.node; start = f.start; index = f.index - 1 } in
    goes (option_map place_of (prev_sibling_or_token c.args.self.now)) c.args.self.now
    (cursor_at s.root.now (path_of e.before ++ (f.index - 1) ∷ [])) _
    (ap (λ d. option_map place_of (prev_sibling_or_token d)) (sym c.self.view_is)
    ∙ previous-some s.root.now (path_of e.before) (path_of all) f.index (f.index - 1)
    (path-ends all f e) step)
    (ap (cursor_at s.root.now) (path-sibling all f g _ e last))
