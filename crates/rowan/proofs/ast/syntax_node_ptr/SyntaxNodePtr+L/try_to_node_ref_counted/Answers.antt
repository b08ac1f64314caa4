use Rattle.std.proofs.Common.{sym, ◌∙◌, ap, Some, None, arith}
use Rattle.std.specs.Option.{option_map}
use Rattle.rowan_api.specs.Refs.{node_place, token_place, element_place}
use Rattle.rowan.specs.Pointer.{means_kind}
use Rattle.rowan.proofs.PointerLemmas.{in-view, search-here, search-none, search-token, search-next}
use Rattle.rowan.proofs.PointerLemmas.{search-from, finds-node, finds-token, finds-none}
use Rattle.rowan.proofs.PointerLemmas.{finds-smaller, finds-standing, root-path, parent-none}
use Rattle.rowan.proofs.PointerLemmas.{rises-some, none-mapped, top-resolves, top-counts}
use Rattle.rowan.proofs.ast.syntax_node_ptr.SyntaxNodePtr+L.try_to_node_ref_counted.Goals as goal

pub loop-self-smaller : goal.loop-self-smaller
loop-self-smaller g c =
    let node = node_place c.loop-self.node in
    let child = node_place c.in-Node.child in
    let counts = c.child_or_token_at_range_counted.ensures in
    let found = option_map element_place c.child_or_token_at_range_counted.result in
    finds-smaller c.args.self.now.range node child (finds-node c.args.self.now.range node child
    found (in-view _ c.args.self.now node found c.self.view_is counts.found)
    (ap (option_map element_place) (c.in-Some.is ∙ ap (λ e. Some e) c.in-Node.is)))

pub loop-self-preserved : goal.loop-self-preserved
loop-self-preserved g c =
    let means = means_kind g.L.Language.meaning g.L.Kind.PartialEq.eq c.args.self.now.kind in
    let span = c.args.self.now.range in
    let node = node_place c.loop-self.node in
    let counts = c.child_or_token_at_range_counted.ensures in
    let middle = c.is_to.new.steps in
    let new = c.child_or_token_at_range_counted.new.steps in
    let child = node_place c.in-Node.child in
    let element = option_map element_place c.child_or_token_at_range_counted.result in
    let f = finds-node span node child element (in-view _ c.args.self.now node element
    c.self.view_is counts.found) (ap (option_map element_place) (c.in-Some.is
    ∙ ap (λ e. Some e) c.in-Node.is)) in (
      finds-standing span node child f,
      λ found last s. c.loop-self.invariant.1 found last (search-next means span node.root node.path
          child.path found c.loop-self.steps middle new last c.loop-self.invariant.0
          (sym c.is_to.ensures.is ∙ c.loop-self-test.true) f.child f.node c.is_to.ensures.visits
          c.is_to.ensures.comparisons counts.visits counts.most counts.grows
          (rises-some c.child_or_token_at_range_counted.result c.in-Some.child c.in-Some.is
          counts.least) (search-from means span node child found new last f s)),
      omega (arith, c.loop-self.invariant.2, c.is_to.ensures.comparisons, counts.grows),
      omega (arith, c.loop-self.invariant.3, c.is_to.ensures.grows, counts.visits),
    )

-- no child
pub returns-in_default-clause-found : goal.returns-in_default-clause-found
returns-in_default-clause-found g c =
    let means = means_kind g.L.Language.meaning g.L.Kind.PartialEq.eq c.args.self.now.kind in
    let span = c.args.self.now.range in
    let root = node_place c.args.root in
    let node = node_place c.loop-self.node in
    let counts = c.child_or_token_at_range_counted.ensures in
    let element = option_map element_place c.child_or_token_at_range_counted.result in
    let top = root-path root (parent-none root (option_map node_place c.parent.result)
    c.parent.ensures (none-mapped node_place c.parent.result (sym c.if-is_some.ensures))) in
    top-resolves means span root None c.args.steps.now
    c.child_or_token_at_range_counted.new.steps top (c.loop-self.invariant.1 None
    c.child_or_token_at_range_counted.new.steps (search-none means span node.root node.path
    c.loop-self.steps c.is_to.new.steps c.child_or_token_at_range_counted.new.steps
    c.loop-self.invariant.0 (sym c.is_to.ensures.is ∙ c.loop-self-test.true)
    (finds-none span node element (in-view _ c.args.self.now node element c.self.view_is
    counts.found) (ap (option_map element_place) c.in_default.is))
    c.is_to.ensures.visits c.is_to.ensures.comparisons counts.visits counts.most counts.grows))

pub returns-in_default-clause-counts : goal.returns-in_default-clause-counts
returns-in_default-clause-counts g c =
    let means = means_kind g.L.Language.meaning g.L.Kind.PartialEq.eq c.args.self.now.kind in
    let span = c.args.self.now.range in
    let root = node_place c.args.root in
    let node = node_place c.loop-self.node in
    let counts = c.child_or_token_at_range_counted.ensures in
    let element = option_map element_place c.child_or_token_at_range_counted.result in
    let top = root-path root (parent-none root (option_map node_place c.parent.result)
    c.parent.ensures (none-mapped node_place c.parent.result (sym c.if-is_some.ensures))) in
    top-counts means span root None c.args.steps.now
    c.child_or_token_at_range_counted.new.steps top (c.loop-self.invariant.1 None
    c.child_or_token_at_range_counted.new.steps (search-none means span node.root node.path
    c.loop-self.steps c.is_to.new.steps c.child_or_token_at_range_counted.new.steps
    c.loop-self.invariant.0 (sym c.is_to.ensures.is ∙ c.loop-self-test.true)
    (finds-none span node element (in-view _ c.args.self.now node element c.self.view_is
    counts.found) (ap (option_map element_place) c.in_default.is))
    c.is_to.ensures.visits c.is_to.ensures.comparisons counts.visits counts.most counts.grows))

-- a token
pub returns-in_default-child-clause-found : goal.returns-in_default-child-clause-found
returns-in_default-child-clause-found g c =
    let means = means_kind g.L.Language.meaning g.L.Kind.PartialEq.eq c.args.self.now.kind in
    let span = c.args.self.now.range in
    let root = node_place c.args.root in
    let node = node_place c.loop-self.node in
    let counts = c.child_or_token_at_range_counted.ensures in
    let element = option_map element_place c.child_or_token_at_range_counted.result in
    let top = root-path root (parent-none root (option_map node_place c.parent.result)
    c.parent.ensures (none-mapped node_place c.parent.result (sym c.if-is_some.ensures))) in
    let t = finds-token span node (token_place c.in_default-child.field-0) element
    (in-view _ c.args.self.now node element c.self.view_is counts.found)
    (ap (option_map element_place) (c.in-Some.is ∙ ap (λ e. Some e) c.in_default-child.is)) in
    top-resolves means span root None c.args.steps.now
    c.child_or_token_at_range_counted.new.steps top (c.loop-self.invariant.1 None
    c.child_or_token_at_range_counted.new.steps (search-token means span node.root node.path t.path
    c.loop-self.steps c.is_to.new.steps c.child_or_token_at_range_counted.new.steps
    c.loop-self.invariant.0 (sym c.is_to.ensures.is ∙ c.loop-self-test.true) t.child t.token
    c.is_to.ensures.visits c.is_to.ensures.comparisons counts.visits counts.most counts.grows))

pub returns-in_default-child-clause-counts : goal.returns-in_default-child-clause-counts
returns-in_default-child-clause-counts g c =
    let means = means_kind g.L.Language.meaning g.L.Kind.PartialEq.eq c.args.self.now.kind in
    let span = c.args.self.now.range in
    let root = node_place c.args.root in
    let node = node_place c.loop-self.node in
    let counts = c.child_or_token_at_range_counted.ensures in
    let element = option_map element_place c.child_or_token_at_range_counted.result in
    let top = root-path root (parent-none root (option_map node_place c.parent.result)
    c.parent.ensures (none-mapped node_place c.parent.result (sym c.if-is_some.ensures))) in
    let t = finds-token span node (token_place c.in_default-child.field-0) element
    (in-view _ c.args.self.now node element c.self.view_is counts.found)
    (ap (option_map element_place) (c.in-Some.is ∙ ap (λ e. Some e) c.in_default-child.is)) in
    top-counts means span root None c.args.steps.now
    c.child_or_token_at_range_counted.new.steps top (c.loop-self.invariant.1 None
    c.child_or_token_at_range_counted.new.steps (search-token means span node.root node.path t.path
    c.loop-self.steps c.is_to.new.steps c.child_or_token_at_range_counted.new.steps
    c.loop-self.invariant.0 (sym c.is_to.ensures.is ∙ c.loop-self-test.true) t.child t.token
    c.is_to.ensures.visits c.is_to.ensures.comparisons counts.visits counts.most counts.grows))

-- the node
pub returns-clause-found : goal.returns-clause-found
returns-clause-found g c =
    let means = means_kind g.L.Language.meaning g.L.Kind.PartialEq.eq c.args.self.now.kind in
    let span = c.args.self.now.range in
    let root = node_place c.args.root in
    let node = node_place c.loop-self.node in
    let top = root-path root (parent-none root (option_map node_place c.parent.result)
    c.parent.ensures (none-mapped node_place c.parent.result (sym c.if-is_some.ensures))) in
    top-resolves means span root (Some node) c.args.steps.now c.is_to.new.steps top
    (c.loop-self.invariant.1 (Some node) c.is_to.new.steps (search-here means span node.root
    node.path c.loop-self.steps c.is_to.new.steps c.loop-self.invariant.0
    (sym c.is_to.ensures.is ∙ c.loop-self-test.false) c.is_to.ensures.visits
    c.is_to.ensures.comparisons))

pub returns-clause-counts : goal.returns-clause-counts
returns-clause-counts g c =
    let means = means_kind g.L.Language.meaning g.L.Kind.PartialEq.eq c.args.self.now.kind in
    let span = c.args.self.now.range in
    let root = node_place c.args.root in
    let node = node_place c.loop-self.node in
    let top = root-path root (parent-none root (option_map node_place c.parent.result)
    c.parent.ensures (none-mapped node_place c.parent.result (sym c.if-is_some.ensures))) in
    top-counts means span root (Some node) c.args.steps.now c.is_to.new.steps top
    (c.loop-self.invariant.1 (Some node) c.is_to.new.steps (search-here means span node.root
    node.path c.loop-self.steps c.is_to.new.steps c.loop-self.invariant.0
    (sym c.is_to.ensures.is ∙ c.loop-self-test.false) c.is_to.ensures.visits
    c.is_to.ensures.comparisons))
