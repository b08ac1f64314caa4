use Rattle.std.proofs.Common.{◌≡◌, ◌++◌, ◌∷◌, [], map, vec_len, sym, ap, ◌∙◌, arith, rules}
use Rattle.std.proofs.lemmas.List.{append-nil}
use Rattle.rowan_green.specs.declared.utility_types.NodeOrToken.TheVariants.{Node}
use Rattle.rowan_green.specs.Term.{joined_text, node_text}
use Rattle.rowan_green.specs.Sizes.{children_size, terms_size, term_size}
use Rattle.rowan_green.specs.View.{child_term}
use Rattle.rowan_green.specs.Unread.{unread_terms, unread_size, left_terms, left_size}
use Rattle.rowan_green.proofs.Drops.{terms_size-node_children}
use Rattle.rowan_green.proofs.Writes.{node_text-children, joined_text-entered, writes_more}
use Rattle.rowan_green.proofs.Unread.{Pops, left_terms-pop, left_size-pop, no_children}
use Rattle.rowan_green.proofs.Unread.{unread_terms-push, unread_size-push, pushed}
use Rattle.rowan_green.proofs.green.node.+display.Goals as goal

pub GreenChild::display_first-returns-in_default-clause-writes :
    goal.GreenChild::display_first-returns-in_default-clause-writes
GreenChild::display_first-returns-in_default-clause-writes g t c =
    let pops : Pops (vec_len c.args.rest.now) (vec_len c.pop.new.self) c.args.rest.now.items
    c.pop.result c.pop.new.self.items =
    record { items = c.pop.ensures.items; rest = c.pop.ensures.rest; none = c.pop.ensures.cases } in
    let left = left_terms-pop (vec_len c.args.rest.now) (vec_len c.pop.new.self)
    c.args.rest.now.items c.pop.new.self.items c.pop.result pops in
    let text = ap joined_text
    (left ∙ ap (λ ts. ts ++ unread_terms c.args.rest.now.items)
    (sym (no_children c.args.children.now c.in_default.ensures.cases))) in
    λ p. ([], (search rules, sym text))

pub GreenChild::display_first-returns-in_default-clause-smaller :
    goal.GreenChild::display_first-returns-in_default-clause-smaller
GreenChild::display_first-returns-in_default-clause-smaller g t c =
    let pops : Pops (vec_len c.args.rest.now) (vec_len c.pop.new.self) c.args.rest.now.items
    c.pop.result c.pop.new.self.items =
    record { items = c.pop.ensures.items; rest = c.pop.ensures.rest; none = c.pop.ensures.cases } in
    omega (
      arith,
      left_size-pop (vec_len c.args.rest.now) (vec_len c.pop.new.self)
          c.args.rest.now.items c.pop.new.self.items c.pop.result pops,
    )

pub GreenChild::display_first-returns-else-is_err-clause-writes :
    goal.GreenChild::display_first-returns-else-is_err-clause-writes
GreenChild::display_first-returns-else-is_err-clause-writes g t c =
    let list = pushed c.is_err.result _ c.args.rest.now.items c.push.new.self.items c.in-Some.behind
    c.if-is_err.false c.is_err.ensures.negation c.push.ensures.items in
    let node : child_term c.in-Some.child.now ≡ Node c.in-Node.node.now = search rules in
    let above = ap unread_terms list ∙ unread_terms-push c.args.rest.now.items c.in-Some.behind in
    let behind = map child_term c.in-Some.behind.now ++ unread_terms c.args.rest.now.items in
    let text = ap (λ cs. joined_text (map child_term cs ++ unread_terms c.args.rest.now.items))
    c.in-Some.ensures.cases.0
    ∙ ap (λ u. joined_text (u ∷ behind)) node
    ∙ joined_text-entered c.in-Node.node.now (map child_term c.child_slice.result.now) behind
    c.child_slice.ensures.terms
    ∙ ap (λ ts. joined_text (map child_term c.child_slice.result.now ++ ts)) (sym above) in
    λ p. ([], (search rules, text))

pub GreenChild::display_first-returns-else-is_err-clause-smaller :
    goal.GreenChild::display_first-returns-else-is_err-clause-smaller
GreenChild::display_first-returns-else-is_err-clause-smaller g t c =
    let list = pushed c.is_err.result _ c.args.rest.now.items c.push.new.self.items c.in-Some.behind
    c.if-is_err.false c.is_err.ensures.negation c.push.ensures.items in
    let node : child_term c.in-Some.child.now ≡ Node c.in-Node.node.now = search rules in
    omega (
      arith,
      ap unread_size list,
      unread_size-push c.args.rest.now.items c.in-Some.behind,
      ap term_size node,
      ap terms_size c.child_slice.ensures.terms,
      terms_size-node_children c.in-Node.node.now,
      ap children_size c.in-Some.ensures.cases.0,
    )

pub GreenNode::fmt_within-loop-next-init : goal.GreenNode::fmt_within-loop-next-init
GreenNode::fmt_within-loop-next-init g t c = record {
  writes = (λ p. (
    [],
    (
      search rules,
      node_text-children c.args.self.now ∙ ap joined_text
          (sym c.child_slice.ensures.terms
          ∙ sym (append-nil (map child_term c.child_slice.result.now))
          ∙ ap (λ rest. map child_term c.child_slice.result.now ++ unread_terms rest)
          (sym c.new-rest.ensures.items)),
    ),
  ));
  smaller = omega (
    arith,
    ap terms_size c.child_slice.ensures.terms,
    terms_size-node_children c.args.self.now,
    ap unread_size c.new-rest.ensures.items,
  );
}

pub GreenNode::fmt_within-loop-next-preserved : goal.GreenNode::fmt_within-loop-next-preserved
GreenNode::fmt_within-loop-next-preserved g t c = record {
  writes = writes_more g.W.Write.write_str_gives c.args.f.now c.loop-next.f c.display_first.new.f
      (node_text c.args.self.now) (joined_text (left_terms c.loop-next.next c.loop-next.rest.items))
      (joined_text (map child_term c.in-Some.children.now
      ++ unread_terms c.loop-next.rest.items))
      (joined_text (left_terms c.in_ok-next.next c.display_first.new.rest.items))
      c.loop-next.invariant.writes
      (ap (λ next. joined_text (left_terms next c.loop-next.rest.items)) c.in-Some.is)
      c.in_ok-next.ensures.writes;
  smaller = omega (
    arith,
    c.loop-next.invariant.smaller,
    c.in_ok-next.ensures.smaller,
    ap (λ next. left_size next c.loop-next.rest.items) c.in-Some.is,
  );
}
