use Rattle.std.proofs.Common.{◌≡◌, ◌++◌, ◌∷◌, map, vec_len, fold, sym, ap, ◌∙◌, arith, rules}
use Rattle.std.proofs.lemmas.List.{append-nil}
use Rattle.rowan_green.specs.declared.utility_types.NodeOrToken.TheVariants.{Node}
use Rattle.rowan_green.specs.Sizes.{children_size, terms_size, term_size}
use Rattle.rowan_green.specs.View.{child_term}
use Rattle.rowan_green.specs.Feeds.{fed_terms}
use Rattle.rowan_green.specs.Unread.{unread_terms, unread_size}
use Rattle.rowan_green.proofs.Drops.{terms_size-node_children}
use Rattle.rowan_green.proofs.Writes.{fold-node, fold-entered}
use Rattle.rowan_green.proofs.Unread.{Pops, left_terms-pop, left_size-pop, no_children}
use Rattle.rowan_green.proofs.Unread.{unread_terms-push, unread_size-push, pushed}
use Rattle.rowan_green.proofs.green.node.+hash.Goals as goal

pub GreenChild::hash_first-returns-in_default-clause-fed :
    goal.GreenChild::hash_first-returns-in_default-clause-fed
GreenChild::hash_first-returns-in_default-clause-fed g t c =
    let pops : Pops (vec_len c.args.rest.now) (vec_len c.pop.new.self) c.args.rest.now.items
    c.pop.result c.pop.new.self.items =
    record {
      items = c.pop.ensures.items;
      rest = c.pop.ensures.rest;
      none =
          c.pop.ensures.cases;
    } in
    let left = left_terms-pop (vec_len c.args.rest.now) (vec_len c.pop.new.self)
    c.args.rest.now.items c.pop.new.self.items c.pop.result pops in
    ap (λ ts. fold g.H.Hasher.write c.args.state.now (fed_terms ts))
    (left ∙ ap (λ ts. ts ++ unread_terms c.args.rest.now.items)
    (sym (no_children c.args.children.now c.in_default.ensures.cases)))

pub GreenChild::hash_first-returns-in_default-clause-smaller :
    goal.GreenChild::hash_first-returns-in_default-clause-smaller
GreenChild::hash_first-returns-in_default-clause-smaller g t c =
    let pops : Pops (vec_len c.args.rest.now) (vec_len c.pop.new.self) c.args.rest.now.items
    c.pop.result c.pop.new.self.items =
    record {
      items = c.pop.ensures.items;
      rest = c.pop.ensures.rest;
      none =
          c.pop.ensures.cases;
    } in
    omega (
      arith,
      left_size-pop (vec_len c.args.rest.now) (vec_len c.pop.new.self)
          c.args.rest.now.items c.pop.new.self.items c.pop.result pops,
    )

pub GreenChild::hash_first-returns-else-is_err-clause-fed :
    goal.GreenChild::hash_first-returns-else-is_err-clause-fed
GreenChild::hash_first-returns-else-is_err-clause-fed g t c =
    let list = pushed c.is_err.result _ c.args.rest.now.items c.push.new.self.items c.in-Some.behind
    c.if-is_err.false c.is_err.ensures.negation c.push.ensures.items in
    let node : child_term c.in-Some.child.now ≡ Node c.in-Node.node.now = search rules in
    let above = ap unread_terms list ∙ unread_terms-push c.args.rest.now.items c.in-Some.behind in
    let behind = map child_term c.in-Some.behind.now ++ unread_terms c.args.rest.now.items in
    ap (λ ts. fold g.H.Hasher.write c.hash_head.new.state
    (fed_terms (map child_term c.child_slice.result.now ++ ts))) above
    ∙ fold-entered g.H.Hasher.write c.args.state.now c.write_u8.new.self c.hash_head.new.state
    c.in-Node.node.now (map child_term c.child_slice.result.now) behind c.write_u8.ensures
    c.hash_head.ensures c.child_slice.ensures.terms
    ∙ ap (λ u. fold g.H.Hasher.write c.args.state.now (fed_terms (u ∷ behind))) (sym node)
    ∙ ap (λ cs. fold g.H.Hasher.write c.args.state.now
    (fed_terms (map child_term cs ++ unread_terms c.args.rest.now.items)))
    (sym c.in-Some.ensures.cases.0)

pub GreenChild::hash_first-returns-else-is_err-clause-smaller :
    goal.GreenChild::hash_first-returns-else-is_err-clause-smaller
GreenChild::hash_first-returns-else-is_err-clause-smaller g t c =
    let list = pushed c.is_err.result _ c.args.rest.now.items c.push.new.self.items c.in-Some.behind
    c.if-is_err.false c.is_err.ensures.negation c.push.ensures.items in
    let node : child_term c.in-Some.child.now ≡ Node c.in-Node.node.now = search rules in
    omega (
      arith,
      ap unread_size list,
      unread_size-push c.args.rest.now.items c.in-Some.behind,
      ap term_size node,
      ap terms_size c.child_slice.ensures.terms,
      terms_size-node_children c.in-Node.node.now,
      ap children_size c.in-Some.ensures.cases.0,
    )

pub GreenNode::hash_within-loop-next-init : goal.GreenNode::hash_within-loop-next-init
GreenNode::hash_within-loop-next-init g t c = record {
  fed = fold-node g.H.Hasher.write c.args.state.now c.hash_head.new.state c.args.self.now
      (map child_term c.child_slice.result.now) c.hash_head.ensures c.child_slice.ensures.terms
      ∙ ap (λ ts. fold g.H.Hasher.write c.hash_head.new.state (fed_terms ts))
      (sym (append-nil (map child_term c.child_slice.result.now))
      ∙ ap (λ rest. map child_term c.child_slice.result.now ++ unread_terms rest)
      (sym c.new-rest.ensures.items));
  smaller = omega (
    arith,
    ap terms_size c.child_slice.ensures.terms,
    terms_size-node_children c.args.self.now,
    ap unread_size c.new-rest.ensures.items,
  );
}
