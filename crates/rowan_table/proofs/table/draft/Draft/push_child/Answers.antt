use Rattle.std.proofs.Common.{◌≡◌, ◌+◌, ◌++◌, ◌∷◌, [], length, refl, ◌∙◌, ap, arith}
use Rattle.rowan_green.specs.Lent.{into_node, pointee}
use Rattle.rowan_green.specs.Search.{child_start}
use Rattle.rowan_green.specs.Term.{node_children}
use Rattle.rowan_table.specs.declared.table.draft.Draft.{Draft}
use Rattle.rowan_table.specs.declared.table.draft.Waiting.{Waiting}
use Rattle.rowan_table.proofs.DraftLemmas.{start_fits, adds_token_child, adds_node_child}
use Rattle.rowan_table.proofs.table.draft.Draft.push_child.Goals as goal

pub overflow_add-from : goal.overflow_add-from
overflow_add-from c =
    omega (
      arith,
      c.from.ensures,
      c.from-2.ensures,
      c.in-Some.ensures.some.0,
      start_fits c.args.self.now c.args.parent.now c.args.index c.requires.draft c.requires.place,
    )

pub returns-in-Token-clause-added : goal.returns-in-Token-clause-added
returns-in-Token-clause-added c =
    let d = c.args.self.now in
    let new : Draft = record {
      entries = c.push_reserved-in-Token.new.self;
      nodes = d.nodes;
      waiting = d.waiting;
      root = d.root;
      alloc = d.alloc;
    } in
    let start : c.from-start.result ≡ c.args.parent.now.start
    + child_start (node_children c.args.parent.now.node.now) c.args.index =
    omega (
      arith,
      c.from-start.ensures,
      c.from.ensures,
      c.from-2.ensures,
      c.in-Some.ensures.some.0,
    ) in
    adds_token_child d new c.args.parent.now c.args.index c.requires.draft c.requires.place
    (pointee c.in-Some.found.1) c.in-Some.ensures.some.1 _ start refl c.none-in-Token.ensures
    c.push_reserved-in-Token.ensures.items refl refl (ap (λ o. into_node (pointee o)) c.in-Token.is)

pub returns-in_ok-reserve_one-in-Node-clause-added : goal.returns-in_ok-reserve_one-in-Node-clause-added
returns-in_ok-reserve_one-in-Node-clause-added c =
    let d = c.args.self.now in
    let new : Draft = record {
      entries = c.push_reserved-in-Node.new.self;
      nodes = d.nodes;
      waiting = c.push_reserved.new.self;
      root = d.root;
      alloc = d.alloc;
    } in
    let start : c.from-start.result ≡ c.args.parent.now.start
    + child_start (node_children c.args.parent.now.node.now) c.args.index =
    omega (
      arith,
      c.from-start.ensures,
      c.from.ensures,
      c.from-2.ensures,
      c.in-Some.ensures.some.0,
    ) in
    let number : c.len-number.result ≡ length d.entries.items =
    omega (arith, c.len-number.ensures) in
    let v : Waiting = record {
      node = c.in-Node.node;
      start = c.from-start.result;
      number = c.len-number.result;
    } in
    adds_node_child d new c.args.parent.now c.args.index c.requires.draft c.requires.place
    (pointee c.in-Some.found.1) c.in-Some.ensures.some.1 _ start refl c.none.ensures
    c.push_reserved-in-Node.ensures.items refl v (c.push_reserved.ensures.items
    ∙ ap (λ ws. ws ++ v ∷ []) c.in_ok-reserve_one-in-Node.ensures.items)
    (ap (λ o. into_node (pointee o)) c.in-Node.is) refl number
