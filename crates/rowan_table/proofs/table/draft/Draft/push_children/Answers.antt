use Rattle.std.proofs.Common.{◌+◌, ◌≤◌, ◌≡◌, Some, [], ◌∷◌, length, length-append, refl, ◌∙◌, ◌<◌}
use Rattle.std.proofs.Common.{ap, arith}
use Rattle.std.specs.Prelude.{slice_get}
use Rattle.std.proofs.Math.ListN.{length-set}
use Rattle.std.proofs.lemmas.List.{take_all}
use Rattle.std.proofs.lemmas.Option.{slice_get_read}
use Rattle.std.specs.Vec.{with_item}
use Rattle.rowan_green.specs.Sizes.{terms_size}
use Rattle.rowan_green.specs.Term.{node_children}
use Rattle.rowan_table.specs.declared.table.entry.Entry.{Entry}
use Rattle.rowan_table.specs.declared.table.draft.Draft.{Draft}
use Rattle.rowan_table.specs.DraftView.{waiting_size}
use Rattle.rowan_table.specs.Table.{child_counts}
use Rattle.rowan_table.proofs.DraftLemmas.{next_within, placed_next, next_index, terms_size-more}
use Rattle.rowan_table.proofs.DraftLemmas.{waiting_size-more, waiting_size-turned, turned_filled}
use Rattle.rowan_table.proofs.DraftLemmas.{turned_root}
use Rattle.rowan_table.proofs.table.draft.Draft.push_children.Goals as goal

pub index_mut-requires : goal.index_mut-requires
index_mut-requires c =
    omega (
      arith,
      next_within c.args.self.now c.args.parent.now c.requires.draft,
      ap length c.reserve.ensures.kept.entries,
    )

pub loop-index-init : goal.loop-index-init
loop-index-init c =
    let d = c.args.self.now in
    let w = c.args.parent.now in
    let kept = c.reserve.ensures.kept in
    let r = c.reserve.new.self in
    let old = c.index_mut.result.now in
    let e : Entry = record {
      start = old.start;
      parent = old.parent;
      node = c.to.result;
    } in
    let a : Draft = record {
      entries = with_item r.entries w.number e;
      nodes = c.push.new.self;
      waiting = r.waiting;
      root = r.root;
      alloc = r.alloc;
    } in
    let within : w.number < length r.entries.items =
    omega (arith, next_within d w c.requires.draft, ap length kept.entries) in
    let found : slice_get r.entries.items w.number ≡ Some old =
    slice_get_read r.entries.items (length r.entries.items) w.number old refl within
    c.index_mut.ensures.value in
    let first : c.len-first_child.result ≡ length d.entries.items =
    omega (arith, c.len-first_child.ensures) in
    let named : c.to.result ≡ Some (length r.nodes) = c.to.ensures
    ∙ ap (λ k. Some k) (omega (arith, c.len.ensures)) in
    let p = placed_next d r a w _ old e c.requires.draft c.requires.children kept
    c.in_ok-green.ensures first found refl refl named refl c.in_ok-push.ensures.ok refl in
    record {
      filled = p.filled;
      place = p.next;
      entries = omega (arith, length-set r.entries.items w.number e, ap length kept.entries, first);
      children = p.children;
      root = p.root;
      size = omega (arith, ap waiting_size kept.waiting);
      more = omega (arith, c.len-waited.ensures);
      room = λ n h. record {
        entries = omega (
          arith,
          h,
          c.in_ok-reserve.ensures.room.entries,
          c.len-count.ensures.value,
          ap length c.children.ensures.list,
        );
      };
    }

pub push_child-requires-clause-room : goal.push_child-requires-clause-room
push_child-requires-clause-room c = c.loop-index.invariant.room 1
    (omega (arith, c.loop-index-test.true))

pub loop-index-preserved : goal.loop-index-preserved
loop-index-preserved c =
    let d = c.loop-index.self in
    let new = c.push_child.new.self in
    let i = c.loop-index.index in
    let was = c.loop-index.invariant in
    let added = c.in_ok-push_child.ensures.added in
    record {
      filled = added.filled;
      place = next_index d new c.args.parent.now i added.entry was.place added.entries added.nodes;
      entries = omega (
        arith,
        ap length added.entries,
        length-append d.entries.items (added.entry ∷ []),
        was.entries,
      );
      children = ap child_counts added.nodes ∙ was.children;
      root = added.root ∙ was.root;
      size = omega (
        arith,
        added.size,
        was.size,
        terms_size-more (node_children c.args.parent.now.node.now) i added.child added.at,
      );
      more = omega (arith, was.more, added.more);
      room = λ n h. c.in_ok-push_child.ensures.room n (was.room (n + 1) (omega (arith, h)));
    }

pub returns-clause-draft : goal.returns-clause-draft
returns-clause-draft c =
    let is = c.loop-index.invariant in
    let turned = c.turn_round.ensures in
    turned_filled c.loop-index.self c.turn_round.new.self c.args.parent.now c.loop-index.index
    is.filled is.place turned.waiting turned.entries turned.nodes

pub returns-clause-root : goal.returns-clause-root
returns-clause-root c =
    let is = c.loop-index.invariant in
    let turned = c.turn_round.ensures in
    turned_root c.loop-index.self c.turn_round.new.self c.args.parent.now c.loop-index.index
    is.filled is.place turned.waiting turned.entries turned.nodes
    ∙ is.root

pub returns-clause-children : goal.returns-clause-children
returns-clause-children c =
    omega (
      arith,
      ap length c.turn_round.ensures.entries,
      ap child_counts c.turn_round.ensures.nodes,
      c.loop-index.invariant.entries,
      c.loop-index.invariant.children,
      c.requires.children,
      c.loop-index-test.false,
      c.loop-index.auto.index-end,
      c.len-first_child.ensures,
      c.len-count.ensures.value,
      ap length c.children.ensures.list,
    )

pub returns-clause-less : goal.returns-clause-less
returns-clause-less c =
    let ts = node_children c.args.parent.now.node.now in
    let all : length ts ≤ c.loop-index.index =
    omega (
      arith,
      c.loop-index-test.false,
      c.len-count.ensures.value,
      ap length c.children.ensures.list,
    ) in
    omega (
      arith,
      waiting_size-turned c.loop-index.self.waiting.items c.turn_round.new.self.waiting.items
          c.turn_round.ensures.waiting,
      c.loop-index.invariant.size,
      ap terms_size (take_all c.loop-index.index ts all),
      waiting_size-more c.args.self.now.waiting.items c.args.parent.now,
    )
