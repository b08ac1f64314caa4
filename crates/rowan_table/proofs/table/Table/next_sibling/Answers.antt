use Rattle.std.proofs.Common.{sym, ◌∙◌, ap, arith, length}
use Rattle.rowan_table.specs.TableView.{root_of, path_at, paths_behind}
use Rattle.rowan_table.proofs.TokenLemmas.{following-next, node_first, node_later, no_node}
use Rattle.rowan_table.proofs.table.Table.next_sibling.Goals as goal

pub returns-then-is_node : goal.returns-then-is_node
returns-then-is_node c =
    let t = c.args.self.now in
    let root = root_of t in
    let here = c.loop-next.current in
    let sibling = path_at t c.in-Some.next in
    let split = following-next root (path_at t here) sibling c.in-Some.ensures.path in
    let is = sym c.is_node.ensures ∙ c.if-is_node.true in
    record {
      path = sym (c.loop-next.invariant.1
          ∙ node_first root sibling (paths_behind t here) (paths_behind t c.in-Some.next) split is);
      node = record { within = c.in-Some.ensures.within; is = is };
    }

pub loop-next-preserved : goal.loop-next-preserved
loop-next-preserved c =
    let t = c.args.self.now in
    let root = root_of t in
    let here = c.loop-next.current in
    let sibling = path_at t c.in-Some.next in
    let split = following-next root (path_at t here) sibling c.in-Some.ensures.path in (
      c.in-Some.ensures.within,
      c.loop-next.invariant.1
          ∙ node_later root sibling (paths_behind t here) (paths_behind t c.in-Some.next) split
          (sym c.is_node.ensures ∙ c.if-is_node.false),
    )

pub loop-next-smaller : goal.loop-next-smaller
loop-next-smaller c =
    let t = c.args.self.now in
    let here = path_at t c.loop-next.current in
    omega (
      arith,
      ap length (following-next (root_of t) here (path_at t c.in-Some.next) c.in-Some.ensures.path),
    )

pub returns : goal.returns
returns c =
    let t = c.args.self.now in
    record {
      path = no_node (root_of t) (paths_behind t c.loop-next.current) c.in_default.ensures.path
          ∙ sym c.loop-next.invariant.1;
      node = tt;
    }
