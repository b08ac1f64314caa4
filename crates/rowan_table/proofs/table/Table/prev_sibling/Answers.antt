use Rattle.std.proofs.Common.{sym, ◌∙◌, ap, arith, length}
use Rattle.rowan_table.specs.TableView.{root_of, path_at, paths_before}
use Rattle.rowan_table.proofs.TokenLemmas.{preceding-next, node_first, node_later, no_node}
use Rattle.rowan_table.proofs.table.Table.prev_sibling.Goals as goal

pub returns-then-is_node : goal.returns-then-is_node
returns-then-is_node c =
    let t = c.args.self.now in
    let root = root_of t in
    let here = c.loop-before.current in
    let sibling = path_at t c.in-Some.before in
    let split = preceding-next root (path_at t here) sibling c.in-Some.ensures.path in
    let is = sym c.is_node.ensures ∙ c.if-is_node.true in
    record {
      path = sym (c.loop-before.invariant.1
          ∙ node_first root sibling (paths_before t here) (paths_before t c.in-Some.before) split
          is);
      node = record { within = c.in-Some.ensures.within; is = is };
    }

pub loop-before-preserved : goal.loop-before-preserved
loop-before-preserved c =
    let t = c.args.self.now in
    let root = root_of t in
    let here = c.loop-before.current in
    let sibling = path_at t c.in-Some.before in
    let split = preceding-next root (path_at t here) sibling c.in-Some.ensures.path in (
      c.in-Some.ensures.within,
      c.loop-before.invariant.1
          ∙ node_later root sibling (paths_before t here) (paths_before t c.in-Some.before) split
          (sym c.is_node.ensures ∙ c.if-is_node.false),
    )

pub loop-before-smaller : goal.loop-before-smaller
loop-before-smaller c =
    let t = c.args.self.now in
    let here = path_at t c.loop-before.current in
    let sibling = path_at t c.in-Some.before in
    omega (arith, ap length (preceding-next (root_of t) here sibling c.in-Some.ensures.path))

pub returns : goal.returns
returns c =
    let t = c.args.self.now in
    record {
      path = no_node (root_of t) (paths_before t c.loop-before.current) c.in_default.ensures.path
          ∙ sym c.loop-before.invariant.1;
      node = tt;
    }
