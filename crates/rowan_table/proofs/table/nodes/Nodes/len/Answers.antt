use Rattle.std.proofs.Common.{length, ap, arith}
use Rattle.rowan_table.proofs.NodeListLemmas.{inners-length}
use Rattle.rowan_table.proofs.table.nodes.Nodes.len.Goals as goal

pub returns : goal.returns
returns c =
    let s = c.self.inside in
    omega (
      arith,
      c.len.ensures,
      s.greens.ok.0,
      inners-length s.greens.items s.first_children.items c.self.invariant,
      ap length c.self.view_is,
    )
