use Rattle.std.proofs.Common.{◌<◌, length, refl, sym, ◌∙◌, ap, arith}
use Rattle.std.specs.Prelude.{slice_get}
use Rattle.std.proofs.lemmas.Option.{slice_get_read, same_Some}
use Rattle.rowan_table.proofs.NodeListLemmas.{inners-length, green_at}
use Rattle.rowan_table.proofs.table.nodes.Nodes.green.Goals as goal

pub index-requires : goal.index-requires
index-requires c =
    let s = c.self.inside in
    omega (
      arith,
      c.requires,
      s.greens.ok.0,
      inners-length s.greens.items s.first_children.items
          c.self.invariant,
      ap length c.self.view_is,
    )

pub returns : goal.returns
returns c = λ found at.
    let ns = c.self.inside.greens.items in
    let fs = c.self.inside.first_children.items in
    let within : c.args.node < length ns = omega (
      arith,
      c.requires,
      inners-length ns fs c.self.invariant,
      ap length c.self.view_is,
    ) in
    let read = slice_get_read ns (length ns) c.args.node c.index.result.now refl within
    c.index.ensures in
    same_Some c.index.result.now found.green (sym read
    ∙ green_at ns fs c.self.invariant c.args.node found
    (ap (λ v. slice_get v c.args.node) c.self.view_is ∙ at))
