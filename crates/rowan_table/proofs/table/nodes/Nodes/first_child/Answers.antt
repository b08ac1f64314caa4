use Rattle.std.proofs.Common.{◌<◌, length, refl, sym, ◌∙◌, ap, arith}
use Rattle.std.specs.Prelude.{slice_get}
use Rattle.std.proofs.lemmas.Option.{slice_get_read, same_Some}
use Rattle.rowan_table.proofs.NodeListLemmas.{inners-length, first_at}
use Rattle.rowan_table.proofs.table.nodes.Nodes.first_child.Goals as goal

pub index-requires : goal.index-requires
index-requires c =
    let s = c.self.inside in
    omega (
      arith,
      c.requires,
      s.first_children.ok.0,
      c.self.invariant,
      inners-length s.greens.items s.first_children.items c.self.invariant,
      ap length c.self.view_is,
    )

pub returns : goal.returns
returns c = λ found at.
    let ns = c.self.inside.greens.items in
    let fs = c.self.inside.first_children.items in
    let within : c.args.node < length fs = omega (
      arith,
      c.requires,
      c.self.invariant,
      inners-length ns fs c.self.invariant,
      ap length c.self.view_is,
    ) in
    let read = slice_get_read fs (length fs) c.args.node c.index.result.now refl within
    c.index.ensures in
    same_Some c.index.result.now found.first_child
    (sym read ∙ first_at ns fs c.self.invariant c.args.node found
    (ap (λ v. slice_get v c.args.node) c.self.view_is ∙ at))
