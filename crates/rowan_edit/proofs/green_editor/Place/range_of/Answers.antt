use Rattle.std.proofs.Common.{ap, arith}
use Rattle.rowan_green.specs.Span.{Span}
use Rattle.rowan_green.specs.Term.{node_children}
use Rattle.rowan_green.proofs.Terms.{node_len-children}
use Rattle.rowan_changes.proofs.ShiftLemmas.{starts-less, start-within}
use Rattle.rowan_edit.proofs.green_editor.Place.range_of.Goals as goal

pub at-requires : goal.at-requires
at-requires c =
    let n = c.args.self.now.node.now in
    omega (
      arith,
      c.start_of_child-start.ensures,
      start-within (node_children n) c.args.children.start,
      node_len-children n,
      c.requires.fits,
    )

pub at-requires-2 : goal.at-requires-2
at-requires-2 c =
    let n = c.args.self.now.node.now in
    omega (
      arith,
      c.start_of_child-end.ensures,
      start-within (node_children n) c.args.children.end,
      node_len-children n,
      c.requires.fits,
    )

pub new-requires : goal.new-requires
new-requires c =
    let cs = node_children c.args.self.now.node.now in
    omega (
      arith,
      c.start_of_child-start.ensures,
      c.start_of_child-end.ensures,
      starts-less cs c.args.children.start c.args.children.end c.requires.order,
      c.end.ensures.offset,
      c.end-2.ensures.offset,
      ap (λ (r : Span). r.end) c.at.ensures,
      ap (λ (r : Span). r.end) c.at-2.ensures,
    )
