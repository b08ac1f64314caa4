use Rattle.std.proofs.Common.{◌≡◌, ◌∙◌, ap, sym, subst, arith}
use Rattle.rowan_table.specs.Chunks.{slice_of}
use Rattle.rowan_table.specs.SyntaxText.{IsTextSlice, part_of}
use Rattle.rowan_table.proofs.PartLemmas.{slice_ends}
use Rattle.rowan_table.proofs.SliceLemmas.{part_is_slice}
use Rattle.rowan_table.proofs.TokenLemmas.{stands_at}
use Rattle.rowan_table.proofs.table.slice.Slice.part.Goals as goal
use Rattle.rowan_table.specs.TableView.{entries_of}

pub overflow_add-result : goal.overflow_add-result
overflow_add-result c =
    omega (
      arith,
      c.from-first.ensures,
      c.requires.part.order,
      c.requires.part.within,
      c.requires.slice.slice.order,
      slice_ends c.args.table.now c.args.self.now c.requires.slice,
    )

pub overflow_add-result-2 : goal.overflow_add-result-2
overflow_add-result-2 c =
    omega (
      arith,
      c.from-last.ensures,
      c.requires.part.within,
      c.requires.slice.slice.order,
      slice_ends c.args.table.now c.args.self.now c.requires.slice,
    )

pub returns-clause-part : goal.returns-clause-part
returns-clause-part c =
    let slice = slice_of c.args.table.now c.args.self.now in
    ap (λ a. part_of slice a c.from-last.result) c.from-first.ensures
    ∙ ap (part_of slice c.args.start) c.from-last.ensures

pub returns-clause-slice : goal.returns-clause-slice
returns-clause-slice c =
    let table = c.args.table.now in
    let slice = c.args.self.now in
    let there = stands_at (entries_of table) table.complete slice.node
    c.requires.slice.node.within in
    let part = part_is_slice (slice_of table slice) there.0 c.args.start c.args.end there.1
    c.requires.slice.slice c.requires.part in
    let first : c.args.start ≡ c.from-first.result = sym c.from-first.ensures in
    let last : c.args.end ≡ c.from-last.result = sym c.from-last.ensures in
    record {
      node = c.requires.slice.node;
      slice = subst (λ b. IsTextSlice (part_of (slice_of table slice) c.from-first.result b)) last
          (subst (λ a. IsTextSlice (part_of (slice_of table slice) a c.args.end)) first part);
    }
