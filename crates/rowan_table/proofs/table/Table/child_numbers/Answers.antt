use Rattle.std.proofs.Common.{Some, None, refl, sym, arith}
use Rattle.std.proofs.lemmas.Option.{slice_get_read}
use Rattle.rowan_table.specs.Table.{entry_facts}
use Rattle.rowan_table.proofs.InnerLemmas.{within_list, bare_there, inner_there, numbers_row}
use Rattle.rowan_table.proofs.InnerLemmas.{numbers_are}
use Rattle.rowan_table.proofs.table.Table.child_numbers.Goals as goal

pub index-requires : goal.index-requires
index-requires c = omega (arith, within_list c.args.self.now c.args.number c.requires)

pub returns-in_default-clause-row : goal.returns-in_default-clause-row
returns-in_default-clause-row c =
    let s = c.args.self.now in
    let e = c.index.result.now in
    let at = slice_get_read s.entries.items _ c.args.number e refl
    (within_list s c.args.number c.requires) c.index.ensures in
    numbers_row s c.args.number 0 0 (entry_facts e None)
    (bare_there s c.args.number e at (sym c.in_default.ensures)) refl refl

pub returns-in_default-clause-bounds : goal.returns-in_default-clause-bounds
returns-in_default-clause-bounds c =
    let s = c.args.self.now in
    let e = c.index.result.now in
    let at = slice_get_read s.entries.items _ c.args.number e refl
    (within_list s c.args.number c.requires) c.index.ensures in
    numbers_are s c.args.number 0 0 (entry_facts e None)
    (bare_there s c.args.number e at (sym c.in_default.ensures)) refl refl

pub first_child-requires : goal.first_child-requires
first_child-requires c =
    let s = c.args.self.now in
    let e = c.index.result.now in
    let at = slice_get_read s.entries.items _ c.args.number e refl
    (within_list s c.args.number c.requires) c.index.ensures in
    s.numbered.there c.args.number e c.in-Some.node at (sym c.in-Some.ensures)

pub children_end-requires : goal.children_end-requires
children_end-requires c =
    let s = c.args.self.now in
    let e = c.index.result.now in
    let at = slice_get_read s.entries.items _ c.args.number e refl
    (within_list s c.args.number c.requires) c.index.ensures in
    s.numbered.there c.args.number e c.in-Some.node at (sym c.in-Some.ensures)

pub returns-clause-row : goal.returns-clause-row
returns-clause-row c =
    let s = c.args.self.now in
    let e = c.index.result.now in
    let at = slice_get_read s.entries.items _ c.args.number e refl
    (within_list s c.args.number c.requires) c.index.ensures in
    let i = inner_there s c.args.number e c.in-Some.node at (sym c.in-Some.ensures) in
    numbers_row s c.args.number c.first_child.result c.children_end.result
    (entry_facts i.entry (Some i.inner)) i.is.at (c.first_child.ensures i.inner i.node)
    (c.children_end.ensures i.inner i.node)

pub returns-clause-bounds : goal.returns-clause-bounds
returns-clause-bounds c =
    let s = c.args.self.now in
    let e = c.index.result.now in
    let at = slice_get_read s.entries.items _ c.args.number e refl
    (within_list s c.args.number c.requires) c.index.ensures in
    let i = inner_there s c.args.number e c.in-Some.node at (sym c.in-Some.ensures) in
    numbers_are s c.args.number c.first_child.result c.children_end.result
    (entry_facts i.entry (Some i.inner)) i.is.at (c.first_child.ensures i.inner i.node)
    (c.children_end.ensures i.inner i.node)
