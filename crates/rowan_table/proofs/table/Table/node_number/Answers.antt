use Rattle.std.proofs.Common.{refl, sym, arith}
use Rattle.std.proofs.lemmas.Option.{slice_get_read}
use Rattle.rowan_table.proofs.InnerLemmas.{within_list, inner_there, token_there}
use Rattle.rowan_table.proofs.table.Table.node_number.Goals as goal

pub index-requires : goal.index-requires
index-requires c = omega (arith, within_list c.args.self.now c.args.number c.requires)

pub returns-in_err-number-clause-none : goal.returns-in_err-number-clause-none
returns-in_err-number-clause-none c = λ none.
    let s = c.args.self.now in
    let e = c.index.result.now in
    let at = slice_get_read s.entries.items _ c.args.number e refl
    (within_list s c.args.number c.requires) c.index.ensures in
    token_there s c.args.number e at (sym c.in_err-number.ensures)

pub returns-clause-some : goal.returns-clause-some
returns-clause-some c =
    let s = c.args.self.now in
    let e = c.index.result.now in
    let at = slice_get_read s.entries.items _ c.args.number e refl
    (within_list s c.args.number c.requires) c.index.ensures in
    inner_there s c.args.number e _ at (sym c.in_ok-number.ensures)
