use Rattle.std.proofs.Common.{◌-◌, refl, arith}
use Rattle.std.proofs.lemmas.Option.{slice_get_read}
use Rattle.rowan_table.specs.Table.{facts_of}
use Rattle.rowan_table.proofs.InnerLemmas.{within_list}
use Rattle.rowan_table.proofs.NodeLemmas.{facts_at}
use Rattle.rowan_table.proofs.TableLemmas.{prev_first, prev_apart, prev_beside}
use Rattle.rowan_table.proofs.table.Table.prev_sibling_or_token.Goals as goal
use Rattle.rowan_table.specs.TableView.{entries_of}

pub returns-then-number-le1 : goal.returns-then-number-le1
returns-then-number-le1 c =
    let s = c.args.self.now in
    record {
      path = prev_first (entries_of s) s.complete c.args.number c.requires c.if-number-le1.true;
      within = tt;
    }

pub returns-then-index-entry : goal.returns-then-index-entry
returns-then-index-entry c =
    let s = c.args.self.now in
    let es = entries_of s in
    let e = facts_of s.nodes c.entry.result.now in
    let d = facts_of s.nodes c.index.result.now in
    let before = facts_at s.nodes s.entries.items (c.args.number - 1) c.index.result.now
    (slice_get_read s.entries.items _ (c.args.number - 1) c.index.result.now refl
    (omega (arith, within_list s c.args.number c.requires)) c.index.ensures) in
    record {
      path = prev_apart es s.complete c.args.number e d c.entry.ensures.at (omega arith) before
          c.if-index-entry.true;
      within = tt;
    }

pub returns : goal.returns
returns c =
    let s = c.args.self.now in
    let es = entries_of s in
    let e = facts_of s.nodes c.entry.result.now in
    let d = facts_of s.nodes c.index.result.now in
    let before = facts_at s.nodes s.entries.items (c.args.number - 1) c.index.result.now
    (slice_get_read s.entries.items _ (c.args.number - 1) c.index.result.now refl
    (omega (arith, within_list s c.args.number c.requires)) c.index.ensures) in
    record {
      path = prev_beside es s.complete c.args.number e d c.entry.ensures.at (omega arith) before
          c.if-index-entry.false;
      within = omega (arith, c.requires);
    }
