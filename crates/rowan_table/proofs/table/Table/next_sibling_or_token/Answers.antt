use Rattle.std.proofs.Common.{◌+◌, refl, arith}
use Rattle.std.proofs.lemmas.List.{length-map}
use Rattle.std.proofs.lemmas.Option.{slice_get_read}
use Rattle.rowan_table.specs.Table.{facts_of}
use Rattle.rowan_table.proofs.InnerLemmas.{within_list}
use Rattle.rowan_table.proofs.NodeLemmas.{facts_at}
use Rattle.rowan_table.proofs.TableLemmas.{slice_get-some, next_past, next_apart, next_beside}
use Rattle.rowan_table.proofs.table.Table.next_sibling_or_token.Goals as goal
use Rattle.rowan_table.specs.TableView.{entries_of}

pub returns-then-number-len : goal.returns-then-number-len
returns-then-number-len c =
    let s = c.args.self.now in
    let e = slice_get-some (entries_of s) c.args.number c.requires in
    record {
      path = next_past (entries_of s) s.complete c.args.number e.0 e.1 (omega arith)
          (omega (
            arith,
            c.if-number-len.true,
            c.len-len.ensures,
            length-map s.entries.items (facts_of s.nodes),
          ));
      within = tt;
    }

pub returns-then-index-entry : goal.returns-then-index-entry
returns-then-index-entry c =
    let s = c.args.self.now in
    let es = entries_of s in
    let e = facts_of s.nodes c.entry.result.now in
    let d = facts_of s.nodes c.index.result.now in
    let next = facts_at s.nodes s.entries.items (c.args.number + 1) c.index.result.now
    (slice_get_read s.entries.items _ (c.args.number + 1) c.index.result.now refl
    (omega (
      arith,
      within_list s c.args.number c.requires,
      c.len-len.ensures,
      c.if-number-len.false,
    )) c.index.ensures) in
    record {
      path = next_apart es s.complete c.args.number e d c.entry.ensures.at (omega arith) next
          c.if-index-entry.true;
      within = tt;
    }

pub returns : goal.returns
returns c =
    let s = c.args.self.now in
    let es = entries_of s in
    let e = facts_of s.nodes c.entry.result.now in
    let d = facts_of s.nodes c.index.result.now in
    let next = facts_at s.nodes s.entries.items (c.args.number + 1) c.index.result.now
    (slice_get_read s.entries.items _ (c.args.number + 1) c.index.result.now refl
    (omega (
      arith,
      within_list s c.args.number c.requires,
      c.len-len.ensures,
      c.if-number-len.false,
    )) c.index.ensures) in
    record {
      path = next_beside es s.complete c.args.number e d c.entry.ensures.at (omega arith) next
          c.if-index-entry.false;
      within = omega (
        arith,
        c.requires,
        c.len-len.ensures,
        c.if-number-len.false,
        length-map s.entries.items (facts_of s.nodes),
      );
    }
