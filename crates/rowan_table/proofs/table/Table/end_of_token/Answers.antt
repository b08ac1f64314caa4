use Rattle.std.proofs.Common.{◌∙◌, arith}
use Rattle.rowan_table.specs.Table.{root_node, entry_path, entry_index, facts_of, green_of}
use Rattle.rowan_table.proofs.EndLemmas.{end_at_next, end_at_last, token_behind}
use Rattle.rowan_table.proofs.TableLemmas.{slice_get-some, is_entry, content-some, node_above}
use Rattle.rowan_table.proofs.table.Table.end_of_token.Goals as goal
use Rattle.rowan_table.specs.TableView.{entries_of}

pub returns-in-Some : goal.returns-in-Some
returns-in-Some c =
    let s = c.args.self.now in
    let es = entries_of s in
    let n = c.args.number in
    let e = slice_get-some es n c.requires.within in
    let below = (is_entry es s.complete n e.0 e.1).below (token_behind s n c.requires) in
    c.start.ensures ∙ end_at_next (root_node es) (entry_path es n) (entry_path es e.0.parent)
    (entry_path es c.in-Some.next) (entry_index es n e.0) below.path c.in-Some.ensures.path

pub end_of_node-requires : goal.end_of_node-requires
end_of_node-requires c =
    let s = c.args.self.now in
    let es = entries_of s in
    let n = c.args.number in
    let e = facts_of s.nodes c.entry.result.now in
    let behind = token_behind s n c.requires in
    record {
      within = omega (arith, (c.entry.ensures.below behind).earlier, c.requires.within);
      is = node_above es s.complete n e c.entry.ensures.at behind;
    }

pub returns : goal.returns
returns c =
    let s = c.args.self.now in
    let es = entries_of s in
    let n = c.args.number in
    let e = facts_of s.nodes c.entry.result.now in
    let below = c.entry.ensures.below (token_behind s n c.requires) in
    let t = content-some _ (green_of e) c.entry.ensures.green in
    c.end_of_node.ensures ∙ end_at_last (root_node es) (entry_path es n) (entry_path es e.parent)
    (entry_index es n e) t.0 below.path t.1 c.in_default.ensures.path
