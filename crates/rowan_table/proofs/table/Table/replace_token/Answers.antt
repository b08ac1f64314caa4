use Rattle.std.proofs.Common.{◌≡◌, ◌≢◌, IfOk, IfErr, subst, arith}
use Rattle.std.proofs.lemmas.Result.{err_from_is_err_and}
use Rattle.rowan_green.specs.declared.fault.Fault.TheVariants.{TextTooLong, Memory}
use Rattle.rowan_green.specs.declared.utility_types.NodeOrToken.TheVariants.{Node, Token}
use Rattle.rowan_green.specs.Fits.{Fits}
use Rattle.rowan_table.specs.Table.{facts_of}
use Rattle.rowan_table.specs.TableView.{root_of, path_at, entries_of}
use Rattle.rowan_table.proofs.EndLemmas.{token_behind}
use Rattle.rowan_table.proofs.ReplaceLemmas.{put-above, unfit-above, token-place}
use Rattle.rowan_table.proofs.TableLemmas.{node_above}
use Rattle.rowan_table.proofs.table.Table.replace_token.Goals as goal

pub node-requires : goal.node-requires
node-requires c =
    let s = c.args.self.now in
    let behind = token_behind s c.args.number c.requires in
    record {
      within = omega (arith, (c.entry.ensures.below behind).earlier, c.requires.within);
      is = node_above (entries_of s) s.complete c.args.number (facts_of s.nodes c.entry.result.now)
          c.entry.ensures.at behind;
    }

pub returns-in_err-green-clause-err : goal.returns-in_err-green-clause-err
returns-in_err-green-clause-err c =
    let s = c.args.self.now in
    let e = c.entry.result.now in
    let n = c.node.result.now in
    let place = token-place s c.args.number c.index.result e n c.requires c.entry.ensures
    c.index.ensures c.node.ensures in
    let p = err_from_is_err_and c.from_residual.result c.from_residual.ensures.1 in
    rw (p.1, p.2) (λ not_memory. (
      c.in_err-green.ensures.text not_memory,
      unfit-above (root_of s) (path_at s c.args.number) (path_at s e.parent) c.index.result n
          (Token c.args.replacement) c.in_err-green.field-0.0 place
          (c.in_err-green.ensures.err not_memory),
    ))

pub returns-clause-root : goal.returns-clause-root
returns-clause-root c =
    let s = c.args.self.now in
    let e = c.entry.result.now in
    let n = c.node.result.now in
    let place = token-place s c.args.number c.index.result e n c.requires c.entry.ensures
    c.index.ensures c.node.ensures in
    let same = put-above (root_of s) (path_at s c.args.number) (path_at s e.parent) c.index.result n
    c.in_ok-green.green (Token c.args.replacement) place c.in_ok-green.ensures.ok.0 in
    subst (λ t. IfOk c.replace_node.result (λ m. Node m ≡ t)) same c.replace_node.ensures.root

pub returns-clause-err : goal.returns-clause-err
returns-clause-err c =
    let s = c.args.self.now in
    let e = c.entry.result.now in
    let n = c.node.result.now in
    let place = token-place s c.args.number c.index.result e n c.requires c.entry.ensures
    c.index.ensures c.node.ensures in
    let same = put-above (root_of s) (path_at s c.args.number) (path_at s e.parent) c.index.result n
    c.in_ok-green.green (Token c.args.replacement) place c.in_ok-green.ensures.ok.0 in
    subst (λ t. IfErr c.replace_node.result (λ f. f ≢ Memory → (f ≡ TextTooLong) × ¬ Fits t)) same
    c.replace_node.ensures.err
