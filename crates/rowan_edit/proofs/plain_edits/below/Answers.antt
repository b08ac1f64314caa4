use Rattle.std.proofs.Common.{◌∙◌, ap, sym, arith, Some}
use Rattle.rowan_edit.proofs.ExcludeLemmas.{fork-none, fork-rest}
use Rattle.rowan_changes.proofs.SiteLemmas.{fork-within}
use Rattle.rowan_edit.proofs.plain_edits.below.Goals as goal

pub returns-then-shared-path : goal.returns-then-shared-path
returns-then-shared-path c =
    sym (fork-none c.args.path.now c.args.other.now c.shared_len-shared.result
    c.shared_len-shared.ensures (omega arith))

pub split_at-requires : goal.split_at-requires
split_at-requires c =
    (fork-within c.args.path.now c.args.other.now c.shared_len-shared.result
    c.shared_len-shared.ensures).1

pub returns : goal.returns
returns c =
    ap Some (c.in_ok-from_slice.ensures.items ∙ c.split_at.ensures.back)
    ∙ fork-rest c.args.path.now c.args.other.now c.shared_len-shared.result
    c.shared_len-shared.ensures (omega arith)
