use Rattle.std.proofs.Common.{arith}
use Rattle.std.proofs.lemmas.List.{drop_more}
use Rattle.rowan_predictive.specs.declared.rules.Complaint.{Complaint}
use Rattle.rowan_predictive.specs.Parsing.{told_by, error_by}
use Rattle.rowan_predictive.proofs.TokenLemmas.{errors-more, errors-end}
use Rattle.rowan_predictive.proofs.parsing.push_errors.Goals as goal

pub loop-complaint-preserved : goal.loop-complaint-preserved
loop-complaint-preserved c =
    let next = drop_more c.args.complaints.now c.loop-complaint.complaint-index _ (omega arith) in
    errors-more (λ (x : Complaint). error_by c.args.ranges.now (told_by c.args.entries.now c.args.words.now x))
    _ _ _ _ _ _ _ next c.in_ok-push.ensures.items c.in_ok-error_at.ensures.error c.loop-complaint.invariant

pub returns-clause-told : goal.returns-clause-told
returns-clause-told c =
    errors-end (λ (x : Complaint). error_by c.args.ranges.now (told_by c.args.entries.now c.args.words.now x))
    _ _ c.loop-complaint.complaint-index _ (omega arith) c.loop-complaint.invariant
