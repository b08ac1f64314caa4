use Rattle.rowan_rewrite.specs.Drafts.{work_left}
use Rattle.rowan_rewrite.proofs.RewritingCallLemmas.{SoFar}
use Rattle.rowan_rewrite.proofs.rewriting.rewrite_tokens.Given as goal

-- the calls so far gave the answers of a pass that has come here
abbrev pub invariant-loop-child : goal.invariant-loop-child
invariant-loop-child g l =
    goal.F-IsAlwaysCallable g l.rewrite
    × SoFar g.F.FnMut l.fn.rewrite l.root l.rewrite l.at l.changes.items l.pass

abbrev pub decreases-loop-child : goal.decreases-loop-child
decreases-loop-child g l = work_left l.pass
