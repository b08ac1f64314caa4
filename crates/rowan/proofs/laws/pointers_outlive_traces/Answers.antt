use Rattle.rowan.proofs.TracePointers.{turns-carry, turns-lead}
use Rattle.rowan.proofs.laws.pointers_outlive_traces.Goals as goal

pub returns-clause-carried : goal.returns-clause-carried
returns-clause-carried g c = λ e steps reports q n trace apart at some.
    turns-carry g.L.Language.meaning q n some steps reports e trace.in_turn apart at

pub returns-clause-leads : goal.returns-clause-leads
returns-clause-leads g c = λ e steps reports q n first last found trace apart at some begins ends.
    turns-lead g.L.Language.meaning g.L.Kind.PartialEq.eq g.met.L.Kind.Eq.laws.refl e steps reports
    q n first last found trace.in_turn apart at some begins ends
