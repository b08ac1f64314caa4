use Rattle.rowan.proofs.CarriedLemmas.{leads-above}
use Rattle.rowan.proofs.laws.pointers_lead_to_their_nodes.Goals as goal

pub returns : goal.returns
returns g c root q n pointer found = leads-above g.L.Language.meaning g.L.Kind.PartialEq.eq root q n
    pointer found g.met.L.Kind.Eq.laws.refl
