use Rattle.rowan.proofs.CarriedLemmas.{pointer-carried}
use Rattle.rowan.proofs.laws.pointers_outlive_replacements_beside.Goals as goal

pub returns : goal.returns
returns g c = pointer-carried g.L.Language.meaning
