use Rattle.std.proofs.Common.{◌++◌, ◌∷◌, refl}
use Rattle.rowan_predictive.specs.declared.rules.Action.TheVariants.{Open}
use Rattle.rowan_predictive.proofs.AmidNodes.{finds}
use Rattle.rowan_predictive.proofs.laws.nodes_stand_amid_the_rest.Goals as goal

pub returns : goal.returns
returns c = λ rules i kind tokens opening rest d.
    finds rules kind i tokens (opening ++ Open kind ∷ rest) d opening rest refl
