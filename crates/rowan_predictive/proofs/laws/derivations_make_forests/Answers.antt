use Rattle.rowan_predictive.proofs.Trees.{has-forest, has-actions}
use Rattle.rowan_predictive.proofs.laws.derivations_make_forests.Goals as goal

pub returns-clause-forest : goal.returns-clause-forest
returns-clause-forest c = λ rules error i kinds actions p. has-forest rules error i kinds actions p

pub returns-clause-actions : goal.returns-clause-actions
returns-clause-actions c = λ rules error i kinds f m. has-actions rules error i kinds f m
