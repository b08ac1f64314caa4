-- What is said of a grammar has one proof at most.
use Rattle.std.specs.Prelude.{ℕ, List}
use Rattle.rowan_predictive.specs.declared.rules.Rule.{Rule}
use Rattle.rowan_predictive.specs.declared.rules.Rule.TheVariants.{Empty, Token, Node, Chain, Wrap}
use Rattle.rowan_predictive.specs.declared.rules.Rule.TheVariants.{Seq, Choice, Optional, Star}
use Rattle.rowan_predictive.specs.declared.rules.Entry.{Entry}
use Rattle.rowan_predictive.specs.Predictive.{IsFit, IsPredictive}
use Rattle.rowan_predictive.specs.Costs.{IsPaidBy, IsExactBy, IsBounded}
use Rattle.std.proofs.Props.{props}

fit_prop : (entries : List Entry) (i : ℕ) (rule : Rule) → IsProp (IsFit entries i rule)
fit_prop entries i Empty = Prim.hlevel props
fit_prop entries i (Token kind) = Prim.hlevel props
fit_prop entries i (Node kind a) = Prim.hlevel props
fit_prop entries i (Chain a) = Prim.hlevel props
fit_prop entries i (Wrap kind a) = Prim.hlevel props
fit_prop entries i (Seq a b) = Prim.hlevel props
fit_prop entries i (Choice a b) = Prim.hlevel props
fit_prop entries i (Optional a) = Prim.hlevel props
fit_prop entries i (Star a) = Prim.hlevel props

pub predictive_prop : (entries : List Entry) → IsProp (IsPredictive entries)
predictive_prop entries = Prim.hlevel (props, fit_prop)

paid_prop : (entries : List Entry) (i : ℕ) (rule : Rule) → IsProp (IsPaidBy entries i rule)
paid_prop entries i Empty = Prim.hlevel props
paid_prop entries i (Token kind) = Prim.hlevel props
paid_prop entries i (Node kind a) = Prim.hlevel props
paid_prop entries i (Chain a) = Prim.hlevel props
paid_prop entries i (Wrap kind a) = Prim.hlevel props
paid_prop entries i (Seq a b) = Prim.hlevel props
paid_prop entries i (Choice a b) = Prim.hlevel props
paid_prop entries i (Optional a) = Prim.hlevel props
paid_prop entries i (Star a) = Prim.hlevel props

exact_prop : (entries : List Entry) (i : ℕ) (rule : Rule) → IsProp (IsExactBy entries i rule)
exact_prop entries i Empty = Prim.hlevel props
exact_prop entries i (Token kind) = Prim.hlevel props
exact_prop entries i (Node kind a) = Prim.hlevel props
exact_prop entries i (Chain a) = Prim.hlevel props
exact_prop entries i (Wrap kind a) = Prim.hlevel props
exact_prop entries i (Seq a b) = Prim.hlevel props
exact_prop entries i (Choice a b) = Prim.hlevel props
exact_prop entries i (Optional a) = Prim.hlevel props
exact_prop entries i (Star a) = Prim.hlevel props

pub bounded_prop : (entries : List Entry) (c : ℕ) → IsProp (IsBounded entries c)
bounded_prop entries c = Prim.hlevel (props, paid_prop, exact_prop)
