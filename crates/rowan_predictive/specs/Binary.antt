-- Chains of operators: an operand, and for each operator and operand behind it a node around all
-- that stands so far.
use Rattle.std.specs.Prelude.{ℕ, Bool, true, false, List, ◌++◌}
use Rattle.rowan_parser.specs.Shape.{Forest, none, node_then, joined}
use Rattle.rowan_predictive.specs.declared.rules.Rule.{Rule}
use Rattle.rowan_predictive.specs.declared.rules.Rule.TheVariants.{Chain, Wrap, Seq, Star}
use Rattle.rowan_predictive.specs.Derivations.{HasRule}
use Rattle.rowan_predictive.specs.Trees.{Makes}

-- `a + b + c` is `((a + b) + c)`: these tokens, with this forest over them
pub data IsLeftNested (rules : List Rule) (kind operand operator : ℕ)
    : List ℕ → Forest → Type 0 where
  one : {ts : List ℕ} {f : Forest} → Makes rules true operand none ts f
      → IsLeftNested rules kind operand operator ts f
  more : {ts us vs : List ℕ} {f g h : Forest} → IsLeftNested rules kind operand operator ts f
      → Makes rules false operator none us g → Makes rules false operand g vs h
      → IsLeftNested rules kind operand operator (ts ++ (us ++ vs))
      (node_then kind (joined f h) none)

-- the five rules of a chain
pub record HasBinary (rules : List Rule) (i kind operand operator : ℕ) : Type 0 where
  pub whole : ℕ
  pub rest : ℕ
  pub step : ℕ
  pub pair : ℕ
  pub chain : HasRule rules i (Chain whole)
  pub seq : HasRule rules whole (Seq operand rest)
  pub star : HasRule rules rest (Star step)
  pub wrap : HasRule rules step (Wrap kind pair)
  pub both : HasRule rules pair (Seq operator operand)

-- rule i derives chains of these operands and operators, and nothing else
pub record DerivesBinary (rules : List Rule) (i kind operand operator : ℕ) : Type 0 where
  pub from : (c : Bool) (ts : List ℕ) (f : Forest) → Makes rules c i none ts f
      → IsLeftNested rules kind operand operator ts f
  pub to : (c : Bool) (ts : List ℕ) (f : Forest) → IsLeftNested rules kind operand operator ts f
      → Makes rules c i none ts f
