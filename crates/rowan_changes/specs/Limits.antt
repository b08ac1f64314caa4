-- Which limit a node of a tree passes.
use Rattle.std.specs.Prelude.{◌≡◌, ◌≢◌, Some}
use Rattle.rowan_green.specs.declared.fault.Fault.{Fault}
use Rattle.rowan_green.specs.declared.fault.Fault.TheVariants.{Memory}
use Rattle.rowan_green.specs.declared.utility_types.NodeOrToken.TheVariants.{Node}
use Rattle.rowan_green.specs.Fits.{PassesLimit}
use Rattle.rowan_terms.specs.Path.{Path, subterm}
use Rattle.rowan_green.specs.Term.{NodeTerm, Term, node_children}

-- the children of the node at a path pass this limit first
pub record PassesLimitAt (t : Term) (p : Path) (fault : Fault) : Type 0 where
  pub node : NodeTerm
  pub stands : subterm t p ≡ Some (Node node)
  pub passes : PassesLimit (node_children node) fault

-- there is such a node
abbrev pub PassesLimitIn : Term → Fault → Type 0
PassesLimitIn t fault = (p : Path) × PassesLimitAt t p fault

-- why the edited tree is not made: for want of memory, or since a node of it passes this limit
abbrev pub WhyNotEdited : Term → Fault → Type 0
WhyNotEdited t fault = fault ≢ Memory → PassesLimitIn t fault
