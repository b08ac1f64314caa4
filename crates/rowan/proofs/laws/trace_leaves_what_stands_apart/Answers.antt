use Rattle.std.proofs.Common.{subst}
use Rattle.rowan_terms.specs.Replacements.{Makes}
use Rattle.rowan_terms.proofs.PutOrders.{subterm-made, range-made, subterm-new}
use Rattle.rowan_script.specs.Trace.{tree_of, last_tree, replacements}
use Rattle.rowan.proofs.TraceLaws.{turns-make}
use Rattle.rowan.proofs.laws.trace_leaves_what_stands_apart.Goals as goal

pub returns-clause-subterm : goal.returns-clause-subterm
returns-clause-subterm c = λ e steps reports q trace apart.
    subterm-made (tree_of e) (replacements e steps reports) (last_tree e reports) q
    (turns-make steps reports e trace.in_turn) apart

pub returns-clause-range : goal.returns-clause-range
returns-clause-range c = λ e steps reports q trace apart.
    range-made (tree_of e) (replacements e steps reports) (last_tree e reports) q
    (turns-make steps reports e trace.in_turn) apart

pub returns-clause-new : goal.returns-clause-new
returns-clause-new c = λ e steps reports before r after trace cut apart.
    subterm-new (tree_of e) before after r (last_tree e reports)
    (subst (λ rs. Makes (tree_of e) rs (last_tree e reports)) cut (turns-make steps reports e
    trace.in_turn)) apart
