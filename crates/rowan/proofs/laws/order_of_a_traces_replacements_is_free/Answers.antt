use Rattle.std.proofs.Common.{subst, sym}
use Rattle.rowan_terms.specs.Replacements.{Makes}
use Rattle.rowan_terms.proofs.PutOrders.{makes-same}
use Rattle.rowan_script.specs.Trace.{tree_of, last_tree, replacements}
use Rattle.rowan.proofs.TraceLaws.{turns-make}
use Rattle.rowan.proofs.laws.order_of_a_traces_replacements_is_free.Goals as goal

pub returns : goal.returns
returns c = λ e d steps steps' reports reports' same separate order one other.
    makes-same (tree_of e) (replacements e steps reports) (replacements d steps' reports')
    (last_tree e reports) (last_tree d reports') separate order
    (turns-make steps reports e one.in_turn)
    (subst (λ t. Makes t (replacements d steps' reports') (last_tree d reports')) (sym same)
    (turns-make steps' reports' d other.in_turn))
