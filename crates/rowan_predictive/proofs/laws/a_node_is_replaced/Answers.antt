use Rattle.std.proofs.Common.{◌∙◌, sym, ap, subst}
use Rattle.std.specs.Prelude.{ℕ, List}
use Rattle.rowan_predictive.specs.TreeNodes.{word_by}
use Rattle.rowan_predictive.specs.Trees.{MakesForest}
use Rattle.rowan_predictive.proofs.TreeNodes.{replaceable}
use Rattle.rowan_predictive.proofs.laws.a_node_is_replaced.Goals as goal

pub returns-clause-node : goal.returns-clause-node
returns-clause-node c = λ rules start kind kinds tree below ahead after unwrapped makes is.
    replaceable rules kind below unwrapped start kinds tree ahead after makes is

pub returns-clause-parsed : goal.returns-clause-parsed
returns-clause-parsed c = λ rules start kind kinds below ahead after old trivia attached root text errors tree new others f none same makes.
    let made = old.holds others f makes in
    let all = subst (λ (ks : List ℕ). MakesForest rules start ks made.forest) (sym same) made.makes in
    let w = new.complete none made.forest all in
    (w.0, w.1 ∙ ap (word_by root new.trivia new.tokens) made.spells)
