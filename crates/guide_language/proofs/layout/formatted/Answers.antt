-- The closure keeps these tokens at each leaf, and so they stay in the tree.
use Rattle.std.proofs.Common.{subst, rules}
use Rattle.rowan_edit.specs.Rewriting.{Keeps}
use Rattle.rowan_edit_laws.proofs.KeptTokens.{kept-calls}
use Rattle.guide_language.specs.Layout.{is_no_space}
use Rattle.guide_language.proofs.layout.formatted.Goals as goal

pub returns : goal.returns
returns c =
    kept-calls _ is_no_space _ _ c.args.tree.now c.in_ok-new.new
    (λ f leaf answer next call.
    subst (λ t. Keeps is_no_space t answer) call.shows.shown (search rules))
    c.in_ok-new.ensures.ok
