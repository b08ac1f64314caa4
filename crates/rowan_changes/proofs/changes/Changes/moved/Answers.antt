use Rattle.std.proofs.Common.{refl, sym, ◌∙◌}
use Rattle.rowan_changes.proofs.ChangeLemmas.{moved-behind, moved-nowhere}
use Rattle.rowan_changes.proofs.changes.Changes.moved.Goals as goal

pub range_behind-requires : goal.range_behind-requires
range_behind-requires c = c.in-Some.ensures.some.before

pub returns-in-Some : goal.returns-in-Some
returns-in-Some c =
    c.range_behind.ensures ∙ sym (moved-behind c.args.self.now c.args.range c.in-Some.front
    c.in-Some.ensures.some)

pub returns-in-None : goal.returns-in-None
returns-in-None c = sym (moved-nowhere c.args.self.now c.args.range (c.in-None.ensures.none refl))
