use Rattle.std.proofs.Common.{length, sym, ◌∙◌, ap, arith}
use Rattle.rowan_changes.specs.Edit.{lies_before}
use Rattle.rowan_edit.specs.Ranked.{without_last}
use Rattle.rowan_edit.proofs.RankLemmas.{front-of, lies-nowhere}
use Rattle.rowan_edit.proofs.ranked.Rank.ends_before.Goals as goal

pub returns-in_default : goal.returns-in_default
returns-in_default c = absurd (omega (arith, c.requires, c.in_default.ensures.cases))

pub returns-in_default-split_last : goal.returns-in_default-split_last
returns-in_default-split_last c =
    lies-nowhere (without_last c.args.self.now.place.items) c.args.self.now.end
    c.args.next.now.place.items
    (ap length (sym c.deref-2.ensures.value) ∙ c.in_default-split_last.ensures.cases)

pub returns : goal.returns
returns c =
    let own = sym c.deref.ensures.value ∙ c.in-Some.ensures.cases.0 in
    let other = sym c.deref-2.ensures.value ∙ c.in-Some-split_last.ensures.cases.0 in
    c.lies_before.ensures
    ∙ ap (λ z. lies_before c.in-Some.parent.now c.args.self.now.end z) (sym other)
    ∙ ap (λ p. lies_before p c.args.self.now.end c.args.next.now.place.items)
    (sym (ap without_last own ∙ front-of c.in-Some.parent.now _))
