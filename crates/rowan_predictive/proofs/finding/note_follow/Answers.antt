use Rattle.std.proofs.Common.{◌∙◌, ap, inl, inr, refl, subst, sym}
use Rattle.std.specs.Prelude.{Some}
use Rattle.rowan_predictive.specs.Causes.{AreSo}
use Rattle.rowan_predictive.specs.declared.rules.Rule.TheVariants.{Node, Chain, Wrap, Seq, Choice, Optional, Star}
use Rattle.rowan_predictive.proofs.CauseLemmas.{behind, again}
use Rattle.rowan_predictive.proofs.finding.note_follow.Goals as goal

pub returns-in-Node : goal.returns-in-Node
returns-in-Node c = λ rules h all.
    let so = c.facts_of.ensures rules (subst (λ x. AreSo rules x) (sym c.as_slice.ensures.value) all) in
    c.add_follow.ensures rules
    (behind rules c.args.number c.args.rule c.facts_of.result h so (Node c.in-Node.field-0 c.in-Node.a) c.in-Node.a c.in-Node.is refl)
    all

pub returns-in-Chain : goal.returns-in-Chain
returns-in-Chain c = λ rules h all.
    let so = c.facts_of.ensures rules (subst (λ x. AreSo rules x) (sym c.as_slice.ensures.value) all) in
    c.add_follow-in-Chain.ensures rules
    (behind rules c.args.number c.args.rule c.facts_of.result h so (Chain c.in-Chain.a) c.in-Chain.a c.in-Chain.is refl)
    all

pub returns-in-Wrap : goal.returns-in-Wrap
returns-in-Wrap c = λ rules h all.
    let so = c.facts_of.ensures rules (subst (λ x. AreSo rules x) (sym c.as_slice.ensures.value) all) in
    c.add_follow-in-Wrap.ensures rules
    (behind rules c.args.number c.args.rule c.facts_of.result h so (Wrap c.in-Wrap.field-0 c.in-Wrap.a) c.in-Wrap.a c.in-Wrap.is refl)
    all

pub returns-in-Optional : goal.returns-in-Optional
returns-in-Optional c = λ rules h all.
    let so = c.facts_of.ensures rules (subst (λ x. AreSo rules x) (sym c.as_slice.ensures.value) all) in
    c.add_follow-in-Optional.ensures rules
    (behind rules c.args.number c.args.rule c.facts_of.result h so (Optional c.in-Optional.a) c.in-Optional.a c.in-Optional.is refl)
    all

pub returns-in-Seq : goal.returns-in-Seq
returns-in-Seq c = λ rules h all.
    let so = c.facts_of.ensures rules (subst (λ x. AreSo rules x) (sym c.as_slice.ensures.value) all) in
    c.add_follow-in-Seq.ensures rules
    (behind rules c.args.number c.args.rule c.facts_of.result h so (Seq c.in-Seq.a c.in-Seq.b) c.in-Seq.b c.in-Seq.is (inl refl))
    (c.add_follow-grew.ensures rules
    (c.before_part-before.ensures rules c.args.number c.in-Seq.a (h ∙ ap (λ r. Some r) c.in-Seq.is)
    (subst (λ x. AreSo rules x) (sym c.as_slice-in-Seq.ensures.value) all) so.follow)
    all)

pub returns-in-Choice : goal.returns-in-Choice
returns-in-Choice c = λ rules h all.
    let so = c.facts_of.ensures rules (subst (λ x. AreSo rules x) (sym c.as_slice.ensures.value) all) in
    let other = Choice c.in-Choice.a c.in-Choice.b in
    c.add_follow-in-Choice.ensures rules
    (behind rules c.args.number c.args.rule c.facts_of.result h so other c.in-Choice.b c.in-Choice.is (inr refl))
    (c.add_follow-grew-in-Choice.ensures rules
    (behind rules c.args.number c.args.rule c.facts_of.result h so other c.in-Choice.a c.in-Choice.is (inl refl))
    all)

pub returns-in-Star : goal.returns-in-Star
returns-in-Star c = λ rules h all.
    let so = c.facts_of.ensures rules (subst (λ x. AreSo rules x) (sym c.as_slice.ensures.value) all) in
    let too = c.facts_of-in-Star.ensures rules (subst (λ x. AreSo rules x) (sym c.as_slice-in-Star.ensures.value) all) in
    c.add_follow-in-Star.ensures rules
    (again rules c.args.number c.args.rule c.facts_of.result h so c.in-Star.a c.facts_of-in-Star.result c.union.result
    c.in-Star.is too c.union.ensures)
    all
