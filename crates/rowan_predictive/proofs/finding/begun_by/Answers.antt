use Rattle.std.proofs.Common.{◌∙◌, ap}
use Rattle.std.specs.Prelude.{Some}
use Rattle.rowan_predictive.proofs.CauseLemmas.{begun-empty, begun-token, optional, star, node, chain, wrap}
use Rattle.rowan_predictive.proofs.finding.begun_by.Goals as goal

pub returns-in-Empty : goal.returns-in-Empty
returns-in-Empty c = λ rules i all h. begun-empty rules i (h ∙ ap (λ r. Some r) c.in-Empty.is)

pub returns-in-Token : goal.returns-in-Token
returns-in-Token c = λ rules i all h.
    begun-token rules i c.in-Token.kind c.with.result c.with.ensures (h ∙ ap (λ r. Some r) c.in-Token.is)

pub returns-in-Node : goal.returns-in-Node
returns-in-Node c = λ rules i all h.
    node rules i c.in-Node.a c.args.rule _ _ (c.begun_as.ensures rules all) h c.in-Node.field-0 c.in-Node.is

pub returns-in-Chain : goal.returns-in-Chain
returns-in-Chain c = λ rules i all h.
    chain rules i c.in-Chain.a c.args.rule _ _ (c.begun_as-in-Chain.ensures rules all) h c.in-Chain.is

pub returns-in-Wrap : goal.returns-in-Wrap
returns-in-Wrap c = λ rules i all h.
    wrap rules i c.in-Wrap.a c.args.rule _ _ (c.begun_as-in-Wrap.ensures rules all) h c.in-Wrap.field-0 c.in-Wrap.is

pub returns-in-Optional : goal.returns-in-Optional
returns-in-Optional c = λ rules i all h.
    optional rules i c.in-Optional.a c.args.rule _ c.in-Optional.is (c.facts_of-in-Optional.ensures rules all) h

pub returns-in-Star : goal.returns-in-Star
returns-in-Star c = λ rules i all h.
    star rules i c.in-Star.a c.args.rule _ c.in-Star.is (c.facts_of-in-Star.ensures rules all) h
