use Rattle.std.proofs.Common.{rules, sym, ap, ◌∙◌}
use Rattle.rowan_predictive.specs.Messages.{message_in}
use Rattle.rowan_predictive.proofs.MessageLemmas.{message-is}
use Rattle.rowan_predictive.proofs.messages.message_of.Goals as goal

pub returns-clause-message : goal.returns-clause-message
returns-clause-message c =
    message-is c.args.entries.now c.args.words.now c.in-Some.rule c.fitting_set.result.0
    c.in_ok-kinds.kinds.items c.as_slice.result.now _ _ c.fitting_set.ensures c.in_ok-kinds.ensures.members
    c.as_slice.ensures.value (search rules) c.in_ok-push_words.ensures.put
    ∙ ap (message_in c.args.entries.now c.args.words.now) (sym c.in-Some.is)
