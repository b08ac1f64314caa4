use Rattle.std.proofs.Common.{ap, ◌∙◌}
use Rattle.rowan_predictive.specs.Arranging.{arranged}
use Rattle.rowan_predictive.specs.Parsing.{kinds_of}
use Rattle.rowan_predictive.proofs.Parsed.{told-is, is-read}
use Rattle.rowan_predictive.proofs.grammars.Grammar.read.Goals as goal

pub returns-clause-read : goal.returns-clause-read
returns-clause-read g c =
    let entries = c.args.self.now.entries.items in
    let trivia = c.args.trivia in
    let tokens = c.in_ok-lexed.lexed.tokens.items in
    let complained = c.in_ok-lexed.lexed.errors.items in
    let complaints = c.in_ok-outcome.outcome.complaints.items in
    is-read g.X.Lexer.says c.args.lexer entries trivia c.args.start c.args.text.now tokens
    c.in_ok-events.events.items c.complain.new.errors.items complained
    c.in_ok-outcome.outcome.actions.items complaints c.as_slice-3.result.now
    c.in_ok-lexed.ensures.said c.in_ok-lexed.ensures.text
    (c.as_slice-3.ensures.value ∙ c.in_ok-kinds.ensures.kinds ∙ ap (kinds_of trivia) c.as_slice-2.ensures.value)
    c.in_ok-outcome.ensures.ran c.in_ok-outcome.ensures.sound c.in_ok-outcome.ensures.complete
    (told-is entries c.as_slice-4.result.now c.args.start.words.now trivia tokens c.as_slice-5.result.now
    complaints c.as_slice-6.result.now complained c.as_slice.result.now _ _
    c.as_slice-4.ensures.value c.as_slice-5.ensures.value c.as_slice-6.ensures.value c.as_slice.ensures.value
    c.in_ok-errors.ensures.told c.in_ok-complain.ensures.told)
    (c.in_ok-events.ensures ∙ ap (arranged c.args.start.error.0) c.as_slice-7.ensures.value)
