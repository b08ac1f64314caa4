use Rattle.std.proofs.Common.{◌≡◌, false, sym, ◌∙◌, ap}
use Rattle.rowan_parser.specs.Events.{is_attached}
use Rattle.rowan_parser.specs.Outside.{outside_of}
use Rattle.rowan_events.specs.Seen.{has}
use Rattle.rowan_events.specs.declared.lexer.Token.{Token}
use Rattle.rowan_events.proofs.Skipping.{none_in}
use Rattle.rowan_parser.proofs.Trivial.{outside-none, run-taken}
use Rattle.rowan_parser.proofs.tree.outside_len.Goals as goal

pub returns-then-kinds-eq0 : goal.returns-then-kinds-eq0
returns-then-kinds-eq0 c =
    let trivia = c.args.source.now.trivia in
    let a = is_attached trivia c.args.node.0 in
    let run = run-taken c.args.source.now c.args.progress.put c.args.progress.next
    c.saturating_sub.result c.split_at.result.1.now c.split_at-2.result.0.now c.requires.ahead
    c.requires.within c.split_at.ensures.back c.saturating_sub.ensures c.split_at-2.ensures.front in
    let none : (t : Token) → a t ≡ false = λ t.
    sym (c.attached_kinds-kinds.ensures t.kind.0)
    ∙ ap (λ n. has n t.kind.0) c.if-kinds-eq0.true ∙ none_in t.kind.0 in
    sym (outside-none a c.split_at-2.result.0.now none) ∙ ap (outside_of a) run

pub returns : goal.returns
returns c =
    let trivia = c.args.source.now.trivia in
    let a = is_attached trivia c.args.node.0 in
    let run = run-taken c.args.source.now c.args.progress.put c.args.progress.next
    c.saturating_sub.result c.split_at.result.1.now c.split_at-2.result.0.now c.requires.ahead
    c.requires.within c.split_at.ensures.back c.saturating_sub.ensures c.split_at-2.ensures.front in
    let same : (λ (t : Token). has c.attached_kinds-kinds.result.0 t.kind.0) ≡ a =
    λ i t. c.attached_kinds-kinds.ensures t.kind.0 i in
    c.outside_of_run.ensures
    ∙ ap (λ f. outside_of f c.split_at-2.result.0.now) same ∙ ap (outside_of a) run
