use Rattle.std.proofs.Common.{◌∙◌, sym, ap}
use Rattle.rowan_terms.proofs.Words.{node_word-injective}
use Rattle.rowan_parser.specs.Events.{tree_word}
use Rattle.rowan_parser.proofs.laws.equal_events_have_one_tree.Goals as goal

pub returns : goal.returns
returns g c = λ lexer other grammar otherwise trivia text longer root e f a b p q tokens events.
    node_word-injective a b (p.spells ∙ ap (λ ts. tree_word root trivia ts p.events) tokens
    ∙ ap (λ es. tree_word root trivia q.tokens es) events ∙ sym q.spells)
