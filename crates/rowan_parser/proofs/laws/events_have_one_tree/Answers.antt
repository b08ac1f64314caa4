use Rattle.std.proofs.Common.{sym, ◌∙◌}
use Rattle.rowan_terms.proofs.Words.{node_word-injective}
use Rattle.rowan_parser.proofs.laws.events_have_one_tree.Goals as goal

pub returns : goal.returns
returns c = λ root trivia tokens events a b e d. node_word-injective a b (e ∙ sym d)
