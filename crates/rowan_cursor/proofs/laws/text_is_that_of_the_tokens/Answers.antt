use Rattle.rowan_table.specs.Cursor.{term_at}
use Rattle.rowan_table.proofs.TextLemmas.{text-tokens}
use Rattle.rowan_cursor.proofs.laws.text_is_that_of_the_tokens.Goals as goal

pub returns : goal.returns
returns c = λ d. text-tokens (term_at d)
