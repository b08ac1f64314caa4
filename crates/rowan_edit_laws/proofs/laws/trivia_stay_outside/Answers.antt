use Rattle.rowan_edit_laws.proofs.TriviaLemmas.{trivia-outside}
use Rattle.rowan_edit_laws.proofs.laws.trivia_stay_outside.Goals as goal

pub returns : goal.returns
returns c = λ old answers test. trivia-outside test old answers
