use Rattle.rowan_script.proofs.RunLaws.{word-turns, intern-turns}
use Rattle.rowan.proofs.laws.word_is_independent_of_the_cache.Goals as goal

pub returns-clause-word : goal.returns-clause-word
returns-clause-word c = λ old old' new new' calls outcomes same run run'. word-turns calls outcomes
    _ old.word old'.word new.word new'.word same run.words.in_turn run'.words.in_turn

pub returns-clause-cache : goal.returns-clause-cache
returns-clause-cache c = λ old old' new new' calls outcomes run run' same. intern-turns calls
    outcomes _ old.word old'.word new.word new'.word run.words.in_turn run'.words.in_turn same
