use Rattle.rowan_script.proofs.RunLaws.{tokens-rewritten, text-rewritten}
use Rattle.rowan.proofs.laws.run_adds_the_accepted_text.Goals as goal

pub returns-clause-tokens : goal.returns-clause-tokens
returns-clause-tokens c = tokens-rewritten

pub returns-clause-text : goal.returns-clause-text
returns-clause-text c = text-rewritten
