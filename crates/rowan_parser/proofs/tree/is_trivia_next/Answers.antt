use Rattle.rowan_parser.proofs.Passing.{trivia_next}
use Rattle.rowan_parser.proofs.tree.is_trivia_next.Goals as goal

pub returns-clause-begins : goal.returns-clause-begins
returns-clause-begins c =
    trivia_next c.args.source.now c.args.progress.put c.args.progress.next c.requires
