use Rattle.std.proofs.Common.{rules}
use Rattle.rowan_parser.proofs.Passing.{ahead_more}
use Rattle.rowan_parser.proofs.tree.next_after.Goals as goal

pub returns-then-progress : goal.returns-then-progress
returns-then-progress c = ahead_more c.args.source.now c.args.progress.put c.args.progress.next
    c.requires.ahead (search rules)
