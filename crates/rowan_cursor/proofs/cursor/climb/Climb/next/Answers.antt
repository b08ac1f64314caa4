use Rattle.rowan_cursor.proofs.ClimbLemmas.{climb-first}
use Rattle.rowan_cursor.proofs.cursor.climb.Climb.next.Goals as goal

pub returns-clause-some : goal.returns-clause-some
returns-clause-some c =
    climb-first c.args.table.now c.in-Some.number c.args.self.now.next c.parent-self.result
    c.in-Some.is c.parent-self.ensures.found.path
