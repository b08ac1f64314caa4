use Rattle.std.proofs.Common.{sym}
use Rattle.rowan_builder.proofs.WrapLemmas.{place_of_innermost-last}
use Rattle.rowan_builder.proofs.builder.owning.innermost_place.Goals as goal

pub returns-in-Some : goal.returns-in-Some
returns-in-Some c = place_of_innermost-last c.args.parents.now c.in-Some.open.now
    (sym c.in-Some.ensures.value)
