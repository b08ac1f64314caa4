use Rattle.std.proofs.Common.{ap}
use Rattle.rowan_green.specs.Waiting.{elements}
use Rattle.rowan_builder.proofs.WrapLemmas.{HasCount-weave}
use Rattle.rowan_builder.proofs.builder.owning.OwningBuilder.checkpoint.Goals as goal

pub returns : goal.returns
returns c =
    let s = c.self.inside in
    HasCount-weave s.parents.items (elements s.finished) c.args.self.now.word c.len.result
    (ap (λ b. b.word) c.self.view_is)
    c.len.ensures
