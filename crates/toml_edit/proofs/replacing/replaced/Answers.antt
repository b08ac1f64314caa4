use Rattle.std.specs.Prelude.{slice_get}
use Rattle.rowan.specs.Refs.{node_place}
use Rattle.toml_edit.proofs.ReplacedLemmas.{replaced_by}
use Rattle.toml_edit.proofs.replacing.replaced.Goals as goal

pub returns : goal.returns
returns c =
    replaced_by (node_place c.args.root).root
    (slice_get c.args.old.values.now.slots.items c.args.old.place) c.args.new
    c.in_ok-splice.splice _ c.made.result c.in_ok-vec.ensures.items c.in_ok-splice.ensures c.made.ensures.edited
    c.made.ensures.tree
