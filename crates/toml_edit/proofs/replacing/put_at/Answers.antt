use Rattle.std.proofs.Common.{◌∙◌}
use Rattle.std.specs.Prelude.{slice_get, string_bytes}
use Rattle.rowan.specs.Refs.{node_place}
use Rattle.toml_edit.proofs.ReplacedLemmas.{put_by}
use Rattle.toml_edit.proofs.replacing.put_at.Goals as goal

pub returns : goal.returns
returns c =
    put_by (slice_get c.args.old.values.now.slots.items c.args.old.place) c.args.new
    c.range.result (node_place c.in-Some.node) (string_bytes c.in_ok-text.text)
    c.in_ok-piece.piece c.in_place.result c.range.ensures c.in-Some.ensures
    c.in_ok-text.ensures (c.in_ok-piece.ensures ∙ c.deref.ensures) c.in_place.ensures.above
    c.in_place.ensures.start c.in_place.ensures.end c.in_place.ensures.new
