use Rattle.std.proofs.Common.{◌∙◌}
use Rattle.rowan.specs.RawRefs.{node_place}
use Rattle.toml_format.proofs.SkeletonLemmas.{walked-skeleton, of-skeletons}
use Rattle.toml_format.proofs.skeleton.has_skeleton_of.Goals as goal

pub returns : goal.returns
returns c =
    let law = c.walks_spell_the_subtree.ensures in
    of-skeletons c.have_same_marks.result (node_place c.as_ref.result)
    (node_place c.as_ref-2.result) c.args.new.now c.args.old.now
    (walked-skeleton law (node_place c.as_ref.result) c.args.new.now
    (c.as_ref.ensures ∙ c.in_ok-new.ensures))
    (walked-skeleton law (node_place c.as_ref-2.result) c.args.old.now
    (c.as_ref-2.ensures ∙ c.in_ok-old.ensures))
    c.have_same_marks.ensures
