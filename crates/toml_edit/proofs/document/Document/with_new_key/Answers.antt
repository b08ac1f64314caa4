use Rattle.rowan.specs.Refs.{node_place}
use Rattle.toml_edit.proofs.HoldingLemmas.{set_anew}
use Rattle.toml_edit.proofs.document.Document.with_new_key.Goals as goal

pub returns : goal.returns
returns c =
    set_anew (node_place c.args.root).root c.args.value c.in_ok-addition.addition c.grown.result
    c.in_ok-addition.ensures c.grown.ensures
