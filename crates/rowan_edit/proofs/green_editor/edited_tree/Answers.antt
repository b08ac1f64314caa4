use Rattle.std.proofs.Common.{List, sym, ◌∙◌, ap, subst}
use Rattle.rowan_changes.specs.declared.edit.Splice.{Splice}
use Rattle.rowan_changes.specs.GreenEditor.{edits_of, ArePairs}
use Rattle.rowan_changes.specs.Plan.{EndInTurn}
use Rattle.rowan_changes.specs.Sites.{EditedPlaces, sites_of}
use Rattle.rowan_edit.proofs.FinishLemmas.{whole-inside}
use Rattle.rowan_edit.proofs.green_editor.edited_tree.Goals as goal

pub new-requires : goal.new-requires
new-requires c =
    subst (λ ss. EndInTurn (edits_of ss)) (sym c.deref-2.ensures.value) c.requires.order.in_turn

pub new_root-requires : goal.new_root-requires
new_root-requires c = c.requires.order

pub new-requires-2-clause-follow : goal.new-requires-2-clause-follow
new-requires-2-clause-follow c =
    (whole-inside c.args.root.now c.args.edits.items c.in_ok-list.list.items c.in_ok-green.green
    c.requires (subst (λ ss. ArePairs ss c.in_ok-list.list.items) c.deref.ensures.value
    c.in_ok-list.ensures.ok) c.in_ok-green.ensures.ok c.in_ok-green.ensures.fits).follow

pub new-requires-2-clause-fits : goal.new-requires-2-clause-fits
new-requires-2-clause-fits c =
    (whole-inside c.args.root.now c.args.edits.items c.in_ok-list.list.items c.in_ok-green.green
    c.requires (subst (λ ss. ArePairs ss c.in_ok-list.list.items) c.deref.ensures.value
    c.in_ok-list.ensures.ok) c.in_ok-green.ensures.ok c.in_ok-green.ensures.fits).fits

pub returns-clause-whole : goal.returns-clause-whole
returns-clause-whole c =
    let root = c.args.root.now in
    let ss = c.args.edits.items in
    let places : List Splice → EditedPlaces =
    λ xs. record { root = root; sites = sites_of (edits_of xs) } in
    record {
      order = c.requires.order;
      green = c.in_ok-green.ensures.ok;
      changes = c.in_ok-changes.ensures.ok
          ∙ (whole-inside root ss c.in_ok-list.list.items c.in_ok-green.green c.requires
          (subst (λ xs. ArePairs xs c.in_ok-list.list.items) c.deref.ensures.value
          c.in_ok-list.ensures.ok) c.in_ok-green.ensures.ok c.in_ok-green.ensures.fits).is;
      sites = c.in_ok-sites.ensures.ok ∙ ap places c.deref-2.ensures.value;
    }
