use Rattle.std.proofs.Common.{◌++◌, ◌∷◌, [], ◌∙◌, refl, ap}
use Rattle.rowan_table.specs.declared.table.entry.Entry.{Entry}
use Rattle.rowan_table.specs.declared.table.draft.Draft.{Draft}
use Rattle.rowan_table.specs.declared.table.draft.Waiting.{Waiting}
use Rattle.rowan_green.specs.declared.utility_types.NodeOrToken.TheVariants.{Node}
use Rattle.rowan_green.proofs.Terms.{Fits-len}
use Rattle.rowan_table.proofs.DraftLemmas.{filled_as}
use Rattle.rowan_table.proofs.FillLemmas.{filled-root}
use Rattle.rowan_table.proofs.table.draft.Draft.new.Goals as goal

pub returns-clause-draft : goal.returns-clause-draft
returns-clause-draft c =
    let d : Draft = record {
      entries = c.push_reserved-2.new.self;
      nodes = c.in_ok-with_capacity-2.field-0;
      waiting = c.push_reserved.new.self;
      root = c.args.root;
      alloc = c.args.alloc;
    } in
    let w : Waiting = record {
      node = c.args.root;
      start = c.from-start.result;
      number = 0;
    } in
    let e : Entry = record {
      start = c.from-start.result;
      parent = 0;
      node = c.none.result;
    } in
    filled_as d (e ∷ []) [] (w ∷ []) (c.push_reserved-2.ensures.items
    ∙ ap (λ es. es ++ e ∷ []) c.in_ok-with_capacity.ensures.items)
    c.in_ok-with_capacity-2.ensures
    (c.push_reserved.ensures.items ∙ ap (λ ws. ws ++ w ∷ []) c.in_ok-with_capacity-3.ensures.items)
    (filled-root e w c.from-start.ensures c.none.ensures c.from-start.ensures refl
    (Fits-len (Node c.args.root.now) c.text_len.ensures.fits))
