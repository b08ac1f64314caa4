use Rattle.std.proofs.Common.{◌<◌, refl, sym, ap, subst, arith, length}
use Rattle.std.proofs.lemmas.List.{length-map}
use Rattle.std.proofs.lemmas.Option.{slice_get_read}
use Rattle.rowan_builder.specs.Tables.{kept_term, KeepsLimits}
use Rattle.rowan_builder.proofs.node_cache.table.ValueTable.value.Goals as goal

pub returns-clause-fits : goal.returns-clause-fits
returns-clause-fits c =
    let ks = c.self.inside.values.items in
    let within : c.args.number < length ks =
    omega (arith, c.requires, ap length c.self.view_is, length-map ks kept_term) in
    subst KeepsLimits (sym c.as_ref.ensures)
    (c.self.invariant.kept c.args.number c.index.result.now
    (slice_get_read ks (length ks) c.args.number c.index.result.now refl within
    c.index.ensures)).fits
