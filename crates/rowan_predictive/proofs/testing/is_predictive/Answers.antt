use Rattle.std.proofs.Common.{◌<◌, length, arith, rules as steps}
use Rattle.std.proofs.lemmas.Option.{slice_get_within}
use Rattle.rowan_predictive.specs.Predictive.{IsFit}
use Rattle.rowan_predictive.proofs.Below.{extended}
use Rattle.rowan_predictive.proofs.testing.is_predictive.Goals as goal

pub loop-i-preserved : goal.loop-i-preserved
loop-i-preserved c =
    let entries = c.args.entries.now in
    extended (IsFit entries) entries c.loop-i.i c.loop-i.invariant (c.is_fit_at.ensures (search steps))

pub returns : goal.returns
returns c =
    let entries = c.args.entries.now in
    λ _. record {
      at = λ i entry e.
          let less : i < length entries = (let h = slice_get_within entries i entry e in omega arith) in
          c.loop-i.invariant i entry (omega arith) e;
    }
