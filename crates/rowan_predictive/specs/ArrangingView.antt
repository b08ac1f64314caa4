-- What an arranger has arranged.
use Rattle.std.specs.Prelude.{reverse}
use Rattle.rowan_predictive.specs.declared.arranging.Arranger.{Arranger}
use Rattle.rowan_predictive.specs.Arranging.{Arranged}

abbrev pub arranged_of : Arranger → Arranged
arranged_of a = record {
  events = reverse a.events.items;
  pending = reverse a.pending.items;
  is_skipping = a.is_skipping;
}
