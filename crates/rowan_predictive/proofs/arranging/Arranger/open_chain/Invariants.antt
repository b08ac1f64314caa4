use Rattle.std.proofs.Common.{◌≡◌, false, reverse, vec_len}
use Rattle.rowan_predictive.specs.Arranging.{chain_opened}
use Rattle.rowan_predictive.proofs.arranging.Arranger.open_chain.Given as goal

abbrev pub invariant-chain : goal.invariant-chain
invariant-chain l = record {
  opened : chain_opened (reverse l.self.pending.items) (reverse l.self.events.items)
      ≡ chain_opened (reverse l.fn.self.pending.items) (reverse l.fn.self.events.items);
  quiet : l.self.is_skipping ≡ false;
}

abbrev pub decreases-chain : goal.decreases-chain
decreases-chain l = vec_len l.self.pending
