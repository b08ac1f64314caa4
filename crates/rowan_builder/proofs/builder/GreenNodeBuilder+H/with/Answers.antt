use Rattle.std.proofs.Common.{refl, sym, subst}
use Rattle.rowan_builder.proofs.builder.GreenNodeBuilder+H.with.Goals as goal

pub returns : goal.returns
returns g c =
    let same_loan = sym (c.requires.keeps _ _ _ c.work.ensures) in
    record {
      first = _;
      begins = refl;
      last = c.work.new.arg2;
      ran = record { shown = _; shows = refl; left = _; met = c.work.ensures; leaves = refl };
      ends = subst (λ h. g.H.CacheHome.receives h c.work.new.arg2.inner.cache)
          (sym (c.home-1.given.1 same_loan)) c.drop-builder.ensures;
    }
