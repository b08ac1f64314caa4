use Rattle.std.proofs.Common.{◌≡◌, ◌+◌, ◌<◌, length, take, get_or, arith}
use Rattle.rowan_sexp.specs.Grammar.{count_of}
use Rattle.rowan_sexp.proofs.BalanceLemmas.{count_of-more, unclosed_more, at_most_one}
use Rattle.rowan_sexp.proofs.sexp.balance.is_balanced.Goals as goal

pub loop-i-preserved : goal.loop-i-preserved
loop-i-preserved c =
    let bytes = c.as_bytes-bytes.result.now in
    let i = c.loop-i.i in
    let depth = c.open_behind-depth.result in
    let within : i < length bytes = omega (arith, c.loop-i-test.true) in
    let counted : count_of 41 (take (i + 1) bytes) + depth ≡ count_of 40 (take (i + 1) bytes) =
    omega (
      arith,
      count_of-more 41 bytes i within,
      count_of-more 40 bytes i within,
      c.open_behind-depth.ensures,
      c.loop-i.invariant.counted,
    ) in
    record {
      counted = counted;
      few = omega (
        arith,
        c.open_behind-depth.ensures,
        at_most_one 40 (get_or bytes i 0),
        c.loop-i.invariant.few,
      );
      some = λ h. omega arith;
      unclosed = unclosed_more bytes i depth c.loop-i.invariant.unclosed counted (omega arith);
    }
