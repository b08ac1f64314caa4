use Rattle.std.proofs.Common.{◌≡◌, ◌≢◌, ℕ, ◌+◌, ◌<◌, ◌≤◌, take}
use Rattle.rowan_sexp.specs.Grammar.{count_of}
use Rattle.rowan_sexp.proofs.sexp.balance.is_balanced.Given as goal

abbrev pub invariant-loop-i : goal.invariant-loop-i
invariant-loop-i l = record {
  counted : count_of 41 (take l.i l.bytes) + l.depth ≡ count_of 40 (take l.i l.bytes);
  few : l.depth ≤ l.i;
  some : 0 < l.i → 0 < l.depth;
  unclosed : (k : ℕ) → 0 < k → k < l.i + 1
      → count_of 40 (take k l.bytes) ≢ count_of 41 (take k l.bytes);
}
