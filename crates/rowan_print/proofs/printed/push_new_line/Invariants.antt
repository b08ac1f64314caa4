use Rattle.std.proofs.Common.{◌≡◌, ◌++◌, ◌*◌, ◌%◌, codes, replicate, string_bytes}
use Rattle.rowan_print.proofs.printed.push_new_line.Given as goal

abbrev pub invariant-loop : goal.invariant-loop
invariant-loop l =
    string_bytes l.text ≡ string_bytes l.fn.text ++ codes "\n"
    ++ replicate (2 * (l.level % 32)) 32 ++ replicate (64 * l.counter) 32
