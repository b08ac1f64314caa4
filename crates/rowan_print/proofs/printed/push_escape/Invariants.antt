-- What was written and what is still to come of the escape are all of it.
use Rattle.std.proofs.Common.{◌≡◌, ◌++◌, ◌≤◌, List, ℕ, encode_utf8_all, string_bytes}
use Rattle.std.specs.Char.Escape.{IsEscapeDebug}
use Rattle.std.specs.Char.Iter.{escape_end, escape_rest}
use Rattle.rowan_print.proofs.printed.push_escape.Given as goal

abbrev pub invariant-loop-escaped : goal.invariant-loop-escaped
invariant-loop-escaped l = record {
  within : escape_end l.escaped-iterator ≤ 10;
  all : List ℕ;
  is : IsEscapeDebug l.fn.character all;
  wrote : string_bytes l.text ++ encode_utf8_all (escape_rest l.escaped-iterator)
      ≡ string_bytes l.fn.text ++ encode_utf8_all all;
}
