use Rattle.std.proofs.Common.{◌≡◌, ◌++◌, drop, length}
use Rattle.std.specs.Prelude.{string_bytes}
use Rattle.rowan_predictive.specs.Messages.{words_from, words_text}
use Rattle.rowan_predictive.proofs.messages.push_words.Given as goal

abbrev pub invariant-loop-i : goal.invariant-loop-i
invariant-loop-i l =
    string_bytes l.out ++ words_from l.words (length l.kinds) l.i (drop l.i l.kinds)
    ≡ string_bytes l.fn.out ++ words_text l.words l.kinds
