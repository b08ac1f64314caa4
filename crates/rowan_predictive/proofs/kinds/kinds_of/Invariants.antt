use Rattle.std.proofs.Common.{◌≡◌, ◌++◌, drop}
use Rattle.rowan_predictive.specs.Parsing.{kinds_of}
use Rattle.rowan_predictive.proofs.kinds.kinds_of.Given as goal

abbrev pub invariant-loop-token : goal.invariant-loop-token
invariant-loop-token l = l.kinds.items ++ kinds_of l.trivia (drop l.token-index l.tokens)
    ≡ kinds_of l.trivia l.tokens
