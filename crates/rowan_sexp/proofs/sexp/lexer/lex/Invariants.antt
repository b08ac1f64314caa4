use Rattle.std.proofs.Common.{◌++◌, List, length}
use denote.Shadow.{shadow}
use denote.Text.{Utf8}
use Rattle.rowan_sexp.specs.Sexp.{LexedToken}
use Rattle.rowan_sexp.proofs.SexpRuns.{IsCutInto}
use Rattle.rowan_sexp.proofs.sexp.lexer.lex.Given as goal

-- the tokens so far, and those into which what is left is cut, are those into which the text is cut
abbrev pub invariant-loop-token : goal.invariant-loop-token
invariant-loop-token l = shadow (Utf8 l.rest)
    × ((others : List LexedToken) → IsCutInto l.rest others
    → IsCutInto l.text (l.tokens.items ++ others))

abbrev pub decreases-loop-token : goal.decreases-loop-token
decreases-loop-token l = length l.rest
