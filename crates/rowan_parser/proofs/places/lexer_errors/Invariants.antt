use Rattle.std.proofs.Common.{◌≡◌, ◌++◌, map, drop}
use Rattle.rowan_parser.specs.Parsing.{error_value, lexer_error}
use Rattle.rowan_parser.proofs.places.lexer_errors.Given as goal

abbrev pub invariant-loop-error : goal.invariant-loop-error
invariant-loop-error l =
    map error_value l.errors.items ++ map lexer_error (drop l.error-index l.complained)
    ≡ map lexer_error l.complained
