use Rattle.std.proofs.Common.{◌≡◌, ◌++◌, map, drop}
use Rattle.rowan_parser.specs.Parsing.{error_value}
use Rattle.rowan_predictive.specs.Parsing.{told_by, error_by}
use Rattle.rowan_predictive.proofs.parsing.push_errors.Given as goal

abbrev pub invariant-loop-complaint : goal.invariant-loop-complaint
invariant-loop-complaint l =
    map error_value l.errors.items
    ++ map (λ c. error_by l.ranges (told_by l.entries l.words c)) (drop l.complaint-index l.complaints)
    ≡ map error_value l.fn.errors.items
    ++ map (λ c. error_by l.ranges (told_by l.entries l.words c)) l.complaints
