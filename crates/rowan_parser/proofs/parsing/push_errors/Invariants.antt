use Rattle.std.proofs.Common.{◌≡◌, ◌++◌, map, length}
use Rattle.std.specs.Vec.Iter.{into_iter_items, into_iter_len}
use Rattle.rowan_parser.specs.Parsing.{error_value, error_of}
use Rattle.rowan_parser.proofs.parsing.push_errors.Given as goal

abbrev pub invariant-loop-complaint : goal.invariant-loop-complaint
invariant-loop-complaint l = record {
  told : map error_value l.errors.items
      ++ map (error_of l.trivia l.tokens) (into_iter_items l.complaint-iterator)
      ≡ map error_value l.fn.errors.items
      ++ map (error_of l.trivia l.tokens) (into_iter_items l.initial.complaint-iterator);
  counted : into_iter_len l.complaint-iterator ≡ length (into_iter_items l.complaint-iterator);
}
