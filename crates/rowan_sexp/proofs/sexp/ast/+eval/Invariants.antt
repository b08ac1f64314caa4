use Rattle.std.proofs.Common.{◌+◌, ◌*◌}
use Rattle.rowan_sexp.specs.Operation.{size_at}
use Rattle.rowan_sexp.specs.Wrappers.{node_in}
use Rattle.rowan_sexp.proofs.sexp.ast.+eval.Given as goal

-- a list asks for an expression that is smaller, and an expression that is a list for that list
abbrev pub decreases-List::eval : goal.decreases-List::eval
decreases-List::eval l = 2 * size_at l.self.now

abbrev pub decreases-Sexp::eval : goal.decreases-Sexp::eval
decreases-Sexp::eval l = 2 * size_at (node_in l.self.now) + 1
