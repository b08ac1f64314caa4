-- What is a value of this grammar.
use Rattle.std.proofs.Common.{◌≡◌, ℕ, zero, suc, ◌+◌, refl, subst, inl, inr, arith}
use Rattle.rowan_parser.specs.Making.{IsErrorNode, IsListOf}
use Rattle.rowan_parser.specs.Shape.{Forest, none, token_then}
use Rattle.rowan_parser_shapes.specs.Shapes.{IsValue, a_literal}

pub error_is_value : (depth : ℕ) (f : Forest) → IsErrorNode 5 f → IsValue depth f
error_is_value zero f h = h
error_is_value (suc depth) f h = inl h

pub literal_is_value : (depth less : ℕ) → less + 1 ≡ depth → IsValue depth a_literal
literal_is_value depth less e =
    let is : suc less ≡ depth = omega (arith, e) in
    let Q : ℕ → Type 0 = λ d. IsValue d a_literal in
    subst Q is (inr (inl refl))

pub list_is_value : (depth less : ℕ) → less + 1 ≡ depth → (f : Forest)
    → IsListOf (IsValue less) (token_then none) 8 f → IsValue depth f
list_is_value depth less e f h =
    let is : suc less ≡ depth = omega (arith, e) in
    let Q : ℕ → Type 0 = λ d. IsValue d f in
    subst Q is (inr (inr h))

pub ruleset values = (error_is_value, literal_is_value, list_is_value)
