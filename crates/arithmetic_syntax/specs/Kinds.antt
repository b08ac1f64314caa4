-- Written by rowan_grammar from arithmetic.ungram: change that, and not this file.
-- The kinds of Arithmetic.
use Rattle.std.specs.Prelude.{ℕ, ◌==◌, List, codes, if◌then◌else◌}
use Rattle.arithmetic_syntax.specs.declared.kinds.Kind.{Kind}

-- the kind that a raw kind means
abbrev pub kind_of : ℕ → Kind
kind_of n =
    if n == 0 then Kind.Space
    else (if n == 1 then Kind.Number
    else (if n == 2 then Kind.Plus
    else (if n == 3 then Kind.Star
    else (if n == 4 then Kind.Open
    else (if n == 5 then Kind.Close
    else (if n == 7 then Kind.Literal
    else (if n == 8 then Kind.Group
    else (if n == 9 then Kind.Product
    else (if n == 10 then Kind.Sum
    else (if n == 11 then Kind.Root
    else Kind.Error))))))))))

-- the raw kind of a kind
abbrev pub number_of : Kind → ℕ
number_of Kind.Space = 0
number_of Kind.Number = 1
number_of Kind.Plus = 2
number_of Kind.Star = 3
number_of Kind.Open = 4
number_of Kind.Close = 5
number_of Kind.Error = 6
number_of Kind.Literal = 7
number_of Kind.Group = 8
number_of Kind.Product = 9
number_of Kind.Sum = 10
number_of Kind.Root = 11

-- how the kinds are called
abbrev pub name_of : Kind → List ℕ
name_of Kind.Space = codes "SPACE"
name_of Kind.Number = codes "NUMBER"
name_of Kind.Plus = codes "PLUS"
name_of Kind.Star = codes "STAR"
name_of Kind.Open = codes "OPEN"
name_of Kind.Close = codes "CLOSE"
name_of Kind.Error = codes "ERROR"
name_of Kind.Literal = codes "LITERAL"
name_of Kind.Group = codes "GROUP"
name_of Kind.Product = codes "PRODUCT"
name_of Kind.Sum = codes "SUM"
name_of Kind.Root = codes "ROOT"
