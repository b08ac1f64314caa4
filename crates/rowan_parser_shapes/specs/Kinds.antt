-- The kinds of sums and lists.
use Rattle.std.specs.Prelude.{ℕ, ◌==◌, List, codes, if◌then◌else◌}
use Rattle.rowan_parser_shapes.specs.declared.kinds.Kind.{Kind}
use Rattle.rowan_parser_shapes.specs.declared.kinds.Kind.TheVariants.{Number, Plus, Open, Close}
use Rattle.rowan_parser_shapes.specs.declared.kinds.Kind.TheVariants.{Comma, Error, Literal, Sum}
use Rattle.rowan_parser_shapes.specs.declared.kinds.Kind.TheVariants.{Group}

-- the kind that a raw kind means
abbrev pub kind_of : ℕ → Kind
kind_of n =
    if n == 0 then Number
    else (if n == 1 then Plus
    else (if n == 2 then Open
    else (if n == 3 then Close
    else (if n == 4 then Comma
    else (if n == 6 then Literal
    else (if n == 7 then Sum
    else (if n == 8 then Group
    else Error)))))))

-- the raw kind of a kind
abbrev pub code_of : Kind → ℕ
code_of Number = 0
code_of Plus = 1
code_of Open = 2
code_of Close = 3
code_of Comma = 4
code_of Error = 5
code_of Literal = 6
code_of Sum = 7
code_of Group = 8

-- how a kind is called
abbrev pub name_of : Kind → List ℕ
name_of Number = codes "NUMBER"
name_of Plus = codes "PLUS"
name_of Open = codes "OPEN"
name_of Close = codes "CLOSE"
name_of Comma = codes "COMMA"
name_of Error = codes "ERROR"
name_of Literal = codes "LITERAL"
name_of Sum = codes "SUM"
name_of Group = codes "GROUP"
