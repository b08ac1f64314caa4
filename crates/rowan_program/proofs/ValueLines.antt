-- The lines of what expressions read, one after the other.
use Rattle.std.proofs.Common.{◌≡◌, ℕ, List, [], ◌∷◌, ◌++◌, map, Option, Some, None, refl, sym}
use Rattle.std.proofs.Common.{◌∙◌, ap}
use Rattle.std.specs.Prelude.{Ok, Err, IfOk, IfErr}
use Rattle.std.proofs.lemmas.List.{flat_map_more, map-append}
use Rattle.rowan_green.specs.declared.fault.Fault.{Fault}
use Rattle.rowan_green.specs.declared.fault.Fault.TheVariants.{Memory}
use Rattle.rowan_green.specs.declared.utility_types.NodeOrToken.TheVariants.{Node, Token}
use Rattle.rowan_green.specs.Term.{node, Term}
use Rattle.rowan_table.specs.Cursor.{Cursor, term_at}
use Rattle.rowan_table.specs.Moves.{children}
use Rattle.rowan_table.specs.Yields.{Rest}
use Rattle.rowan.specs.Ast.{YieldsWrappers}
use Rattle.rowan_program.specs.Program.{value_line, value_lines, value_lines_of, value_lines_at}
use Rattle.rowan_sexp.specs.declared.sexp.ast.Sexp.{Sexp}
use Rattle.rowan_sexp.specs.Eval.{value_at}
use Rattle.rowan_sexp.specs.Wrappers.{node_in}
use Rattle.rowan_sexp.proofs.EvalLemmas.{is_sexp_at, reading_at, sexps_at, readings_of, all-read}
use Rattle.rowan_sexp.proofs.EvalLemmas.{Left, left-start, left-next, left-end, left-refused}

lines-more : (ds : List Cursor) (d : Cursor)
    → value_lines (map reading_at (ds ++ d ∷ [])) ≡ value_lines (map reading_at ds)
    ++ value_line (value_at d)
lines-more ds d = ap value_lines (map-append reading_at ds (d ∷ []))
    ∙ sym (flat_map_more (λ r. value_line r.1) [] (map reading_at ds) (reading_at d))

lines-all : (c : Cursor) → value_lines (map reading_at (sexps_at c)) ≡ value_lines_at c
lines-all c = ap value_lines (all-read c) ∙ of (term_at c)
  where
    of : (s : Option Term) → value_lines (readings_of s) ≡ value_lines_of s
    of None = refl
    of (Some (Token t)) = refl
    of (Some (Node (node k f))) = refl

-- these are the lines of the expressions that came first
pub record Lines (c : Cursor) (rest : Rest Cursor) (lines : List ℕ) : Type 0 where
  pub seen : List Cursor
  pub left : Left c seen rest
  pub printed : lines ≡ value_lines (map reading_at seen)

pub lines-start : (c : Cursor) (rest : Rest Cursor) (lines : List ℕ)
    → IfOk rest (λ nodes. nodes ≡ children c) → IfErr rest (λ e. e ≡ Memory) → lines ≡ []
    → Lines c rest lines
lines-start c rest lines h e none =
    record { seen = []; left = left-start c rest h e; printed = none }

pub lines-next : (c : Cursor) (rest after : Rest Cursor) (x : Sexp) (lines more : List ℕ)
    → Lines c rest lines → YieldsWrappers is_sexp_at node_in rest (Some (Ok x)) after
    → more ≡ lines ++ value_line (value_at (node_in x)) → Lines c after more
lines-next c rest after x lines more l y e = record {
  seen = l.seen ++ node_in x ∷ [];
  left = left-next c l.seen rest after x l.left y;
  printed = e ∙ ap (λ bs. bs ++ value_line (value_at (node_in x))) l.printed
      ∙ sym (lines-more l.seen (node_in x));
}

pub lines-end : (c : Cursor) (rest after : Rest Cursor) (lines : List ℕ) → Lines c rest lines
    → YieldsWrappers is_sexp_at node_in rest None after → lines ≡ value_lines_at c
lines-end c rest after lines l y =
    l.printed ∙ ap (λ ds. value_lines (map reading_at ds))
    (sym (left-end c l.seen rest after l.left y)) ∙ lines-all c

pub lines-refused : (c : Cursor) (rest after : Rest Cursor) (lines : List ℕ) (f : Fault)
    → Lines c rest lines → YieldsWrappers is_sexp_at node_in rest (Some (Err f)) after → f ≡ Memory
lines-refused c rest after lines f l y = left-refused c l.seen rest after f l.left y
