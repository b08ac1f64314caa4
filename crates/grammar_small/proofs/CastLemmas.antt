-- Written by rowan_grammar from small.ungram: change that, and not this file.
-- What casts to an alternative casts to the whole.
use Rattle.std.specs.Prelude.{◌≡◌, ℕ, Bool, true, false, Option, Some, None}
use Rattle.std.specs.Option.{option_map, option_map_or}
use Rattle.std.proofs.lemmas.Bool.{or_left, or_right}
use Rattle.rowan.specs.Cursor.{Cursor, kind}
use Rattle.rowan.specs.Ast.{casts_at}
use Rattle.grammar_small.specs.declared.kinds.Kind.{Kind}
use Rattle.grammar_small.specs.Casts.{is_expr, is_literal, is_sum, is_range, is_fn, is_list}
use Rattle.grammar_small.specs.Casts.{is_condition, is_fn_callee, is_condition_else_branch}
use Rattle.grammar_small.specs.Kinds.{kind_of}

cast_to_more : (p q : Kind → Bool) → ((k : Kind) → p k ≡ true → q k ≡ true)
    → (raw : Option ℕ)
    → option_map_or p (option_map kind_of raw) false ≡ true
    → option_map_or q (option_map kind_of raw) false ≡ true
cast_to_more p q more (Some raw) casts = more (kind_of raw) casts
cast_to_more p q more None casts = casts

pub literal_is_expr_raw : (raw : Option ℕ)
    → option_map_or is_literal (option_map kind_of raw) false ≡ true
    → option_map_or is_expr (option_map kind_of raw) false ≡ true
literal_is_expr_raw = cast_to_more is_literal is_expr
    (λ k casts. or_left (is_literal k) _ casts)

pub literal_is_expr : (c : Cursor)
    → casts_at kind_of is_literal c ≡ true → casts_at kind_of is_expr c ≡ true
literal_is_expr c = literal_is_expr_raw (kind c)

pub sum_is_expr_raw : (raw : Option ℕ)
    → option_map_or is_sum (option_map kind_of raw) false ≡ true
    → option_map_or is_expr (option_map kind_of raw) false ≡ true
sum_is_expr_raw = cast_to_more is_sum is_expr
    (λ k casts. or_right (is_literal k) _ (
    or_left (is_sum k) _ casts))

pub sum_is_expr : (c : Cursor)
    → casts_at kind_of is_sum c ≡ true → casts_at kind_of is_expr c ≡ true
sum_is_expr c = sum_is_expr_raw (kind c)

pub range_is_expr_raw : (raw : Option ℕ)
    → option_map_or is_range (option_map kind_of raw) false ≡ true
    → option_map_or is_expr (option_map kind_of raw) false ≡ true
range_is_expr_raw = cast_to_more is_range is_expr
    (λ k casts. or_right (is_literal k) _ (
    or_right (is_sum k) _ (
    or_left (is_range k) _ casts)))

pub range_is_expr : (c : Cursor)
    → casts_at kind_of is_range c ≡ true → casts_at kind_of is_expr c ≡ true
range_is_expr c = range_is_expr_raw (kind c)

pub fn_is_expr_raw : (raw : Option ℕ)
    → option_map_or is_fn (option_map kind_of raw) false ≡ true
    → option_map_or is_expr (option_map kind_of raw) false ≡ true
fn_is_expr_raw = cast_to_more is_fn is_expr
    (λ k casts. or_right (is_literal k) _ (
    or_right (is_sum k) _ (
    or_right (is_range k) _ (
    or_left (is_fn k) _ casts))))

pub fn_is_expr : (c : Cursor)
    → casts_at kind_of is_fn c ≡ true → casts_at kind_of is_expr c ≡ true
fn_is_expr c = fn_is_expr_raw (kind c)

pub list_is_expr_raw : (raw : Option ℕ)
    → option_map_or is_list (option_map kind_of raw) false ≡ true
    → option_map_or is_expr (option_map kind_of raw) false ≡ true
list_is_expr_raw = cast_to_more is_list is_expr
    (λ k casts. or_right (is_literal k) _ (
    or_right (is_sum k) _ (
    or_right (is_range k) _ (
    or_right (is_fn k) _ (
    or_left (is_list k) _ casts)))))

pub list_is_expr : (c : Cursor)
    → casts_at kind_of is_list c ≡ true → casts_at kind_of is_expr c ≡ true
list_is_expr c = list_is_expr_raw (kind c)

pub condition_is_expr_raw : (raw : Option ℕ)
    → option_map_or is_condition (option_map kind_of raw) false ≡ true
    → option_map_or is_expr (option_map kind_of raw) false ≡ true
condition_is_expr_raw = cast_to_more is_condition is_expr
    (λ k casts. or_right (is_literal k) _ (
    or_right (is_sum k) _ (
    or_right (is_range k) _ (
    or_right (is_fn k) _ (
    or_right (is_list k) _ casts)))))

pub condition_is_expr : (c : Cursor)
    → casts_at kind_of is_condition c ≡ true → casts_at kind_of is_expr c ≡ true
condition_is_expr c = condition_is_expr_raw (kind c)

pub literal_is_fn_callee_raw : (raw : Option ℕ)
    → option_map_or is_literal (option_map kind_of raw) false ≡ true
    → option_map_or is_fn_callee (option_map kind_of raw) false ≡ true
literal_is_fn_callee_raw = cast_to_more is_literal is_fn_callee
    (λ k casts. or_left (is_literal k) _ casts)

pub literal_is_fn_callee : (c : Cursor)
    → casts_at kind_of is_literal c ≡ true → casts_at kind_of is_fn_callee c ≡ true
literal_is_fn_callee c = literal_is_fn_callee_raw (kind c)

pub list_is_fn_callee_raw : (raw : Option ℕ)
    → option_map_or is_list (option_map kind_of raw) false ≡ true
    → option_map_or is_fn_callee (option_map kind_of raw) false ≡ true
list_is_fn_callee_raw = cast_to_more is_list is_fn_callee
    (λ k casts. or_right (is_literal k) _ casts)

pub list_is_fn_callee : (c : Cursor)
    → casts_at kind_of is_list c ≡ true → casts_at kind_of is_fn_callee c ≡ true
list_is_fn_callee c = list_is_fn_callee_raw (kind c)

pub condition_is_condition_else_branch_raw : (raw : Option ℕ)
    → option_map_or is_condition (option_map kind_of raw) false ≡ true
    → option_map_or is_condition_else_branch (option_map kind_of raw) false ≡ true
condition_is_condition_else_branch_raw = cast_to_more is_condition is_condition_else_branch
    (λ k casts. or_left (is_condition k) _ casts)

pub condition_is_condition_else_branch : (c : Cursor)
    → casts_at kind_of is_condition c ≡ true → casts_at kind_of is_condition_else_branch c ≡ true
condition_is_condition_else_branch c = condition_is_condition_else_branch_raw (kind c)

pub list_is_condition_else_branch_raw : (raw : Option ℕ)
    → option_map_or is_list (option_map kind_of raw) false ≡ true
    → option_map_or is_condition_else_branch (option_map kind_of raw) false ≡ true
list_is_condition_else_branch_raw = cast_to_more is_list is_condition_else_branch
    (λ k casts. or_right (is_condition k) _ casts)

pub list_is_condition_else_branch : (c : Cursor)
    → casts_at kind_of is_list c ≡ true → casts_at kind_of is_condition_else_branch c ≡ true
list_is_condition_else_branch c = list_is_condition_else_branch_raw (kind c)
