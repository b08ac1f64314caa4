-- Written by rowan_grammar from small.ungram: change that, and not this file.
-- The nodes in wrappers: in borrowed ones, and in those of more than one kind.
use Rattle.std.specs.Prelude.{ℕ}
use Rattle.rowan.specs.Cursor.{Cursor}
use Rattle.rowan.specs.Refs.{node_place, token_place}
use Rattle.grammar_small.specs.declared.nodes.NodeOfRef.{NodeOfRef}
use Rattle.grammar_small.specs.declared.nodes.TokenOfRef.{TokenOfRef}
use Rattle.grammar_small.specs.declared.nodes.Expr.{Expr}
use Rattle.grammar_small.specs.declared.nodes.FnCallee.{FnCallee}
use Rattle.grammar_small.specs.declared.nodes.ConditionElseBranch.{ConditionElseBranch}
use Rattle.grammar_small.specs.declared.nodes.ExprRef.{ExprRef}
use Rattle.grammar_small.specs.declared.nodes.FnCalleeRef.{FnCalleeRef}
use Rattle.grammar_small.specs.declared.nodes.ConditionElseBranchRef.{ConditionElseBranchRef}

-- where the node of a borrowed wrapper stands
abbrev pub place_in : {kind : ℕ} → NodeOfRef kind → Cursor
place_in wrapper = node_place wrapper.syntax

-- where the token of a borrowed wrapper stands
abbrev pub token_in : {kind : ℕ} → TokenOfRef kind → Cursor
token_in wrapper = token_place wrapper.syntax

abbrev pub node_in_expr : Expr → Cursor
node_in_expr (Expr.Literal node) = node
node_in_expr (Expr.Sum node) = node
node_in_expr (Expr.Range node) = node
node_in_expr (Expr.Fn node) = node
node_in_expr (Expr.List node) = node
node_in_expr (Expr.Condition node) = node

abbrev pub place_in_expr : ExprRef → Cursor
place_in_expr (ExprRef.Literal node) = place_in node
place_in_expr (ExprRef.Sum node) = place_in node
place_in_expr (ExprRef.Range node) = place_in node
place_in_expr (ExprRef.Fn node) = place_in node
place_in_expr (ExprRef.List node) = place_in node
place_in_expr (ExprRef.Condition node) = place_in node

abbrev pub node_in_fn_callee : FnCallee → Cursor
node_in_fn_callee (FnCallee.Literal node) = node
node_in_fn_callee (FnCallee.List node) = node

abbrev pub place_in_fn_callee : FnCalleeRef → Cursor
place_in_fn_callee (FnCalleeRef.Literal node) = place_in node
place_in_fn_callee (FnCalleeRef.List node) = place_in node

abbrev pub node_in_condition_else_branch : ConditionElseBranch → Cursor
node_in_condition_else_branch (ConditionElseBranch.Condition node) = node
node_in_condition_else_branch (ConditionElseBranch.List node) = node

abbrev pub place_in_condition_else_branch : ConditionElseBranchRef → Cursor
place_in_condition_else_branch (ConditionElseBranchRef.Condition node) = place_in node
place_in_condition_else_branch (ConditionElseBranchRef.List node) = place_in node
