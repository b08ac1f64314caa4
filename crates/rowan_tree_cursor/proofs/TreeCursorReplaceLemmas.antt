-- A replacement by a tree cursor: the top of the new tree, and why there is none.
use Rattle.std.proofs.Common.{◌≡◌, ◌≢◌, ℕ, [], ◌∷◌, List, take, refl, ◌∙◌, ap}
use Rattle.rowan_green.specs.declared.fault.Fault.{Fault}
use Rattle.rowan_green.specs.declared.fault.Fault.TheVariants.{TextTooLong, Memory}
use Rattle.rowan_green.specs.declared.utility_types.NodeOrToken.TheVariants.{Node}
use Rattle.rowan_green.specs.Fits.{Fits}
use Rattle.rowan_terms.specs.Path.{put}
use Rattle.rowan_green.specs.Term.{NodeTerm, Term}
use Rattle.rowan_table.specs.Cursor.{Cursor}
use Rattle.rowan_table.specs.Replacement.{with_replacement}
use Rattle.rowan_tree_cursor.specs.declared.tree_cursor.Frame.{Frame}
use Rattle.rowan_tree_cursor.specs.TreeCursor.{path_of}
use Rattle.rowan_tree_cursor.specs.TreeCursorMoves.{WhyNotReplaced}

-- below no frame stands the whole tree
pub put-top : (root : NodeTerm) (all : List Frame) (i : ℕ) (u : Term) → i ≡ 0
    → put (Node root) (path_of (take i all)) u ≡ u
put-top root all i u e =
    ap (λ k. put (Node root) (path_of (take k all)) u) e
    ∙ ap (λ fs. put (Node root) (path_of fs) u) (none all)
  where
    none : (fs : List Frame) → take 0 fs ≡ []
    none [] = refl
    none (f ∷ fs) = refl

pub why : (c : Cursor) (u : Term) (e : Fault)
    → (e ≢ Memory → (e ≡ TextTooLong) × ¬ Fits (with_replacement c u)) → WhyNotReplaced c u e
why c u Memory h = tt
why c u TextTooLong h = (h (λ q. absurd (cc q))).1
why c u e h = let same = (h (λ q. absurd (cc q))).0 in absurd (cc same)
