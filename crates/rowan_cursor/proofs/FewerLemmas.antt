-- A skip leaves no more events than there were.
use Rattle.std.proofs.Common.{◌≡◌, ℕ, zero, suc, ◌≤◌, List, [], ◌∷◌, length, Option, Some, None}
use Rattle.std.proofs.Common.{refl, ap, arith}
use Rattle.std.specs.Option.{unwrap_or}
use Rattle.std.proofs.lemmas.Option.{none-some, same_Some}
use Rattle.rowan_green.specs.declared.utility_types.WalkEvent.{WalkEvent}
use Rattle.rowan_green.specs.declared.utility_types.WalkEvent.TheVariants.{Enter, Leave}
use Rattle.rowan_table.specs.Preorder.{from_leave, skip}

from_leave-fewer : {A : Type 0} (n : ℕ) (es fs : List (WalkEvent A)) → from_leave n es ≡ Some fs
    → length fs ≤ length es
from_leave-fewer n [] fs e = absurd (none-some fs e)
from_leave-fewer n (Enter x ∷ es) fs e = omega (arith, from_leave-fewer (suc n) es fs e)
from_leave-fewer zero (Leave x ∷ es) fs e =
    omega (arith, ap length (same_Some (Leave x ∷ es) fs e))
from_leave-fewer (suc n) (Leave x ∷ es) fs e = omega (arith, from_leave-fewer n es fs e)

pub skip-fewer : {A : Type 0} (es : List (WalkEvent A)) → length (skip es) ≤ length es
skip-fewer {A = A} es = by (from_leave 0 es) refl
  where
    by : (o : Option (List (WalkEvent A))) → from_leave 0 es ≡ o
        → length (unwrap_or o es) ≤ length es
    by None e = omega arith
    by (Some fs) e = from_leave-fewer 0 es fs e
