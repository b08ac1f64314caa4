use mathlib.Core.List.{[], not-mem-nil}
use base.Fml.{Lft}
use contract.BorrowLft.{◌⊑◌, ⊑_meet}
use Rattle.rowan_thin_rc.proofs.header_slice.Open.close.Goals as goal

pub from_room-requires : goal.from_room-requires
from_room-requires g c κs within =
    let κ : Lft = κs.0 in
    let none : κ ⊑ [] = λ a m. absurd (not-mem-nil m) in
    let head = within.0 in let item = within.1.0 in let handle = within.1.1 in
    let right = ⊑_meet κ _ _ (⊑_meet κ _ _ handle none)
    (⊑_meet κ _ _ (⊑_meet κ _ _ (⊑_meet κ _ _ handle none) none) none) in
    let tail = ⊑_meet κ _ _ (⊑_meet κ _ _ item none)
    (⊑_meet κ _ _ (⊑_meet κ _ _ (⊑_meet κ _ _ item none) none) none) in
    ⊑_meet κ _ _ (⊑_meet κ _ _ head (⊑_meet κ _ _ item (⊑_meet κ _ _ handle none)))
    (⊑_meet κ _ _ head (⊑_meet κ _ _ handle (⊑_meet κ _ _ right (⊑_meet κ _ _ tail none))))
