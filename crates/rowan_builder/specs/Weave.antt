-- The items that a builder holds: its finished elements in order, with each open node's opening
-- before the element of its place.
use Rattle.std.specs.Prelude.{ℕ, ◌-◌, ◌≤◌, List, [], ◌∷◌, ◌++◌, map, take, drop}
use Rattle.rowan_builder.specs.declared.builder.owning.Opening.{Opening}
use Rattle.rowan_green.specs.Term.{Term}
use Rattle.rowan_green.specs.Word.{Item, Bare, Whole}

-- the items from place `at` on
abbrev pub weave : ℕ → List Opening → List Term → List Item
weave at [] ts = map Whole ts
weave at (o ∷ os) ts =
    map Whole (take (o.first_child - at) ts)
    ++ Bare o.kind.0 ∷ weave o.first_child os (drop (o.first_child - at) ts)

-- the places of open nodes do not fall, from `at` up to `end`
abbrev pub AreInOrder : ℕ → List Opening → ℕ → Type 0
AreInOrder at [] end = at ≤ end
AreInOrder at (o ∷ os) end = (at ≤ o.first_child) × AreInOrder o.first_child os end

-- the place of the last of the open nodes, or `at`
abbrev pub place_of_innermost : ℕ → List Opening → ℕ
place_of_innermost at [] = at
place_of_innermost at (o ∷ os) = place_of_innermost o.first_child os
