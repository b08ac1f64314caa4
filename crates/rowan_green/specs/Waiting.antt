-- What waits in a builder: elements, with their numbers.
use Rattle.std.specs.Prelude.{◌≡◌, ℕ, ◌<◌, List, [], map, take, Option, None, Some, vec_len}
use Rattle.std.specs.Prelude.{vec_capacity}
use Rattle.rowan_green.specs.declared.green.node.GreenChild.{GreenChild}
use Rattle.rowan_green.specs.declared.green.node.block.ChildBlock.{ChildBlock}
use Rattle.rowan_green.specs.declared.green.waiting.FinishedElements.{FinishedElements}
use Rattle.rowan_green.specs.Term.{Term}
use Rattle.rowan_green.specs.View.{child_term}

-- the block has room for one more child
abbrev pub HasSpare : ChildBlock → Type 0
HasSpare b = vec_len b.block.list < vec_capacity b.block.list

-- the children in a block; where there is no block yet, there are none
abbrev pub children_in : Option ChildBlock → List GreenChild
children_in None = []
children_in (Some b) = b.block.list.items

-- there is a block, and it has room for one more child
abbrev pub HasBlockWithSpare : Option ChildBlock → Type 0
HasBlockWithSpare None = ⊥
HasBlockWithSpare (Some b) = HasSpare b

-- the terms of the elements
abbrev pub elements : FinishedElements → List Term
elements w = map child_term (children_in w.block)

-- the number of each, where it has one
abbrev pub numbers_of : FinishedElements → List (Option ℕ)
numbers_of w = w.numbers.items

-- there is room for one more
abbrev pub HasRoom : FinishedElements → Type 0
HasRoom w = HasBlockWithSpare w.block × (vec_len w.numbers < vec_capacity w.numbers)

-- the same waits
abbrev pub IsSame : FinishedElements → FinishedElements → Type 0
IsSame old new = (elements new ≡ elements old) × (numbers_of new ≡ numbers_of old)

-- what stands before the place still waits, with the room that there was
pub record IsCutAt (place : ℕ) (old new : FinishedElements) : Type 0 where
  pub terms : elements new ≡ take place (elements old)
  pub numbers : numbers_of new ≡ take place (numbers_of old)
  pub room : HasRoom old → HasRoom new
