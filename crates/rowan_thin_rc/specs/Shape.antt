-- Where the parts of a block lie.
use Rattle.std.specs.Prelude.{◌≡◌, ℕ, ◌+◌, ◌*◌, ◌^◌, ◌<◌, length, max, List, ◌≤◌}
use Rattle.std.specs.Vec.{vec_len, vec_capacity, vec_ptr}
use Rattle.std_alloc.specs.declared.vec.Vec.{Vec}
use prog.Memory.{align}
use denote.RattleType.{RattleType}
use denote.Memory.{lone}
use denote.RawPtr.{◌+ₚ◌}
use Rattle.std.specs.Mem.{type_size}
use Rattle.rowan_thin_rc.specs.Counting.{count_box_type}
use Rattle.rowan_thin_rc.specs.declared.count.Counted.{Counted}
use Rattle.rowan_thin_rc.specs.declared.header_slice.HeaderSlice.{HeaderSlice}
use Rattle.rowan_thin_rc.specs.declared.header_slice.Open.{Open}
use Rattle.rowan_thin_rc.specs.Ownership.{front_size}

-- the front, a `CountBox<F>`, is f words aligned as a `u32`, and an item R is s words aligned as a
-- `u64`
abbrev pub Fits : RattleType → RattleType → ℕ → ℕ → Type 0
Fits F R f s =
    (align (count_box_type F) ≡ 4) × (align (lone R.mir) ≡ 8) × (front_size F ≡ f * 8)
    × (type_size R ≡ s * 8) × (f < 2 ^ 16) × (s < 2 ^ 16)

-- the list lies where it lay, with the room that it had
abbrev pub IsInPlace : {X H : Type 0} → Vec X H → Vec X H → Type 0
IsInPlace old new = (vec_capacity new ≡ vec_capacity old) × (vec_ptr new ≡ vec_ptr old)

-- the list has room for so many more
abbrev pub HasRoomFor : {X H : Type 0} → ℕ → Vec X H → Type 0
HasRoomFor n v = vec_len v + n ≤ vec_capacity v

-- for how many items there is room
abbrev pub room_of : ℕ → ℕ
room_of n = max 1 n

module _ {X Y Z : Type 0} where
  abbrev pub head_of : Counted (HeaderSlice X Y Z) → X
  head_of c = c.value.head

  abbrev pub items_of : Counted (HeaderSlice X Y Z) → List Y
  items_of c = c.value.tail.items

  -- the parts belong together, where the front is f words and an item is s
  pub record IsHeaded (f s : ℕ) (c : Counted (HeaderSlice X Y Z)) : Type 0 where
    pub len : c.value.len ≡ length c.value.tail.items
    pub small : c.value.len < 2 ^ 32
    pub tail : c.value.tail.ptr ≡ c.ptr +ₚ f * 8
    pub cap : c.value.tail.cap ≡ room_of c.value.len
    pub right : c.value.right.ptr ≡ c.ptr
    pub front : c.value.right.front ≡ f
    pub count : c.value.right.count ≡ f + room_of c.value.len * s
    pub alloc : c.value.right.alloc ≡ c.value.alloc

  -- the parts of a block with no head belong together, where the front is f words and an item is s
  pub record IsOpen (f s : ℕ) (b : Open X Y Z) : Type 0 where
    pub list : vec_ptr b.list ≡ b.room.ptr +ₚ f * 8
    pub right : b.right.ptr ≡ b.room.ptr
    pub front : b.right.front ≡ f
    pub count : b.right.count ≡ f + vec_capacity b.list * s
    pub alloc : b.right.alloc ≡ b.alloc
    pub some_room : 0 < vec_capacity b.list
    pub small : vec_capacity b.list < 2 ^ 32
