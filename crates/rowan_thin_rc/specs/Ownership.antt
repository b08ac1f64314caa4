-- What a block and its parts own. t is the allocator's right to free a block.
use Rattle.std.specs.Prelude.{ℕ, ◌≡◌, ◌+◌, ◌*◌, ◌/◌, ◌^◌, ◌<◌, List, length}
use base.Fml.{Lft, Fml, ftrue, fsep, fwand, flt}
use mir.Syntax.{Ty, w32, w64, ty_int, ty_array}
use prog.Memory.{size, align}
use denote.RattleType.{RattleType}
use denote.Memory.{lone}
use denote.Array.{Array}
use denote.RawPtr.{Ptr, room_for}
use denote.Sharing.{said, beside}
use denote.Struct.Lending.{lent_at}
use Rattle.std.specs.Allocator.{block_with_items}
use Rattle.std.specs.Mem.{type_size}
use Rattle.rowan_thin_rc.specs.Counting.{count_box_type}

-- a block of n words
abbrev pub words : ℕ → Ty
words n = ty_array (ty_int w64) n

-- what a `Chunk` owns
abbrev pub chunk_owns : (Ty → Ptr → Fml) → Ptr → ℕ → Fml
chunk_owns t p n = fsep (room_for (words n) p) (t (words n) p)

-- the same memory as 2 * n halves of words, which need not be aligned as words
abbrev pub halves : ℕ → Ty
halves n = ty_array (ty_int w32) (n * 2)

-- what a `Right` owns: the right to free n words, and that the first f of them are aligned
abbrev pub right_owns : (Ty → Ptr → Fml) → Ptr → ℕ → ℕ → Fml
right_owns t p n f = fsep (t (words n) p) (fwand (room_for (halves f) p) (room_for (words f) p))

-- what a `Tail` owns: the items, and the room behind them
abbrev pub tail_owns : (R : RattleType) → Ptr → ℕ → List R.Denot → Fml
tail_owns R p c xs =
    fsep (flt (c * type_size R) (2 ^ 63)) (block_with_items (λ _ _. ftrue) R p (length xs) c xs)

-- what a `&` to a `Tail` holds
abbrev pub tail_shares : (R : RattleType) → Ptr → ℕ → List R.Denot → Lft → Fml
tail_shares R p c xs =
    beside (said (flt (c * type_size R) (2 ^ 63))) (lent_at (Array R (length xs)) p xs)

-- the size of a `CountBox<F>`
abbrev pub front_size : RattleType → ℕ
front_size F = size (count_box_type F)

-- the words that a `CountBox<F>` takes
abbrev pub front_words : RattleType → ℕ
front_words F = front_size F / 8

-- n words are a `CountBox<F>`, which is aligned as a `u32`, and c items, which are aligned as a
-- `u64`. Both take whole words
abbrev pub Cut : RattleType → RattleType → ℕ → ℕ → Type 0
Cut F R c n =
    (align (count_box_type F) ≡ 4) × (align (lone R.mir) ≡ 8)
    × (front_size F / 8 * 8 ≡ front_size F) × (n * 8 ≡ front_size F + c * type_size R)
    × (n < 2 ^ 60)
