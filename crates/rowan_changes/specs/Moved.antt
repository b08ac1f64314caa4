-- Where an element goes that an edit leaves as it is.
use Rattle.std.specs.Prelude.{◌≡◌, ◌≢◌, ℕ, ◌+◌, ◌-◌, ◌<◌, ◌≤◌, ◌⊎◌, nat_lt, nat_eq, List, [], ◌∷◌}
use Rattle.std.specs.Prelude.{if◌then◌else◌, length}
use Rattle.rowan_terms.specs.Path.{Path}
use Rattle.rowan_changes.specs.Edit.{Edit}

-- the index of a child, once `len` terms stand in the place of those from `start` to `end`
abbrev pub moved_index : ℕ → ℕ → ℕ → ℕ → ℕ
moved_index start end len k = if nat_lt k end then k else k - end + start + len

-- the path of what stands outside of the children from `start` to `end` of the node at a path
abbrev pub moved_path : Path → ℕ → ℕ → ℕ → Path → Path
moved_path parent start end len [] = []
moved_path [] start end len (k ∷ p) = moved_index start end len k ∷ p
moved_path (i ∷ parent) start end len (k ∷ p) =
    if nat_eq i k then k ∷ moved_path parent start end len p else k ∷ p

-- what stands at the path is neither one of these children, nor in one of them, nor around them
abbrev pub IsUntouched : Path → ℕ → ℕ → Path → Type 0
IsUntouched parent start end [] = ⊥
IsUntouched [] start end (k ∷ p) = (k < start) ⊎ (end ≤ k)
IsUntouched (i ∷ parent) start end (k ∷ p) = (i ≢ k) ⊎ ((i ≡ k) × IsUntouched parent start end p)

-- an edit leaves what stands at the path as it is
abbrev pub IsUntouchedBy : Edit → Path → Type 0
IsUntouchedBy e p = IsUntouched e.parent e.start e.end p

-- where edits move it, one after the other
abbrev pub moved_by : List Edit → Path → Path
moved_by [] p = p
moved_by (e ∷ es) p = moved_path e.parent e.start e.end (length e.new) (moved_by es p)
