-- Edits of the list of a node's children, by places, which count from 0: what stays before the
-- place, what is put there, and what stays behind.
use Rattle.std.specs.Prelude.{ℕ, ◌+◌, Bool, nat_lt, if◌then◌else◌, List, ◌∷◌, ◌++◌, take, drop}
use Rattle.std.specs.Prelude.{length}
use Rattle.rowan_green.specs.Fits.{IsMadeOf}
use Rattle.rowan_green.specs.Term.{NodeTerm, Term, node_kind, node_children}

-- the list with `x` in place of the element at `i`; where there is none, the list as it is
abbrev pub replaced : {A : Type 0} → List A → ℕ → A → List A
replaced xs i x = if nat_lt i (length xs) then take i xs ++ x ∷ drop (i + 1) xs else xs

-- the list with `x` before the element at `i`, or at the end
abbrev pub inserted : {A : Type 0} → List A → ℕ → A → List A
inserted xs i x = take i xs ++ x ∷ drop i xs

-- the list without the element at `i`
abbrev pub removed : {A : Type 0} → List A → ℕ → List A
removed xs i = take i xs ++ drop (i + 1) xs

-- the list with `new` in place of the elements from `start` to `end`, the one at `end` not included
abbrev pub spliced : {A : Type 0} → List A → ℕ → ℕ → List A → List A
spliced xs start end new = take start xs ++ new ++ drop end xs

-- how far a splice has come with these new elements: the list goes on behind `end` once they are
-- all there
abbrev pub spliced_so_far : {A : Type 0} → List A → ℕ → ℕ → List A → Bool → List A
spliced_so_far xs start end new all = if all then spliced xs start end new else take start xs ++ new

-- the new node is the old one with its children as the edit makes them, within the limits
abbrev pub IsEditOf : NodeTerm → (List Term → List Term) → NodeTerm → Type 0
IsEditOf old edit new = IsMadeOf (node_kind old) (edit (node_children old)) new
