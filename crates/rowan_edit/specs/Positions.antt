-- Edits at borrowed elements and in the gaps between the children of borrowed nodes.
use Rattle.std.specs.Prelude.{◌≡◌, ℕ, ◌+◌, List}
use Rattle.rowan_terms.specs.Path.{Path}
use Rattle.rowan_green.specs.Term.{Term}
use Rattle.rowan_table.specs.Cursor.{Cursor}
use Rattle.rowan_table.specs.Moves.{Element, place_of, child_count}
use Rattle.rowan_api.specs.Refs.{node_place, element_place}
use Rattle.rowan_edit.specs.declared.position.Position.{Position}
use Rattle.rowan_edit.specs.declared.position.Position.TheVariants.{BeforeElement, AfterElement}
use Rattle.rowan_edit.specs.declared.position.Position.TheVariants.{FirstChild, LastChild}
use Rattle.rowan_changes.specs.declared.refusal.Refusal.{Refusal}
use Rattle.rowan_edit.specs.ArrangedCursors.{WhyNotTaken, WhyNotTakenAt}
use Rattle.rowan_edit.specs.Arrangements.{ArrangedPlan}
use Rattle.rowan_edit.specs.Cursors.{AtChild}
use Rattle.rowan_changes.specs.Edit.{Edit}

-- terms in the place of the child at an index, and in the gap before it
abbrev pub in_place : List Term → Path → ℕ → Edit
in_place new p i = record { parent = p; start = i; end = i + 1; new = new }

abbrev pub in_gap : List Term → Path → ℕ → Edit
in_gap new p i = record { parent = p; start = i; end = i; new = new }

abbrev pub behind_last : Cursor → ℕ
behind_last c = child_count c.root c.path

-- the gap at a position is one of the node at a path, before the child at an index, and P holds of
-- these
abbrev pub AtGap : {L : Type 0} → Position L → (Path → ℕ → Type 0) → Type 0
AtGap (BeforeElement e) P = AtChild (place_of (element_place e)) P
AtGap (AfterElement e) P = AtChild (place_of (element_place e)) (λ p i. P p (i + 1))
AtGap (FirstChild n) P = P (node_place n).path 0
AtGap (LastChild n) P = P (node_place n).path (behind_last (node_place n))

-- the tree in which the position is
abbrev pub cursor_of : {L : Type 0} → Position L → Cursor
cursor_of (BeforeElement e) = place_of (element_place e)
cursor_of (AfterElement e) = place_of (element_place e)
cursor_of (FirstChild n) = node_place n
cursor_of (LastChild n) = node_place n

-- why terms are not put at a position
abbrev pub WhyNotInserted : {L : Type 0} → ArrangedPlan → Position L → List Term → Refusal → Type 0
WhyNotInserted plan (BeforeElement e) new =
    WhyNotTakenAt plan (place_of (element_place e)) (in_gap new)
WhyNotInserted plan (AfterElement e) new =
    WhyNotTakenAt plan (place_of (element_place e)) (λ p i. in_gap new p (i + 1))
WhyNotInserted plan (FirstChild n) new =
    let c = node_place n in WhyNotTaken plan c (in_gap new c.path 0)
WhyNotInserted plan (LastChild n) new =
    let c = node_place n in WhyNotTaken plan c (in_gap new c.path (behind_last c))

-- a position is before an element, behind one, or where a node's first or last child goes
abbrev pub IsBefore : {L : Type 0} → Position L → Element → Type 0
IsBefore (BeforeElement e) element = element_place e ≡ element
IsBefore (AfterElement e) element = ⊥
IsBefore (FirstChild n) element = ⊥
IsBefore (LastChild n) element = ⊥

abbrev pub IsAfter : {L : Type 0} → Position L → Element → Type 0
IsAfter (BeforeElement e) element = ⊥
IsAfter (AfterElement e) element = element_place e ≡ element
IsAfter (FirstChild n) element = ⊥
IsAfter (LastChild n) element = ⊥
