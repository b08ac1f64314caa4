-- What is left of an iterator is stored as the list of it, or as the number of the refusal.
use Rattle.std.specs.Prelude.{◌≡◌, ℕ, ◌⊎◌, List, [], ◌∷◌, refl, get_or}
use Rattle.std.specs.Coded.{Coded, code_by, coded_ℕ, coded_list, coded_result, coded⊎}
use Rattle.std.proofs.Common.{inl, inr}
use Rattle.rowan_green.specs.declared.fault.Fault.{Fault}
use Rattle.rowan_green.specs.declared.fault.Fault.TheVariants.{TextTooLong, TooManyChildren}
use Rattle.rowan_green.specs.declared.fault.Fault.TheVariants.{CheckpointPast, CheckpointBefore}
use Rattle.rowan_green.specs.declared.fault.Fault.TheVariants.{NothingOpen, NotOneElement, NotANode}
use Rattle.rowan_green.specs.declared.fault.Fault.TheVariants.{OtherKind, NotFound, Memory}
use Rattle.rowan_green.specs.declared.fault.Fault.TheVariants.{UnknownMark, NotOneList}
use Rattle.rowan_green.specs.declared.utility_types.NodeOrToken.TheVariants.{Node, Token}
use Rattle.rowan_green.specs.Fault.{fault_number}
use Rattle.rowan_table.specs.Cursor.{Cursor}
use Rattle.rowan_cursor.specs.CursorCode.{coded_cursor}
use Rattle.rowan_table.specs.Moves.{Element}
use Rattle.rowan_table.specs.Yields.{Rest}

-- the refusals, each at its number
abbrev faults : List Fault
faults =
    Memory ∷ TextTooLong ∷ TooManyChildren ∷ CheckpointPast ∷ CheckpointBefore ∷ NothingOpen
    ∷ NotOneElement ∷ NotANode ∷ OtherKind ∷ NotFound ∷ Memory ∷ UnknownMark ∷ NotOneList ∷ []

abbrev fault_at : ℕ → Fault
fault_at n = get_or faults n Memory

pub fault_at-number : (f : Fault) → fault_at (fault_number f) ≡ f
fault_at-number TextTooLong = refl
fault_at-number TooManyChildren = refl
fault_at-number CheckpointPast = refl
fault_at-number CheckpointBefore = refl
fault_at-number NothingOpen = refl
fault_at-number NotOneElement = refl
fault_at-number NotANode = refl
fault_at-number OtherKind = refl
fault_at-number NotFound = refl
fault_at-number Memory = refl
fault_at-number UnknownMark = refl
fault_at-number NotOneList = refl

abbrev pub coded_fault : Coded Fault
coded_fault = code_by ℕ coded_ℕ fault_number fault_at fault_at-number

abbrev cursor_cases : Element → Cursor ⊎ Cursor
cursor_cases (Node c) = inl c
cursor_cases (Token c) = inr c

abbrev element_from : Cursor ⊎ Cursor → Element
element_from (inl c) = Node c
element_from (inr c) = Token c

pub element_from-cases : (e : Element) → element_from (cursor_cases e) ≡ e
element_from-cases (Node c) = refl
element_from-cases (Token c) = refl

abbrev pub coded_element : Coded Element
coded_element =
    code_by (Cursor ⊎ Cursor) (coded⊎ coded_cursor coded_cursor) cursor_cases element_from
    element_from-cases

abbrev pub coded_rest_of_cursors : Coded (Rest Cursor)
coded_rest_of_cursors = coded_result (coded_list coded_cursor) coded_fault
