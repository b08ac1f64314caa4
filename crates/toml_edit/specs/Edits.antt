-- What edits of documents do to their trees and texts.
--     The old tree is edited by splices (`IsEdited`), and nothing else in it changes.
use Rattle.std.specs.Prelude.{◌≡◌, ℕ, ◌+◌, List, [], ◌∷◌, ◌++◌, Some, IfSome, slice_get, string_bytes}
use Rattle.std.specs.List.{AllByRecursion}
use Rattle.std.specs.Option.{MatchOption}
use Rattle.rowan.specs.Cursor.{Cursor, text_range, index}
use Rattle.rowan.specs.Edits.{spliced}
use Rattle.rowan.specs.Moves.{parent}
use Rattle.rowan.specs.Refs.{node_place}
use Rattle.rowan.specs.Span.{Span}
use Rattle.rowan.specs.Term.{NodeTerm, node_text}
use Rattle.rowan.specs.Types.NodeOrToken.TheVariants.{Node}
use Rattle.rowan_changes.specs.declared.changes.Edited.{Edited}
use Rattle.rowan_edit.specs.TextEdits.{IsEdited}
use Rattle.toml_edit.specs.Holding.{HoldsValue}
use Rattle.toml_edit_plan.specs.declared.splice.Splice.{Splice}
use Rattle.toml_edit_plan.specs.declared.written.NewValue.{NewValue}
use Rattle.toml_edit_plan.specs.Written.{IsTextOf}
use Rattle.toml_edit_plan.specs.Splices.{Adds, Takes, edit_of, edits_of, nodes_put, others_put}
use Rattle.toml_path.specs.declared.path.Path.{Path}
use Rattle.toml_values.specs.declared.value.Values.{Values}
use Rattle.toml_values.specs.Find.{place_at}

-- a splice puts a node in place of the one at a cursor
pub record Puts (old : Cursor) (piece : NodeTerm) (s : Splice) : Type 0 where
  pub above : parent old ≡ Some (node_place s.parent)
  pub start : s.start ≡ index old
  pub end : s.end ≡ s.start + 1
  pub new : s.new.items ≡ Node piece ∷ []

-- a splice puts a node with the text of a value in place of one whose text lies in a range
pub record IsPut (lies : Span) (value : NewValue) (s : Splice) : Type 0 where
  pub old : Cursor
  pub range : text_range old ≡ lies
  pub piece : NodeTerm
  pub text : IsTextOf value (node_text piece)
  pub puts : Puts old piece s

-- one value gave way to another: the tree is the old one with a node in place of the one at a range,
-- and the text is the old one with this range replaced by the text of the new value
pub record IsReplaced (old : NodeTerm) (lies : Span) (value : NewValue) (e : Edited) : Type 0 where
  pub splice : Splice
  pub put : IsPut lies value splice
  pub edited : IsEdited old (edit_of splice ∷ []) e
  pub whole : node_text e.green
      ≡ spliced (node_text old) lies.start lies.end (node_text put.piece)

-- a node with a text came into the tree, and beside it white space and commas alone; nothing went
pub record IsGrown (old : NodeTerm) (bytes : List ℕ) (e : Edited) : Type 0 where
  pub splices : List Splice
  pub adds : AllByRecursion Adds splices
  pub piece : NodeTerm
  pub put : nodes_put splices ≡ piece ∷ []
  pub beside : others_put splices ≡ []
  pub text : node_text piece ≡ bytes
  pub edited : IsEdited old (edits_of splices) e

-- elements went, and nothing came into the tree
pub record IsShrunk (old : NodeTerm) (e : Edited) : Type 0 where
  pub splices : List Splice
  pub takes : AllByRecursion Takes splices
  pub edited : IsEdited old (edits_of splices) e

-- a splice puts this node in place of one child
abbrev pub PutsThis : NodeTerm → Splice → Type 0
PutsThis piece s = (s.end ≡ s.start + 1) × (s.new.items ≡ Node piece ∷ [])

-- one node came in the place of each of some others
pub record IsRenamed (old : NodeTerm) (e : Edited) : Type 0 where
  pub piece : NodeTerm
  pub splices : List Splice
  pub puts : AllByRecursion (PutsThis piece) splices
  pub edited : IsEdited old (edits_of splices) e

-- the tree is the old one with some splices made
pub record IsSpliced (old : NodeTerm) (e : Edited) : Type 0 where
  pub splices : List Splice
  pub edited : IsEdited old (edits_of splices) e

-- what a value becomes that stands at a place among the values: the one at its range is replaced
abbrev pub IsSetAt : NodeTerm → Values → NewValue → ℕ → Edited → Type 0
IsSetAt old values value place e = IfSome (slice_get values.slots.items place)
    (λ slot. IsReplaced old slot.origin.range value e)

-- a new key with a value came, whose text stands in that of the new node
pub record IsSetAnew (old : NodeTerm) (value : NewValue) (e : Edited) : Type 0 where
  pub text : List ℕ
  pub holds : HoldsValue value text
  pub grown : IsGrown old text e

-- what `set` does: the value to which the path leads is replaced, or a new key comes
abbrev pub IsSet : NodeTerm → Values → Path → NewValue → Edited → Type 0
IsSet old values path value e = MatchOption (place_at values.slots.items path.steps.items)
    (IsSetAnew old value e) (λ place. IsSetAt old values value place e)
