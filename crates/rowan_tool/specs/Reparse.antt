-- Reparsing: a list of a tree is put in the place of another. It is the tree of the text that takes
-- that one's place, so where the tree was that of its text, it is so again, and nothing else needs
-- to be parsed.
use Rattle.std.specs.Prelude.{◌≡◌, ◌⊎◌, ⊤, Bool, ℕ, ◌<◌, ◌≤◌, List, [], ◌∷◌, ◌++◌, length, map}
use Rattle.std.specs.Prelude.{Some, String, string_bytes}
use Rattle.rowan_green.specs.declared.fault.Fault.{Fault}
use Rattle.rowan_green.specs.declared.fault.Fault.TheVariants.{TextTooLong, Memory, NotFound}
use Rattle.rowan_green.specs.declared.fault.Fault.TheVariants.{NotOneList}
use Rattle.rowan_green.specs.declared.utility_types.NodeOrToken.TheVariants.{Node}
use Rattle.rowan_green.specs.Edits.{spliced}
use Rattle.rowan_green.specs.Fits.{byte_limit, Fits}
use Rattle.rowan_terms.specs.Path.{Path, subterm, range}
use Rattle.rowan_green.specs.Span.{Span}
use Rattle.rowan_green.specs.Term.{NodeTerm, node_kind}
use Rattle.rowan_table.specs.Cursor.{Cursor, StandsAt, text_range}
use Rattle.rowan_table.specs.Replacement.{IsReplacement, with_replacement}
use Rattle.rowan.specs.Pointer.{is_meant}
use Rattle.rowan_sexp.specs.declared.sexp.lang.SyntaxKind.TheVariants.{LIST}
use Rattle.rowan_sexp.specs.Casts.{is_list}
use Rattle.rowan_sexp.specs.Grammar.{IsParse, IsBalanced, IsOneList}
use Rattle.rowan_sexp.specs.Sexp.{number_of, kind_of}

-- ---- one list

-- the new root is the old one with the list that a text is at the cursor
pub record IsReparse (c : Cursor) (text : List ℕ) (new : NodeTerm) : Type 0 where
  pub list : NodeTerm
  pub one : IsOneList text list
  pub replacement : IsReplacement c (Node list) new

-- Why a list is not parsed again: the new text is not one list; it is one, but the new tree would
-- pass the limits; or there is no memory.
abbrev pub WhyNoReparse : Cursor → List ℕ → Fault → Type 0
WhyNoReparse c text NotOneList = ¬ IsBalanced text
WhyNoReparse c text TextTooLong = IsBalanced text
    × ((list : NodeTerm) → IsOneList text list → ¬ Fits (with_replacement c (Node list)))
WhyNoReparse c text Memory = IsBalanced text
WhyNoReparse c text _ = ⊥

-- why a text is not parsed as one list: it is none; it is one, but too long; or there is no memory
abbrev pub WhyNoList : List ℕ → Fault → Type 0
WhyNoList text NotOneList = ¬ IsBalanced text
WhyNoList text TextTooLong = IsBalanced text × (byte_limit < length text)
WhyNoList text Memory = IsBalanced text
WhyNoList text _ = ⊥

-- ---- edits, one after the other

-- an edit: a range of the latest text, and the text that takes its place
abbrev pub Edit : Type 0
Edit = Span × List ℕ

-- the edits that ranges and strings are
abbrev pub edits_of : {Z : Type 0} → List (Span × String Z) → List Edit
edits_of given = map (λ edit. (edit.0, string_bytes edit.1)) given

-- the text after an edit, and after some, each of which is made in the text that the one before
-- left
abbrev pub edit_text : List ℕ → Edit → List ℕ
edit_text text edit = spliced text edit.0.start edit.0.end edit.1

abbrev pub text_after : List ℕ → List Edit → List ℕ
text_after text [] = text
text_after text (edit ∷ edits) = text_after (edit_text text edit) edits

-- a list of the text's tree has this range
pub record IsListIn (text : List ℕ) (span : Span) : Type 0 where
  pub tree : NodeTerm
  pub parse : IsParse text tree
  pub path : Path
  pub list : NodeTerm
  pub stands : subterm (Node tree) path ≡ Some (Node list)
  pub kind : node_kind list ≡ number_of LIST
  pub lies : range (Node tree) path ≡ span

-- the cursor is at a list of the tree, and has this range
pub record IsListAt (tree : NodeTerm) (span : Span) (c : Cursor) : Type 0 where
  pub root : c.root ≡ tree
  pub list : NodeTerm
  pub stands : StandsAt c list
  pub kind : node_kind list ≡ number_of LIST
  pub lies : text_range c ≡ span

-- whether a node of the kind of lists, with this range, stands at a path
abbrev pub is_list_at : Span → NodeTerm → Path → Bool
is_list_at span root q = is_meant (λ kind. is_list (kind_of kind)) span root q

-- no list is found: where the tree is that of a text, the text has no list with this range
abbrev pub HasNoList : NodeTerm → Span → Fault → Type 0
HasNoList tree span fault =
    (fault ≡ NotFound) × ((text : List ℕ) → IsParse text tree → ¬ IsListIn text span)

-- one list of the text becomes another, and the text stays within the limit
pub record IsEdit (text : List ℕ) (edit : Edit) : Type 0 where
  pub old : IsListIn text edit.0
  pub new : IsBalanced edit.1
  pub fits : length (edit_text text edit) ≤ byte_limit

-- each edit is one of the text that those before it left
abbrev pub AreEdits : List ℕ → List Edit → Type 0
AreEdits text [] = ⊤
AreEdits text (edit ∷ edits) = IsEdit text edit × AreEdits (edit_text text edit) edits

-- why an edit of a text is refused, want of memory aside; what its range is comes first, then the
-- new text, and then the limit
abbrev pub WhyNoEdit : List ℕ → Edit → Fault → Type 0
WhyNoEdit text edit NotFound = ¬ IsListIn text edit.0
WhyNoEdit text edit NotOneList = IsListIn text edit.0 × ¬ IsBalanced edit.1
WhyNoEdit text edit TextTooLong =
    IsListIn text edit.0 × IsBalanced edit.1 × (byte_limit < length (edit_text text edit))
WhyNoEdit text edit _ = ⊥

-- the first edit that is refused is refused for this
pub record RefusesFirst (text : List ℕ) (edits : List Edit) (fault : Fault) : Type 0 where
  pub before : List Edit
  pub edit : Edit
  pub after : List Edit
  pub parts : edits ≡ before ++ edit ∷ after
  pub made : AreEdits text before
  pub why : WhyNoEdit (text_after text before) edit fault

-- why edits of a text are refused, want of memory aside: the text is past the limit itself, or one
-- of them is refused
abbrev pub WhyNoEdits : List ℕ → List Edit → Fault → Type 0
WhyNoEdits text edits fault =
    ((byte_limit < length text) × (fault ≡ TextTooLong))
    ⊎ ((length text ≤ byte_limit) × RefusesFirst text edits fault)
