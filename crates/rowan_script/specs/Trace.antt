-- Traces: what steps report, one report a step.
--     A step makes the call of its name on the element where the steps before it led. Where the
--     call finds an element, the step moves there; where it puts another node or token, the step
--     goes to the new root; and otherwise the next step starts from the same element.
--     A node and a token have different calls, and some calls ask that an offset or a range lies in
--     the node's. A step whose call is not made leads nowhere, as one whose call finds nothing.
use Rattle.std.specs.Prelude.{◌≡◌, List, [], ◌∷◌, ◌++◌, Option, Some, None, IsSomeAnd, slice_get}
use Rattle.std.specs.List.{last_or}
use Rattle.std.specs.Option.{option_map, unwrap_or}
use Rattle.rowan_green.specs.declared.fault.Fault.{Fault}
use Rattle.rowan_green.specs.declared.fault.Fault.TheVariants.{Memory}
use Rattle.rowan_green.specs.declared.utility_types.NodeOrToken.TheVariants.{Node, Token}
use Rattle.rowan_terms.specs.Replacements.{Replacement}
use Rattle.rowan_green.specs.Span.{Holds}
use Rattle.rowan_green.specs.Term.{NodeTerm, Term}
use Rattle.rowan_table.specs.Cursor.{Cursor, text_range}
use Rattle.rowan_table.specs.Moves.{Element, place_of, tree_top, parent, first_child, last_child}
use Rattle.rowan_table.specs.Moves.{first_child_or_token, last_child_or_token, next_sibling}
use Rattle.rowan_table.specs.Moves.{prev_sibling, next_sibling_or_token, prev_sibling_or_token}
use Rattle.rowan_table.specs.Moves.{first_token, last_token, next_token, prev_token}
use Rattle.rowan_table.specs.Replacement.{IsReplacement, WhyNoReplacement}
use Rattle.rowan_table.specs.Search.{LiesIn, FindsChild, IsCovering, tokens_at}
use Rattle.rowan_script.specs.declared.script.steps.Report.{Report}
use Rattle.rowan_script.specs.declared.script.steps.Report.TheVariants.{Moved, Nowhere, Replaced, Refused}
use Rattle.rowan_script.specs.declared.script.steps.Step.{Step}
use Rattle.rowan_script.specs.declared.script.steps.Step.TheVariants.{Parent, TreeTop, FirstChild}
use Rattle.rowan_script.specs.declared.script.steps.Step.TheVariants.{LastChild, FirstChildOrToken}
use Rattle.rowan_script.specs.declared.script.steps.Step.TheVariants.{LastChildOrToken, NextSibling}
use Rattle.rowan_script.specs.declared.script.steps.Step.TheVariants.{PrevSibling, NextSiblingOrToken}
use Rattle.rowan_script.specs.declared.script.steps.Step.TheVariants.{PrevSiblingOrToken, FirstToken}
use Rattle.rowan_script.specs.declared.script.steps.Step.TheVariants.{LastToken, NextToken, PrevToken}
use Rattle.rowan_script.specs.declared.script.steps.Step.TheVariants.{ChildAtRange, Covering, LeftTokenAt}
use Rattle.rowan_script.specs.declared.script.steps.Step.TheVariants.{RightTokenAt, ReplaceNode}
use Rattle.rowan_script.specs.declared.script.steps.Step.TheVariants.{ReplaceToken}

-- ---- one step

-- the element has the call of the step's name, and the offset or range is one that the call takes
abbrev pub HasCall : Element → Step → Type 0
HasCall (Node c) (Covering span) = LiesIn span (text_range c)
HasCall (Node c) (LeftTokenAt offset) = Holds (text_range c) offset
HasCall (Node c) (RightTokenAt offset) = Holds (text_range c) offset
HasCall (Node c) NextToken = ⊥
HasCall (Node c) PrevToken = ⊥
HasCall (Node c) (ReplaceToken token) = ⊥
HasCall (Node c) step = Unit {0}
HasCall (Token c) Parent = Unit {0}
HasCall (Token c) TreeTop = Unit {0}
HasCall (Token c) NextSiblingOrToken = Unit {0}
HasCall (Token c) PrevSiblingOrToken = Unit {0}
HasCall (Token c) FirstToken = Unit {0}
HasCall (Token c) LastToken = Unit {0}
HasCall (Token c) NextToken = Unit {0}
HasCall (Token c) PrevToken = Unit {0}
HasCall (Token c) (ReplaceToken token) = Unit {0}
HasCall (Token c) step = ⊥

-- what the call finds at a cursor, or none where it finds nothing; that of a replacement finds no
-- element, and is told below
abbrev pub IsFound : Step → Cursor → Option Element → Type 0
IsFound Parent c found = found ≡ option_map Node (parent c)
IsFound TreeTop c found = found ≡ Some (Node (tree_top c))
IsFound FirstChild c found = found ≡ option_map Node (first_child c)
IsFound LastChild c found = found ≡ option_map Node (last_child c)
IsFound FirstChildOrToken c found = found ≡ first_child_or_token c
IsFound LastChildOrToken c found = found ≡ last_child_or_token c
IsFound NextSibling c found = found ≡ option_map Node (next_sibling c)
IsFound PrevSibling c found = found ≡ option_map Node (prev_sibling c)
IsFound NextSiblingOrToken c found = found ≡ next_sibling_or_token c
IsFound PrevSiblingOrToken c found = found ≡ prev_sibling_or_token c
IsFound FirstToken c found = found ≡ option_map Token (first_token c)
IsFound LastToken c found = found ≡ option_map Token (last_token c)
IsFound NextToken c found = found ≡ option_map Token (next_token c)
IsFound PrevToken c found = found ≡ option_map Token (prev_token c)
IsFound (ChildAtRange span) c found = FindsChild span c found
IsFound (Covering span) c found = IsSomeAnd found (IsCovering span c)
IsFound (LeftTokenAt offset) c found =
    found ≡ option_map Token (slice_get (tokens_at offset c) 0)
IsFound (RightTokenAt offset) c found =
    found ≡ option_map Token (last_or None (tokens_at offset c))
IsFound (ReplaceNode green) c found = ⊥
IsFound (ReplaceToken green) c found = ⊥

-- what a replacement puts in the place of an element
abbrev pub new_term : Step → Option Term
new_term (ReplaceNode green) = Some (Node green)
new_term (ReplaceToken green) = Some (Token green)
new_term step = None

-- the step is a replacement of what stands at c, and d is the root of the new tree
pub record IsNewRoot (step : Step) (c d : Cursor) : Type 0 where
  pub new : Term
  pub puts : new_term step ≡ Some new
  pub replaces : IsReplacement c new d.root
  pub top : d.path ≡ []

-- why the call of a step is refused: one that finds an element only for want of memory
abbrev pub WhyNoAnswer : Option Term → Cursor → Fault → Type 0
WhyNoAnswer None c fault = fault ≡ Memory
WhyNoAnswer (Some new) c fault = WhyNoReplacement c new fault

-- the report of a step from an element
abbrev pub IsReport : Element → Step → Report → Type 0
IsReport e step (Moved found) = HasCall e step × IsFound step (place_of e) (Some found)
IsReport e step Nowhere = HasCall e step → IsFound step (place_of e) None
IsReport e step (Replaced root) = HasCall e step × IsNewRoot step (place_of e) root
IsReport e step (Refused fault) = HasCall e step × WhyNoAnswer (new_term step) (place_of e) fault

-- ---- one step after the other

-- where a report leads, if anywhere
abbrev pub destination : Report → Option Element
destination (Moved found) = Some found
destination Nowhere = None
destination (Replaced root) = Some (Node root)
destination (Refused fault) = None

-- where the next step starts
abbrev pub element_after : Element → Report → Element
element_after e report = unwrap_or (destination report) e

abbrev pub ReportsInTurn : Element → List Step → List Report → Type 0
ReportsInTurn e [] [] = Unit {0}
ReportsInTurn e (step ∷ steps) (report ∷ reports) =
    IsReport e step report × ReportsInTurn (element_after e report) steps reports
ReportsInTurn e [] (report ∷ reports) = ⊥
ReportsInTurn e (step ∷ steps) [] = ⊥

-- the steps from an element, with one report each
pub record Trace (e : Element) (steps : List Step) (reports : List Report) : Type 0 where
  pub in_turn : ReportsInTurn e steps reports

-- ---- the tree after all steps

-- the root of the tree in which an element stands, and this tree
abbrev pub root_of : Element → NodeTerm
root_of e = (place_of e).root

abbrev pub tree_of : Element → Term
tree_of e = Node (root_of e)

-- where a step after the last one would start
abbrev pub last_element : Element → List Report → Element
last_element e [] = e
last_element e (report ∷ reports) = last_element (element_after e report) reports

-- the root of the tree after all steps, and this tree
abbrev pub last_root : Element → List Report → NodeTerm
last_root e reports = root_of (last_element e reports)

abbrev pub last_tree : Element → List Report → Term
last_tree e reports = Node (last_root e reports)

-- what a step put in the place of an element, if its report is a new root
abbrev pub replacement_of : Cursor → Option Term → Report → List Replacement
replacement_of c new (Moved found) = []
replacement_of c new Nowhere = []
replacement_of c None (Replaced root) = []
replacement_of c (Some new) (Replaced root) = record { path = c.path; new = new } ∷ []
replacement_of c new (Refused fault) = []

-- the replacements that were accepted, in order
abbrev pub replacements : Element → List Step → List Report → List Replacement
replacements e [] reports = []
replacements e (step ∷ steps) [] = []
replacements e (step ∷ steps) (report ∷ reports) =
    replacement_of (place_of e) (new_term step) report
    ++ replacements (element_after e report) steps reports
