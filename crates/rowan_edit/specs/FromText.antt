-- The first node of a kind that is wanted in what a parser makes of a text.
use Rattle.std.specs.Prelude.{◌≡◌, ◌≢◌, ◌⊎◌, ◌<◌, ℕ, Bool, true, false, List, [], ◌∷◌, Some}
use Rattle.std.specs.Prelude.{Result, Ok, Err}
use Rattle.std.specs.Option.{option_map}
use Rattle.rowan_green.specs.declared.fault.Fault.{Fault}
use Rattle.rowan_green.specs.declared.fault.Fault.TheVariants.{Memory}
use Rattle.rowan_green.specs.declared.utility_types.NodeOrToken.TheVariants.{Node}
use Rattle.rowan_green.specs.Term.{NodeTerm, Term}
use Rattle.rowan_table.specs.Cursor.{Cursor, StandsAt, kind}
use Rattle.rowan_table.specs.Preorder.{descendants}
use Rattle.rowan_changes.specs.declared.edit_error.EditError.{EditError}
use Rattle.rowan_changes.specs.declared.edit_error.EditError.TheVariants.{Refused, Failed}
use Rattle.rowan_changes.specs.declared.edit_error.EditError.TheVariants.{TextHasErrors, NoSuchNode}

-- the nodes of a tree, from the root on, each before those below it
abbrev pub nodes_of : NodeTerm → List Cursor
nodes_of root = descendants (record { root = root; path = [] })

-- `meaning` is the kind that a raw kind means, and `wants k b` that a kind is wanted or not
module _ {K : Type 0} (meaning : ℕ → K) (wants : K → Bool → Type 0) where
  -- whether the node at a cursor is of a kind that is wanted
  abbrev pub Wants : Cursor → Bool → Type 0
  Wants c b = (k : K) × (option_map meaning (kind c) ≡ Some k) × wants k b

  -- the first of these nodes that is of a kind that is wanted
  abbrev pub IsFirstWanted : List Cursor → NodeTerm → Type 0
  IsFirstWanted [] n = ⊥
  IsFirstWanted (c ∷ cs) n =
      (Wants c true × StandsAt c n) ⊎ (Wants c false × IsFirstWanted cs n)

  -- none of these nodes is
  abbrev pub AreUnwanted : List Cursor → Type 0
  AreUnwanted [] = Unit {0}
  AreUnwanted (c ∷ cs) = Wants c false × AreUnwanted cs

  -- the first such node in what the parser, which may answer so, makes of a text without errors
  pub record IsFirstOfText (answers : Result (NodeTerm × ℕ) Fault → Type 0) (t : Term)
      : Type 0 where
    pub root : NodeTerm
    pub answered : answers (Ok (root, 0))
    pub node : NodeTerm
    pub is : t ≡ Node node
    pub first : IsFirstWanted (nodes_of root) node

  -- why there is none
  abbrev pub WhyNoneOfText : (Result (NodeTerm × ℕ) Fault → Type 0) → EditError → Type 0
  WhyNoneOfText answers (Refused r) = ⊥
  WhyNoneOfText answers (Failed f) = f ≢ Memory → answers (Err f)
  WhyNoneOfText answers TextHasErrors =
      (root : NodeTerm) × (errors : ℕ) × answers (Ok (root, errors)) × (0 < errors)
  WhyNoneOfText answers NoSuchNode =
      (root : NodeTerm) × answers (Ok (root, 0)) × AreUnwanted (nodes_of root)
