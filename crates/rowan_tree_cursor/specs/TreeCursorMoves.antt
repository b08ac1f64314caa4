-- What the moves of a tree cursor answer, and what they leave; and why a replacement is refused.
--     A move that finds an element goes to it and answers `true`; where there is none, the cursor
--     stays and the answer is `false`.
use Rattle.std.specs.Prelude.{◌≡◌, ℕ, Bool, true, false, [], Option, Some, None}
use Rattle.std.specs.Option.{option_map}
use Rattle.rowan_green.specs.declared.fault.Fault.{Fault}
use Rattle.rowan_green.specs.declared.fault.Fault.TheVariants.{TextTooLong, NotANode, Memory}
use Rattle.rowan_green.specs.declared.utility_types.NodeOrToken.TheVariants.{Token}
use Rattle.rowan_green.specs.Fits.{Fits}
use Rattle.rowan_terms.specs.Path.{Path}
use Rattle.rowan_green.specs.Span.{Span}
use Rattle.rowan_green.specs.Term.{TokenTerm, Term}
use Rattle.rowan_table.specs.Cursor.{Cursor}
use Rattle.rowan_table.specs.Moves.{Element, place_of}
use Rattle.rowan_table.specs.Replacement.{with_replacement}
use Rattle.rowan_table.specs.Search.{FindsChild, Covers, IsLeafOver}

-- to another place, if there is one
abbrev pub Goes : Option Cursor → Cursor → Bool → Cursor → Type 0
Goes None old moved new = (moved ≡ false) × (new ≡ old)
Goes (Some c) old moved new = (moved ≡ true) × (new ≡ c)

-- to an element, if there is one
abbrev pub GoesTo : Option Element → Cursor → Bool → Cursor → Type 0
GoesTo found old moved new = Goes (option_map place_of found) old moved new

-- to the child at a range, if there is one
pub record GoesToChild (span : Span) (old : Cursor) (moved : Bool) (new : Cursor) : Type 0 where
  pub found : Option Element
  pub is : FindsChild span old found
  pub goes : GoesTo found old moved new

-- to the element that covers a range, of those at and below a cursor
pub record GoesToCovering (span : Span) (old new : Cursor) : Type 0 where
  pub root : new.root ≡ old.root
  pub covers : Covers old.root span old.path new.path

-- to the token with the byte at an offset, of those at and below a cursor, if there is one
abbrev pub GoesToByte : ℕ → Cursor → Bool → Cursor → Type 0
GoesToByte x old true new = (new.root ≡ old.root) × IsLeafOver old.root x old.path new.path
GoesToByte x old false new = (new ≡ old) × ((q : Path) → ¬ IsLeafOver old.root x old.path q)

-- why u is not put at a cursor: the new tree would pass the limits; a token would be the root; or
-- there is no memory
abbrev pub WhyNotReplaced : Cursor → Term → Fault → Type 0
WhyNotReplaced c u TextTooLong = ¬ Fits (with_replacement c u)
WhyNotReplaced c u NotANode = (c.path ≡ []) × ((t : TokenTerm) × (u ≡ Token t))
WhyNotReplaced c u Memory = Unit {0}
WhyNotReplaced c u _ = ⊥
