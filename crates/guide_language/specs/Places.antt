-- Where the entries of settings stand.
use Rattle.std.specs.Prelude.{◌⊎◌, Contains}
use Rattle.rowan.specs.Cursor.{Cursor}
use Rattle.rowan.specs.Moves.{children}

-- a node is a child of another, or a child of such a child
abbrev pub StandsIn : Cursor → Cursor → Type 0
StandsIn root node =
    Contains (children root) node
    ⊎ ((section : Cursor) × Contains (children root) section × Contains (children section) node)
