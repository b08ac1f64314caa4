-- The edits inside of an element, as edits of that element alone.
use Rattle.std.specs.Prelude.{nat_eq, if◌then◌else◌, List, [], ◌∷◌, Option, Some, None}
use Rattle.rowan_terms.specs.Path.{Path}
use Rattle.rowan_changes.specs.Edit.{Edit}

-- how a path goes on behind another one, if it begins with that
abbrev pub rest_behind : Path → Path → Option Path
rest_behind [] q = Some q
rest_behind (i ∷ p) [] = None
rest_behind (i ∷ p) (j ∷ q) = if nat_eq i j then rest_behind p q else None

-- an edit, with another path of its node, if there is one, in front of others
abbrev pub with_path : Option Path → Edit → List Edit → List Edit
with_path None e es = es
with_path (Some q) e es = record { parent = q; start = e.start; end = e.end; new = e.new } ∷ es

-- the edits of the element at a path and of those in it
abbrev pub edits_inside : Path → List Edit → List Edit
edits_inside p [] = []
edits_inside p (e ∷ es) = with_path (rest_behind p e.parent) e (edits_inside p es)
