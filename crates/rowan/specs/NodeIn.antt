-- The node in a borrowed wrapper of one kind.
use Rattle.std.specs.Prelude.{ℕ}
use Rattle.std.specs.declared.cmp.Ord as Ord
use Rattle.std.specs.declared.cmp.PartialEq as PartialEq
use Rattle.std.specs.declared.cmp.PartialOrd as PartialOrd
use Rattle.std.specs.declared.fmt.Debug as Debug
use Rattle.std.specs.declared.hash.Hash as Hash
use Rattle.rowan_table.specs.Cursor.{Cursor}
use Rattle.rowan_api.specs.Refs.{node_place}
use Rattle.rowan_print.specs.declared.language.Language as Language
use Rattle.rowan.specs.declared.ast.node_of_ref.NodeOfRef.{NodeOfRef}

-- where the node of a borrowed wrapper stands
abbrev pub place_in : {L : Type 0} {raw : ℕ} {K : Type 0} {a : Language.Ghosts L K}
    {b : Debug.Ghosts L} {c : PartialEq.Ghosts L} {d : Ord.Ghosts L} {e : PartialOrd.Ghosts L}
    {f : Hash.Ghosts L} {g : Debug.Ghosts K} {h : PartialEq.Ghosts K} {i : Ord.Ghosts K}
    {j : PartialOrd.Ghosts K} {k : Hash.Ghosts K}
    → NodeOfRef L raw K a b c d e f g h i j k → Cursor
place_in wrapper = node_place wrapper.syntax
