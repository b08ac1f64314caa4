-- Walks over the texts of the tokens inside an element of a table.
use Rattle.std.specs.Prelude.{◌≡◌, false, ℕ, ◌+◌, ◌-◌, ◌<◌, ◌≤◌, List, [], ◌++◌, map, filter}
use Rattle.std.specs.Prelude.{length, Option, Some, None, IfSome}
use Rattle.std.specs.List.{concat}
use Rattle.std.proofs.Props.{props}
use Rattle.std.specs.Str.{IsCharBoundary}
use Rattle.rowan_green.specs.declared.utility_types.NodeOrToken.TheVariants.{Node}
use Rattle.rowan_green.specs.Fits.{byte_limit}
use Rattle.rowan_green.specs.Span.{Span}
use Rattle.rowan_green.specs.Term.{NodeTerm}
use Rattle.rowan_terms.specs.Path.{Path, subterm, text_of, begins}
use Rattle.rowan_table.specs.declared.table.Table.{Table}
use Rattle.rowan_table.specs.declared.table.chunks.ChunkWalk.{ChunkWalk}
use Rattle.rowan_table.specs.declared.table.slice.Slice.{Slice}
use Rattle.rowan_table.specs.Equal.{start_of}
use Rattle.rowan_table.specs.Pass.{since, leaf_list}
use Rattle.rowan_table.specs.SyntaxText.{TextSlice, cut_chunks, chunks, IsTextSlice}
use Rattle.rowan_table.specs.TablePass.{StandsInside}
use Rattle.rowan_table.specs.TableView.{root_of, path_at, cursor_of, stands_for_node, IsWithin}
use Rattle.rowan_table.specs.TableView.{IsNodeIn}

-- the texts at some paths
abbrev pub texts_at : NodeTerm → List Path → List (List ℕ)
texts_at root paths = map (λ q. text_of (subterm (Node root) q)) paths

-- the leaves inside the element with the number top, from another element on
abbrev pub remaining_leaves : Table → ℕ → Option ℕ → List Path
remaining_leaves table top None = []
remaining_leaves table top (Some n) =
    filter (begins (path_at table top))
    (since leaf_list (Some (Node (root_of table))) (path_at table n))

-- the texts of the leaves inside the element with the number top, from another element on
abbrev pub remaining_texts : Table → ℕ → Option ℕ → List (List ℕ)
remaining_texts table top next = texts_at (root_of table) (remaining_leaves table top next)

-- a token has this number, and is inside the element with the number top
pub record IsTokenInside (table : Table) (top n : ℕ) : Type 0 where
  pub place : StandsInside table top n
  pub token : stands_for_node table n ≡ false

-- in a text that starts at an offset, another offset is no place inside a character
pub record MayCut (text : List ℕ) (at offset : ℕ) : Type 0 where
  pub border : at < offset → offset ≤ at + length text → IsCharBoundary text (offset - at)

-- the range of a slice
abbrev pub span_of : Slice → Span
span_of s = record { start = s.start; end = s.end }

-- a walk has come to an element inside its node, or to the end, and knows where what is left starts
pub record IsWalk (table : Table) (walk : ChunkWalk) : Type 0 where
  pub within : IsWithin table walk.slice.node
  pub order : walk.slice.start ≤ walk.slice.end
  pub place : IfSome walk.next (StandsInside table walk.slice.node)
  pub limit : walk.at + length (concat (remaining_texts table walk.slice.node walk.next))
      ≤ byte_limit
  pub start_cut : MayCut (concat (remaining_texts table walk.slice.node walk.next)) walk.at
      walk.slice.start
  pub end_cut : MayCut (concat (remaining_texts table walk.slice.node walk.next)) walk.at
      walk.slice.end

IsWalk-places : (table : Table) (walk : ChunkWalk)
    → IsProp (IfSome walk.next (StandsInside table walk.slice.node))
IsWalk-places table walk = hlevel props

pub IsWalk-prop : (table : Table) (walk : ChunkWalk) → IsProp (IsWalk table walk)
IsWalk-prop table walk = hlevel (props, IsWalk-places)

-- the chunks that are still to come
abbrev pub remaining_chunks : Table → ChunkWalk → List (List ℕ)
remaining_chunks table walk = cut_chunks (span_of walk.slice) walk.at
    (remaining_texts table walk.slice.node walk.next)

-- of the tokens inside the element with the number top, those before the element with the number n
-- end before an offset
pub record SkipsTo (table : Table) (x top n : ℕ) : Type 0 where
  pub place : StandsInside table top n
  pub texts : List (List ℕ)
  pub parts : remaining_texts table top (Some top) ≡ texts ++ remaining_texts table top (Some n)
  pub start : start_of (cursor_of table n) ≡ start_of (cursor_of table top) + length (concat texts)
  pub early : 0 < length texts → start_of (cursor_of table n) < x

-- a slice of the text of the node with a number, by the cursor at the node
abbrev pub slice_of : Table → Slice → TextSlice
slice_of table slice = record { node = cursor_of table slice.node; range = span_of slice }

-- a walk over the chunks of a slice, from the element with the number n on
abbrev pub walk_at : Table → Slice → ℕ → ChunkWalk
walk_at table slice n =
    record { slice = slice; next = Some n; at = start_of (cursor_of table n) }

-- how many bytes of the slice stand before what is left
abbrev pub bytes_passed : ChunkWalk → ℕ
bytes_passed walk = walk.at - walk.slice.start

-- of the chunks of a slice a walk leaves out those before some offset at most
pub record WalksOver (table : Table) (slice : Slice) (offset : ℕ) (walk : ChunkWalk) : Type 0 where
  pub before : List (List ℕ)
  pub parts : chunks (slice_of table slice) ≡ before ++ remaining_chunks table walk
  pub len : length (concat before) ≡ bytes_passed walk
  pub early : bytes_passed walk ≤ offset

-- the table has the node of a slice, and the range lies in the node's text
pub record IsSliceOf (table : Table) (s : Slice) : Type 0 where
  pub node : IsNodeIn table s.node
  pub slice : IsTextSlice (slice_of table s)

-- the byte at an offset of a text stands at a place of one of its chunks
pub record IsByteIn (text : List ℕ) (offset : ℕ) (chunk : List ℕ) (place : ℕ) : Type 0 where
  pub before : List ℕ
  pub after : List ℕ
  pub parts : text ≡ before ++ (chunk ++ after)
  pub at : length before + place ≡ offset
  pub within : place < length chunk
