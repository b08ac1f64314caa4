-- What the program's arguments ask for, and what it does for an input.
use Rattle.std.specs.Prelude.{◌≡◌, ℕ, ℤ, ◌<◌, ◌≤◌, List, [], ◌∷◌, ◌++◌, length, map, codes}
use Rattle.std.specs.Prelude.{string_bytes, Option, Some, None, IfSome, IsUtf8, String}
use Rattle.std.specs.Fmt.{signed_decimal}
use Rattle.std.specs.Io.KnownBytes.{Appends, Consumes}
use Rattle.std.specs.List.{flat_map}
use Rattle.std.specs.declared.alloc.Global.{Global}
use Rattle.rowan_program.specs.declared.program.Command.{Command}
use Rattle.rowan_program.specs.declared.program.Command.TheVariants.{Tree, Eval, Json}
use Rattle.rowan_program.specs.declared.program.Stop.{Stop}
use Rattle.serde_json.specs.Written.{compact_text}
use Rattle.rowan_sexp.specs.Eval.{Reading, readings}
use Rattle.rowan_sexp.specs.Grammar.{IsParse}
use Rattle.rowan_sexp.specs.Sexp.{kind_of, name_of}
use Rattle.rowan_print.specs.Printed.{raw_name, tree_json, IsDebugTree}
use Rattle.rowan_table.specs.Cursor.{Cursor, term_at}
use Rattle.rowan_table.specs.Moves.{cursor_at}
use Rattle.rowan_green.specs.declared.utility_types.NodeOrToken.TheVariants.{Node, Token}
use Rattle.rowan_green.specs.Fits.{byte_limit}
use Rattle.rowan_green.specs.Term.{node, NodeTerm, Term}
use Rattle.rowan_green.specs.declared.fault.Fault.{Fault}
use Rattle.rowan_green.specs.declared.fault.Fault.TheVariants.{Memory, TextTooLong}
use Rattle.rowan_program.specs.declared.program.Stop.TheVariants.{Usage, CannotRead, NotUtf8, TooLong}
use Rattle.rowan_program.specs.declared.program.Stop.TheVariants.{NoMemory, CannotWrite}

-- the word that asks for the command
abbrev pub argument_of : Command → List ℕ
argument_of Tree = codes "tree"
argument_of Eval = codes "eval"
argument_of Json = codes "json"

-- the arguments are that word alone
abbrev pub AsksFor : List (String Global) → Command → Type 0
AsksFor args command = map string_bytes args ≡ argument_of command ∷ []

-- the arguments ask for some command
abbrev pub IsCommandLine : List (String Global) → Type 0
IsCommandLine args = (command : Command) × AsksFor args command

-- the most bytes that an input may have
abbrev pub longest_input : ℕ
longest_input = byte_limit

-- these bytes of an input were read to its end, within the limit: `rest` is what it has left
pub record IsReadWhole (bytes : List ℕ) (rest : Option (List ℕ)) : Type 0 where
  pub at_end : rest ≡ Some []
  pub within : length bytes ≤ longest_input

-- where it is known which bytes an input holds, they were read to its end, within the limit, and
-- are such bytes
abbrev pub ReadsAll : (IsSuch : List ℕ → Type 0) (before after : Option (List ℕ)) → Type 0
ReadsAll IsSuch before after = IfSome before (λ bytes. IsReadWhole bytes after × IsSuch bytes)

-- where it is known which bytes an input holds, more of them than the limit were read
abbrev pub ReadsTooMany : (before after : Option (List ℕ)) → Type 0
ReadsTooMany before after = (bytes : List ℕ)
    × Consumes before after bytes × (longest_input < length bytes)

-- the line of a value: the number, or `none`
abbrev pub value_line : Option ℤ → List ℕ
value_line (Some n) = signed_decimal n ++ 10 ∷ []
value_line None = codes "none" ++ 10 ∷ []

-- a line for each expression: the number that it reads, or `none`
abbrev pub value_lines : List Reading → List ℕ
value_lines = flat_map (λ r. value_line r.1)

abbrev pub value_lines_of : Option Term → List ℕ
value_lines_of (Some (Node (node k f))) = value_lines (readings f)
value_lines_of (Some (Token t)) = []
value_lines_of None = []

-- the lines of the expressions among the children of the node at a cursor
abbrev pub value_lines_at : Cursor → List ℕ
value_lines_at c = value_lines_of (term_at c)

-- how the raw kinds of s-expressions are called
abbrev pub sexp_name : ℕ → List ℕ
sexp_name = raw_name name_of kind_of

-- the JSON of what stands at a cursor, without a space, and a newline
abbrev pub json_line_at : Cursor → List ℕ
json_line_at c = compact_text (tree_json sexp_name c) ++ 10 ∷ []

-- what a command shows of a tree: its lines; the lines of its values; its JSON
abbrev pub Shows : Command → (tree : NodeTerm) → (shown : List ℕ) → Type 0
Shows Tree tree shown = IsDebugTree sexp_name (cursor_at tree []) shown
Shows Eval tree shown = shown ≡ value_lines_at (cursor_at tree [])
Shows Json tree shown = shown ≡ json_line_at (cursor_at tree [])

-- the command shows this of a text, by the tree that the grammar gives for it
pub record IsShown (command : Command) (text shown : List ℕ) : Type 0 where
  pub tree : NodeTerm
  pub parse : IsParse text tree
  pub shows : Shows command tree shown

-- the arguments ask for a command, and one text was written after what the output held, where that
-- is known: what the command shows of the input, where that is known
pub record IsAnswered (args : List (String Global)) (input old new : Option (List ℕ)) : Type 0 where
  pub command : Command
  pub asked : AsksFor args command
  pub shown : List ℕ
  pub text : IsUtf8 shown
  pub answer : IfSome input (λ bytes. IsShown command bytes shown)
  pub written : Appends old new shown

-- the exit status
abbrev pub status_of : Stop → ℕ
status_of Usage = 2
status_of CannotRead = 1
status_of NotUtf8 = 1
status_of TooLong = 1
status_of NoMemory = 1
status_of CannotWrite = 1

-- the line on standard error
abbrev pub line_of : Stop → List ℕ
line_of Usage = codes "usage: rowan tree|json|eval"
line_of CannotRead = codes "rowan: cannot read standard input"
line_of NotUtf8 = codes "rowan: input is not UTF-8"
line_of TooLong = codes "rowan: text too long"
line_of NoMemory = codes "rowan: out of memory"
line_of CannotWrite = codes "rowan: cannot write standard output"

-- the program stops for want of memory or for a text that is too long
abbrev pub StopsFor : Fault → Stop → Type 0
StopsFor fault stop = (fault ≡ Memory → stop ≡ NoMemory) × (fault ≡ TextTooLong → stop ≡ TooLong)
