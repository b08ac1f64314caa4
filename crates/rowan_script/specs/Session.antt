-- Sessions: a list of calls on a builder, and then a list of steps from the root of the tree that
-- they build.
use Rattle.std.specs.Prelude.{◌≡◌, ℕ, List, [], Result, Ok, Err, IfOk, IfErr, OnOk}
use Rattle.rowan_green.specs.declared.fault.Fault.{Fault}
use Rattle.rowan_green.specs.declared.fault.Fault.TheVariants.{Memory}
use Rattle.rowan_green.specs.declared.utility_types.NodeOrToken.TheVariants.{Node}
use Rattle.rowan_builder.specs.Builder.{BuilderValue}
use Rattle.rowan_builder.specs.Cache.{CacheValue}
use Rattle.rowan_green.specs.Term.{NodeTerm}
use Rattle.rowan_green.specs.Word.{Symbol, IsFinished, WhyUnfinished}
use Rattle.rowan_table.specs.Cursor.{Cursor}
use Rattle.rowan_script.specs.declared.script.calls.Call.{Call}
use Rattle.rowan_script.specs.declared.script.answers.Session.{Session}
use Rattle.rowan_script.specs.declared.script.steps.Step.{Step}
use Rattle.rowan_script.specs.Run.{Run}
use Rattle.rowan_script.specs.Trace.{Trace}

-- the cursor is the root of the word's one whole term
pub record IsRootOf (w : List Symbol) (root : Cursor) : Type 0 where
  pub tree : IsFinished w root.root
  pub top : root.path ≡ []

-- why a session ends without a tree, by the word after its calls: the word has none; or it has one,
-- and there is no memory for the cursor at its root or for the reports
abbrev pub WhyNoEnd : List Symbol → Fault → Type 0
WhyNoEnd w Memory = (n : NodeTerm) × IsFinished w n
WhyNoEnd w fault = WhyUnfinished w fault

-- The calls took a builder from one value to another. Then the steps went from the root of the tree
-- that its word has, or there was none.
pub record Plays (old : BuilderValue) (calls : List Call) (steps : List Step) (session : Session)
    (new : BuilderValue) : Type 0 where
  pub run : Run old calls session.outcomes.items new
  pub root : IfOk session.end (λ end. IsRootOf new.word end.0)
  pub trace : IfOk session.end (λ end. Trace (Node end.0) steps end.1.items)
  pub refusal : IfErr session.end (WhyNoEnd new.word)

-- a session of a builder of this value, to whose cache's home went what the cache has after the
-- calls
pub record IsSession {H : Type 0} (receives : H → CacheValue → Type 0) (value : BuilderValue)
    (calls : List Call) (steps : List Step) (session : Session) (home : H) : Type 0 where
  pub last : BuilderValue
  pub plays : Plays value calls steps session last
  pub leaves : receives home last.cache
