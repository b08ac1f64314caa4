-- Runs through what can be iterated over: each is a run of an iterator that it becomes.
use Rattle.std.specs.Prelude.{Option}
use Rattle.std.specs.Iterator.Runs.{Run, SomeRun, WholeRun}

-- P holds of a run through all the items of xs
abbrev pub IteratesAll : {X I A : Type 0} → (X → I → Type 0) → (steps : I → Option A → I → Type 0)
    → X → (Run steps → Type 0) → Type 0
IteratesAll {X} {I} becomes steps xs P = (it : I) × becomes xs it × WholeRun steps it P

-- P holds of a run through xs, which may have more items
abbrev pub IteratesSome : {X I A : Type 0} → (X → I → Type 0) → (steps : I → Option A → I → Type 0)
    → X → (Run steps → Type 0) → Type 0
IteratesSome {X} {I} becomes steps xs P = (it : I) × becomes xs it × SomeRun steps it P
