-- Why rules are no grammar for which the next token alone says what to do.
use Rattle.std.specs.Prelude.{◌≡◌, ℕ, ◌≤◌, ◌<◌, ⊤, true, Bool, ◌⊎◌}
use Rattle.std.specs.Prelude.{List, [], ◌∷◌, ◌++◌, Some, slice_get, length}
use Rattle.rowan_events.specs.Seen.{has}
use Rattle.rowan_events.specs.declared.token_set.TokenSet.{TokenSet}
use Rattle.rowan_predictive.specs.declared.refusals.GrammarError.{GrammarError}
use Rattle.rowan_predictive.specs.declared.refusals.GrammarError.TheVariants.{NoRule, KindTooLarge}
use Rattle.rowan_predictive.specs.declared.refusals.GrammarError.TheVariants.{Endless}
use Rattle.rowan_predictive.specs.declared.refusals.GrammarError.TheVariants.{LeftRecursion}
use Rattle.rowan_predictive.specs.declared.refusals.GrammarError.TheVariants.{BeginsBoth}
use Rattle.rowan_predictive.specs.declared.refusals.GrammarError.TheVariants.{BeginsAndFollows}
use Rattle.rowan_predictive.specs.declared.refusals.GrammarError.TheVariants.{EmptyTwice, TooLarge}
use Rattle.rowan_predictive.specs.declared.refusals.GrammarError.TheVariants.{Memory}
use Rattle.rowan_predictive.specs.declared.refusals.Steps.{Steps}
use Rattle.rowan_predictive.specs.declared.refusals.Steps.TheVariants.{Idle, Busy}
use Rattle.rowan_predictive.specs.declared.rules.Facts.{Facts}
use Rattle.rowan_predictive.specs.declared.rules.Entry.{Entry}
use Rattle.rowan_predictive.specs.declared.rules.Rule.{Rule}
use Rattle.rowan_predictive.specs.declared.rules.Rule.TheVariants.{Empty, Token, Node, Chain, Wrap}
use Rattle.rowan_predictive.specs.declared.rules.Rule.TheVariants.{Seq, Choice, Optional, Star}
use Rattle.rowan_predictive.specs.Derivations.{HasRule}
use Rattle.rowan_predictive.specs.View.{rules_of}

-- ---- what rules may do

-- rule i may derive nothing
pub data IsNullable (rules : List Rule) : ℕ → Type 0 where
  empty : {i : ℕ} → HasRule rules i Empty → IsNullable rules i
  node : {i kind a : ℕ} → HasRule rules i (Node kind a) → IsNullable rules a → IsNullable rules i
  chain : {i a : ℕ} → HasRule rules i (Chain a) → IsNullable rules a → IsNullable rules i
  wrap : {i kind a : ℕ} → HasRule rules i (Wrap kind a) → IsNullable rules a → IsNullable rules i
  seq : {i a b : ℕ} → HasRule rules i (Seq a b) → IsNullable rules a → IsNullable rules b
      → IsNullable rules i
  left : {i a : ℕ} (b : ℕ) → HasRule rules i (Choice a b) → IsNullable rules a → IsNullable rules i
  right : {i b : ℕ} (a : ℕ) → HasRule rules i (Choice a b) → IsNullable rules b → IsNullable rules i
  optional : {i : ℕ} (a : ℕ) → HasRule rules i (Optional a) → IsNullable rules i
  star : {i : ℕ} (a : ℕ) → HasRule rules i (Star a) → IsNullable rules i

-- the rule names rule j
abbrev pub Names : List Rule → Rule → ℕ → Type 0
Names rules Empty j = ⊥
Names rules (Token kind) j = ⊥
Names rules (Node kind a) j = j ≡ a
Names rules (Chain a) j = j ≡ a
Names rules (Wrap kind a) j = j ≡ a
Names rules (Seq a b) j = (j ≡ a) ⊎ (j ≡ b)
Names rules (Choice a b) j = (j ≡ a) ⊎ (j ≡ b)
Names rules (Optional a) j = j ≡ a
Names rules (Star a) j = j ≡ a

-- what the rule derives may begin with what rule j derives
abbrev pub StartsWith : List Rule → Rule → ℕ → Type 0
StartsWith rules (Seq a b) j = (j ≡ a) ⊎ ((j ≡ b) × IsNullable rules a)
StartsWith rules Empty j = ⊥
StartsWith rules (Token kind) j = ⊥
StartsWith rules (Node kind a) j = j ≡ a
StartsWith rules (Chain a) j = j ≡ a
StartsWith rules (Wrap kind a) j = j ≡ a
StartsWith rules (Choice a b) j = (j ≡ a) ⊎ (j ≡ b)
StartsWith rules (Optional a) j = j ≡ a
StartsWith rules (Star a) j = j ≡ a

-- it may end with what rule j derives
abbrev pub StopsWith : List Rule → Rule → ℕ → Type 0
StopsWith rules (Seq a b) j = (j ≡ b) ⊎ ((j ≡ a) × IsNullable rules b)
StopsWith rules Empty j = ⊥
StopsWith rules (Token kind) j = ⊥
StopsWith rules (Node kind a) j = j ≡ a
StopsWith rules (Chain a) j = j ≡ a
StopsWith rules (Wrap kind a) j = j ≡ a
StopsWith rules (Choice a b) j = (j ≡ a) ⊎ (j ≡ b)
StopsWith rules (Optional a) j = j ≡ a
StopsWith rules (Star a) j = j ≡ a

-- it has a part that rule j derives, where it is as short as can be
abbrev pub Needs : List Rule → Rule → ℕ → Type 0
Needs rules (Seq a b) j = (j ≡ a) ⊎ (j ≡ b)
Needs rules (Choice a b) j = ((j ≡ a) × IsNullable rules a) ⊎ ((j ≡ b) × IsNullable rules b)
Needs rules Empty j = ⊥
Needs rules (Token kind) j = ⊥
Needs rules (Node kind a) j = j ≡ a
Needs rules (Chain a) j = j ≡ a
Needs rules (Wrap kind a) j = j ≡ a
Needs rules (Optional a) j = ⊥
Needs rules (Star a) j = ⊥

-- rule i may begin with a token of this kind
pub data MayBegin (rules : List Rule) (kind : ℕ) : ℕ → Type 0 where
  token : {i : ℕ} → HasRule rules i (Token kind) → MayBegin rules kind i
  begin : {i j : ℕ} (rule : Rule) → HasRule rules i rule → StartsWith rules rule j
      → MayBegin rules kind j → MayBegin rules kind i

-- a token of this kind may stand behind rule i
pub data MayFollow (rules : List Rule) (kind : ℕ) : ℕ → Type 0 where
  next : {a : ℕ} (i b : ℕ) → HasRule rules i (Seq a b) → MayBegin rules kind b
      → MayFollow rules kind a
  again : {a : ℕ} (i : ℕ) → HasRule rules i (Star a) → MayBegin rules kind a
      → MayFollow rules kind a
  inside : {j : ℕ} (i : ℕ) (rule : Rule) → HasRule rules i rule → StopsWith rules rule j
      → MayFollow rules kind i → MayFollow rules kind j

-- ---- what was found of rules

pub record IsSo (rules : List Rule) (i : ℕ) (facts : Facts) : Type 0 where
  pub empty : facts.may_be_empty ≡ true → IsNullable rules i
  pub first : (kind : ℕ) → has facts.first.0 kind ≡ true → MayBegin rules kind i
  pub follow : (kind : ℕ) → has facts.follow.0 kind ≡ true → MayFollow rules kind i

-- whether rule i may be empty, and a set of tokens by which it may begin
pub record IsBegun (rules : List Rule) (i : ℕ) (is_empty : Bool) (kinds : TokenSet) : Type 0 where
  pub empty : is_empty ≡ true → IsNullable rules i
  pub first : (kind : ℕ) → has kinds.0 kind ≡ true → MayBegin rules kind i

pub record AreSo (rules : List Rule) (facts : List Facts) : Type 0 where
  pub at : (i : ℕ) (found : Facts) → slice_get facts i ≡ Some found → IsSo rules i found

pub record AreKnown (rules : List Rule) (entries : List Entry) : Type 0 where
  pub at : (i : ℕ) (entry : Entry) → slice_get entries i ≡ Some entry → IsSo rules i entry.facts

-- of rules themselves, with what was found of each
abbrev pub IsKnown : List Entry → Type 0
IsKnown entries = AreKnown (rules_of entries) entries

-- ---- why they are refused

-- rule i leads to rule j in this way
abbrev pub LeadsTo : (List Rule → Rule → ℕ → Type 0) → List Rule → ℕ → ℕ → Type 0
LeadsTo by rules i j = (rule : Rule) × HasRule rules i rule × by rules rule j

-- how a rule leads to another one whose steps are not known
abbrev pub way_of : Steps → List Rule → Rule → ℕ → Type 0
way_of Idle = Needs
way_of Busy = StartsWith

-- from rule i over these, each of which leads to the next, to rule k
pub data IsWay (by : List Rule → Rule → ℕ → Type 0) (rules : List Rule)
    : ℕ → List ℕ → ℕ → Type 0 where
  here : {i : ℕ} → IsWay by rules i [] i
  on : {i j k : ℕ} {row : List ℕ} → IsWay by rules i row j → LeadsTo by rules j k
      → IsWay by rules i (row ++ j ∷ []) k

-- each of these rules leads to the next one, and the last one to the first
pub record IsCycle (by : List Rule → Rule → ℕ → Type 0) (rules : List Rule) (row : List ℕ)
    : Type 0 where
  pub from : ℕ
  pub way : IsWay by rules from row from
  pub some : 0 < length row

abbrev pub IsEmptyTwice : List Rule → Rule → Type 0
IsEmptyTwice rules (Choice a b) = IsNullable rules a × IsNullable rules b
IsEmptyTwice rules (Optional a) = IsNullable rules a
IsEmptyTwice rules (Star a) = IsNullable rules a
IsEmptyTwice rules Empty = ⊥
IsEmptyTwice rules (Token kind) = ⊥
IsEmptyTwice rules (Node kind a) = ⊥
IsEmptyTwice rules (Chain a) = ⊥
IsEmptyTwice rules (Wrap kind a) = ⊥
IsEmptyTwice rules (Seq a b) = ⊥

-- a choice of rules that may both begin with a token of this kind
pub record BeginBoth (rules : List Rule) (i a b kind : ℕ) : Type 0 where
  pub is : HasRule rules i (Choice a b)
  pub first : MayBegin rules kind a
  pub second : MayBegin rules kind b

-- a rule that may be left out, and may begin with a token of this kind, which may stand behind it
pub record IsBothSides (rules : List Rule) (i kind : ℕ) : Type 0 where
  pub empty : IsNullable rules i
  pub first : MayBegin rules kind i
  pub follow : MayFollow rules kind i

-- why there is no grammar of these rules
abbrev pub WhyNoGrammar : List Rule → GrammarError → Type 0
WhyNoGrammar rules (NoRule i part) = LeadsTo Names rules i part × (length rules ≤ part)
WhyNoGrammar rules (KindTooLarge i kind) = HasRule rules i (Token kind) × (128 ≤ kind)
WhyNoGrammar rules (Endless cycle) = IsCycle Needs rules cycle.items
WhyNoGrammar rules (LeftRecursion cycle) = IsCycle StartsWith rules cycle.items
WhyNoGrammar rules (BeginsBoth i a b kind) = BeginBoth rules i a b kind
WhyNoGrammar rules (BeginsAndFollows i kind) = IsBothSides rules i kind
WhyNoGrammar rules (EmptyTwice i) = (rule : Rule) × HasRule rules i rule × IsEmptyTwice rules rule
WhyNoGrammar rules (TooLarge i) = ⊤
WhyNoGrammar rules Memory = ⊤

-- ---- what is told of them to those who write grammars

-- rule i is a choice, and rule j one of its two parts
abbrev pub IsPartOf : List Rule → ℕ → ℕ → Type 0
IsPartOf rules i j = (a : ℕ) × (b : ℕ) × HasRule rules i (Choice a b) × ((j ≡ a) ⊎ (j ≡ b))

-- rule j is rule i, or what choices of choices lead to from it
pub data IsAmong (rules : List Rule) : ℕ → ℕ → Type 0 where
  itself : {i : ℕ} → IsAmong rules i i
  further : {i j k : ℕ} → IsAmong rules i j → IsPartOf rules j k → IsAmong rules i k

-- A choice between rules that may both begin with a token of this kind. Where these are choices
-- themselves, rules a and b are what is chosen in the end.
pub record ChoosesBoth (rules : List Rule) (i a b kind : ℕ) : Type 0 where
  pub first : ℕ
  pub second : ℕ
  pub is : HasRule rules i (Choice first second)
  pub way : IsAmong rules first a
  pub other_way : IsAmong rules second b
  pub begins : MayBegin rules kind a
  pub other_begins : MayBegin rules kind b

-- why there is no grammar of these rules, with what is chosen in the end
abbrev pub IsConflict : List Rule → GrammarError → Type 0
IsConflict rules (BeginsBoth i a b kind) = ChoosesBoth rules i a b kind
IsConflict rules (NoRule i part) = WhyNoGrammar rules (NoRule i part)
IsConflict rules (KindTooLarge i kind) = WhyNoGrammar rules (KindTooLarge i kind)
IsConflict rules (Endless cycle) = WhyNoGrammar rules (Endless cycle)
IsConflict rules (LeftRecursion cycle) = WhyNoGrammar rules (LeftRecursion cycle)
IsConflict rules (BeginsAndFollows i kind) = WhyNoGrammar rules (BeginsAndFollows i kind)
IsConflict rules (EmptyTwice i) = WhyNoGrammar rules (EmptyTwice i)
IsConflict rules (TooLarge i) = WhyNoGrammar rules (TooLarge i)
IsConflict rules Memory = WhyNoGrammar rules Memory
