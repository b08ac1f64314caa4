-- From a text to its tree: the tokens of a lexer, what the machine does over those that are no
-- trivia, and the tree of that.
use Rattle.std.specs.Prelude.{◌≡◌, ℕ, List, [], ◌++◌, map}
use Rattle.std.specs.Borrow.{Bor}
use Rattle.rowan_green.specs.Span.{Span}
use Rattle.rowan_green.specs.declared.green.SyntaxKind.{SyntaxKind}
use Rattle.rowan_green.specs.Term.{NodeTerm}
use Rattle.rowan_green.specs.Word.{node_word}
use Rattle.rowan_parser.specs.Events.{seen, tree_word}
use Rattle.rowan_parser.specs.Parsing.{Error, error_value, error_of, lexer_error, range_at}
use Rattle.rowan_parser.specs.Shape.{Forest}
use Rattle.rowan_events.specs.Told.{Told}
use Rattle.rowan_events.specs.Tokens.{tokens_text, AreSaid}
use Rattle.rowan_events.specs.declared.event.Event.{Event}
use Rattle.rowan_events.specs.declared.lexer.LexError.{LexError}
use Rattle.rowan_events.specs.declared.lexer.Lexeme.{Lexeme}
use Rattle.rowan_events.specs.declared.lexer.Token.{Token}
use Rattle.rowan_lines.specs.declared.syntax_error.SyntaxError.{SyntaxError}
use Rattle.rowan_events.specs.declared.parser.Spot.TheVariants.{Here}
use Rattle.rowan_events.specs.declared.token_set.TokenSet.{TokenSet}
use Rattle.rowan_parser.specs.declared.tree.Trivia.{Trivia}
use Rattle.rowan_predictive.specs.declared.parsing.Start.{Start}
use Rattle.rowan_predictive.specs.declared.rules.Action.{Action}
use Rattle.rowan_predictive.specs.declared.rules.Complaint.{Complaint}
use Rattle.rowan_predictive.specs.declared.rules.Entry.{Entry}
use Rattle.rowan_predictive.specs.declared.rules.Rule.{Rule}
use Rattle.rowan_predictive.specs.Arranging.{arranged}
use Rattle.rowan_predictive.specs.Derivations.{Parses}
use Rattle.rowan_predictive.specs.Messages.{message_of}
use Rattle.rowan_predictive.specs.Trees.{MakesForest, root_word}
use Rattle.rowan_predictive.specs.View.{rules_of}
use Rattle.rowan_predictive.specs.Whole.{IsRun}

-- the kinds of the tokens that are no trivia
abbrev pub kinds_of : Trivia → List Token → List ℕ
kinds_of trivia tokens = map (λ token. token.kind.0) (seen trivia tokens)

-- what is said of a complaint, which stands at its token
abbrev pub told_by : List Entry → List (Bor (List ℕ)) → Complaint → Told
told_by entries words c =
    record { place = c.place; spot = Here; message = message_of entries words c }

-- the error of a complaint, where tokens stand in these ranges
abbrev pub error_by : List Span → Told → Error
error_by ranges told =
    record { message = told.message; range = range_at ranges told.place told.spot }

-- The tokens are what the lexer tells, one after the other, from the start of the text to its end.
-- The events are those of what the machine does over the tokens that are no trivia. The errors are
-- those that the lexer told, and then those of the machine's complaints.
pub record IsRead {X : Type 0} (says : X → List ℕ → Lexeme → X → Type 0) (lexer : X)
    (entries : List Entry) (trivia : Trivia) (start : Start) (text : List ℕ)
    (tokens : List Token) (events : List Event) (errors : List SyntaxError) : Type 0 where
  pub complained : List LexError
  pub said : AreSaid says lexer 0 tokens complained
  pub whole : tokens_text tokens ≡ text
  pub actions : List Action
  pub complaints : List Complaint
  pub ran : IsRun entries start.rule (kinds_of trivia tokens) actions complaints
  pub made : events ≡ arranged start.error.0 actions
  pub told : map error_value errors ≡ map lexer_error complained
      ++ map (λ c. error_of trivia tokens (told_by entries start.words.now c)) complaints
  pub sound : errors ≡ [] → (complained ≡ [])
      × Parses (rules_of entries) start.rule (kinds_of trivia tokens) actions
  pub complete : complained ≡ [] → (others : List Action)
      → Parses (rules_of entries) start.rule (kinds_of trivia tokens) others
      → (errors ≡ []) × (actions ≡ others)

-- The tokens of a valid text derive from this rule, and the tree is that of the derivation.
pub record IsValid (rules : List Rule) (trivia : Trivia) (root rule : ℕ) (tokens : List Token)
    (tree : NodeTerm) : Type 0 where
  pub forest : Forest
  pub makes : MakesForest rules rule (kinds_of trivia tokens) forest
  pub is : node_word tree ≡ root_word root trivia tokens forest

-- The tree of a text that was read so, with a root of the kind that was asked for. There are no
-- errors exactly if the lexer told none and the tokens derive from the start rule, and then the
-- tree is that of the derivation.
pub record IsParse {X : Type 0} (says : X → List ℕ → Lexeme → X → Type 0) (lexer : X)
    (entries : List Entry) (trivia : Trivia) (start : Start) (text : List ℕ)
    (errors : List SyntaxError) (tree : NodeTerm) : Type 0 where
  pub tokens : List Token
  pub events : List Event
  pub read : IsRead says lexer entries trivia start text tokens events errors
  pub spells : node_word tree ≡ tree_word start.root.0 trivia tokens events
  pub sound : errors ≡ []
      → (read.complained ≡ [])
      × IsValid (rules_of entries) trivia start.root.0 start.rule tokens tree
  pub complete : read.complained ≡ [] → (f : Forest)
      → MakesForest (rules_of entries) start.rule (kinds_of trivia tokens) f
      → (errors ≡ []) × (node_word tree ≡ root_word start.root.0 trivia tokens f)

-- The same, but for where errors stand and what they say, in words that hold no reference: the
-- rules, the kinds of trivia, those that are attached to nodes, and the numbers of the root and of
-- its rule.
pub record HasTree (rules : List Rule) (kinds : TokenSet) (attached : List (SyntaxKind × TokenSet))
    (root rule : ℕ) (text : List ℕ) (errors : List SyntaxError) (tree : NodeTerm) : Type 0 where
  pub tokens : List Token
  pub complained : List LexError
  pub whole : tokens_text tokens ≡ text
  pub trivia : Trivia
  pub of_kinds : trivia.kinds ≡ kinds
  pub of_attached : trivia.attached.now ≡ attached
  pub sound : errors ≡ [] → (complained ≡ []) × IsValid rules trivia root rule tokens tree
  pub complete : complained ≡ [] → (f : Forest)
      → MakesForest rules rule (kinds_of trivia tokens) f
      → (errors ≡ []) × (node_word tree ≡ root_word root trivia tokens f)

-- and the tokens are those of the lexer
pub record IsTreeBy {X : Type 0} (says : X → List ℕ → Lexeme → X → Type 0) (lexer : X)
    (rules : List Rule) (kinds : TokenSet) (attached : List (SyntaxKind × TokenSet))
    (root rule : ℕ) (text : List ℕ) (errors : List SyntaxError) (tree : NodeTerm) : Type 0 where
  pub has : HasTree rules kinds attached root rule text errors tree
  pub said : AreSaid says lexer 0 has.tokens has.complained
