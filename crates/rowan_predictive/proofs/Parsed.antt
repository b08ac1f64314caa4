-- From a run to the errors and the tree of a text.
use Rattle.std.proofs.Common.{◌≡◌, ℕ, List, [], ◌∷◌, ◌++◌, map, refl, sym, ap, ◌∙◌, subst}
use Rattle.rowan_green.specs.Term.{NodeTerm}
use Rattle.rowan_green.specs.Word.{Symbol, node_word}
use Rattle.rowan_green.specs.Word as word
use Rattle.rowan_parser.specs.Events.{spelled_by, tree_word}
use Rattle.std.specs.Borrow.{Bor}
use Rattle.rowan_parser.specs.Parsing.{Error, error_value, error_of, lexer_error}
use Rattle.rowan_events.specs.Tokens.{tokens_text, AreSaid}
use Rattle.rowan_events.specs.declared.lexer.LexError.{LexError}
use Rattle.rowan_predictive.specs.declared.rules.Complaint.{Complaint}
use Rattle.rowan_predictive.specs.Derivations.{Parses}
use Rattle.rowan_predictive.specs.Whole.{IsRun}
use Rattle.rowan_parser.specs.Shape.{Forest, Step, steps}
use Rattle.rowan_parser.specs.Shape as shape
use Rattle.rowan_events.specs.declared.event.Event.{Event}
use Rattle.rowan_events.specs.declared.lexer.Lexeme.{Lexeme}
use Rattle.rowan_events.specs.declared.lexer.Token.{Token}
use Rattle.rowan_lines.specs.declared.syntax_error.SyntaxError.{SyntaxError}
use Rattle.rowan_parser.specs.declared.tree.Trivia.{Trivia}
use Rattle.rowan_predictive.specs.declared.parsing.Start.{Start}
use Rattle.rowan_predictive.specs.declared.rules.Action.{Action}
use Rattle.rowan_predictive.specs.declared.rules.Entry.{Entry}
use Rattle.rowan_predictive.specs.Arranging.{arranged}
use Rattle.rowan_predictive.specs.Parsing.{kinds_of, told_by, IsRead, IsParse, IsTreeBy}
use Rattle.rowan_predictive.specs.Trees.{root_word}
use Rattle.rowan_predictive.specs.View.{rules_of}
use Rattle.rowan_predictive.proofs.Trees.{has-forest, has-actions}

-- ---- no errors

both-empty : {A : Type 0} (xs ys : List A) → xs ++ ys ≡ [] → (xs ≡ []) × (ys ≡ [])
both-empty [] ys e = (refl, e)
both-empty (x ∷ xs) ys e = absurd (cc)

map-empty : {A B : Type 0} (f : A → B) (xs : List A) → map f xs ≡ [] → xs ≡ []
map-empty f [] e = refl
map-empty f (x ∷ xs) e = absurd (cc)

-- no error is told, and none is complained of
pub no-errors : {A B : Type 0} (f : A → Error) (g : B → Error) (errors : List SyntaxError) (xs : List A) (ys : List B)
    → map error_value errors ≡ map f xs ++ map g ys → errors ≡ [] → (xs ≡ []) × (ys ≡ [])
no-errors f g errors xs ys told none =
    let w = both-empty (map f xs) (map g ys) (sym told ∙ ap (map error_value) none) in
    (map-empty f xs w.0, map-empty g ys w.1)

pub errors-none : {A B : Type 0} (f : A → Error) (g : B → Error) (errors : List SyntaxError) (xs : List A) (ys : List B)
    → map error_value errors ≡ map f xs ++ map g ys → xs ≡ [] → ys ≡ [] → errors ≡ []
errors-none {A} {B} f g errors xs ys told a b =
    map-empty error_value errors
    (told ∙ ap (λ (zs : List A). map f zs ++ map g ys) a ∙ ap (map g) b)

pub told-is : (entries es : List Entry) (words : List (Bor (List ℕ))) (trivia : Trivia) (tokens ts : List Token)
    (complaints cs : List Complaint) (complained ls : List LexError) (errors old : List SyntaxError)
    → es ≡ entries → ts ≡ tokens → cs ≡ complaints → ls ≡ complained
    → map error_value old ≡ map lexer_error ls
    → map error_value errors ≡ map error_value old ++ map (λ c. error_of trivia ts (told_by es words c)) cs
    → map error_value errors
    ≡ map lexer_error complained ++ map (λ c. error_of trivia tokens (told_by entries words c)) complaints
told-is entries es words trivia tokens ts complaints cs complained ls errors old e t q l before put =
    put
    ∙ ap (λ (vs : List Error). vs ++ map (λ c. error_of trivia ts (told_by es words c)) cs) (before ∙ ap (map lexer_error) l)
    ∙ ap (λ (x : List Token). map lexer_error complained ++ map (λ c. error_of trivia x (told_by es words c)) cs) t
    ∙ ap (λ (x : List Entry). map lexer_error complained ++ map (λ c. error_of trivia tokens (told_by x words c)) cs) e
    ∙ ap (λ (x : List Complaint). map lexer_error complained ++ map (λ c. error_of trivia tokens (told_by entries words c)) x) q

pub is-read : {X : Type 0} (says : X → List ℕ → Lexeme → X → Type 0) (lexer : X)
    (entries : List Entry) (trivia : Trivia) (start : Start) (text : List ℕ) (tokens : List Token) (events : List Event)
    (errors : List SyntaxError) (complained : List LexError) (actions : List Action) (complaints : List Complaint) (kinds : List ℕ)
    → AreSaid says lexer 0 tokens complained → tokens_text tokens ≡ text
    → kinds ≡ kinds_of trivia tokens
    → IsRun entries start.rule kinds actions complaints
    → (complaints ≡ [] → Parses (rules_of entries) start.rule kinds actions)
    → ((others : List Action) → Parses (rules_of entries) start.rule kinds others → (complaints ≡ []) × (actions ≡ others))
    → map error_value errors ≡ map lexer_error complained
    ++ map (λ c. error_of trivia tokens (told_by entries start.words.now c)) complaints
    → events ≡ arranged start.error.0 actions
    → IsRead says lexer entries trivia start text tokens events errors
is-read says lexer entries trivia start text tokens events errors complained actions complaints kinds said whole same ran sound complete told made =
    let error = λ (c : Complaint). error_of trivia tokens (told_by entries start.words.now c) in
    record {
      complained = complained;
      said = said;
      whole = whole;
      actions = actions;
      complaints = complaints;
      ran = subst (λ (ks : List ℕ). IsRun entries start.rule ks actions complaints) same ran;
      made = made;
      told = told;
      sound = λ none.
          let w = no-errors lexer_error error errors complained complaints told none in
          (w.0, subst (λ (ks : List ℕ). Parses (rules_of entries) start.rule ks actions) same (sound w.1));
      complete = λ none others p.
          let w = complete others (subst (λ (ks : List ℕ). Parses (rules_of entries) start.rule ks others) (sym same) p) in
          (errors-none lexer_error error errors complained complaints told none w.0, w.1);
    }

-- ---- the tree

same-word : (root : ℕ) (trivia : Trivia) (tokens : List Token) (events others : List Event) (f : Forest)
    → events ≡ others → steps others ≡ shape.word f → tree_word root trivia tokens events ≡ root_word root trivia tokens f
same-word root trivia tokens events others f is spells =
    ap (λ (es : List Event). tree_word root trivia tokens es) is
    ∙ ap (λ (ss : List Step). word.Open root ∷ (spelled_by trivia 0 ss tokens ++ word.Close ∷ [])) spells

pub is-parse : {X : Type 0} (says : X → List ℕ → Lexeme → X → Type 0) (lexer : X)
    (entries : List Entry) (trivia : Trivia) (start : Start) (text : List ℕ) (tokens : List Token) (events : List Event)
    (errors : List SyntaxError) (tree : NodeTerm)
    → IsRead says lexer entries trivia start text tokens events errors
    → node_word tree ≡ tree_word start.root.0 trivia tokens events
    → IsParse says lexer entries trivia start text errors tree
is-parse says lexer entries trivia start text tokens events errors tree read spells =
    let kinds = kinds_of trivia tokens in
    record {
      tokens = tokens;
      events = events;
      read = read;
      spells = spells;
      sound = λ none.
          let w = read.sound none in
          let h = has-forest (rules_of entries) start.error.0 start.rule kinds read.actions w.1 in (
            w.0,
            record {
              forest = h.forest;
              makes = h.makes;
              is = spells ∙ same-word start.root.0 trivia tokens events (arranged start.error.0 read.actions) h.forest read.made h.spells;
            },
          );
      complete = λ none f makes.
          let h = has-actions (rules_of entries) start.error.0 start.rule kinds f makes in
          let w = read.complete none h.actions h.parses in (
            w.0,
            spells ∙ same-word start.root.0 trivia tokens events (arranged start.error.0 h.actions) f
                (read.made ∙ ap (arranged start.error.0) w.1) h.spells,
          );
    }

-- what is said of the tree, without references
tree-of : {X : Type 0} (says : X → List ℕ → Lexeme → X → Type 0) (lexer : X)
    (entries : List Entry) (trivia : Trivia) (start : Start) (text : List ℕ)
    (errors : List SyntaxError) (tree : NodeTerm)
    → IsParse says lexer entries trivia start text errors tree
    → IsTreeBy says lexer (rules_of entries) trivia.kinds trivia.attached.now start.root.0 start.rule text errors tree
tree-of says lexer entries trivia start text errors tree parse = record {
  has = record {
    tokens = parse.tokens;
    complained = parse.read.complained;
    whole = parse.read.whole;
    trivia = trivia;
    of_kinds = refl;
    of_attached = refl;
    sound = parse.sound;
    complete = parse.complete;
  };
  said = parse.read.said;
}

pub tree-by : {X : Type 0} (says : X → List ℕ → Lexeme → X → Type 0) (lexer : X)
    (entries : List Entry) (trivia : Trivia) (start : Start) (text : List ℕ) (tokens : List Token) (events : List Event)
    (errors : List SyntaxError) (tree : NodeTerm)
    → IsRead says lexer entries trivia start text tokens events errors
    → node_word tree ≡ tree_word start.root.0 trivia tokens events
    → IsTreeBy says lexer (rules_of entries) trivia.kinds trivia.attached.now start.root.0 start.rule text errors tree
tree-by says lexer entries trivia start text tokens events errors tree read spells =
    tree-of says lexer entries trivia start text errors tree
    (is-parse says lexer entries trivia start text tokens events errors tree read spells)
