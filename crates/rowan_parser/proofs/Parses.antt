-- From a run to its tree.
use Rattle.std.proofs.Common.{◌≡◌, ◌<◌, ℕ, false, List, length, ◌∙◌, ap, subst}
use Rattle.rowan_green.specs.declared.fault.Fault.{Fault}
use Rattle.rowan_green.specs.declared.fault.Fault.TheVariants.{TextTooLong, TooManyChildren, CheckpointPast, CheckpointBefore, NothingOpen, NotOneElement, NotANode, OtherKind, NotFound, Memory, UnknownMark, NotOneList}
use Rattle.rowan_green.specs.declared.utility_types.NodeOrToken.TheVariants.{Node}
use Rattle.rowan_green.specs.Fits.{byte_limit}
use Rattle.rowan_terms.specs.Path.{tokens as tokens_of}
use Rattle.rowan_green.specs.Term.{NodeTerm}
use Rattle.rowan_green.specs.Word.{node_word}
use Rattle.rowan_parser.specs.Building.{WhyRefused}
use Rattle.rowan_parser.specs.Events.{tree_word, join_some}
use Rattle.rowan_parser.specs.Parsing.{IsParsed, WhyNoTree}
use Rattle.rowan_events.specs.Tokens.{tokens_text, token_terms}
use Rattle.rowan_events.specs.declared.event.Event.{Event}
use Rattle.rowan_events.specs.declared.lexer.Token.{Token}
use Rattle.rowan_lines.specs.declared.syntax_error.SyntaxError.{SyntaxError}
use Rattle.rowan_parser.specs.declared.tree.Trivia.{Trivia}
use Rattle.rowan_parser.proofs.Leaves.{tree-text}

-- the word of what was run, by the slices that the tree was built of
same-word : (trivia : Trivia) (root kind : ℕ) (tokens slice : List Token) (events part : List Event)
    → slice ≡ tokens → part ≡ events → kind ≡ root
    → tree_word kind trivia slice part ≡ tree_word root trivia tokens events
same-word trivia root kind tokens slice events part ts es k =
    ap (λ n. tree_word n trivia slice part) k
    ∙ ap (λ us. tree_word root trivia us part) ts
    ∙ ap (tree_word root trivia tokens) es

pub parsed : (runs : List Token → List Event → List SyntaxError → Type 0) (trivia : Trivia)
    (root kind : ℕ) (tokens slice : List Token) (events part : List Event)
    (errors : List SyntaxError) (tree : NodeTerm)
    → slice ≡ tokens
    → part ≡ events
    → kind ≡ root
    → runs tokens events errors
    → node_word tree ≡ tree_word kind trivia slice part
    → (join_some part ≡ false → tokens_of (Node tree) ≡ token_terms slice)
    → IsParsed runs trivia root errors tree
parsed runs trivia root kind tokens slice events part errors tree ts es k ran spells leaves = record {
  tokens = tokens;
  events = events;
  ran = ran;
  spells = spells ∙ same-word trivia root kind tokens slice events part ts es k;
  leaves = λ none. leaves (ap join_some es ∙ none) ∙ ap token_terms ts;
}

-- why the tree is not built is why the text has none
pub no_tree : (trivia : Trivia) (kind : ℕ) (tokens slice : List Token) (part : List Event)
    (text : List ℕ) (f : Fault) → slice ≡ tokens → tokens_text tokens ≡ text
    → WhyRefused (tree_word kind trivia slice part) slice f → WhyNoTree text f
no_tree trivia kind tokens slice part text f ts whole why = refused f why
  where
    refused : (g : Fault) → WhyRefused (tree_word kind trivia slice part) slice g → WhyNoTree text g
    refused TextTooLong is = subst (λ bs. byte_limit < length bs) (ap tokens_text ts ∙ whole) is
    refused TooManyChildren is = record {
      word = tree_word kind trivia slice part;
      is_text = tree-text kind trivia slice part ∙ ap tokens_text ts ∙ whole;
      too_many = is;
    }
    refused Memory is = tt
    refused CheckpointPast is = is
    refused CheckpointBefore is = is
    refused NothingOpen is = is
    refused NotOneElement is = is
    refused NotANode is = is
    refused OtherKind is = is
    refused NotFound is = is
    refused UnknownMark is = is
    refused NotOneList is = is
