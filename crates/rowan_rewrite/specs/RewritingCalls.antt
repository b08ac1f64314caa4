-- What a closure's calls at the tokens of a tree make of the tree.
use Rattle.std.specs.Prelude.{◌≡◌, ◌≢◌, ◌⊎◌, Bool, List, [], ◌∷◌, ◌++◌, Result, Some, Ok, Err}
use Rattle.std.specs.Fn.{Called, Mut}
use Rattle.rowan_green.specs.declared.fault.Fault.{Fault}
use Rattle.rowan_green.specs.declared.fault.Fault.TheVariants.{Memory}
use Rattle.rowan_green.specs.declared.utility_types.NodeOrToken.TheVariants.{Node}
use Rattle.rowan_terms.specs.Path.{Path, subterm, LeafAt, leaves, tokens, offset}
use Rattle.rowan_green.specs.Term.{TokenTerm, NodeTerm, node_text}
use Rattle.rowan_rewrite.specs.declared.rewriting.Rewrite.{Rewrite}
use Rattle.rowan_rewrite.specs.declared.rewriting.Rewritten.{Rewritten}
use Rattle.rowan_rewrite.specs.declared.rewriting.token_at.TokenAt.{TokenAt}
use Rattle.rowan_rewrite.specs.Rewriting.{rewritten, rewritten_text, rewrite_changes, HasNodePast}
use Rattle.rowan_rewrite.specs.Rewriting.{Keeps}
use Rattle.rowan_rewrite.specs.Trivia.{Formats}
use Rattle.rowan_rewrite.specs.TokenAts.{token_in, parent_in, index_in, start_in}

-- the view shows this leaf of a tree: its token, the node above it, its index there, and where its
-- text starts
pub record Shows (root : NodeTerm) (view : TokenAt) (leaf : LeafAt) : Type 0 where
  pub shown : token_in view ≡ leaf.1
  pub above : Path
  pub path : leaf.0 ≡ above ++ index_in view ∷ []
  pub stands : subterm (Node root) above ≡ Some (Node (parent_in view))
  pub offset_is : start_in view ≡ offset (Node root) leaf.0

module _ {F : Type 0} (g : Mut F (TokenAt × Unit {0}) (Result Rewrite Fault)) where
  -- a call of f, shown this leaf of a tree, may give this answer, and leave f'
  pub record CalledAtLeaf (root : NodeTerm) (f : F) (leaf : LeafAt) (answer : Result Rewrite Fault)
      (f' : F) : Type 0 where
    pub view : TokenAt
    pub shows : Shows root view leaf
    pub called : Called g f (view, tt) answer f'

  -- calls at these leaves of a tree, in turn, give these answers, one each, and take f to `last`
  abbrev pub Answers : NodeTerm → F → List LeafAt → List Rewrite → F → Type 0
  Answers root f [] [] last = last ≡ f
  Answers root f [] (a ∷ answers) last = ⊥
  Answers root f (l ∷ ls) [] last = ⊥
  Answers root f (l ∷ ls) (a ∷ answers) last =
      (next : F) × CalledAtLeaf root f l (Ok a) next × Answers root next ls answers last

  -- the new root is the old one, rewritten as the closure answers at its tokens; these calls take
  -- it to `last`
  pub record IsRewritten (f last : F) (old : NodeTerm) (new : Rewritten) : Type 0 where
    pub answers : List Rewrite
    pub calls : Answers old f (leaves (Node old)) answers last
    pub tree : new.green ≡ rewritten old answers
    pub text : node_text new.green ≡ rewritten_text (tokens (Node old)) answers
    pub changes : new.changes ≡ rewrite_changes 0 (tokens (Node old)) answers

  -- this holds of each leaf of a tree and of what f answers, in whatever state, where it is shown it
  abbrev pub Always : (TokenTerm → Rewrite → Type 0) → NodeTerm → Type 0
  Always Holds root = (f : F) (leaf : LeafAt) (answer : Rewrite) (next : F)
      → CalledAtLeaf root f leaf (Ok answer) next → Holds leaf.1 answer

  -- f keeps the tokens that pass a test
  abbrev pub AlwaysKeeps : (TokenTerm → Bool) → NodeTerm → Type 0
  AlwaysKeeps test root = Always (Keeps test) root

  -- f formats with the tokens that pass a test
  abbrev pub AlwaysFormats : (TokenTerm → Bool) → NodeTerm → Type 0
  AlwaysFormats test root = Always (Formats test) root

  -- the calls at the first tokens of a tree, and their answers
  pub record Began (f : F) (old : NodeTerm) (behind : List LeafAt) (last : F) : Type 0 where
    pub before : List LeafAt
    pub parts : leaves (Node old) ≡ before ++ behind
    pub answers : List Rewrite
    pub calls : Answers old f before answers last

  -- the closure refuses a token, by the call that takes it to `last`
  pub record RefusesToken (f last : F) (old : NodeTerm) (fault : Fault) : Type 0 where
    pub leaf : LeafAt
    pub behind : List LeafAt
    pub at_token : F
    pub began : Began f old (leaf ∷ behind) at_token
    pub refuses : CalledAtLeaf old at_token leaf (Err fault) last

  -- the calls at the first tokens take the closure to `last`; with their answers, and the other
  -- tokens kept, a node passes a limit, if it is not for want of memory
  pub record StopsBehind (f last : F) (old : NodeTerm) (fault : Fault) : Type 0 where
    pub behind : List LeafAt
    pub began : Began f old behind last
    pub past : fault ≢ Memory → HasNodePast (rewritten old began.answers) fault

  -- why a tree is not rewritten: the closure refuses a token; or a node passes a limit, or there is
  -- no memory, after the calls at some tokens
  abbrev pub WhyNotRewritten : F → F → NodeTerm → Fault → Type 0
  WhyNotRewritten f last old fault = RefusesToken f last old fault ⊎ StopsBehind f last old fault
