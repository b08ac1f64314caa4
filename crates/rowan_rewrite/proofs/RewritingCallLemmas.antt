-- The calls of a closure at the leaves of a tree, so far, and one more.
use Rattle.std.proofs.Common.{◌≡◌, ◌≢◌, ℕ, ◌+◌, ◌≤◌, List, [], ◌∷◌, ◌++◌, refl, sym, ◌∙◌, ap}
use Rattle.std.proofs.Common.{length, subst, arith, append_assoc, inl, inr}
use Rattle.std.specs.Prelude.{Result, Some, Ok, Err}
use Rattle.std.specs.Fn.{Called, Mut}
use Rattle.std.proofs.lemmas.List.{append-nil}
use Rattle.rowan_green.specs.declared.fault.Fault.{Fault}
use Rattle.rowan_green.specs.declared.fault.Fault.TheVariants.{Memory}
use Rattle.rowan_green.specs.declared.utility_types.NodeOrToken.TheVariants.{Node, Token}
use Rattle.rowan_green.specs.Fits.{byte_limit, FitsNode}
use Rattle.rowan_terms.specs.Path.{LeafAt, leaves, subterm}
use Rattle.rowan_green.specs.Term.{TokenTerm, NodeTerm, node_len, node_text, token_len}
use Rattle.rowan_green.proofs.Terms.{Fits-len}
use Rattle.rowan_changes.specs.declared.changes.Change.{Change}
use Rattle.rowan_rewrite.specs.declared.rewriting.Rewrite.{Rewrite}
use Rattle.rowan_rewrite.specs.declared.rewriting.Rewritten.{Rewritten}
use Rattle.rowan_rewrite.specs.declared.rewriting.pass.Pass.{Pass}
use Rattle.rowan_rewrite.specs.declared.rewriting.token_at.TokenAt.{TokenAt}
use Rattle.rowan_changes.specs.ChangesKept.{CanBeKept}
use Rattle.rowan_rewrite.specs.Drafts.{IsPass, root_of, place_of, left_of, tree_of, child_of, way}
use Rattle.rowan_rewrite.specs.Drafts.{Continues, Takes, Ends}
use Rattle.rowan_rewrite.specs.Rewriting.{rewritten, rewritten_text, change_of, rewrite_changes}
use Rattle.rowan_rewrite.specs.Rewriting.{put_len, HasNodePast}
use Rattle.rowan_rewrite.specs.RewritingCalls.{CalledAtLeaf, Answers, IsRewritten, Began}
use Rattle.rowan_rewrite.specs.RewritingCalls.{WhyNotRewritten}
use Rattle.rowan_rewrite.proofs.LeafOffsets.{bytes_of, bytes-append, bytes-whole, offset-leaf}
use Rattle.rowan_rewrite.proofs.PassLemmas.{way-stands}
use Rattle.rowan_rewrite.proofs.PassSteps.{left-token, leaves_past}
use Rattle.rowan_rewrite.proofs.RewriteChangeLemmas.{HaveAnswers, PutWithin, range_from, tokens_of}
use Rattle.rowan_rewrite.proofs.RewriteChangeLemmas.{within-more, changes-more, within-text}
use Rattle.rowan_rewrite.proofs.RewriteChangeLemmas.{can_be_kept}
use Rattle.rowan_rewrite.proofs.RewritingLemmas.{text-rewritten}

module _ {F : Type 0} (g : Mut F (TokenAt × Unit {0}) (Result Rewrite Fault)) where
  have-answers : (root : NodeTerm) (f last : F) (ls : List LeafAt) (answers : List Rewrite)
      → Answers g root f ls answers last → HaveAnswers ls answers
  have-answers root f last [] [] h = tt
  have-answers root f last [] (a ∷ answers) h = absurd h
  have-answers root f last (l ∷ ls) [] h = absurd h
  have-answers root f last (l ∷ ls) (a ∷ answers) h = have-answers root h.0 last ls answers h.2

  answers-more : (root : NodeTerm) (f mid next : F) (ls : List LeafAt) (answers : List Rewrite)
      (l : LeafAt) (a : Rewrite) → Answers g root f ls answers mid
      → CalledAtLeaf g root mid l (Ok a) next
      → Answers g root f (ls ++ l ∷ []) (answers ++ a ∷ []) next
  answers-more root f mid next [] [] l a h call =
      (next, subst (λ m. CalledAtLeaf g root m l (Ok a) next) h call, refl)
  answers-more root f mid next [] (b ∷ answers) l a h call = absurd h
  answers-more root f mid next (k ∷ ls) [] l a h call = absurd h
  answers-more root f mid next (k ∷ ls) (b ∷ answers) l a h call =
      (h.0, h.1, answers-more root h.0 mid next ls answers l a h.2 call)

  -- how far the calls have come, and the changes that were noted
  pub record SoFar (first : F) (root : NodeTerm) (f : F) (at : ℕ) (list : List Change)
      (p : Pass) : Type 0 where
    pub limit : node_len root ≤ byte_limit
    pub pass : IsPass p
    pub whole : root_of p ≡ root
    pub began : Began g first root (left_of p) f
    pub place : at ≡ bytes_of began.before
    pub noted : PutWithin began.answers
        → list ≡ rewrite_changes 0 (tokens_of began.before) began.answers
    pub tree : (more : List Rewrite) → tree_of p more ≡ rewritten root (began.answers ++ more)

  pub at_first : (f : F) (root : NodeTerm) (at : ℕ) (list : List Change) (p : Pass)
      → node_len root ≤ byte_limit → at ≡ 0 → list ≡ [] → IsPass p → root_of p ≡ root
      → left_of p ≡ leaves (Node root)
      → ((more : List Rewrite) → tree_of p more ≡ rewritten root more)
      → SoFar f root f at list p
  at_first f root at list p limit start none pass whole left tree = record {
    limit = limit;
    pass = pass;
    whole = whole;
    began = record { before = []; parts = sym left; answers = []; calls = refl };
    place = start;
    noted = λ _. none;
    tree = tree;
  }

  pub goes_on : (first f : F) (root : NodeTerm) (at : ℕ) (list : List Change) (old new : Pass)
      → SoFar first root f at list old → Continues old new → SoFar first root f at list new
  goes_on first f root at list old new s c = record {
    limit = s.limit;
    pass = c.pass;
    whole = sym c.root ∙ s.whole;
    began = record {
      before = s.began.before;
      parts = s.began.parts ∙ ap (λ ls. s.began.before ++ ls) c.left;
      answers = s.began.answers;
      calls = s.began.calls;
    };
    place = s.place;
    noted = s.noted;
    tree = λ more. (sym (c.tree more) ∙ s.tree more);
  }

  -- the calls and the leaves behind, once a call more gave an answer
  abbrev began-more : (first f next : F) (root : NodeTerm) (l : LeafAt) (a : Rewrite)
      (all behind : List LeafAt) (b : Began g first root all f) → all ≡ l ∷ behind
      → CalledAtLeaf g root f l (Ok a) next → Began g first root behind next
  began-more first f next root l a all behind b is call = record {
    before = b.before ++ l ∷ [];
    parts = b.parts ∙ ap (λ ls. b.before ++ ls) is ∙ sym (append_assoc b.before (l ∷ []) behind);
    answers = b.answers ++ a ∷ [];
    calls = answers-more root first f next b.before b.answers l a b.calls call;
  }

  pub takes_one : (first f next : F) (root : NodeTerm) (at : ℕ) (list : List Change)
      (old new : Pass) (t : TokenTerm) (a : Rewrite) (end : ℕ) (more_list : List Change)
      → SoFar first root f at list old → Takes t a old new
      → CalledAtLeaf g root f (place_of old, t) (Ok a) next → end ≡ at + token_len t
      → (put_len a ≤ byte_limit → more_list ≡ list ++ change_of (range_from at t) a)
      → SoFar first root next end more_list new
  takes_one first f next root at list old new t a end more_list s c call ends note =
      let b = s.began in
      let l : LeafAt = (place_of old, t) in
      let here : bytes_of b.before ≡ 0 + bytes_of b.before = omega arith in
      record {
        limit = s.limit;
        pass = c.pass;
        whole = sym c.root ∙ s.whole;
        began = began-more first f next root l a (left_of old) (left_of new) b c.left call;
        place = omega (arith, ends, s.place, bytes-append b.before (l ∷ []));
        noted = λ within.
            (let both = within-more b.answers a within in
            note both.1 ∙ ap (λ cs. cs ++ change_of (range_from at t) a) (s.noted both.0)
            ∙ ap (λ n. rewrite_changes 0 (tokens_of b.before) b.answers
            ++ change_of (range_from n t) a) (s.place ∙ here)
            ∙ sym (changes-more 0 b.before b.answers l a
            (have-answers root first f b.before b.answers b.calls)));
        tree = λ more. (sym (c.tree more) ∙ s.tree (a ∷ more)
            ∙ ap (rewritten root) (sym (append_assoc b.answers (a ∷ []) more)));
      }

  -- the text of the next token lies in that of the root
  pub place-limit : (first f : F) (root : NodeTerm) (at : ℕ) (list : List Change) (p : Pass)
      (t : TokenTerm) → SoFar first root f at list p → child_of p ≡ Some (Token t)
      → at + token_len t ≤ byte_limit
  place-limit first f root at list p t s here =
      let b = s.began in
      let l : LeafAt = (place_of p, t) in
      let all : node_len root ≡ bytes_of (b.before ++ l ∷ leaves_past p) =
      sym (bytes-whole root)
      ∙ ap bytes_of (b.parts ∙ ap (λ ls. b.before ++ ls) (left-token p t here)) in
      omega (arith, all, bytes-append b.before (l ∷ leaves_past p), s.place, s.limit)

  -- the closure is called with a view of the next token
  pub called-next : (first f next : F) (root : NodeTerm) (at : ℕ) (list : List Change) (p : Pass)
      (t : TokenTerm) (view : TokenAt) (given answer : Result Rewrite Fault)
      → SoFar first root f at list p → child_of p ≡ Some (Token t) → view.token.now ≡ t
      → view.parent.now ≡ p.inner.node.now → view.index ≡ p.inner.next → view.start ≡ at
      → Called g f (view, tt) given next → given ≡ answer
      → CalledAtLeaf g root f (place_of p, t) answer next
  called-next first f next root at list p t view given answer s here token parent index start call
      said =
      let b = s.began in
      let ds = p.above.items in
      record {
        view = view;
        shows = record {
          shown = token;
          above = way ds;
          path = ap (λ i. way ds ++ i ∷ []) (sym index);
          stands = ap (λ n. subterm (Node n) (way ds)) (sym s.whole)
              ∙ way-stands ds p.inner.node.now s.pass.0
              ∙ ap (λ n. Some (Node n)) (sym parent);
          offset_is = start ∙ s.place
              ∙ sym (offset-leaf root b.before (leaves_past p) (place_of p, t)
              (b.parts ∙ ap (λ ls. b.before ++ ls) (left-token p t here)));
        };
        called = subst (λ r. Called g f (view, tt) r next) said call;
      }

  -- ---- the end

  end-began : (first f : F) (root new : NodeTerm) (at : ℕ) (list : List Change) (p : Pass)
      → (s : SoFar first root f at list p) → Ends p new
      → (leaves (Node root) ≡ s.began.before) × (new ≡ rewritten root s.began.answers)
  end-began first f root new at list p s e =
      let b = s.began in (
        b.parts ∙ ap (λ ls. b.before ++ ls) e.left ∙ append-nil b.before,
        sym (e.tree []) ∙ s.tree [] ∙ ap (rewritten root) (append-nil b.answers),
      )

  -- the new text is within the limit where the tree is
  end-text : (first f : F) (root new : NodeTerm) (at : ℕ) (list : List Change) (p : Pass)
      → (s : SoFar first root f at list p) → Ends p new → FitsNode new
      → length (rewritten_text (tokens_of s.began.before) s.began.answers) ≤ byte_limit
  end-text first f root new at list p s e fits =
      let parts = end-began first f root new at list p s e in
      let text : node_text new ≡ rewritten_text (tokens_of s.began.before) s.began.answers =
      ap node_text parts.1 ∙ text-rewritten root s.began.answers
      ∙ ap (λ ls. rewritten_text (tokens_of ls) s.began.answers) parts.0 in
      omega (arith, ap length text, Fits-len (Node new) fits)

  pub changes-end : (first f : F) (root new : NodeTerm) (at : ℕ) (list : List Change) (p : Pass)
      → SoFar first root f at list p → Ends p new → FitsNode new → CanBeKept list
  changes-end first f root new at list p s e fits =
      let b = s.began in
      let text = end-text first f root new at list p s e fits in
      let have = have-answers root first f b.before b.answers b.calls in
      subst CanBeKept (sym (s.noted (within-text b.before b.answers have text)))
      (can_be_kept b.before b.answers have text)

  pub at_end : (first f : F) (root green : NodeTerm) (new : Rewritten) (at : ℕ)
      (list : List Change) (p : Pass) → SoFar first root f at list p → Ends p green
      → new.green ≡ green → new.changes ≡ list → FitsNode green
      → IsRewritten g first f root new
  at_end first f root green new at list p s e is noted fits =
      let b = s.began in
      let parts = end-began first f root green at list p s e in
      let text = end-text first f root green at list p s e fits in
      let have = have-answers root first f b.before b.answers b.calls in
      record {
        answers = b.answers;
        calls = subst (λ ls. Answers g root first ls b.answers f) (sym parts.0) b.calls;
        tree = is ∙ parts.1;
        text = ap node_text (is ∙ parts.1) ∙ text-rewritten root b.answers;
        changes = noted ∙ s.noted (within-text b.before b.answers have text)
            ∙ ap (λ ls. rewrite_changes 0 (tokens_of ls) b.answers) (sym parts.0);
      }

  -- ---- refusals

  pub refused : (first f next : F) (root : NodeTerm) (at : ℕ) (list : List Change) (p : Pass)
      (t : TokenTerm) (fault : Fault) → SoFar first root f at list p
      → child_of p ≡ Some (Token t) → CalledAtLeaf g root f (place_of p, t) (Err fault) next
      → WhyNotRewritten g first next root fault
  refused first f next root at list p t fault s here call = inl (record {
    leaf = (place_of p, t);
    behind = leaves_past p;
    at_token = f;
    began = record {
      before = s.began.before;
      parts = s.began.parts ∙ ap (λ ls. s.began.before ++ ls) (left-token p t here);
      answers = s.began.answers;
      calls = s.began.calls;
    };
    refuses = call;
  })

  pub stops : (first f : F) (root : NodeTerm) (at : ℕ) (list : List Change) (p : Pass)
      (fault : Fault) → SoFar first root f at list p
      → (fault ≢ Memory → HasNodePast (tree_of p []) fault)
      → WhyNotRewritten g first f root fault
  stops first f root at list p fault s h = inr (record {
    behind = left_of p;
    began = s.began;
    past = λ other. (subst (λ m. HasNodePast m fault)
        (s.tree [] ∙ ap (rewritten root) (append-nil s.began.answers)) (h other));
  })

  -- there is no memory for an answer
  pub stops_at : (first f next : F) (root : NodeTerm) (at : ℕ) (list : List Change) (p : Pass)
      (t : TokenTerm) (a : Rewrite) (fault : Fault) → SoFar first root f at list p
      → child_of p ≡ Some (Token t) → CalledAtLeaf g root f (place_of p, t) (Ok a) next
      → fault ≡ Memory → WhyNotRewritten g first next root fault
  stops_at first f next root at list p t a fault s here call memory = inr (record {
    behind = leaves_past p;
    began = began-more first f next root (place_of p, t) a (left_of p) (leaves_past p) s.began
        (left-token p t here) call;
    past = λ other. absurd (other memory);
  })
