-- What a word asks the cache for, symbol by symbol. So a word that begins another one asks first
-- for what that one asks.
use Rattle.std.proofs.Common.{◌≡◌, ℕ, zero, suc, ◌+◌, ◌-◌, ◌<◌, ◌≤◌, List, [], ◌∷◌, ◌++◌, refl, sym}
use Rattle.std.proofs.Common.{◌∙◌, ap, subst, arith, append_assoc}
use Rattle.std.proofs.lemmas.List.{append-nil, replicate-append-replicate}
use Rattle.std.specs.List.{flat_map}
use Rattle.std.specs.Prelude.{Result, Ok, Err, replicate}
use Rattle.std.specs.Result.{OnErr}
use Rattle.std.specs.Str.{IsUtf8}
use Rattle.rowan_builder.specs.Builder.{BuilderValue}
use Rattle.rowan_builder.specs.Cache.{CacheValue}
use Rattle.rowan_green.specs.Coding.{closed, read, pushed}
use Rattle.rowan_green.specs.declared.utility_types.NodeOrToken.TheVariants.{Node, Token}
use Rattle.rowan_builder.specs.Stream.{node_subterms, forest_subterms, subterms, InternsWord}
use Rattle.rowan_green.specs.Term.{TokenTerm, token_of, NodeTerm, node, Forest, empty, node_then}
use Rattle.rowan_green.specs.Term.{token_then, Term}
use Rattle.rowan_green.specs.Word.{Symbol, Open, Leaf, Close, node_word, forest_word, Item, Bare}
use Rattle.rowan_green.specs.Word.{Whole, spelled, whole_terms, HasTerms}
use Rattle.rowan_sexp.specs.Grammar.{IsParse, token_terms}
use Rattle.rowan_sexp.specs.Parsing.{symbols_of, open_after, rest_word, Begins, InternsFirst}
use Rattle.rowan_sexp.specs.Sexp.{LexedToken, IsCut, number_of}
use Rattle.rowan_sexp.specs.declared.sexp.lang.SyntaxKind.{SyntaxKind}
use Rattle.rowan_sexp.specs.declared.sexp.lang.SyntaxKind.TheVariants.{L_PAREN, R_PAREN, WORD}
use Rattle.rowan_sexp.proofs.LexedLemmas.{cuts-exist}
use Rattle.rowan_sexp.proofs.WordLemmas.{IsWordSoFar, word_more, word_ends}

-- the node that a closing closed
abbrev closed_term : List Item → List Term
closed_term [] = []
closed_term (Whole t ∷ items) = t ∷ []
closed_term (Bare k ∷ items) = []

-- what the symbols ask for, behind these items, the last of them first
abbrev requests : List Item → List Symbol → List Term
requests items [] = []
requests items (Open k ∷ w) = requests (Bare k ∷ items) w
requests items (Leaf t ∷ w) = Token t ∷ requests (Whole (Token t) ∷ items) w
requests items (Close ∷ w) = closed_term (closed empty items) ++ requests (closed empty items) w

requests-append : (items : List Item) (v w : List Symbol)
    → requests items (v ++ w) ≡ requests items v ++ requests (read items v) w
requests-append items [] w = refl
requests-append items (Open k ∷ v) w = requests-append (Bare k ∷ items) v w
requests-append items (Leaf t ∷ v) w =
    ap (λ ts. Token t ∷ ts) (requests-append (Whole (Token t) ∷ items) v w)
requests-append items (Close ∷ v) w =
    ap (λ ts. closed_term (closed empty items) ++ ts) (requests-append (closed empty items) v w)
    ∙ sym (append_assoc (closed_term (closed empty items)) (requests (closed empty items) v)
    (requests (read (closed empty items) v) w))

abbrev joined : Forest → Forest → Forest
joined empty g = g
joined (node_then n f) g = node_then n (joined f g)
joined (token_then t f) g = token_then t (joined f g)

joined-empty : (f : Forest) → joined f empty ≡ f
joined-empty empty = refl
joined-empty (node_then n f) = ap (λ g. node_then n g) (joined-empty f)
joined-empty (token_then t f) = ap (λ g. token_then t g) (joined-empty f)

closed-pushed : (f g : Forest) (items : List Item)
    → closed g (pushed f items) ≡ closed (joined f g) items
closed-pushed empty g items = refl
closed-pushed (node_then n f) g items = closed-pushed f g (Whole (Node n) ∷ items)
closed-pushed (token_then t f) g items = closed-pushed f g (Whole (Token t) ∷ items)

mutual
  requests-node : (n : NodeTerm) (items : List Item) (w : List Symbol)
      → requests items (node_word n ++ w) ≡ node_subterms n ++ requests (Whole (Node n) ∷ items) w
  requests-node (node k f) items w =
      ap (requests (Bare k ∷ items)) (append_assoc (forest_word f) (Close ∷ []) w)
      ∙ requests-forest f (Bare k ∷ items) (Close ∷ w)
      ∙ ap (λ is. forest_subterms f ++ (closed_term is ++ requests is w))
      (closed-pushed f empty (Bare k ∷ items))
      ∙ ap (λ g. forest_subterms f ++ (Node (node k g) ∷ requests
      (Whole (Node (node k g)) ∷ items) w)) (joined-empty f)
      ∙ sym (append_assoc (forest_subterms f) (Node (node k f) ∷ [])
      (requests (Whole (Node (node k f)) ∷ items) w))

  requests-forest : (f : Forest) (items : List Item) (w : List Symbol)
      → requests items (forest_word f ++ w) ≡ forest_subterms f ++ requests (pushed f items) w
  requests-forest empty items w = refl
  requests-forest (node_then n f) items w =
      ap (requests items) (append_assoc (node_word n) (forest_word f) w)
      ∙ requests-node n items (forest_word f ++ w)
      ∙ ap (λ ts. node_subterms n ++ ts) (requests-forest f (Whole (Node n) ∷ items) w)
      ∙ sym (append_assoc (node_subterms n) (forest_subterms f)
      (requests (pushed f (Whole (Node n) ∷ items)) w))
  requests-forest (token_then t f) items w =
      ap (λ ts. Token t ∷ ts) (requests-forest f (Whole (Token t) ∷ items) w)

requests-spelled : (xs items : List Item)
    → requests items (spelled xs) ≡ flat_map subterms (whole_terms xs)
requests-spelled [] items = refl
requests-spelled (Bare k ∷ xs) items = requests-spelled xs (Bare k ∷ items)
requests-spelled (Whole (Node n) ∷ xs) items = requests-node n items (spelled xs)
    ∙ ap (λ ts. node_subterms n ++ ts) (requests-spelled xs (Whole (Node n) ∷ items))
requests-spelled (Whole (Token t) ∷ xs) items =
    ap (λ ts. Token t ∷ ts) (requests-spelled xs (Whole (Token t) ∷ items))

requests-terms : (w : List Symbol) (ts : List Term) → HasTerms w ts
    → requests [] w ≡ flat_map subterms ts
requests-terms w ts h = ap (requests []) h.parts.spells ∙ requests-spelled h.items []
    ∙ ap (flat_map subterms) h.terms

requests-own : (n : NodeTerm) → requests [] (node_word n) ≡ subterms (Node n)
requests-own n = ap (requests []) (sym (append-nil (node_word n))) ∙ requests-node n [] []
    ∙ append-nil (node_subterms n)

-- a parse that is refused where the builder has begun the word of the tree
pub interns_begun : (text : List ℕ) (old new : CacheValue) (b : BuilderValue) → InternsWord old b
    → new ≡ b.cache → ((tree : NodeTerm) → IsParse text tree → Begins b.word (node_word tree))
    → (tree : NodeTerm) → IsParse text tree → InternsFirst old new (subterms (Node tree))
interns_begun text old new b h e begun tree parse =
    let g = begun tree parse in
    record {
      asked = flat_map subterms h.terms;
      others = requests (read [] b.word) g.more;
      first =
          sym (requests-own tree) ∙ ap (requests []) g.goes_on ∙ requests-append [] b.word g.more
          ∙ ap (λ ts. ts ++ requests (read [] b.word) g.more)
          (requests-terms b.word h.terms h.stand);
      interns = e ∙ h.interns;
    }

-- ---- words that begin others

pub on_err_any : {T E P : Type 0} (r : Result T E) → P → OnErr r P
on_err_any (Ok x) p = tt
on_err_any (Err e) p = p

pub begins_same : (v w x : List Symbol) → w ≡ v → Begins w (v ++ x)
begins_same v w x e = record { more = x; goes_on = ap (λ u. u ++ x) (sym e) }

pub begins_more : (w v x : List Symbol) → Begins w v → Begins w (v ++ x)
begins_more w v x b = record {
  more = b.more ++ x;
  goes_on = ap (λ u. u ++ x) b.goes_on
      ∙ append_assoc w b.more x;
}

pub begins_is : (w v x : List Symbol) → v ≡ x → Begins w v → Begins w x
begins_is w v x e b = record { more = b.more; goes_on = sym e ∙ b.goes_on }

-- a node that is opened, for one token
pub begins_opened : (v w : List Symbol) (j : ℕ) (k : ℕ) (x : List Symbol) → w ≡ v ++ Open j ∷ []
    → j ≡ k → Begins w (v ++ Open k ∷ x)
begins_opened v w j k x e f = record {
  more = x;
  goes_on = ap (λ i. v ++ Open i ∷ x) (sym f)
      ∙ sym (append_assoc v (Open j ∷ []) x) ∙ ap (λ u. u ++ x) (sym e);
}

-- and one to which the token was added
pub begins_filled : (v u w : List Symbol) (i j k l : ℕ) (text : List ℕ) (x : List Symbol)
    → u ≡ v ++ Open i ∷ [] → w ≡ u ++ Leaf (token_of j text) ∷ [] → i ≡ k → j ≡ l
    → Begins w (v ++ Open k ∷ Leaf (token_of l text) ∷ x)
begins_filled v u w i j k l text x e f p q = record {
  more = x;
  goes_on =
      ap (λ a. v ++ Open a ∷ Leaf (token_of l text) ∷ x) (sym p)
      ∙ ap (λ b. v ++ Open i ∷ Leaf (token_of b text) ∷ x) (sym q)
      ∙ sym (append_assoc v (Open i ∷ Leaf (token_of j text) ∷ []) x)
      ∙ ap (λ s. s ++ x) (sym (f ∙ ap (λ s. s ++ Leaf (token_of j text) ∷ []) e
      ∙ append_assoc v (Open i ∷ []) (Leaf (token_of j text) ∷ [])));
}

module _ (kind : SyntaxKind) (n : ℕ) (v w : List Symbol) (text : List ℕ) where
  abbrev IsBegun : Type 0
  IsBegun = Begins w (v ++ symbols_of kind n (token_of (number_of kind) text))

  pub begun-opens : (j : ℕ) → kind ≡ L_PAREN → j ≡ 5 → w ≡ v ++ Open j ∷ [] → IsBegun
  begun-opens j is list e =
      subst (λ k. Begins w (v ++ symbols_of k n (token_of (number_of kind) text))) (sym is)
      (begins_opened v w j 5 (Leaf (token_of (number_of kind) text) ∷ []) e list)

  pub begun-closes : (k : ℕ) → kind ≡ R_PAREN → 0 < n → k ≡ number_of kind
      → w ≡ v ++ Leaf (token_of k text) ∷ [] → IsBegun
  begun-closes k is some own e =
      subst (λ x. Begins w (v ++ symbols_of x n (token_of (number_of kind) text))) (sym is)
      (closing n some (token_of (number_of kind) text)
      (e ∙ ap (λ j. v ++ Leaf (token_of j text) ∷ []) own))
    where
      closing : (m : ℕ) → 0 < m → (t : TokenTerm) → w ≡ v ++ Leaf t ∷ []
          → Begins w (v ++ symbols_of R_PAREN m t)
      closing zero h t f = absurd (omega (arith, h))
      closing (suc m) h t f = record {
        more = Close ∷ [];
        goes_on = sym (append_assoc v (Leaf t ∷ []) (Close ∷ []))
            ∙ ap (λ s. s ++ Close ∷ []) (sym f);
      }

  pub begun-error : kind ≡ R_PAREN → n ≡ 0
      → Begins w (v ++ Open 4 ∷ Leaf (token_of (number_of kind) text) ∷ Close ∷ []) → IsBegun
  begun-error is none b =
      subst (λ x. Begins w (v ++ symbols_of x n (token_of (number_of kind) text))) (sym is)
      (subst (λ m. Begins w (v ++ symbols_of R_PAREN m (token_of (number_of kind) text)))
      (sym none) b)

  pub begun-word : kind ≡ WORD → Begins w
      (v ++ Open 6 ∷ Leaf (token_of (number_of kind) text) ∷ Close ∷ []) → IsBegun
  begun-word is b = subst (λ x. Begins w (v ++ symbols_of x n (token_of (number_of kind) text)))
      (sym is) b

module _ (text rest : List ℕ) (v w : List Symbol) (n : ℕ) (so_far : IsWordSoFar text rest v n) where
  -- a token that is refused among the others
  pub begun-token : (left : List ℕ) (token : LexedToken) → IsCut rest token left → IsUtf8 left
      → Begins w (v ++ symbols_of token.0 n (token_of (number_of token.0) token.1.now))
      → (tree : NodeTerm) → IsParse text tree → Begins w (node_word tree)
  begun-token left token cut utf8 b tree parse =
      let s = v ++ symbols_of token.0 n (token_of (number_of token.0) token.1.now) in
      let others = cuts-exist left utf8 in
      let more = rest_word (open_after token.0 n) (token_terms others.0) in
      begins_is w (s ++ more) (node_word tree)
      (sym (word_more text rest left v s n
      (open_after token.0 n) token so_far cut refl refl others.0 others.1 tree parse))
      (begins_more w s more b)

  -- closings that are refused at the end
  pub begun-end : rest ≡ [] → Begins w (v ++ replicate n Close) → (tree : NodeTerm)
      → IsParse text tree → Begins w (node_word tree)
  begun-end end b tree parse =
      let s = v ++ replicate n Close in
      begins_is w (s ++ Close ∷ []) (node_word tree)
      (word_ends text rest v s (s ++ Close ∷ []) n so_far end refl refl tree parse)
      (begins_more w s (Close ∷ []) b)

pub begun-closings : (u v w : List Symbol) (i n : ℕ) → i ≤ n → v ≡ u ++ replicate i Close → w ≡ v
    → Begins w (u ++ replicate n Close)
begun-closings u v w i n h e f =
    let all : i + (n - i) ≡ n = omega arith in
    begins_is w (v ++ replicate (n - i) Close) (u ++ replicate n Close)
    (ap (λ s. s ++ replicate (n - i) Close) e
    ∙ append_assoc u (replicate i Close) (replicate (n - i) Close)
    ∙ ap (λ s. u ++ s) (replicate-append-replicate i (n - i) Close
    ∙ ap (λ m. replicate m Close) all))
    (begins_same v w (replicate (n - i) Close) f)
