-- Reparsing: where the list that a text is stands in place of a node below the root of a text's
-- tree, the tree is that of the text with the other one in the node's range.
use Rattle.std.proofs.Common.{◌≡◌, ℕ, ◌<◌, Bool, true, false, List, [], ◌∷◌, ◌++◌, length, Some}
use Rattle.std.proofs.Common.{refl, sym, ◌∙◌, ap, subst, arith, length-append}
use Rattle.std.proofs.lemmas.List.{append-nil}
use Rattle.std.specs.List.{flat_map, AllByRecursion}
use Rattle.rowan_green.specs.declared.utility_types.NodeOrToken.TheVariants.{Node}
use Rattle.rowan_green.specs.Edits.{spliced}
use Rattle.rowan_terms.specs.Path.{Path, subterm, range, put, tokens}
use Rattle.rowan_green.specs.Term.{TokenTerm, NodeTerm, node, node_kind, empty, node_then}
use Rattle.rowan_green.specs.Term.{token_then, Term, term_text, node_text, forest_text, node_len}
use Rattle.rowan_terms.proofs.LeafLaws.{text-tokens}
use Rattle.rowan_terms.proofs.PutText.{put-text as text_of_put}
use Rattle.rowan_sexp.specs.declared.sexp.lang.SyntaxKind.TheVariants.{LIST}
use Rattle.rowan_sexp.specs.Grammar.{IsElement, IsRoot, IsParse, IsOneList, token_terms}
use Rattle.rowan_sexp.specs.Sexp.{LexedToken, IsToken, tokens_text, number_of}
use Rattle.rowan_sexp.proofs.GrammarLemmas.{node_tokens, tokens-node}
use Rattle.rowan_sexp.proofs.ParsingLemmas.{IsTextOf-some}
use Rattle.rowan_tool.proofs.PlaceLemmas.{put-node, in_forest, closed-anywhere}
use Rattle.rowan_tool.proofs.TokenJoins.{list-begins, list-ends, BeginsOpen, EndsClosed}
use Rattle.rowan_tool.proofs.TokenJoins.{tokens-exchanged}

-- ---- texts

-- the new text by the old one and the range of what is replaced
pub put-text : (t : Term) (p : Path) (old u : Term) → subterm t p ≡ Some old
    → term_text (put t p u) ≡ spliced (term_text t) (range t p).start (range t p).end (term_text u)
put-text t p old u h = text_of_put t p u old h

texts-lexed : (ls : List LexedToken)
    → flat_map (λ (t : TokenTerm). t.text) (token_terms ls) ≡ tokens_text ls
texts-lexed [] = refl
texts-lexed (l ∷ ls) = ap (λ bs. l.1.now ++ bs) (texts-lexed ls)

text-lexed : (ls : List LexedToken) (n : NodeTerm) → tokens (Node n) ≡ token_terms ls
    → node_text n ≡ tokens_text ls
text-lexed ls n e = text-tokens (Node n) ∙ ap (flat_map (λ (t : TokenTerm). t.text)) e
    ∙ texts-lexed ls

-- the tree of a text has that text
pub parse-text : (text : List ℕ) (tree : NodeTerm) → IsParse text tree → node_text tree ≡ text
parse-text text tree h = text-lexed h.lexed tree h.sexp.tokens ∙ h.cut.whole

list-text : (text : List ℕ) (list : NodeTerm) → IsOneList text list → node_text list ≡ text
list-text text list one = sym (append-nil (node_text list))
    ∙ parse-text text (node 7 (node_then list empty)) one.parse

-- ---- a list has some text

-- the tokens' terms have some text
abbrev pub AreSome : List TokenTerm → Type 0
AreSome ts = AllByRecursion (λ t. 0 < length t.text) ts

pub some-lexed : (ls : List LexedToken) → AllByRecursion IsToken ls → AreSome (token_terms ls)
some-lexed [] h = tt
some-lexed (l ∷ ls) h = (IsTextOf-some l.0 l.1.now h.0, some-lexed ls h.1)

some-behind : (ts us : List TokenTerm) → AreSome (ts ++ us) → AreSome us
some-behind [] us h = h
some-behind (t ∷ ts) us h = some-behind ts us h.1

-- an element begins with a token
some-element : (inside last : Bool) (n : NodeTerm) (us : List TokenTerm) → IsElement inside last n
    → AreSome (node_tokens n ++ us) → 0 < node_len n
some-element inside last (node k empty) us h some = absurd h
some-element inside last (node k (node_then m f)) us h some = absurd h
some-element inside last (node k (token_then t f)) us h some =
    omega (arith, length-append t.text (forest_text f), some.0)

root_is_none : (n : NodeTerm) → IsRoot n → node_kind n ≡ number_of LIST → ⊥
root_is_none (node k f) h e = absurd (let wrong : 7 ≡ 5 = sym h.0 ∙ e in cc)

pub list-has-text : (text : List ℕ) (tree list : NodeTerm) (p : Path) → IsParse text tree
    → subterm (Node tree) p ≡ Some (Node list) → node_kind list ≡ number_of LIST → 0 < node_len list
list-has-text text tree list [] h s kind =
    let same : tree ≡ list = cc in absurd (root_is_none tree h.sexp.root (ap node_kind same ∙ kind))
list-has-text text (node k f) list (i ∷ p) h s kind =
    let x = (in_forest false true f i p list list h.sexp.root.1 s).exchange in
    let all = sym h.sexp.tokens ∙ tokens-node (node k f) ∙ x.was in
    some-element x.inside x.last list x.behind x.stood
    (some-behind x.before (node_tokens list ++ x.behind)
    (subst AreSome all (some-lexed h.lexed h.cut.each)))

-- ---- the tree with a list in place of a node

pub reparsed : (text new : List ℕ) (tree list old n : NodeTerm) (i : ℕ) (p : Path)
    → IsParse text tree → IsOneList new list → subterm (Node tree) (i ∷ p) ≡ Some (Node old)
    → Node n ≡ put (Node tree) (i ∷ p) (Node list)
    → IsParse (spliced text (range (Node tree) (i ∷ p)).start (range (Node tree) (i ∷ p)).end new) n
reparsed text new (node k f) list old n i p h one s e =
    let r = in_forest false true f i p old list h.sexp.root.1 s in
    let x = r.exchange in
    let tree = node k r.new in
    let made : put (Node (node k f)) (i ∷ p) (Node list) ≡ Node tree =
    put-node k f i p list r.new r.made in
    let span = range (Node (node k f)) (i ∷ p) in
    let spelt : node_text tree ≡ spliced text span.start span.end new =
    ap term_text (sym made) ∙ put-text (Node (node k f)) (i ∷ p) (Node old) (Node list) s
    ∙ ap (λ bs. spliced bs span.start span.end (node_text list)) (parse-text text (node k f) h)
    ∙ ap (λ bs. spliced text span.start span.end bs) (list-text new list one) in
    let ms = one.parse.lexed in
    let middle : token_terms ms ≡ node_tokens list = sym one.parse.sexp.tokens
    ∙ tokens-node (node 7 (node_then list empty)) ∙ append-nil (node_tokens list) in
    let lexed = tokens-exchanged h.lexed ms x.before (node_tokens old) x.behind
    (record { each = h.cut.each; apart = h.cut.apart })
    (record { each = one.parse.cut.each; apart = one.parse.cut.apart })
    (sym h.sexp.tokens ∙ tokens-node (node k f) ∙ x.was)
    (subst BeginsOpen (sym middle) (list-begins list one.kind one.closed))
    (subst EndsClosed (sym middle) (list-ends list one.kind one.closed)) in
    let leaves : tokens (Node tree) ≡ token_terms lexed.lexed = tokens-node tree ∙ x.is
    ∙ ap (λ ts. x.before ++ (ts ++ x.behind)) (sym middle) ∙ sym lexed.terms in
    let same : tree ≡ n = let whole : Node n ≡ Node tree = e ∙ made in cc in
    subst (IsParse (spliced text span.start span.end new)) same (record {
      lexed = lexed.lexed;
      cut = record {
        whole = sym (text-lexed lexed.lexed tree leaves)
            ∙ spelt;
        each = lexed.are.each;
        apart = lexed.are.apart;
      };
      sexp = record {
        tokens = leaves;
        root = (
          h.sexp.root.0,
          x.again (closed-anywhere x.inside x.last list one.kind one.closed),
        );
      };
    })
