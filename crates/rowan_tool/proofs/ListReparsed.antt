-- A list parsed anew: which list is put in its place, what text and what tree that makes, and why
-- it is refused.
use Rattle.std.proofs.Common.{◌≡◌, ◌≢◌, ℕ, zero, suc, ◌==◌, Bool, true, false, if◌then◌else◌, List}
use Rattle.std.proofs.Common.{[], ◌∷◌, length, Option, Some, None, inl, inr, ◌&&◌, refl, sym, ◌∙◌}
use Rattle.std.proofs.Common.{ap, subst, arith}
use Rattle.std.proofs.lemmas.Bool.{eqb-true}
use Rattle.std.proofs.lemmas.List.{append-nil}
use Rattle.std.specs.Prelude.{slice_get}
use Rattle.std.specs.Option.{option_map, option_map_or}
use Rattle.rowan_green.specs.declared.fault.Fault.{Fault}
use Rattle.rowan_green.specs.declared.fault.Fault.TheVariants.{TextTooLong, TooManyChildren}
use Rattle.rowan_green.specs.declared.fault.Fault.TheVariants.{CheckpointPast, CheckpointBefore}
use Rattle.rowan_green.specs.declared.fault.Fault.TheVariants.{NothingOpen, NotOneElement, NotANode}
use Rattle.rowan_green.specs.declared.fault.Fault.TheVariants.{OtherKind, NotFound, Memory}
use Rattle.rowan_green.specs.declared.fault.Fault.TheVariants.{UnknownMark, NotOneList}
use Rattle.rowan_green.specs.declared.utility_types.NodeOrToken.TheVariants.{Node, Token}
use Rattle.rowan_green.specs.Edits.{spliced}
use Rattle.rowan_green.specs.Fits.{Fits, FitsNode}
use Rattle.rowan_terms.specs.Path.{Path, subterm_of, subterm, range, put}
use Rattle.rowan_green.specs.Term.{TokenTerm, NodeTerm, node, node_kind, node_children, Forest}
use Rattle.rowan_green.specs.Term.{empty, node_then, token_then, Term, terms, term_kind, term_text}
use Rattle.rowan_green.specs.Term.{node_text}
use Rattle.rowan_terms.proofs.PutLimits.{Fits-subterm, Fits-put}
use Rattle.rowan_green.proofs.Terms.{Fits-len}
use Rattle.rowan_table.specs.Cursor.{Cursor, term_at, kind, text_range}
use Rattle.rowan_table.specs.Replacement.{IsReplacement, WhyNoReplacement, with_replacement}
use Rattle.rowan.specs.Ast.{casts_at}
use Rattle.rowan_sexp.specs.declared.sexp.lang.SyntaxKind.TheVariants.{L_PAREN, R_PAREN, WORD}
use Rattle.rowan_sexp.specs.declared.sexp.lang.SyntaxKind.TheVariants.{WHITESPACE, ERROR, LIST}
use Rattle.rowan_sexp.specs.declared.sexp.lang.SyntaxKind.TheVariants.{ATOM, ROOT}
use Rattle.rowan_sexp.specs.Casts.{is_list}
use Rattle.rowan_sexp.specs.Grammar.{is_empty, IsElement, AreElements, IsRoot, IsParse, IsOneList}
use Rattle.rowan_sexp.specs.Grammar.{IsBalanced}
use Rattle.rowan_tool.specs.Reparse.{WhyNoList, WhyNoReparse}
use Rattle.rowan_sexp.specs.Sexp.{kind_of}
use Rattle.rowan_sexp.proofs.LexedLemmas.{parse-unique}
use Rattle.rowan_tool.proofs.OneListLemmas.{balanced-is-one-list, one-list-is-balanced}
use Rattle.rowan_tool.proofs.ReparseLemmas.{put-text, parse-text, reparsed}

-- ---- the list that a text is

-- the first child of the tree of a balanced text
one-child : (text : List ℕ) (tree : NodeTerm) (c : Term) → IsParse text tree → IsBalanced text
    → slice_get (node_children tree) 0 ≡ Some c
    → (list : NodeTerm) × (c ≡ Node list) × IsOneList text list
one-child text tree c h b e =
    let one = balanced-is-one-list text tree h b in
    let first : Some (Node one.0) ≡ Some c = ap (λ t. slice_get (node_children t) 0) (sym one.1)
    ∙ e in
    (one.0, (let same : c ≡ Node one.0 = cc in same), one.2)

pub token-child : (text : List ℕ) (tree : NodeTerm) (t : TokenTerm) → IsParse text tree
    → IsBalanced text → slice_get (node_children tree) 0 ≡ Some (Token t) → ⊥
token-child text tree t h b e =
    let one = one-child text tree (Token t) h b e in
    let same = one.1 in cc

pub node-child : (text : List ℕ) (tree list : NodeTerm) → IsParse text tree → IsBalanced text
    → slice_get (node_children tree) 0 ≡ Some (Node list) → IsOneList text list
node-child text tree list h b e =
    let one = one-child text tree (Node list) h b e in
    let same : one.0 ≡ list = (let is = one.1 in cc) in subst (IsOneList text) same one.2

-- the first child of a tree within the limits is within them
pub first-fits : (tree list : NodeTerm) → slice_get (node_children tree) 0 ≡ Some (Node list)
    → FitsNode tree → FitsNode list
first-fits tree list e fits = Fits-subterm (Node tree) (0 ∷ []) (Node list)
    (ap (λ o. subterm_of o []) e) fits

-- a text is one list
pub one-list_one : (text : List ℕ) (m n : NodeTerm) → IsOneList text m → IsOneList text n → m ≡ n
one-list_one text m n h g =
    let same : node 7 (node_then m empty) ≡ node 7 (node_then n empty) =
    parse-unique text (node 7 (node_then m empty))
    (node 7 (node_then n empty)) h.parse g.parse in cc

pub list-text : (text : List ℕ) (list : NodeTerm) → IsOneList text list → node_text list ≡ text
list-text text list one = sym (append-nil (node_text list))
    ∙ parse-text text (node 7 (node_then list empty)) one.parse

-- ---- the place of a list

-- a raw kind that means lists is that of lists
pub kind-list : (k : ℕ) → is_list (kind_of k) ≡ true → k ≡ 5
kind-list k e = by (k == 0) (k == 1) (k == 2) (k == 3) (k == 5) (k == 6) (k == 7) refl e
  where
    by : (a b c d x y z : Bool) → (k == 5) ≡ x
        → is_list (if a then L_PAREN else
        (if b then R_PAREN else (if c then WORD else
        (if d then WHITESPACE else (if x then LIST else
        (if y then ATOM else (if z then ROOT else ERROR))))))) ≡ true → k ≡ 5
    by true b c d x y z e h = absurd cc
    by false true c d x y z e h = absurd cc
    by false false true d x y z e h = absurd cc
    by false false false true x y z e h = absurd cc
    by false false false false true y z e h = eqb-true k 5 e
    by false false false false false true z e h = absurd cc
    by false false false false false false true e h = absurd cc
    by false false false false false false false e h = absurd cc

-- what stands at a cursor has the kind of lists
pub record HasList (c : Cursor) : Type 0 where
  pub old : Term
  pub stands : term_at c ≡ Some old
  pub kind : term_kind old ≡ 5

pub has-list : (c : Cursor) → casts_at kind_of is_list c ≡ true → HasList c
has-list c e = by (term_at c) refl e
  where
    by : (o : Option Term) → term_at c ≡ o
        → option_map_or is_list (option_map kind_of (option_map term_kind o)) false ≡ true
        → HasList c
    by None s h = absurd cc
    by (Some t) s h = record { old = t; stands = s; kind = kind-list (term_kind t) h }

-- ---- why not

pub no-list : (c : Cursor) (text : List ℕ) (e : Fault) → HasList c → WhyNoList text e
    → WhyNoReparse c text e
no-list c text NotOneList s h = h
no-list c text TextTooLong s h = (
  h.0,
  λ list one fits.
      let whole = Fits-len (Node list) (Fits-put (Node c.root) c.path
      (Node list) s.old s.stands fits) in
      omega (arith, h.1, whole, ap length (list-text text list one)),
)
no-list c text Memory s h = h
no-list c text TooManyChildren s h = absurd h
no-list c text CheckpointPast s h = absurd h
no-list c text CheckpointBefore s h = absurd h
no-list c text NothingOpen s h = absurd h
no-list c text NotOneElement s h = absurd h
no-list c text NotANode s h = absurd h
no-list c text OtherKind s h = absurd h
no-list c text NotFound s h = absurd h
no-list c text UnknownMark s h = absurd h

pub no-replacement : (c : Cursor) (text : List ℕ) (list : NodeTerm) (e : Fault) → HasList c
    → IsOneList text list → WhyNoReplacement c (Node list) e → WhyNoReparse c text e
no-replacement c text list OtherKind s one h =
    let same : kind c ≡ Some (node_kind list) = ap (option_map term_kind) s.stands
    ∙ ap (λ k. Some k) (s.kind ∙ sym one.kind) in absurd (h same)
no-replacement c text list TextTooLong s one h = (
  one-list-is-balanced text list one,
  λ new is fits. h.1 (subst (λ n. Fits (with_replacement c (Node n)))
      (one-list_one text new list is one) fits),
)
no-replacement c text list Memory s one h = one-list-is-balanced text list one
no-replacement c text list NotOneList s one h = absurd h
no-replacement c text list TooManyChildren s one h = absurd h
no-replacement c text list CheckpointPast s one h = absurd h
no-replacement c text list CheckpointBefore s one h = absurd h
no-replacement c text list NothingOpen s one h = absurd h
no-replacement c text list NotOneElement s one h = absurd h
no-replacement c text list NotANode s one h = absurd h
no-replacement c text list NotFound s one h = absurd h
no-replacement c text list UnknownMark s one h = absurd h

-- ---- what it makes

pub new-text : (c : Cursor) (text : List ℕ) (list n : NodeTerm) → HasList c → IsOneList text list
    → IsReplacement c (Node list) n → node_text n
    ≡ spliced (node_text c.root) (text_range c).start (text_range c).end text
new-text c text list n s one r =
    ap term_text r.root ∙ put-text (Node c.root) c.path s.old (Node list) s.stands
    ∙ ap (spliced (node_text c.root) (text_range c).start (text_range c).end)
    (list-text text list one)

-- ---- no token of a text's tree has the kind of lists

token-here : (u : TokenTerm) (p : Path) (t : TokenTerm) → subterm (Token u) p ≡ Some (Token t)
    → u ≡ t
token-here u [] t s = cc
token-here u (i ∷ p) t s = absurd cc

no_token : (f : Forest) (i : ℕ) (p : Path) (t : TokenTerm) → f ≡ empty
    → subterm_of (slice_get (terms f) i) p ≡ Some (Token t) → ⊥
no_token empty zero p t e s = absurd cc
no_token empty (suc i) p t e s = absurd cc
no_token (node_then n f) i p t e s = absurd cc
no_token (token_then u f) i p t e s = absurd cc

other-kind : (u t : TokenTerm) (k : ℕ) → u ≡ t → u.kind ≡ k → k ≢ 5 → t.kind ≢ 5
other-kind u t k same is other = λ e. other (sym is ∙ ap (λ v. v.kind) same ∙ e)

mutual
  token-element : (inside last : Bool) (n : NodeTerm) (i : ℕ) (p : Path) (t : TokenTerm)
      → IsElement inside last n → subterm (Node n) (i ∷ p) ≡ Some (Token t) → t.kind ≢ 5
  token-element inside last (node k empty) i p t h s = absurd h
  token-element inside last (node k (node_then m f)) i p t h s = absurd h
  token-element inside last (node k (token_then u f)) zero p t (inl a) s =
      other-kind u t 2 (token-here u p t s) a.word (λ e. cc)
  token-element inside last (node k (token_then u f)) zero p t (inr (inl x)) s =
      other-kind u t 1 (token-here u p t s) x.1.parenthesis (λ e. cc)
  token-element inside last (node k (token_then u f)) zero p t (inr (inr l)) s =
      other-kind u t 0 (token-here u p t s) l.0.parenthesis (λ e. cc)
  token-element inside last (node k (token_then u f)) (suc i) p t (inl a) s =
      absurd (no_token f i p t a.alone s)
  token-element inside last (node k (token_then u f)) (suc i) p t (inr (inl x)) s =
      absurd (no_token f i p t x.1.alone s)
  token-element inside last (node k (token_then u f)) (suc i) p t (inr (inr l)) s =
      token-forest true last f i p t l.1 s

  token-forest : (inside last : Bool) (f : Forest) (i : ℕ) (p : Path) (t : TokenTerm)
      → AreElements inside last f → subterm_of (slice_get (terms f) i) p ≡ Some (Token t)
      → t.kind ≢ 5
  token-forest inside last empty i p t h s = absurd (no_token empty i p t refl s)
  token-forest inside last (node_then n f) zero [] t h s = absurd cc
  token-forest inside last (node_then n f) zero (j ∷ p) t h s =
      token-element inside (last && is_empty f) n j p t h.0 s
  token-forest inside last (node_then n f) (suc i) p t h s = token-forest inside last f i p t h.1 s
  token-forest inside last (token_then u f) zero p t (inl c) s =
      other-kind u t 1 (token-here u p t s) c.1.parenthesis (λ e. cc)
  token-forest inside last (token_then u f) zero p t (inr w) s =
      other-kind u t 3 (token-here u p t s) w.0 (λ e. cc)
  token-forest inside last (token_then u f) (suc i) p t (inl c) s =
      absurd (no_token f i p t c.1.last s)
  token-forest inside last (token_then u f) (suc i) p t (inr w) s =
      token-forest inside last f i p t w.1 s

-- the tree with a list in place of another one
pub record IsBelow (tree : NodeTerm) (q : Path) : Type 0 where
  pub place : ℕ
  pub rest : Path
  pub path : q ≡ place ∷ rest
  pub old : NodeTerm
  pub stands : subterm (Node tree) (place ∷ rest) ≡ Some (Node old)

root-kind : (n : NodeTerm) → IsRoot n → node_kind n ≡ 7
root-kind (node k f) h = h.0

-- a list of a text's tree stands below the root
pub list-below : (text : List ℕ) (tree : NodeTerm) (q : Path) (t : Term) → IsParse text tree
    → subterm (Node tree) q ≡ Some t → term_kind t ≡ 5 → IsBelow tree q
list-below text tree [] t h s e =
    let same : Node tree ≡ t = cc in absurd
    (omega (arith, root-kind tree h.sexp.root, ap term_kind same, e))
list-below text tree (i ∷ p) (Node old) h s e =
    record { place = i; rest = p; path = refl; old = old; stands = s }
list-below text (node k f) (i ∷ p) (Token t) h s e =
    absurd (token-forest false true f i p t h.sexp.root.1 s e)

-- where a list of a text's tree becomes the list that a text is, the tree is that of the text with
-- the one in the place of the other
pub list-reparsed : (text new : List ℕ) (tree list n : NodeTerm) (q : Path) (t : Term)
    → IsParse text tree → subterm (Node tree) q ≡ Some t → term_kind t ≡ 5 → IsOneList new list
    → Node n ≡ put (Node tree) q (Node list)
    → IsParse (spliced text (range (Node tree) q).start (range (Node tree) q).end new) n
list-reparsed text new tree list n q t h s e one r =
    let b = list-below text tree q t h s e in
    subst (λ p. IsParse (spliced text (range (Node tree) p).start (range (Node tree) p).end new) n)
    (sym b.path)
    (reparsed text new tree list b.old n b.place b.rest h one b.stands
    (r ∙ ap (λ p. put (Node tree) p (Node list)) b.path))

pub new-parse : (c : Cursor) (text : List ℕ) (list n : NodeTerm) → HasList c → IsOneList text list
    → IsReplacement c (Node list) n → IsParse (node_text c.root) c.root → IsParse (node_text n) n
new-parse c text list n s one r h =
    subst (λ bs. IsParse bs n) (sym (new-text c text list n s one r))
    (list-reparsed (node_text c.root) text c.root list n c.path s.old h s.stands s.kind one r.root)
