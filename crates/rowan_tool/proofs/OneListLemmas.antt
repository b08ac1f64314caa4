-- A balanced text is that of one list, and the other way round. In a list that is closed there are
-- as many `(` as `)`, and in one that is not there are more `(`. So the first child of a balanced
-- text's root is a closed list, and nothing stands behind it.
use Rattle.std.proofs.Common.{◌≡◌, ◌≢◌, ℕ, zero, suc, ◌+◌, ◌-◌, ◌<◌, ◌≤◌, Bool, true, false, List}
use Rattle.std.proofs.Common.{[], ◌∷◌, ◌++◌, take, length, get_or, refl, sym, ◌∙◌, ap, subst, arith}
use Rattle.std.proofs.Common.{cond, length-append, append_assoc, ne_eqb, inl, inr}
use Rattle.std.specs.Prelude.{◌==◌, ◌&&◌, ◌⊎◌}
use Rattle.std.specs.Char.{is_not_whitespace}
use Rattle.std.specs.List.{AllByRecursion, flat_map}
use Rattle.std.specs.Str.{NoCharPasses}
use Rattle.std.proofs.Math.Seq.{take-length, take-append_seam, take-append-add}
use Rattle.std.proofs.lemmas.Bool.{cases_lt}
use Rattle.std.proofs.lemmas.List.{append-nil, nil_from_length, take-append-le}
use Rattle.std.proofs.lemmas.List.Folds.{flat_map-map}
use Rattle.std.proofs.lemmas.List.Sums.{sum_by-append, sum_by-take-le, count_by_more_no}
use Rattle.std.proofs.lemmas.Str.{NoCharPasses-byte}
use Rattle.rowan_green.specs.declared.utility_types.NodeOrToken.TheVariants.{Node}
use Rattle.rowan_green.specs.Term.{TokenTerm, token_of, NodeTerm, node, node_kind, Forest, empty}
use Rattle.rowan_green.specs.Term.{node_then, token_then, node_text, forest_text}
use Rattle.rowan_terms.proofs.LeafLaws.{text-tokens}
use Rattle.rowan_sexp.specs.declared.sexp.lang.SyntaxKind.TheVariants.{L_PAREN, R_PAREN, WORD}
use Rattle.rowan_sexp.specs.declared.sexp.lang.SyntaxKind.TheVariants.{WHITESPACE, LIST, ROOT}
use Rattle.rowan_sexp.specs.Sexp.{LexedToken, tokens_text, IsTextOf, IsToken, is_delimiter}
use Rattle.rowan_sexp.specs.Sexp.{number_of, kind_of}
use Rattle.rowan_sexp.specs.Grammar.{is_empty, IsAtom, OpensList, ClosesList, IsElement}
use Rattle.rowan_sexp.specs.Grammar.{AreElements, IsParse, token_terms, count_of, IsBalanced}
use Rattle.rowan_sexp.specs.Grammar.{IsOneList}
use Rattle.rowan_sexp.proofs.GrammarLemmas.{node_tokens, forest_tokens, tokens-node, last_split}
use Rattle.rowan_sexp.proofs.ParsingLemmas.{IsTextOf-some}
use Rattle.rowan_sexp.proofs.WordLemmas.{kind_of-number}

-- ---- how often a byte stands in a text

count_of-append : (byte : ℕ) (s t : List ℕ)
    → count_of byte (s ++ t) ≡ count_of byte s + count_of byte t
count_of-append byte s t = sum_by-append (λ x. cond (x == byte) 1 0) s t

-- a byte that stands nowhere in a text
count_of-absent : (byte : ℕ) (text : List ℕ) → ((j : ℕ) → j < length text → get_or text j 0 ≢ byte)
    → count_of byte text ≡ 0
count_of-absent byte text absent = ap (count_of byte) (sym (take-length text))
    ∙ first (length text) (omega arith)
  where
    first : (i : ℕ) → i ≤ length text → count_of byte (take i text) ≡ 0
    first zero h = refl
    first (suc i) h =
        let next : suc i ≡ i + 1 = omega arith in
        ap (λ n. count_of byte (take n text)) next
        ∙ count_by_more_no (λ x. x == byte) text i 0 (omega (arith, h))
        (ne_eqb (get_or text i 0) byte (absent i (omega (arith, h))))
        ∙ first i (omega (arith, h))

-- no ASCII character that passes the test stands in a run of those that do not
count_of-run : (ends : ℕ → Bool) (text : List ℕ) (byte : ℕ) → NoCharPasses ends text → byte < 128
    → ends byte ≡ true → count_of byte text ≡ 0
count_of-run ends text byte run small passes =
    count_of-absent byte text (λ j h e.
    let fails : ends (get_or text j 0) ≡ false =
    NoCharPasses-byte ends text j run h (omega (arith, e, small)) in
    let same : ends (get_or text j 0) ≡ ends byte = ap ends e in
    cc)

-- ---- the leaves of a tree

-- the token has a text of its kind
abbrev IsFit : TokenTerm → Type 0
IsFit t = IsTextOf (kind_of t.kind) t.text

fits_from : (lexed : List LexedToken) → AllByRecursion IsToken lexed
    → AllByRecursion IsFit (token_terms lexed)
fits_from [] h = tt
fits_from (x ∷ lexed) h = (
  subst (λ k. IsTextOf k x.1.now) (sym (kind_of-number x.0)) h.0,
  fits_from lexed h.1,
)

fits-front : (ts us : List TokenTerm) → AllByRecursion IsFit (ts ++ us) → AllByRecursion IsFit ts
fits-front [] us h = tt
fits-front (t ∷ ts) us h = (h.0, fits-front ts us h.1)

fits-back : (ts us : List TokenTerm) → AllByRecursion IsFit (ts ++ us) → AllByRecursion IsFit us
fits-back [] us h = h
fits-back (t ∷ ts) us h = fits-back ts us h.1

some_text : (t : TokenTerm) → IsFit t → 0 < length t.text
some_text t fit = IsTextOf-some (kind_of t.kind) t.text fit

opening_text : (t : TokenTerm) → IsFit t → t.kind ≡ number_of L_PAREN → t.text ≡ 40 ∷ []
opening_text t fit e = subst (λ k. IsTextOf (kind_of k) t.text) e fit

closing_text : (t : TokenTerm) → IsFit t → t.kind ≡ number_of R_PAREN → t.text ≡ 41 ∷ []
closing_text t fit e = subst (λ k. IsTextOf (kind_of k) t.text) e fit

-- the text has no parenthesis
record IsPlain (text : List ℕ) : Type 0 where
  opens : count_of 40 text ≡ 0
  closes : count_of 41 text ≡ 0

word_plain : (t : TokenTerm) → IsFit t → t.kind ≡ number_of WORD → IsPlain t.text
word_plain t fit e =
    let word : IsTextOf WORD t.text = subst (λ k. IsTextOf (kind_of k) t.text) e fit in
    record {
      opens = count_of-run is_delimiter t.text 40 word.inside (omega arith) refl;
      closes = count_of-run is_delimiter t.text 41 word.inside (omega arith) refl;
    }

white_plain : (t : TokenTerm) → IsFit t → t.kind ≡ number_of WHITESPACE → IsPlain t.text
white_plain t fit e =
    let white : IsTextOf WHITESPACE t.text = subst (λ k. IsTextOf (kind_of k) t.text) e fit in
    record {
      opens = count_of-run is_not_whitespace t.text 40 white.inside (omega arith) refl;
      closes = count_of-run is_not_whitespace t.text 41 white.inside (omega arith) refl;
    }

atom_plain : (k : ℕ) (t : TokenTerm) (f : Forest) → IsFit t → IsAtom k t f
    → IsPlain (node_text (node k (token_then t f)))
atom_plain k t f fit a =
    let word = word_plain t fit a.word in
    let none : forest_text f ≡ [] = ap forest_text a.alone in
    record {
      opens = omega (
        arith,
        count_of-append 40 t.text (forest_text f),
        word.opens,
        ap (count_of 40) none,
      );
      closes = omega (
        arith,
        count_of-append 41 t.text (forest_text f),
        word.closes,
        ap (count_of 41) none,
      );
    }

-- ---- an element of a list, and what stands in a list behind its `(`

-- each list of the element is closed
record ElementCloses (n : NodeTerm) : Type 0 where
  are : IsElement true false n
  even : count_of 40 (node_text n) ≡ count_of 41 (node_text n)

-- it is a list that runs to the end of the text
record ElementRuns (last : Bool) (n : NodeTerm) : Type 0 where
  end : last ≡ true
  more : count_of 41 (node_text n) < count_of 40 (node_text n)

-- the elements end in the `)` of their list
record ElementsClose (f : Forest) : Type 0 where
  are : AreElements true false f
  one_more : count_of 41 (forest_text f) ≡ count_of 40 (forest_text f) + 1

-- they end with the text
record ElementsRun (last : Bool) (f : Forest) : Type 0 where
  end : last ≡ true
  most : count_of 41 (forest_text f) ≤ count_of 40 (forest_text f)

-- behind the `(` of a list
list_closes : (last : Bool) (k : ℕ) (t : TokenTerm) (f : Forest) → OpensList k t → IsFit t
    → ElementsClose f ⊎ ElementsRun last f
    → ElementCloses (node k (token_then t f)) ⊎ ElementRuns last (node k (token_then t f))
list_closes last k t f opens fit (inl c) =
    let text = opening_text t fit opens.parenthesis in
    inl (record {
      are = inr (inr (opens, c.are));
      even = omega (
        arith,
        count_of-append 40 t.text (forest_text f),
        count_of-append 41 t.text (forest_text f),
        ap (count_of 40) text,
        ap (count_of 41) text,
        c.one_more,
      );
    })
list_closes last k t f opens fit (inr r) =
    let text = opening_text t fit opens.parenthesis in
    inr (record {
      end = r.end;
      more = omega (
        arith,
        count_of-append 40 t.text (forest_text f),
        count_of-append 41 t.text (forest_text f),
        ap (count_of 40) text,
        ap (count_of 41) text,
        r.most,
      );
    })

-- one more element in front
elements_with : (last : Bool) (n : NodeTerm) (f : Forest)
    → ElementCloses n ⊎ ElementRuns (last && is_empty f) n → ElementsClose f ⊎ ElementsRun last f
    → ElementsClose (node_then n f) ⊎ ElementsRun last (node_then n f)
elements_with last n f (inl c) (inl d) =
    inl (record {
      are = (c.are, d.are);
      one_more = omega (
        arith,
        count_of-append 40 (node_text n) (forest_text f),
        count_of-append 41 (node_text n) (forest_text f),
        c.even,
        d.one_more,
      );
    })
elements_with last n f (inl c) (inr r) =
    inr (record {
      end = r.end;
      most = omega (
        arith,
        count_of-append 40 (node_text n) (forest_text f),
        count_of-append 41 (node_text n) (forest_text f),
        c.even,
        r.most,
      );
    })
elements_with last n f (inr r) other =
    let both = last_split last f r.end in
    let none : forest_text f ≡ [] = ap forest_text both.1 in
    inr (record {
      end = both.0;
      most = omega (
        arith,
        count_of-append 40 (node_text n) (forest_text f),
        count_of-append 41 (node_text n) (forest_text f),
        ap (count_of 40) none,
        ap (count_of 41) none,
        r.more,
      );
    })

-- the `)` of the list
elements_closed : (t : TokenTerm) (f : Forest) → ClosesList t f → IsFit t
    → ElementsClose (token_then t f)
elements_closed t f c fit =
    let text = closing_text t fit c.parenthesis in
    let none : forest_text f ≡ [] = ap forest_text c.last in
    record {
      are = inl (refl, c);
      one_more = omega (
        arith,
        count_of-append 40 t.text (forest_text f),
        count_of-append 41 t.text (forest_text f),
        ap (count_of 40) text,
        ap (count_of 41) text,
        ap (count_of 40) none,
        ap (count_of 41) none,
      );
    }

-- white space in front
elements_after : (last : Bool) (t : TokenTerm) (f : Forest) → t.kind ≡ number_of WHITESPACE
    → IsFit t → ElementsClose f ⊎ ElementsRun last f
    → ElementsClose (token_then t f) ⊎ ElementsRun last (token_then t f)
elements_after last t f white fit (inl c) =
    let plain = white_plain t fit white in
    inl (record {
      are = inr (white, c.are);
      one_more = omega (
        arith,
        count_of-append 40 t.text (forest_text f),
        count_of-append 41 t.text (forest_text f),
        plain.opens,
        plain.closes,
        c.one_more,
      );
    })
elements_after last t f white fit (inr r) =
    let plain = white_plain t fit white in
    inr (record {
      end = r.end;
      most = omega (
        arith,
        count_of-append 40 t.text (forest_text f),
        count_of-append 41 t.text (forest_text f),
        plain.opens,
        plain.closes,
        r.most,
      );
    })

mutual
  element_ends : (last : Bool) (n : NodeTerm) → IsElement true last n
      → AllByRecursion IsFit (node_tokens n) → ElementCloses n ⊎ ElementRuns last n
  element_ends last (node k empty) h fits = absurd h
  element_ends last (node k (node_then m f)) h fits = absurd h
  element_ends last (node k (token_then t f)) (inl a) fits =
      let plain = atom_plain k t f fits.0 a in
      inl (record { are = inl a; even = plain.opens ∙ sym plain.closes })
  element_ends last (node k (token_then t f)) (inr (inl e)) fits =
      absurd (let wrong : true ≡ false = e.0 in cc)
  element_ends last (node k (token_then t f)) (inr (inr l)) fits =
      list_closes last k t f l.0 fits.0 (elements_end last f l.1 fits.1)

  elements_end : (last : Bool) (f : Forest) → AreElements true last f
      → AllByRecursion IsFit (forest_tokens f) → ElementsClose f ⊎ ElementsRun last f
  elements_end last empty h fits = inr (record { end = h; most = omega arith })
  elements_end last (node_then n f) h fits =
      elements_with last n f (element_ends (last && is_empty f) n h.0
      (fits-front (node_tokens n) (forest_tokens f) fits))
      (elements_end last f h.1 (fits-back (node_tokens n) (forest_tokens f) fits))
  elements_end last (token_then t f) (inl c) fits = inl (elements_closed t f c.1 fits.0)
  elements_end last (token_then t f) (inr w) fits =
      elements_after last t f w.0 fits.0 (elements_end last f w.1 fits.1)

-- elements without text are none
no_elements : (inside last : Bool) (f : Forest) → AreElements inside last f
    → AllByRecursion IsFit (forest_tokens f) → length (forest_text f) ≡ 0 → f ≡ empty
no_elements inside last empty h fits none = refl
no_elements inside last (token_then t f) h fits none =
    absurd (omega (arith, some_text t fits.0, length-append t.text (forest_text f), none))
no_elements inside last (node_then (node k empty) f) h fits none = absurd h.0
no_elements inside last (node_then (node k (node_then m g)) f) h fits none = absurd h.0
no_elements inside last (node_then (node k (token_then t g)) f) h fits none =
    absurd (omega (
      arith,
      some_text t fits.0,
      length-append t.text (forest_text g),
      length-append (t.text ++ forest_text g) (forest_text f),
      none,
    ))

-- ---- the root of a balanced text

module _ (text : List ℕ) (balanced : IsBalanced text) where
  some_open : 0 < count_of 40 text
  some_open =
      let one : count_of 40 (take 1 text) ≡ 1 = ap (count_of 40) balanced.begins in
      omega (arith, one, sum_by-take-le (λ x. cond (x == 40) 1 0) text 1)

  -- where the counts are equal the text ends
  ends_where_even : (a b : List ℕ) → text ≡ a ++ b → 0 < length a → count_of 40 a ≡ count_of 41 a
      → length b ≡ 0
  ends_where_even a b whole some even =
      let front : take (length a) text ≡ a = ap (take (length a)) whole ∙ take-append_seam a b in
      elim (cases_lt (length a) (length text)) [
        | inl less ↦ absurd (balanced.unclosed (length a) some less
            (ap (count_of 40) front ∙ even ∙ ap (count_of 41) (sym front)))
        | inr least ↦ omega (arith, least, ap length whole, length-append a b)
      ]

  -- so it does not begin with a text without parentheses
  begins_otherwise : (a b : List ℕ) → text ≡ a ++ b → 0 < length a → IsPlain a → ⊥
  begins_otherwise a b whole some plain =
      let none : b ≡ [] = nil_from_length b
      (ends_where_even a b whole some (plain.opens ∙ sym plain.closes)) in
      omega (
        arith,
        some_open,
        ap (count_of 40) whole,
        count_of-append 40 a b,
        plain.opens,
        ap (count_of 40) none,
      )

  -- nor with `)`
  begins_with_open : (t : TokenTerm) (b : List ℕ) → text ≡ t.text ++ b → t.text ≡ 41 ∷ [] → ⊥
  begins_with_open t b whole closing =
      let first : take 1 text ≡ 41 ∷ [] = ap (take 1) (whole ∙ ap (λ s. s ++ b) closing) in
      let wrong : 40 ≡ 41 = ap (λ s. get_or s 0 0) (sym balanced.begins ∙ first) in
      omega (arith, wrong)

  -- a closed list stands alone in the root
  record HasOneList (f : Forest) : Type 0 where
    list : NodeTerm
    alone : f ≡ node_then list empty
    kind : node_kind list ≡ number_of LIST
    closed : IsElement true false list

  -- the first child is a list: if it is closed, nothing stands behind it, and else it would have
  -- the whole text
  first_list : (k : ℕ) (t : TokenTerm) (h g : Forest)
      → text ≡ forest_text (node_then (node k (token_then t h)) g) → OpensList k t → IsFit t
      → AreElements false true g → AllByRecursion IsFit (forest_tokens g)
      → ElementCloses (node k (token_then t h)) ⊎ ElementRuns (is_empty g) (node k (token_then t h))
      → HasOneList (node_then (node k (token_then t h)) g)
  first_list k t h g whole opens fit others fits (inl c) =
      let list = node k (token_then t h) in
      let some : 0 < length (node_text list) =
      omega (arith, some_text t fit, length-append t.text (forest_text h)) in
      record {
        list = list;
        alone = ap (node_then list) (no_elements false true g others fits
            (ends_where_even (node_text list) (forest_text g) whole some c.even));
        kind = opens.list;
        closed = c.are;
      }
  first_list k t h g whole opens fit others fits (inr r) =
      let list = node k (token_then t h) in
      let none : forest_text g ≡ [] = ap forest_text (last_split true g r.end).1 in
      absurd (omega (
        arith,
        balanced.closed,
        r.more,
        ap (count_of 40) whole,
        ap (count_of 41) whole,
        count_of-append 40 (node_text list) (forest_text g),
        count_of-append 41 (node_text list) (forest_text g),
        ap (count_of 40) none,
        ap (count_of 41) none,
      ))

  one_list : (f : Forest) → text ≡ forest_text f → AreElements false true f
      → AllByRecursion IsFit (forest_tokens f) → HasOneList f
  one_list empty whole h fits = absurd (omega (arith, some_open, ap (count_of 40) whole))
  one_list (token_then t g) whole (inl c) fits = absurd (let wrong : false ≡ true = c.0 in cc)
  one_list (token_then t g) whole (inr w) fits =
      absurd (begins_otherwise t.text (forest_text g) whole (some_text t fits.0)
      (white_plain t fits.0 w.0))
  one_list (node_then (node k empty) g) whole h fits = absurd h.0
  one_list (node_then (node k (node_then m f)) g) whole h fits = absurd h.0
  one_list (node_then (node k (token_then t f)) g) whole (inl a, h) fits =
      absurd (begins_otherwise (t.text ++ forest_text f) (forest_text g) whole
      (omega (arith, some_text t fits.0, length-append t.text (forest_text f)))
      (atom_plain k t f fits.0 a))
  one_list (node_then (node k (token_then t f)) g) whole (inr (inl e), h) fits =
      absurd (begins_with_open t (forest_text f ++ forest_text g)
      (whole ∙ append_assoc t.text (forest_text f) (forest_text g))
      (closing_text t fits.0 e.1.parenthesis))
  one_list (node_then (node k (token_then t f)) g) whole (inr (inr l), h) fits =
      first_list k t f g whole l.0 fits.0 h (fits-back (t ∷ forest_tokens f) (forest_tokens g) fits)
      (list_closes (is_empty g) k t f l.0 fits.0
      (elements_end (is_empty g) f l.1 (fits-front (t ∷ forest_tokens f) (forest_tokens g) fits).1))

-- ---- the tree of a balanced text

-- the texts of the tokens, as terms, are the text
tokens_text-terms : (lexed : List LexedToken)
    → flat_map (λ t. t.text) (token_terms lexed) ≡ tokens_text lexed
tokens_text-terms lexed = flat_map-map (λ t. t.text)
    (λ token. token_of (number_of token.0) token.1.now) lexed

-- the text of a text's tree is that text
pub text-parse : (text : List ℕ) (tree : NodeTerm) → IsParse text tree → node_text tree ≡ text
text-parse text tree parse =
    text-tokens (Node tree) ∙ ap (flat_map (λ t. t.text)) parse.sexp.tokens
    ∙ tokens_text-terms parse.lexed ∙ parse.cut.whole

-- and its leaves have texts of their kinds
fits-parse : (text : List ℕ) (tree : NodeTerm) → IsParse text tree
    → AllByRecursion IsFit (node_tokens tree)
fits-parse text tree parse = subst (AllByRecursion IsFit) (sym parse.sexp.tokens ∙ tokens-node tree)
    (fits_from parse.lexed parse.cut.each)

pub balanced-is-one-list : (text : List ℕ) (tree : NodeTerm) → IsParse text tree → IsBalanced text
    → (list : NodeTerm) × (tree ≡ node (number_of ROOT) (node_then list empty))
    × IsOneList text list
balanced-is-one-list text (node k f) parse balanced =
    let one = one_list text balanced f (sym (text-parse text (node k f) parse)) parse.sexp.root.1
    (fits-parse text (node k f) parse) in
    let same : node k f ≡ node (number_of ROOT) (node_then one.list empty) =
    ap (λ j. node j f) parse.sexp.root.0 ∙ ap (node (number_of ROOT)) one.alone in (
      one.list,
      same,
      record {
        kind = one.kind;
        closed = one.closed;
        parse = subst (IsParse text) same parse;
      },
    )

-- ---- the text of one list is balanced

-- among the first bytes of the text are no more `)` than `(`
abbrev IsCovered : ℕ → List ℕ → Type 0
IsCovered k text = count_of 41 (take k text) ≤ count_of 40 (take k text)

covered-plain : (text : List ℕ) (k : ℕ) → count_of 41 text ≡ 0 → IsCovered k text
covered-plain text k none = omega (arith, none, sum_by-take-le (λ x. cond (x == 41) 1 0) text k)

covered-append : (a b : List ℕ) (k : ℕ) → (k ≤ length a → IsCovered k a)
    → count_of 40 a ≡ count_of 41 a → ((m : ℕ) → k ≡ length a + m → IsCovered m b)
    → IsCovered k (a ++ b)
covered-append a b k front even back =
    elim (cases_lt k (length a)) [
      | inl less ↦ subst (λ s. count_of 41 s ≤ count_of 40 s)
          (sym (take-append-le k a b (omega (arith, less)))) (front (omega (arith, less)))
      | inr least ↦
          let m = k - length a in
          let parts : k ≡ length a + m = omega (arith, least) in
          let taken : take k (a ++ b) ≡ a ++ take m b = ap (λ n. take n (a ++ b)) parts
          ∙ take-append-add a b m in
          subst (λ s. count_of 41 s ≤ count_of 40 s) (sym taken)
          (omega (
            arith,
            count_of-append 40 a (take m b),
            count_of-append 41 a (take m b),
            even,
            back m parts,
          ))
    ]

-- before the end of a list it is open
list_open : (text rest : List ℕ) (k : ℕ) → text ≡ (40 ∷ []) ++ rest
    → ((m : ℕ) → m < length rest → IsCovered m rest) → 0 < k → k < length text
    → count_of 41 (take k text) < count_of 40 (take k text)
list_open text rest k whole covered some small =
    let first : List ℕ = 40 ∷ [] in
    let m = k - 1 in
    let parts : k ≡ length first + m = omega (arith, some) in
    let taken : take k text ≡ first ++ take m rest = ap (take k) whole
    ∙ ap (λ n. take n (first ++ rest)) parts ∙ take-append-add first rest m in
    let opens : count_of 40 first ≡ 1 = refl in
    let closes : count_of 41 first ≡ 0 = refl in
    subst (λ s. count_of 41 s < count_of 40 s) (sym taken)
    (omega (
      arith,
      opens,
      closes,
      count_of-append 40 first (take m rest),
      count_of-append 41 first (take m rest),
      covered m (omega (arith, small, some, ap length whole)),
    ))

-- an element whose lists are closed has as many `(` as `)`
even_element : (n : NodeTerm) → IsElement true false n → AllByRecursion IsFit (node_tokens n)
    → count_of 40 (node_text n) ≡ count_of 41 (node_text n)
even_element n h fits = by_end (element_ends false n h fits)
  where
    by_end : ElementCloses n ⊎ ElementRuns false n
        → count_of 40 (node_text n) ≡ count_of 41 (node_text n)
    by_end (inl c) = c.even
    by_end (inr r) = absurd (let wrong : false ≡ true = r.end in cc)

-- a list, whose bytes behind the `(` are covered as long as it is open
covered-list : (text : List ℕ) (k : ℕ)
    → (0 < k → k < length text → count_of 41 (take k text) < count_of 40 (take k text))
    → count_of 40 text ≡ count_of 41 text → k ≤ length text → IsCovered k text
covered-list text zero before even h = omega arith
covered-list text (suc k) before even h =
    elim (cases_lt (suc k) (length text)) [
      | inl less ↦ omega (arith, before (omega arith) less)
      | inr least ↦
          let all : suc k ≡ length text = omega (arith, h, least) in
          let taken : take (suc k) text ≡ text = ap (λ n. take n text) all ∙ take-length text in
          omega (arith, even, ap (count_of 40) taken, ap (count_of 41) taken)
    ]

mutual
  covered-element : (n : NodeTerm) → IsElement true false n → AllByRecursion IsFit (node_tokens n)
      → (k : ℕ) → k ≤ length (node_text n) → IsCovered k (node_text n)
  covered-element (node j empty) h fits k small = absurd h
  covered-element (node j (node_then m f)) h fits k small = absurd h
  covered-element (node j (token_then t f)) (inl a) fits k small =
      covered-plain (t.text ++ forest_text f) k (atom_plain j t f fits.0 a).closes
  covered-element (node j (token_then t f)) (inr (inl e)) fits k small =
      absurd (let wrong : true ≡ false = e.0 in cc)
  covered-element (node j (token_then t f)) (inr (inr l)) fits k small =
      covered-list (t.text ++ forest_text f) k
      (list_open (t.text ++ forest_text f) (forest_text f) k
      (ap (λ s. s ++ forest_text f) (opening_text t fits.0 l.0.parenthesis))
      (covered-elements f l.1 fits.1))
      (even_element (node j (token_then t f)) (inr (inr l)) fits) small

  covered-elements : (f : Forest) → AreElements true false f
      → AllByRecursion IsFit (forest_tokens f) → (k : ℕ) → k < length (forest_text f)
      → IsCovered k (forest_text f)
  covered-elements empty h fits k small = absurd (let wrong : false ≡ true = h in cc)
  covered-elements (node_then n f) h fits k small =
      let front = fits-front (node_tokens n) (forest_tokens f) fits in
      covered-append (node_text n) (forest_text f) k (covered-element n h.0 front k)
      (even_element n h.0 front)
      (λ m parts. covered-elements f h.1 (fits-back (node_tokens n) (forest_tokens f) fits) m
      (omega (arith, small, parts, length-append (node_text n) (forest_text f))))
  covered-elements (token_then t f) (inl c) fits k small =
      let text : t.text ++ forest_text f ≡ 41 ∷ [] = ap (λ g. t.text ++ forest_text g) c.1.last
      ∙ ap (λ s. s ++ []) (closing_text t fits.0 c.1.parenthesis) in
      let first : k ≡ 0 = omega (arith, small, ap length text) in
      let taken : take k (t.text ++ forest_text f) ≡ [] =
      ap (λ n. take n (t.text ++ forest_text f)) first in
      omega (arith, ap (count_of 41) taken)
  covered-elements (token_then t f) (inr w) fits k small =
      let plain = white_plain t fits.0 w.0 in
      covered-append t.text (forest_text f) k (λ _. covered-plain t.text k plain.closes)
      (plain.opens ∙ sym plain.closes)
      (λ m parts. covered-elements f w.1 fits.1 m
      (omega (arith, small, parts, length-append t.text (forest_text f))))

-- the text of a closed list
balanced-list : (list : NodeTerm) → node_kind list ≡ number_of LIST → IsElement true false list
    → AllByRecursion IsFit (node_tokens list) → IsBalanced (node_text list)
balanced-list (node k empty) is h fits = absurd h
balanced-list (node k (node_then m f)) is h fits = absurd h
balanced-list (node k (token_then t f)) is (inl a) fits = absurd (omega (arith, is, a.atom))
balanced-list (node k (token_then t f)) is (inr (inl e)) fits =
    absurd (let wrong : true ≡ false = e.0 in cc)
balanced-list (node k (token_then t f)) is (inr (inr l)) fits =
    let text = t.text ++ forest_text f in
    let whole : text ≡ (40 ∷ []) ++ forest_text f =
    ap (λ s. s ++ forest_text f) (opening_text t fits.0 l.0.parenthesis) in
    record {
      begins = ap (take 1) whole;
      closed = even_element (node k (token_then t f)) (inr (inr l)) fits;
      unclosed = λ j some small same. omega (
        arith,
        same,
        list_open text (forest_text f) j whole
            (covered-elements f l.1 fits.1) some small,
      );
    }

pub one-list-is-balanced : (text : List ℕ) (list : NodeTerm) → IsOneList text list → IsBalanced text
one-list-is-balanced text list one =
    let root = node (number_of ROOT) (node_then list empty) in
    let same : node_text list ≡ text = sym (append-nil (node_text list))
    ∙ text-parse text root one.parse in
    let fits = fits-front (node_tokens list) [] (fits-parse text root one.parse) in
    subst IsBalanced same (balanced-list list one.kind one.closed fits)
