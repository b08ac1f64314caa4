-- How the items of a parser's builder change: with one more term, with one more open list, and with
-- a list closed.
use Rattle.std.proofs.Common.{◌≡◌, ℕ, ◌+◌, ◌-◌, ◌<◌, ◌≤◌, List, [], ◌∷◌, ◌++◌, map, length, refl}
use Rattle.std.proofs.Common.{sym, ◌∙◌, ap, subst, arith, append_assoc, length-append}
use Rattle.std.proofs.lemmas.List.{append-nil}
use Rattle.rowan_green.specs.declared.fault.Fault.{Fault}
use Rattle.rowan_green.specs.declared.fault.Fault.TheVariants.{TextTooLong, TooManyChildren}
use Rattle.rowan_green.specs.declared.fault.Fault.TheVariants.{CheckpointPast, CheckpointBefore}
use Rattle.rowan_green.specs.declared.fault.Fault.TheVariants.{NothingOpen, NotOneElement, NotANode}
use Rattle.rowan_green.specs.declared.fault.Fault.TheVariants.{OtherKind, NotFound, Memory}
use Rattle.rowan_green.specs.declared.fault.Fault.TheVariants.{UnknownMark, NotOneList}
use Rattle.rowan_green.specs.declared.utility_types.NodeOrToken.TheVariants.{Node, Token}
use Rattle.rowan_green.specs.Fits.{byte_limit, ChildPasses, PassesLimit}
use Rattle.rowan_green.specs.Term.{TokenTerm, NodeTerm, Term, node_of, node_kind, node_len}
use Rattle.rowan_green.specs.Term.{term_text, term_len, joined_text, sum_of_lens}
use Rattle.rowan_green.specs.Word.{Symbol, Open, Leaf, Close, term_word, Item, Bare, Whole}
use Rattle.rowan_green.specs.Word.{HasParts, whole_terms, HasTerms, word_text, Closes, WhyNotClosed}
use Rattle.rowan_green.specs.Word.{WhyUnfinished}
use Rattle.rowan_green.proofs.Terms.{node_len-node_of, sum_of_lens-append, length-joined_text}
use Rattle.rowan_terms.proofs.ItemLemmas.{whole_terms-append, whole_terms-open, spelled-close}
use Rattle.rowan_builder.proofs.StreamLemmas.{HasTerms-unique}
use Rattle.rowan_builder.proofs.TextLemmas.{text-leaf, text-open, text-closes}
use Rattle.rowan_terms.proofs.Words.{parts-unique, parts-more, word_text-append, word_text-parts}
use Rattle.rowan_sexp.specs.declared.sexp.lang.SyntaxKind.{SyntaxKind}
use Rattle.rowan_sexp.specs.declared.sexp.lang.SyntaxKind.TheVariants.{L_PAREN, R_PAREN, WORD}
use Rattle.rowan_sexp.specs.declared.sexp.lang.SyntaxKind.TheVariants.{WHITESPACE, ERROR, LIST}
use Rattle.rowan_sexp.specs.declared.sexp.lang.SyntaxKind.TheVariants.{ATOM, ROOT}
use Rattle.rowan_sexp.specs.Sexp.{IsTextOf}
use Rattle.rowan_sexp.specs.Parsing.{root_kind, bare_count, AreFilled, last_item, IsWhole}
use Rattle.rowan_sexp.specs.Parsing.{EndsWhole, IsInRoot, IsTree}

bare_count-map : (ts : List Term) → bare_count (map Whole ts) ≡ 0
bare_count-map [] = refl
bare_count-map (t ∷ ts) = bare_count-map ts

bare_count-append : (xs ys : List Item) → bare_count (xs ++ ys) ≡ bare_count xs + bare_count ys
bare_count-append [] ys = omega arith
bare_count-append (Bare k ∷ xs) ys = omega (arith, bare_count-append xs ys)
bare_count-append (Whole t ∷ xs) ys = bare_count-append xs ys

AreFilled-split : (ts us : List Term) → AreFilled (ts ++ us) → AreFilled ts × AreFilled us
AreFilled-split [] us h = (tt, h)
AreFilled-split (t ∷ ts) us h = let r = AreFilled-split ts us h.1 in ((h.0, r.0), r.1)

AreFilled-join : (ts us : List Term) → AreFilled ts → AreFilled us → AreFilled (ts ++ us)
AreFilled-join [] us h k = k
AreFilled-join (t ∷ ts) us h k = (h.0, AreFilled-join ts us h.1 k)

-- there are no more filled terms than bytes
length_le-sum : (ts : List Term) → AreFilled ts → length ts ≤ sum_of_lens ts
length_le-sum [] h = omega arith
length_le-sum (t ∷ ts) h = omega (arith, h.0, length_le-sum ts h.1)

last_item-append : (i : Item) (xs : List Item) (y : Item) → last_item i (xs ++ y ∷ []) ≡ y
last_item-append i [] y = refl
last_item-append i (x ∷ xs) y = last_item-append x xs y

EndsWhole-append : (xs : List Item) (t : Term) → EndsWhole (xs ++ Whole t ∷ [])
EndsWhole-append [] t = tt
EndsWhole-append (x ∷ xs) t = subst IsWhole (sym (last_item-append x xs (Whole t))) tt

-- what ends with an opening does not end with a whole term
not_EndsWhole : (xs : List Item) (k : ℕ) → EndsWhole (xs ++ Bare k ∷ []) → ⊥
not_EndsWhole [] k h = h
not_EndsWhole (x ∷ xs) k h = subst IsWhole (last_item-append x xs (Bare k)) h

-- ---- a closing

-- the children of a node that is open are part of the text
children_le-text : (w : List Symbol) (items before : List Item) (k : ℕ) (ts : List Term)
    → HasParts w items → items ≡ before ++ Bare k ∷ map Whole ts
    → sum_of_lens ts ≤ length (word_text w)
children_le-text w items before k ts h e =
    omega (
      arith,
      ap length (word_text-parts w items h ∙ ap (λ is. joined_text (whole_terms is)) e
          ∙ ap joined_text (whole_terms-open before k ts)),
      length-joined_text (whole_terms before ++ ts),
      sum_of_lens-append (whole_terms before) ts,
    )

children_filled : (items before : List Item) (k : ℕ) (ts : List Term)
    → AreFilled (whole_terms items) → items ≡ before ++ Bare k ∷ map Whole ts
    → AreFilled (whole_terms before) × AreFilled ts
children_filled items before k ts h e =
    AreFilled-split (whole_terms before) ts
    (subst AreFilled (ap whole_terms e ∙ whole_terms-open before k ts) h)

-- a list of filled children that is part of a text within the limit passes no limit
passes_none : (ts : List Term) (f : Fault) → AreFilled ts → sum_of_lens ts ≤ byte_limit
    → PassesLimit ts f → ⊥
passes_none ts f filled small h = refuted f h.passes
  where
    long : length ts ≡ length h.before + (length h.after + 1)
    long = omega (arith, ap length h.parts, length-append h.before (h.child ∷ h.after))

    all : sum_of_lens ts ≡ sum_of_lens h.before + (term_len h.child + sum_of_lens h.after)
    all = ap sum_of_lens h.parts ∙ sum_of_lens-append h.before (h.child ∷ h.after)

    few : length ts ≤ sum_of_lens ts
    few = length_le-sum ts filled

    refuted : (g : Fault) → ChildPasses h.before h.child g → ⊥
    refuted TooManyChildren p = omega (arith, p, long, few)
    refuted TextTooLong p = omega (arith, p.1, all)
    refuted CheckpointPast p = p
    refuted CheckpointBefore p = p
    refuted NothingOpen p = p
    refuted NotOneElement p = p
    refuted NotANode p = p
    refuted OtherKind p = p
    refuted NotFound p = p
    refuted Memory p = p
    refuted UnknownMark p = p
    refuted NotOneList p = p

module _ (w : List Symbol) (items : List Item) (parts : HasParts w items) where
  -- where a node is open, and the text is filled and within the limit, a closing is refused only
  -- for want of memory
  pub closing_refused : (f : Fault) → AreFilled (whole_terms items) → 0 < bare_count items
      → length (word_text w) ≤ byte_limit → WhyNotClosed w f → f ≡ Memory
  closing_refused NothingOpen filled opened small h =
      absurd (omega (
        arith,
        ap bare_count (parts-unique w items (map Whole h.wholes) parts h.parts),
        bare_count-map h.wholes,
      ))
  closing_refused TooManyChildren filled opened small h =
      let e = parts-unique w items (h.before ++ Bare h.kind ∷ map Whole h.children) parts h.parts in
      absurd (passes_none h.children TooManyChildren
      (children_filled items h.before h.kind h.children filled e).1
      (omega (arith, children_le-text w items h.before h.kind h.children parts e)) h.passes)
  closing_refused TextTooLong filled opened small h =
      let e = parts-unique w items (h.before ++ Bare h.kind ∷ map Whole h.children) parts h.parts in
      absurd (passes_none h.children TextTooLong
      (children_filled items h.before h.kind h.children filled e).1
      (omega (arith, children_le-text w items h.before h.kind h.children parts e)) h.passes)
  closing_refused Memory filled opened small h = refl
  closing_refused CheckpointPast filled opened small h = absurd h
  closing_refused CheckpointBefore filled opened small h = absurd h
  closing_refused NotOneElement filled opened small h = absurd h
  closing_refused NotANode filled opened small h = absurd h
  closing_refused OtherKind filled opened small h = absurd h
  closing_refused NotFound filled opened small h = absurd h
  closing_refused UnknownMark filled opened small h = absurd h
  closing_refused NotOneList filled opened small h = absurd h

closed_parts : {m : NodeTerm} (v w : List Symbol) (h : Closes v m w)
    → HasParts w (h.before ++ Whole (Node (node_of h.kind h.children)) ∷ [])
closed_parts v w h = record {
  spells = h.closed ∙ ap (λ u. u ++ Close ∷ []) h.parts.spells
      ∙ sym (spelled-close h.before h.kind h.children);
}

-- ---- the steps of the parser

-- one more filled term
pub IsInRoot-more : (v w : List Symbol) (n : ℕ) (t : Term) → IsInRoot v n → w ≡ v ++ term_word t
    → word_text (term_word t) ≡ term_text t → 0 < term_len t → IsInRoot w n
IsInRoot-more v w n t h e text filled = record {
  items = h.items ++ Whole t ∷ [];
  parts = parts-more v w (term_word t) (Bare root_kind ∷ h.items) (Whole t) h.parts e refl;
  opened = bare_count-append h.items (Whole t ∷ []) ∙ omega (arith, h.opened);
  few = omega (
    arith,
    h.few,
    ap length (ap word_text e ∙ word_text-append v (term_word t)),
    length-append (word_text v) (word_text (term_word t)),
  );
  filled = subst AreFilled (sym (whole_terms-append h.items (Whole t ∷ [])))
      (AreFilled-join (whole_terms h.items) (t ∷ []) h.filled (filled, tt));
  ends = EndsWhole-append h.items t;
}

-- one more open list, which begins with a token
pub IsInRoot-opens : (v u w : List Symbol) (n k : ℕ) (t : TokenTerm) → IsInRoot v n
    → u ≡ v ++ Open k ∷ [] → w ≡ u ++ Leaf t ∷ [] → 0 < length t.text → IsInRoot w (n + 1)
IsInRoot-opens v u w n k t h e f filled = record {
  items = (h.items ++ Bare k ∷ []) ++ Whole (Token t) ∷ [];
  parts = parts-more u w (Leaf t ∷ []) (Bare root_kind ∷ (h.items ++ Bare k ∷ [])) (Whole (Token t))
      (parts-more v u (Open k ∷ []) (Bare root_kind ∷ h.items) (Bare k) h.parts e refl) f refl;
  opened = omega (
    arith,
    bare_count-append (h.items ++ Bare k ∷ []) (Whole (Token t) ∷ []),
    bare_count-append h.items (Bare k ∷ []),
    h.opened,
  );
  few = omega (
    arith,
    h.few,
    ap length
        (text-leaf u w t f ∙ ap (λ bs. bs ++ t.text) (text-open v u k e)),
    length-append (word_text v) t.text,
  );
  filled =
      subst AreFilled (sym (whole_terms-append (h.items ++ Bare k ∷ []) (Whole (Token t) ∷ [])
      ∙ ap (λ ts. ts ++ Token t ∷ []) (whole_terms-append h.items (Bare k ∷ [])
      ∙ append-nil (whole_terms h.items))))
      (AreFilled-join (whole_terms h.items) (Token t ∷ []) h.filled (filled, tt));
  ends = EndsWhole-append (h.items ++ Bare k ∷ []) (Token t);
}

-- the innermost list closed
pub IsInRoot-closes : {m : NodeTerm} (v w : List Symbol) (n : ℕ) → IsInRoot v n → 0 < n
    → Closes v m w → IsInRoot w (n - 1)
IsInRoot-closes v w n h some c = from c.before c.kind c.children
    (parts-unique v (Bare root_kind ∷ h.items)
    (c.before ++ Bare c.kind ∷ map Whole c.children) h.parts c.parts) (closed_parts v w c)
  where
    from : (before : List Item) (k : ℕ) (ts : List Term)
        → Bare root_kind ∷ h.items ≡ before ++ Bare k ∷ map Whole ts
        → HasParts w (before ++ Whole (Node (node_of k ts)) ∷ []) → IsInRoot w (n - 1)
    from [] k ts e p = let same : h.items ≡ map Whole ts =
        cc in absurd (omega (arith, ap bare_count same, bare_count-map ts, h.opened))
    from (b ∷ before) k ts e p =
        let first : b ≡ Bare root_kind = cc in
        let same : h.items ≡ before ++ Bare k ∷ map Whole ts = cc in
        let both = children_filled h.items before k ts h.filled same in
        let node : Term = Node (node_of k ts) in
        record {
          items = before ++ Whole node ∷ [];
          parts = subst (λ (x : Item). HasParts w (x ∷ (before ++ Whole node ∷ []))) first p;
          opened = omega (
            arith,
            bare_count-append before (Whole node ∷ []),
            ap bare_count same,
            bare_count-append before (Bare k ∷ map Whole ts),
            bare_count-map ts,
            h.opened,
          );
          few = omega (arith, h.few, ap length (text-closes v w c));
          filled = subst AreFilled (sym (whole_terms-append before (Whole node ∷ [])))
              (AreFilled-join (whole_terms before) (node ∷ []) both.0
              (filled_node ts both.1 (subst EndsWhole same h.ends), tt));
          ends = EndsWhole-append before node;
        }
      where
        filled_node : (us : List Term) → AreFilled us → EndsWhole (before ++ Bare k ∷ map Whole us)
            → 0 < node_len (node_of k us)
        filled_node [] fs ends = absurd (not_EndsWhole before k ends)
        filled_node (u ∷ us) fs ends = omega (arith, node_len-node_of k (u ∷ us), fs.0)

pub IsInRoot-refuses : (w : List Symbol) (n : ℕ) (f : Fault) → IsInRoot w n
    → length (word_text w) ≤ byte_limit → WhyNotClosed w f → f ≡ Memory
IsInRoot-refuses w n f h small why =
    closing_refused w (Bare root_kind ∷ h.items) h.parts f h.filled (omega arith) small why

-- a token has some text
pub IsTextOf-some : (kind : SyntaxKind) (text : List ℕ) → IsTextOf kind text → 0 < length text
IsTextOf-some L_PAREN text h = omega (arith, ap length h)
IsTextOf-some R_PAREN text h = omega (arith, ap length h)
IsTextOf-some WORD text h = h.nonempty
IsTextOf-some WHITESPACE text h = h.nonempty
IsTextOf-some ERROR text h = absurd h
IsTextOf-some LIST text h = absurd h
IsTextOf-some ATOM text h = absurd h
IsTextOf-some ROOT text h = absurd h

-- one more token
pub IsInRoot-token : (v w : List Symbol) (n : ℕ) (t : TokenTerm) → IsInRoot v n
    → w ≡ v ++ Leaf t ∷ [] → 0 < length t.text → IsInRoot w n
IsInRoot-token v w n t h e some = IsInRoot-more v w n (Token t) h e (append-nil t.text) some

pub length-text-leaf : (v w : List Symbol) (t : TokenTerm) → w ≡ v ++ Leaf t ∷ []
    → length (word_text w) ≡ length (word_text v) + length t.text
length-text-leaf v w t e = ap length (text-leaf v w t e) ∙ length-append (word_text v) t.text

-- one more node, around one token
pub IsInRoot-alone : (v w : List Symbol) (n k : ℕ) (t : TokenTerm) → IsInRoot v n
    → w ≡ v ++ Open k ∷ Leaf t ∷ Close ∷ [] → 0 < length t.text → IsInRoot w n
IsInRoot-alone v w n k t h e some =
    IsInRoot-more v w n (Node (node_of k (Token t ∷ []))) h e refl
    (omega (arith, some, length-append t.text []))

-- a node around one token, by its three symbols
pub alone_word : (v u w x : List Symbol) (k : ℕ) (t : TokenTerm) → u ≡ v ++ Open k ∷ []
    → w ≡ u ++ Leaf t ∷ [] → x ≡ w ++ Close ∷ [] → x ≡ v ++ Open k ∷ Leaf t ∷ Close ∷ []
alone_word v u w x k t e f g =
    g ∙ ap (λ y. y ++ Close ∷ []) (f ∙ ap (λ y. y ++ Leaf t ∷ []) e
    ∙ append_assoc v (Open k ∷ []) (Leaf t ∷ []))
    ∙ append_assoc v (Open k ∷ Leaf t ∷ []) (Close ∷ [])

-- an open node with one token in it can be closed
pub alone_refused : (v u w : List Symbol) (n k : ℕ) (t : TokenTerm) (f : Fault) → IsInRoot v n
    → u ≡ v ++ Open k ∷ [] → w ≡ u ++ Leaf t ∷ [] → 0 < length t.text
    → length (word_text v) + length t.text ≤ byte_limit → WhyNotClosed w f → f ≡ Memory
alone_refused v u w n k t f h e e' some room why =
    IsInRoot-refuses w (n + 1) f (IsInRoot-opens v u w n k t h e e' some)
    (omega (arith, room, length-text-leaf u w t e', ap length (text-open v u k e))) why

-- the root closed
pub IsTree-closes : {m : NodeTerm} (v w : List Symbol) → IsInRoot v 0 → Closes v m w → IsTree w
IsTree-closes v w h c = from c.before c.kind c.children
    (parts-unique v (Bare root_kind ∷ h.items)
    (c.before ++ Bare c.kind ∷ map Whole c.children) h.parts c.parts) (closed_parts v w c)
  where
    from : (before : List Item) (k : ℕ) (ts : List Term)
        → Bare root_kind ∷ h.items ≡ before ++ Bare k ∷ map Whole ts
        → HasParts w (before ++ Whole (Node (node_of k ts)) ∷ []) → IsTree w
    from [] k ts e p = record { root = node_of k ts; kind = cc; parts = p }
    from (b ∷ before) k ts e p =
        let same : h.items ≡ before ++ Bare k ∷ map Whole ts = cc in
        absurd (omega (
          arith,
          ap bare_count same,
          bare_count-append before (Bare k ∷ map Whole ts),
          h.opened,
        ))

-- the whole terms of a tree are its root
IsTree-terms : (w : List Symbol) (ts : List Term) (h : IsTree w) → HasTerms w ts
    → ts ≡ Node h.root ∷ []
IsTree-terms w ts h k = HasTerms-unique w ts (Node h.root ∷ []) k
    (record { items = Whole (Node h.root) ∷ []; parts = h.parts; terms = refl })

-- the finished tree has the kind of a root
pub IsTree-kind : (w : List Symbol) (n : NodeTerm) → IsTree w → HasTerms w (Node n ∷ [])
    → node_kind n ≡ root_kind
IsTree-kind w n h k = let e = IsTree-terms w (Node n ∷ []) h k in let same : n ≡ h.root =
    cc in ap node_kind same ∙ h.kind

pub IsTree-refuses : (w : List Symbol) (f : Fault) → IsTree w → WhyUnfinished w f → ⊥
IsTree-refuses w f h why = refuted f why
  where
    refuted : (g : Fault) → WhyUnfinished w g → ⊥
    refuted NotOneElement k = k.2 (ap length (IsTree-terms w k.0 h k.1))
    refuted NotANode k = let e = IsTree-terms w (Token k.0 ∷ []) h k.1 in cc
    refuted TextTooLong k = k
    refuted TooManyChildren k = k
    refuted CheckpointPast k = k
    refuted CheckpointBefore k = k
    refuted NothingOpen k = k
    refuted OtherKind k = k
    refuted NotFound k = k
    refuted Memory k = k
    refuted UnknownMark k = k
    refuted NotOneList k = k
