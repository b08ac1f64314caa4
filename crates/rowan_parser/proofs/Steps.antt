-- How what is built changes: with one more token, with one more open node, and with a node closed.
use Rattle.std.proofs.Common.{◌≡◌, ℕ, ◌+◌, ◌-◌, ◌<◌, ◌≤◌, List, [], ◌∷◌, ◌++◌, map, length, take, get_or, refl, sym, ◌∙◌, ap, subst, arith, append-nil}
use Rattle.std.proofs.lemmas.Grind.{flat_map-append}
use Rattle.std.proofs.lemmas.List.{take_more}
use Rattle.rowan_green.specs.declared.utility_types.NodeOrToken.TheVariants.{Node}
use Rattle.rowan_green.specs.declared.utility_types.NodeOrToken.TheVariants as term
use Rattle.rowan_green.specs.Term.{TokenTerm, NodeTerm, Term, node_of, node_kind}
use Rattle.rowan_green.specs.Word.{Symbol, Open, Leaf, Close, Item, Bare, Whole, HasParts, HasTerms, word_text, node_word, Closes}
use Rattle.rowan_terms.proofs.ItemLemmas.{spelled-close}
use Rattle.rowan_builder.proofs.StreamLemmas.{HasTerms-unique}
use Rattle.rowan_builder.proofs.TextLemmas.{text-leaf, text-open, text-closes}
use Rattle.rowan_terms.proofs.Words.{parts-unique, parts-more}
use Rattle.rowan_events.specs.declared.lexer.Token.{Token}
use Rattle.rowan_parser.specs.declared.tree.Progress.{Progress}
use Rattle.rowan_parser.specs.declared.tree.Source.{Source}
use Rattle.rowan_events.specs.Tokens.{token_term, tokens_text}
use Rattle.rowan_parser.specs.Building.{bare_count, IsAhead, IsBuilding, IsBuilt}
use Rattle.rowan_parser.specs.Events.{one_leaf}

pub bare_count-map : (ts : List Term) → bare_count (map Whole ts) ≡ 0
bare_count-map [] = refl
bare_count-map (t ∷ ts) = bare_count-map ts

bare_count-append : (xs ys : List Item) → bare_count (xs ++ ys) ≡ bare_count xs + bare_count ys
bare_count-append [] ys = omega arith
bare_count-append (Bare k ∷ xs) ys = omega (arith, bare_count-append xs ys)
bare_count-append (Whole t ∷ xs) ys = bare_count-append xs ys

-- the root alone
pub IsBuilding-begins : (source : Source) (w : List Symbol) (next : ℕ)
    → w ≡ Open source.root_kind.0 ∷ []
    → IsAhead source 0 next
    → IsBuilding source w (record { put = 0; next = next; depth = 0 })
IsBuilding-begins source w next e ahead = record {
  items = [];
  parts = record { spells = e };
  opened = refl;
  within = omega arith;
  text = ap word_text e;
  ahead = ahead;
}

-- one more open node
pub IsBuilding-opens : (source : Source) (v w : List Symbol) (p : Progress) (m k : ℕ)
    → IsBuilding source v p
    → w ≡ v ++ Open k ∷ []
    → m ≡ p.depth + 1
    → IsBuilding source w (record { put = p.put; next = p.next; depth = m })
IsBuilding-opens source v w p m k h e one = record {
  items = h.items ++ Bare k ∷ [];
  parts = parts-more v w (Open k ∷ []) (Bare source.root_kind.0 ∷ h.items) (Bare k) h.parts e refl;
  opened = omega (arith, one, bare_count-append h.items (Bare k ∷ []), h.opened);
  within = h.within;
  text = text-open v w k e ∙ h.text;
  ahead = h.ahead;
}

pub tokens_text-append : (ts us : List Token) → tokens_text (ts ++ us) ≡ tokens_text ts ++
    tokens_text us
tokens_text-append ts us = flat_map-append (λ (t : Token). t.text.now) ts us

-- one more token
pub IsBuilding-token : (source : Source) (v w : List Symbol) (p : Progress) (t : Token) (next : ℕ)
    → IsBuilding source v p
    → w ≡ v ++ Leaf (token_term t) ∷ []
    → p.put < length source.tokens.now
    → t ≡ get_or source.tokens.now p.put t
    → IsAhead source (p.put + 1) next
    → IsBuilding source w (record { put = p.put + 1; next = next; depth = p.depth })
IsBuilding-token source v w p t next h e some is ahead =
    let ts = source.tokens.now in
    record {
      items = h.items ++ Whole (term.Token (token_term t)) ∷ [];
      parts = parts-more v w (Leaf (token_term t) ∷ []) (Bare source.root_kind.0 ∷ h.items)
          (Whole (term.Token (token_term t))) h.parts e refl;
      opened = omega (
        arith,
        bare_count-append h.items (Whole (term.Token (token_term t)) ∷ []),
        h.opened,
      );
      within = omega (arith, some);
      text =
          text-leaf v w (token_term t) e
          ∙ ap (λ bs. bs ++ t.text.now) h.text
          ∙ ap (λ bs. tokens_text (take p.put ts) ++ bs) (sym (append-nil t.text.now))
          ∙ sym (tokens_text-append (take p.put ts) (t ∷ []))
          ∙ ap tokens_text (ap (λ u. take p.put ts ++ u ∷ []) is ∙ sym (take_more ts p.put t some));
      ahead = ahead;
    }

-- more tokens, as one leaf
pub IsBuilding-joined : (source : Source) (v w : List Symbol) (p : Progress) (kind : ℕ)
    (us : List Token) (put next : ℕ)
    → IsBuilding source v p
    → w ≡ v ++ one_leaf kind us
    → put ≤ length source.tokens.now
    → take put source.tokens.now ≡ take p.put source.tokens.now ++ us
    → IsAhead source put next
    → IsBuilding source w (record { put = put; next = next; depth = p.depth })
IsBuilding-joined source v w p kind [] put next h e within taken ahead =
    let same : w ≡ v = e ∙ append-nil v in
    record {
      items = h.items;
      parts = record { spells = same ∙ h.parts.spells };
      opened = h.opened;
      within = within;
      text =
          ap word_text same
          ∙ h.text
          ∙ ap tokens_text (sym (taken ∙ append-nil (take p.put source.tokens.now)));
      ahead = ahead;
    }
IsBuilding-joined source v w p kind (t ∷ us) put next h e within taken ahead =
    let leaf : TokenTerm = record { kind = kind; text = tokens_text (t ∷ us) } in
    record {
      items = h.items ++ Whole (term.Token leaf) ∷ [];
      parts = parts-more v w (Leaf leaf ∷ []) (Bare source.root_kind.0 ∷ h.items)
          (Whole (term.Token leaf)) h.parts e refl;
      opened = omega (arith, bare_count-append h.items (Whole (term.Token leaf) ∷ []), h.opened);
      within = within;
      text =
          text-leaf v w leaf e
          ∙ ap (λ bs. bs ++ tokens_text (t ∷ us)) h.text
          ∙ sym (tokens_text-append (take p.put source.tokens.now) (t ∷ us))
          ∙ ap tokens_text (sym taken);
      ahead = ahead;
    }

closed_parts : {m : NodeTerm} (v w : List Symbol) (h : Closes v m w) → HasParts w
    (h.before ++ Whole (Node (node_of h.kind h.children)) ∷ [])
closed_parts v w h = record {
  spells = h.closed ∙ ap (λ u. u ++ Close ∷ []) h.parts.spells ∙ sym
      (spelled-close h.before h.kind h.children);
}

-- the innermost open node closed
pub IsBuilding-closes : {m : NodeTerm} (source : Source) (v w : List Symbol) (p : Progress)
    → IsBuilding source v p
    → 0 < p.depth
    → Closes v m w
    → IsBuilding source w (record { put = p.put; next = p.next; depth = p.depth - 1 })
IsBuilding-closes source v w p h some c = from c.before c.kind c.children
    (parts-unique v (Bare source.root_kind.0 ∷ h.items)
    (c.before ++ Bare c.kind ∷ map Whole c.children) h.parts c.parts) (closed_parts v w c)
  where
    from : (before : List Item) (k : ℕ) (us : List Term) → Bare source.root_kind.0 ∷ h.items ≡
        before ++ Bare k ∷ map Whole us → HasParts w (before ++ Whole (Node (node_of k us)) ∷ []) →
        IsBuilding source w (record { put = p.put; next = p.next; depth = p.depth - 1 })
    from [] k us e parts = let same : h.items ≡ map Whole us = cc in absurd
        (omega (arith, some, ap bare_count same, bare_count-map us, h.opened))
    from (b ∷ before) k us e parts =
        let first : b ≡ Bare source.root_kind.0 = cc in
        let same : h.items ≡ before ++ Bare k ∷ map Whole us = cc in
        let node : Term = Node (node_of k us) in
        record {
          items = before ++ Whole node ∷ [];
          parts = subst (λ (x : Item). HasParts w (x ∷ (before ++ Whole node ∷ []))) first parts;
          opened = omega (
            arith,
            bare_count-append before (Whole node ∷ []),
            ap bare_count same,
            bare_count-append before (Bare k ∷ map Whole us),
            bare_count-map us,
            h.opened,
          );
          within = h.within;
          text = text-closes v w c ∙ h.text;
          ahead = h.ahead;
        }

-- the root closed
pub IsBuilt-closes : {m : NodeTerm} (source : Source) (v w : List Symbol) (p : Progress)
    → IsBuilding source v p
    → p.depth ≡ 0
    → Closes v m w
    → IsBuilt source.root_kind.0 w
IsBuilt-closes source v w p h none c = from c.before c.kind c.children
    (parts-unique v (Bare source.root_kind.0 ∷ h.items)
    (c.before ++ Bare c.kind ∷ map Whole c.children) h.parts c.parts) (closed_parts v w c)
  where
    from : (before : List Item) (k : ℕ) (us : List Term) → Bare source.root_kind.0 ∷ h.items ≡
        before ++ Bare k ∷ map Whole us → HasParts w (before ++ Whole (Node (node_of k us)) ∷ []) →
        IsBuilt source.root_kind.0 w
    from [] k us e parts = record { tree = node_of k us; kind = cc; parts = parts }
    from (b ∷ before) k us e parts =
        let same : h.items ≡ before ++ Bare k ∷ map Whole us = cc in
        absurd (omega (
          arith,
          none,
          ap bare_count same,
          bare_count-append before (Bare k ∷ map Whole us),
          h.opened,
        ))

-- ---- what is built

pub IsBuilt-terms : (root : ℕ) (w : List Symbol) (us : List Term) (h : IsBuilt root w) → HasTerms w us
    → us ≡ Node h.tree ∷ []
IsBuilt-terms root w us h k = HasTerms-unique w us (Node h.tree ∷ []) k
    (record { items = Whole (Node h.tree) ∷ []; parts = h.parts; terms = refl })

pub IsBuilt-kind : (root : ℕ) (w : List Symbol) (n : NodeTerm) → IsBuilt root w → HasTerms w
    (Node n ∷ []) → node_kind n ≡ root
IsBuilt-kind root w n h k = let e = IsBuilt-terms root w (Node n ∷ []) h k in let same : n ≡
    h.tree = cc in ap node_kind same ∙ h.kind

-- its word is the node's
pub IsBuilt-word : (root : ℕ) (w : List Symbol) (n : NodeTerm) → IsBuilt root w → HasTerms w
    (Node n ∷ []) → w ≡ node_word n
IsBuilt-word root w n h k =
    let e = IsBuilt-terms root w (Node n ∷ []) h k in
    let same : h.tree ≡ n = cc in
    h.parts.spells ∙ append-nil (node_word h.tree) ∙ ap node_word same
