-- JSON as it is written: what is still to be written of open nodes, when one of them has written
-- its next child.
use Rattle.std.proofs.Common.{◌≡◌, ℕ, ◌+◌, List, [], ◌∷◌, ◌++◌, decimal, Result, Ok, Err, refl, sym}
use Rattle.std.proofs.Common.{◌∙◌, ap, subst, append_assoc, append-nil}
use Rattle.std.specs.Prelude.{OnOk}
use Rattle.json.specs.Token.{Token as JsonToken, end_array, number}
use Rattle.json.specs.Print.{print}
use Rattle.json.specs.Tree.{json_tokens, items_tokens}
use Rattle.json.specs.Written.{Written, Writes}
use Rattle.serde_json.specs.Data.{Data}
use Rattle.serde_json.specs.View.{items_of}
use Rattle.serde_json.specs.Written.{outline, items_outline, compact_text}
use Rattle.serde_json.proofs.Texts.{print-outline}
use Rattle.rowan_green.specs.declared.utility_types.NodeOrToken.TheVariants.{Node, Token}
use Rattle.rowan_green.specs.Span.{Span}
use Rattle.rowan_green.specs.Term.{TokenTerm, NodeTerm, node, Forest, empty, node_then, token_then}
use Rattle.rowan_green.specs.Term.{Term, terms, node_children, node_kind, node_len, token_len}
use Rattle.rowan_terms.specs.Path.{offset, len_of}
use Rattle.rowan_table.specs.Cursor.{Cursor, StandsAtToken, text_range}
use Rattle.rowan_print.specs.declared.open_node.OpenNode.{OpenNode}
use Rattle.rowan_print.specs.Opened.{children_left, next_start, HasNext, Passes}
use Rattle.rowan_print.specs.Printed.{extent, node_json, forest_json, token_json, token_object}
use Rattle.rowan_print.specs.Printed.{term_json, json_of, tree_json}
use Rattle.rowan_print.specs.Spelled.{Spells, SpellsUpTo, kind_tokens, range_tokens, value_tokens}
use Rattle.rowan_print.specs.Spelled.{values_tokens, begin_tokens, end_tokens, values_from}
use Rattle.rowan_print.specs.Spelled.{left_tokens, open_tokens}
use Rattle.rowan_print.proofs.PrintedLemmas.{left-passes, start-passes, entered, starts-entered}

-- ---- tokens behind one another

pub spells-none : (w : Written) → Spells w w []
spells-none w = (refl, sym (append-nil w.tokens))

pub spells-token : {E : Type 0} (r : Result (Unit {0}) E) (u v w : Written) (ts : List JsonToken)
    (t : JsonToken) → Spells u v ts → Writes r v w t → OnOk r (Spells u w (ts ++ t ∷ []))
spells-token (Ok x) u v w ts t h k =
    (k.room.0 ∙ h.0, k.ok ∙ ap (λ xs. xs ++ t ∷ []) h.1 ∙ append_assoc u.tokens ts (t ∷ []))
spells-token (Err e) u v w ts t h k = tt

pub spells-number : {E : Type 0} (r : Result (Unit {0}) E) (u v w : Written) (ts : List JsonToken)
    (n m : ℕ) → Spells u v ts → n ≡ m → Writes r v w (number (decimal n))
    → OnOk r (Spells u w (ts ++ number (decimal m) ∷ []))
spells-number r u v w ts n m h e k =
    subst (λ i. OnOk r (Spells u w (ts ++ number (decimal i) ∷ []))) e
    (spells-token r u v w ts (number (decimal n)) h k)

-- ---- values

values-items : (ds : List Data) (ts : List JsonToken)
    → values_tokens ds ++ end_array ∷ ts ≡ items_tokens (items_outline (items_of ds)) ++ ts
values-items [] ts = refl
values-items (d ∷ ds) ts =
    let own = json_tokens (outline d) in
    append_assoc own (values_tokens ds) (end_array ∷ ts) ∙ ap (λ us. own ++ us) (values-items ds ts)
    ∙ sym (append_assoc own (items_tokens (items_outline (items_of ds))) ts)

forest-values : (name : ℕ → List ℕ) (start : ℕ) (f : Forest)
    → forest_json name start f ≡ values_from name start (terms f)
forest-values name start empty = refl
forest-values name start (node_then n f) =
    ap (λ ds. node_json name start n ∷ ds) (forest-values name (start + node_len n) f)
forest-values name start (token_then t f) =
    ap (λ ds. token_json name start t ∷ ds) (forest-values name (start + token_len t) f)

-- the value of a node is its beginning, the values of its children, and its end
node-spelled : (name : ℕ → List ℕ) (start : ℕ) (n : NodeTerm)
    → value_tokens (node_json name start n) ≡ begin_tokens
    ++ (values_tokens (values_from name start (node_children n))
    ++ end_tokens (name (node_kind n)) (extent start (node_len n)))
node-spelled name start (node k f) =
    let end = end_tokens (name k) (extent start (node_len (node k f))) in
    sym (ap (λ ds. begin_tokens ++ (values_tokens ds ++ end)) (sym (forest-values name start f))
    ∙ ap (λ us. begin_tokens ++ us) (values-items (forest_json name start f)
    (kind_tokens (name k) ++ range_tokens (extent start (node_len (node k f))))))

-- the text of the tokens of a value
pub print-value : (d : Data) (ts : List JsonToken) → ts ≡ value_tokens d → print ts ≡ compact_text d
print-value d ts h = ap print h ∙ print-outline d

-- the value of a token that stands at a cursor
pub token-there : (name : ℕ → List ℕ) (c : Cursor) (t : TokenTerm) (range : Span)
    → StandsAtToken c t → range ≡ text_range c
    → token_object (name t.kind) range t.text ≡ tree_json name c
token-there name c t range there at =
    let start = offset (Node c.root) c.path in
    ap (λ (s : Span). token_object (name t.kind) s t.text)
    (at ∙ ap (λ o. extent start (len_of o)) there)
    ∙ sym (ap (json_of (term_json name start)) there)

-- ---- open nodes

-- the next child and what is left behind it
left_tokens-passes : (name : ℕ → List ℕ) (p q : OpenNode) (t : Term) → HasNext p t → Passes p q
    → left_tokens name p ≡ value_tokens (term_json name (next_start p) t) ++ left_tokens name q
left_tokens-passes name p q t h f =
    let own = value_tokens (term_json name (next_start p) t) in
    let end = λ (n : NodeTerm) (s : ℕ). end_tokens (name (node_kind n)) (extent s (node_len n)) in
    let others = values_tokens (values_from name (next_start q) (children_left q)) in
    ap (λ ts. values_tokens (values_from name (next_start p) ts) ++ end p.green.now p.start)
    (left-passes p q t h f)
    ∙ ap (λ s. (own ++ values_tokens (values_from name s (children_left q)))
    ++ end p.green.now p.start) (start-passes p q t h f)
    ∙ append_assoc own others (end p.green.now p.start)
    ∙ ap (λ n. own ++ (others ++ end n p.start)) (sym f.green)
    ∙ ap (λ s. own ++ (others ++ end q.green.now s)) (sym f.start)

left_tokens-entered : (name : ℕ → List ℕ) (start : ℕ) (r : OpenNode) (n : NodeTerm)
    → r.green.now ≡ n → r.start ≡ start → r.next ≡ 0
    → left_tokens name r ≡ values_tokens (values_from name start (node_children n))
    ++ end_tokens (name (node_kind n)) (extent start (node_len n))
left_tokens-entered name start r n green at next =
    ap (λ s. values_tokens (values_from name s (children_left r))
    ++ end_tokens (name (node_kind r.green.now)) (extent r.start (node_len r.green.now)))
    (starts-entered r start at next)
    ∙ ap (λ ts. values_tokens (values_from name start ts)
    ++ end_tokens (name (node_kind r.green.now)) (extent r.start (node_len r.green.now)))
    (entered r n green next)
    ∙ ap (λ m. values_tokens (values_from name start (node_children n))
    ++ end_tokens (name (node_kind m)) (extent r.start (node_len m))) green
    ∙ ap (λ s. values_tokens (values_from name start (node_children n))
    ++ end_tokens (name (node_kind n)) (extent s (node_len n))) at

open_tokens-push : (name : ℕ → List ℕ) (ns : List OpenNode) (n : OpenNode)
    → open_tokens name (ns ++ n ∷ []) ≡ left_tokens name n ++ open_tokens name ns
open_tokens-push name [] n = sym (append-nil (left_tokens name n))
open_tokens-push name (m ∷ ns) n =
    ap (λ us. us ++ left_tokens name m) (open_tokens-push name ns n)
    ∙ append_assoc (left_tokens name n) (open_tokens name ns) (left_tokens name m)

-- the end of a node was written that has no child left
pub end-written : (name : ℕ → List ℕ) (ns : List OpenNode) (p : OpenNode) (u v : Written)
    → children_left p ≡ [] → Spells u v
    (end_tokens (name (node_kind p.green.now)) (extent p.start (node_len p.green.now)))
    → SpellsUpTo u v (open_tokens name (ns ++ p ∷ [])) (open_tokens name ns)
end-written name ns p u v none wrote =
    let end = end_tokens (name (node_kind p.green.now)) (extent p.start (node_len p.green.now)) in
    let own : left_tokens name p ≡ end =
    ap (λ ts. values_tokens (values_from name (next_start p) ts) ++ end) none in (
      wrote.0,
      ap (λ ts. ts ++ open_tokens name ns) wrote.1 ∙ append_assoc u.tokens end (open_tokens name ns)
          ∙ ap (λ ts. u.tokens ++ ts) (ap (λ ts. ts ++ open_tokens name ns) (sym own)
          ∙ sym (open_tokens-push name ns p)),
    )

-- a child that is a token was written
pub token-spelled : (name : ℕ → List ℕ) (ns items : List OpenNode) (p q : OpenNode) (t : TokenTerm)
    (u v : Written) (at : ℕ) (range : Span) → HasNext p (Token t) → Passes p q
    → items ≡ ns ++ q ∷ []
    → at ≡ next_start p → range ≡ extent at (token_len t)
    → Spells u v (value_tokens (token_object (name t.kind) range t.text))
    → SpellsUpTo u v (open_tokens name (ns ++ p ∷ [])) (open_tokens name items)
token-spelled name ns items p q t u v at range h f list starts reach wrote =
    let own = value_tokens (token_json name (next_start p) t) in
    let rest = open_tokens name ns in
    let same : value_tokens (token_object (name t.kind) range t.text) ≡ own =
    ap (λ (s : Span). value_tokens (token_object (name t.kind) s t.text))
    (reach ∙ ap (λ s. extent s (token_len t)) starts) in (
      wrote.0,
      ap (λ ms. v.tokens ++ open_tokens name ms) list
          ∙ ap (λ ts. ts ++ open_tokens name (ns ++ q ∷ []))
          (wrote.1 ∙ ap (λ ts. u.tokens ++ ts) same)
          ∙ append_assoc u.tokens own (open_tokens name (ns ++ q ∷ []))
          ∙ ap (λ ts. u.tokens ++ ts)
          (ap (λ ts. own ++ ts) (open_tokens-push name ns q)
          ∙ sym (append_assoc own (left_tokens name q) rest)
          ∙ ap (λ ts. ts ++ rest) (sym (left_tokens-passes name p q (Token t) h f))
          ∙ sym (open_tokens-push name ns p)),
    )

-- a child that is a node was begun, and is open from now on
pub node-begun : (name : ℕ → List ℕ) (ns items : List OpenNode) (p q r : OpenNode) (n : NodeTerm)
    (u v : Written) (at : ℕ) → HasNext p (Node n) → Passes p q → r.green.now ≡ n → r.start ≡ at
    → r.next ≡ 0
    → items ≡ (ns ++ q ∷ []) ++ r ∷ [] → at ≡ next_start p → Spells u v begin_tokens
    → SpellsUpTo u v (open_tokens name (ns ++ p ∷ [])) (open_tokens name items)
node-begun name ns items p q r n u v at h f green begins next list starts wrote =
    let rest = open_tokens name ns in
    let others = left_tokens name q ++ rest in
    let whole : begin_tokens ++ left_tokens name r
    ≡ value_tokens (node_json name (next_start p) n) =
    ap (λ ts. begin_tokens ++ ts) (left_tokens-entered name (next_start p) r n green
    (begins ∙ starts) next) ∙ sym (node-spelled name (next_start p) n) in (
      wrote.0,
      ap (λ ms. v.tokens ++ open_tokens name ms) list
          ∙ ap (λ ts. ts ++ open_tokens name ((ns ++ q ∷ []) ++ r ∷ [])) wrote.1
          ∙ append_assoc u.tokens begin_tokens (open_tokens name ((ns ++ q ∷ []) ++ r ∷ []))
          ∙ ap (λ ts. u.tokens ++ ts)
          (ap (λ ts. begin_tokens ++ ts) (open_tokens-push name (ns ++ q ∷ []) r
          ∙ ap (λ ts. left_tokens name r ++ ts) (open_tokens-push name ns q))
          ∙ sym (append_assoc begin_tokens (left_tokens name r) others)
          ∙ ap (λ ts. ts ++ others) whole
          ∙ sym (append_assoc (value_tokens (node_json name (next_start p) n))
          (left_tokens name q) rest)
          ∙ ap (λ ts. ts ++ rest) (sym (left_tokens-passes name p q (Node n) h f))
          ∙ sym (open_tokens-push name ns p)),
    )

-- a root was begun, and is the only open node
pub root-begun : (name : ℕ → List ℕ) (start : ℕ) (items : List OpenNode) (r : OpenNode)
    (n : NodeTerm) (u v : Written) → r.green.now ≡ n → r.start ≡ start → r.next ≡ 0 → items ≡ r ∷ []
    → u.tokens ≡ [] → Spells u v begin_tokens
    → v.tokens ++ open_tokens name items ≡ value_tokens (node_json name start n)
root-begun name start items r n u v green begins next list new wrote =
    ap (λ ms. v.tokens ++ open_tokens name ms) list
    ∙ ap (λ ts. ts ++ left_tokens name r) (wrote.1 ∙ ap (λ ts. ts ++ begin_tokens) new)
    ∙ ap (λ ts. begin_tokens ++ ts) (left_tokens-entered name start r n green begins next)
    ∙ sym (node-spelled name start n)
