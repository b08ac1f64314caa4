-- Edits of lists, one after the other: what one more makes of the text and of the tree, and why one
-- is refused.
use Rattle.std.proofs.Common.{◌≡◌, ◌≢◌, ℕ, zero, suc, ◌+◌, ◌<◌, ◌≤◌, List, [], ◌∷◌, ◌++◌, length}
use Rattle.std.proofs.Common.{take, drop, get_or, Some, Result, Ok, Err, inl, inr, refl, sym, ◌∙◌}
use Rattle.std.proofs.Common.{ap, subst, arith}
use Rattle.std.proofs.lemmas.Bool.{cases_lt}
use Rattle.std.proofs.lemmas.Str.{IsUtf8-string_bytes}
use Rattle.std.specs.Prelude.{String, string_bytes}
use Rattle.std.specs.Str.{IsUtf8}
use Rattle.rowan_green.specs.declared.fault.Fault.{Fault}
use Rattle.rowan_green.specs.declared.fault.Fault.TheVariants.{TextTooLong, TooManyChildren}
use Rattle.rowan_green.specs.declared.fault.Fault.TheVariants.{CheckpointPast, CheckpointBefore}
use Rattle.rowan_green.specs.declared.fault.Fault.TheVariants.{NothingOpen, NotOneElement, NotANode}
use Rattle.rowan_green.specs.declared.fault.Fault.TheVariants.{OtherKind, NotFound, Memory}
use Rattle.rowan_green.specs.declared.fault.Fault.TheVariants.{UnknownMark, NotOneList}
use Rattle.rowan_green.specs.declared.utility_types.NodeOrToken.TheVariants.{Node}
use Rattle.rowan_green.specs.Fits.{byte_limit, Fits}
use Rattle.rowan_terms.specs.Path.{Path, subterm, range, put}
use Rattle.rowan_green.specs.Span.{Span}
use Rattle.rowan_green.specs.Term.{NodeTerm, node_text}
use Rattle.rowan_green.proofs.Terms.{Fits-len}
use Rattle.rowan_table.specs.Cursor.{Cursor}
use Rattle.rowan_table.specs.Replacement.{with_replacement}
use Rattle.rowan_tool.specs.Ancestors.{IsReparseAt, WhyNoReparseAt}
use Rattle.rowan_sexp.specs.Grammar.{IsParse, IsOneList, IsBalanced}
use Rattle.rowan_tool.specs.Reparse.{IsReparse, WhyNoReparse, Edit, edits_of, edit_text, text_after}
use Rattle.rowan_tool.specs.Reparse.{IsListIn, IsListAt, HasNoList, IsEdit, AreEdits, WhyNoEdit}
use Rattle.rowan_tool.specs.Reparse.{WhyNoEdits}
use Rattle.rowan_tool.proofs.FitLemmas.{parse-fits}
use Rattle.rowan_sexp.proofs.LexedLemmas.{parse-exists}
use Rattle.rowan_tool.proofs.ListReparsed.{list-reparsed}
use Rattle.rowan_tool.proofs.OneListLemmas.{balanced-is-one-list, one-list-is-balanced}
use Rattle.rowan_tool.proofs.ReparseLemmas.{parse-text}

-- ---- one edit

stands-in : (tree : NodeTerm) (span : Span) (c : Cursor) (l : IsListAt tree span c)
    → subterm (Node tree) c.path ≡ Some (Node l.list)
stands-in tree span c l = subst (λ t. subterm (Node t) c.path ≡ Some (Node l.list)) l.root l.stands

lies-in : (tree : NodeTerm) (span : Span) (c : Cursor) → IsListAt tree span c
    → range (Node tree) c.path ≡ span
lies-in tree span c l = ap (λ t. range (Node t) c.path) (sym l.root) ∙ l.lies

-- the list at a cursor is one of the text
list-in : (text : List ℕ) (tree : NodeTerm) (span : Span) (c : Cursor) → IsParse text tree
    → IsListAt tree span c → IsListIn text span
list-in text tree span c h l = record {
  tree = tree;
  parse = h;
  path = c.path;
  list = l.list;
  stands = stands-in tree span c l;
  kind = l.kind;
  lies = lies-in tree span c l;
}

-- the tree with another list at the cursor is that of the edited text
parse-edited : (text new : List ℕ) (tree list n : NodeTerm) (span : Span) (c : Cursor)
    → IsParse text tree → IsListAt tree span c → IsOneList new list
    → Node n ≡ with_replacement c (Node list) → IsParse (edit_text text (span, new)) n
parse-edited text new tree list n span c h l one e =
    subst (λ s. IsParse (edit_text text (s, new)) n) (lies-in tree span c l)
    (list-reparsed text new tree list n c.path (Node l.list) h (stands-in tree span c l) l.kind one
    (e ∙ ap (λ t. put (Node t) c.path (Node list)) l.root))

-- the edit is made, and the tree is that of the edited text
edit-made : (text new : List ℕ) (tree n : NodeTerm) (span : Span) (c : Cursor) → IsParse text tree
    → IsListAt tree span c → IsReparse c new n
    → IsEdit text (span, new) × IsParse (edit_text text (span, new)) n
edit-made text new tree n span c h l r =
    let parse = parse-edited text new tree r.list n span c h l r.one r.replacement.root in (
      record {
        old = list-in text tree span c h l;
        new = one-list-is-balanced new r.list r.one;
        fits = omega (
          arith,
          Fits-len (Node n) r.replacement.fits,
          ap length (parse-text (edit_text text (span, new)) n parse),
        );
      },
      parse,
    )

-- a node with another one at a path is a node
put-is-node : (tree list : NodeTerm) (q : Path)
    → (n : NodeTerm) × (Node n ≡ put (Node tree) q (Node list))
put-is-node tree list [] = (list, refl)
put-is-node tree list (i ∷ p) = (_, refl)

-- where the edited text is not too long, the new tree is within the limits
edited-fits : (text new : List ℕ) (tree list : NodeTerm) (span : Span) (c : Cursor)
    → IsParse text tree → IsListAt tree span c → IsOneList new list
    → length (edit_text text (span, new)) ≤ byte_limit → Fits (with_replacement c (Node list))
edited-fits text new tree list span c h l one limit =
    let n = put-is-node c.root list c.path in
    subst Fits n.1 (parse-fits (edit_text text (span, new)) n.0
    (parse-edited text new tree list n.0 span c h l one n.1) limit)

-- a balanced text is that of a list
one-list : (new : List ℕ) → IsUtf8 new → IsBalanced new → (list : NodeTerm) × IsOneList new list
one-list new utf8 b =
    let tree = parse-exists new utf8 in
    let list = balanced-is-one-list new tree.0 tree.1 b in (list.0, list.2)

edit-refused : (text new : List ℕ) (tree : NodeTerm) (span : Span) (c : Cursor) (e : Fault)
    → IsParse text tree → IsListAt tree span c → IsUtf8 new → WhyNoReparse c new e → e ≢ Memory
    → WhyNoEdit text (span, new) e
edit-refused text new tree span c NotOneList h l utf8 why other =
    (list-in text tree span c h l, why)
edit-refused text new tree span c TextTooLong h l utf8 why other = (
  list-in text tree span c h l,
  why.0,
  (
      let one = one-list new utf8 why.0 in
      elim (cases_lt byte_limit (length (edit_text text (span, new)))) [
        | inl past ↦ past
        | inr within ↦ absurd (why.1 one.0 one.1
            (edited-fits text new tree one.0 span c h l one.1 within))
      ]
      ),
)
edit-refused text new tree span c Memory h l utf8 why other = absurd (other refl)
edit-refused text new tree span c TooManyChildren h l utf8 why other = absurd why
edit-refused text new tree span c CheckpointPast h l utf8 why other = absurd why
edit-refused text new tree span c CheckpointBefore h l utf8 why other = absurd why
edit-refused text new tree span c NothingOpen h l utf8 why other = absurd why
edit-refused text new tree span c NotOneElement h l utf8 why other = absurd why
edit-refused text new tree span c NotANode h l utf8 why other = absurd why
edit-refused text new tree span c OtherKind h l utf8 why other = absurd why
edit-refused text new tree span c NotFound h l utf8 why other = absurd why
edit-refused text new tree span c UnknownMark h l utf8 why other = absurd why

-- ---- one more edit

after-more : (text : List ℕ) (edits : List Edit) (edit : Edit)
    → text_after text (edits ++ edit ∷ []) ≡ edit_text (text_after text edits) edit
after-more text [] edit = refl
after-more text (e ∷ edits) edit = after-more (edit_text text e) edits edit

edits-more : (text : List ℕ) (edits : List Edit) (edit : Edit) → AreEdits text edits
    → IsEdit (text_after text edits) edit → AreEdits text (edits ++ edit ∷ [])
edits-more text [] edit h more = (more, tt)
edits-more text (e ∷ edits) edit h more = (h.0, edits-more (edit_text text e) edits edit h.1 more)

-- the tree is that of the text after these edits
pub record IsEdited (text : List ℕ) (edits : List Edit) (tree : NodeTerm) : Type 0 where
  pub made : AreEdits text edits
  pub parse : IsParse (text_after text edits) tree

edited-more : (text : List ℕ) (edits : List Edit) (span : Span) (new : List ℕ) (tree n : NodeTerm)
    (c : Cursor) → IsEdited text edits tree → IsListAt tree span c → IsReparse c new n
    → IsEdited text (edits ++ (span, new) ∷ []) n
edited-more text edits span new tree n c h l r =
    let more = edit-made (text_after text edits) new tree n span c h.parse l r in
    record {
      made = edits-more text edits (span, new) h.made more.0;
      parse = subst (λ t. IsParse t n) (sym (after-more text edits (span, new))) more.1;
    }

-- ---- edits as they are given

abbrev edit_of : {Z : Type 0} → Span × String Z → Edit
edit_of given = (given.0, string_bytes given.1)

-- the edits up to one of them, and what is behind it
record IsNext {Z : Type 0} (given : List (Span × String Z)) (i : ℕ)
    (x : Span × String Z) : Type 0 where
  next : take (suc i) (edits_of given) ≡ take i (edits_of given) ++ edit_of x ∷ []
  all : edits_of given ≡ take i (edits_of given) ++ edit_of x ∷ drop (suc i) (edits_of given)

next-edit : {Z : Type 0} (given : List (Span × String Z)) (i : ℕ) (x : Span × String Z)
    → i < length given → x ≡ get_or given i x → IsNext given i x
next-edit [] i x h e = absurd (omega (arith, h))
next-edit (y ∷ given) zero x h e = record {
  next = ap (λ z. edit_of z ∷ []) (sym e);
  all = ap (λ z. edit_of z ∷ edits_of given) (sym e);
}
next-edit (y ∷ given) (suc i) x h e =
    let r = next-edit given i x (omega (arith, h)) e in
    record { next = ap (λ es. edit_of y ∷ es) r.next; all = ap (λ es. edit_of y ∷ es) r.all }

pub edited-next : {Z : Type 0} (text : List ℕ) (given : List (Span × String Z)) (i : ℕ)
    (x : Span × String Z) (new : List ℕ) (tree n : NodeTerm) → i < length given
    → x ≡ get_or given i x → new ≡ string_bytes x.1
    → IsEdited text (take i (edits_of given)) tree → IsReparseAt tree x.0 new n
    → IsEdited text (take (i + 1) (edits_of given)) n
edited-next text given i x new tree n here is spelt h r =
    let more = edited-more text (take i (edits_of given)) x.0 new tree n r.list h r.at r.reparse in
    let same : (take i (edits_of given) ++ (x.0, new) ∷ []) ≡ take (suc i) (edits_of given) =
    ap (λ bs. take i (edits_of given) ++ (x.0, bs) ∷ []) spelt
    ∙ sym (next-edit given i x here is).next in
    let one : suc i ≡ i + 1 = omega arith in
    subst (λ es. IsEdited text es n) (same ∙ ap (λ k. take k (edits_of given)) one) more

take-edits : {Z : Type 0} (given : List (Span × String Z)) (i : ℕ) → length given ≤ i
    → take i (edits_of given) ≡ edits_of given
take-edits [] zero h = refl
take-edits [] (suc i) h = refl
take-edits (y ∷ given) zero h = absurd (omega (arith, h))
take-edits (y ∷ given) (suc i) h = ap (λ es. edit_of y ∷ es) (take-edits given i (omega (arith, h)))

-- all are made
pub edited-text : {Z : Type 0} (text : List ℕ) (given : List (Span × String Z)) (i : ℕ)
    (tree : NodeTerm) → length given ≤ i → IsEdited text (take i (edits_of given)) tree
    → node_text tree ≡ text_after text (edits_of given)
edited-text text given i tree h made =
    parse-text (text_after text (take i (edits_of given))) tree made.parse
    ∙ ap (text_after text) (take-edits given i h)

-- ---- the next edit is refused

refused-next : {Z : Type 0} (text : List ℕ) (given : List (Span × String Z)) (i : ℕ)
    (x : Span × String Z) (tree : NodeTerm) (e : Fault) → length text ≤ byte_limit
    → i < length given → x ≡ get_or given i x
    → IsEdited text (take i (edits_of given)) tree
    → WhyNoEdit (text_after text (take i (edits_of given))) (edit_of x) e
    → WhyNoEdits text (edits_of given) e
refused-next text given i x tree e limit here is h why = inr (
  limit,
  record {
    before = take i (edits_of given);
    edit = edit_of x;
    after = drop (suc i) (edits_of given);
    parts = (next-edit given i x here is).all;
    made = h.made;
    why = why;
  },
)

-- since no list has the range
refused-range : {Z : Type 0} (text : List ℕ) (given : List (Span × String Z)) (i : ℕ)
    (x : Span × String Z) (tree : NodeTerm) (e : Fault) → length text ≤ byte_limit
    → i < length given → x ≡ get_or given i x
    → IsEdited text (take i (edits_of given)) tree → HasNoList tree x.0 e
    → WhyNoEdits text (edits_of given) e
refused-range text given i x tree e limit here is h none =
    let before = text_after text (take i (edits_of given)) in
    refused-next text given i x tree e limit here is h
    (subst (WhyNoEdit before (edit_of x)) (sym none.0) (none.1 before h.parse))

-- since the list is not parsed anew
refused-list : {Z : Type 0} (text : List ℕ) (given : List (Span × String Z)) (i : ℕ)
    (x : Span × String Z) (new : List ℕ) (tree : NodeTerm) (c : Cursor) (e : Fault)
    → length text ≤ byte_limit → i < length given → x ≡ get_or given i x → new ≡ string_bytes x.1
    → IsEdited text (take i (edits_of given)) tree → IsListAt tree x.0 c → WhyNoReparse c new e
    → e ≢ Memory → WhyNoEdits text (edits_of given) e
refused-list text given i x new tree c e limit here is spelt h l why other =
    refused-next text given i x tree e limit here is h
    (edit-refused (text_after text (take i (edits_of given)))
    (string_bytes x.1) tree x.0 c e h.parse l (IsUtf8-string_bytes x.1)
    (subst (λ bs. WhyNoReparse c bs e) spelt why) other)

pub refused-edit : {Z : Type 0} (text : List ℕ) (given : List (Span × String Z)) (i : ℕ)
    (x : Span × String Z) (new : List ℕ) (tree : NodeTerm) (e : Fault) → length text ≤ byte_limit
    → i < length given → x ≡ get_or given i x → new ≡ string_bytes x.1
    → IsEdited text (take i (edits_of given)) tree → WhyNoReparseAt tree x.0 new e → e ≢ Memory
    → WhyNoEdits text (edits_of given) e
refused-edit text given i x new tree e limit here is spelt h why other = elim (why other) [
  | inl none ↦ refused-range text given i x tree e limit here is h none
  | inr l ↦ refused-list text given i x new tree l.0 e limit here is spelt h l.1 l.2 other
]

-- a text that is accepted is within the limit
pub accepted-within : {X : Type 0} (r : Result X Fault) (x : X) (text : List ℕ) → r ≡ Ok x
    → (byte_limit < length text → r ≡ Err TextTooLong) → length text ≤ byte_limit
accepted-within r x text ok refused = elim (cases_lt byte_limit (length text)) [
  | inl past ↦ absurd (let wrong : Ok x ≡ Err TextTooLong = sym ok ∙ refused past in cc)
  | inr within ↦ within
]
