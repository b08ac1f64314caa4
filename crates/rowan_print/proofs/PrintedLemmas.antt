-- Printed lines: what is still to be written of open nodes, when one of them has written the line
-- of its next child.
use Rattle.std.proofs.Common.{◌≡◌, ℕ, zero, suc, ◌+◌, ◌*◌, ◌<◌, ◌≤◌, List, [], ◌∷◌, ◌++◌, length}
use Rattle.std.proofs.Common.{drop, codes, Bool, true, false, not, true≢false, Some, Result, Ok}
use Rattle.std.proofs.Common.{Err, refl, sym, ◌∙◌, ap, subst, arith, append_assoc, length-append}
use Rattle.std.specs.Prelude.{slice_get, replicate, OnOk}
use Rattle.std.specs.Bool.{if◌then◌else◌}
use Rattle.std.specs.List.{AllByRecursion}
use Rattle.std.proofs.lemmas.List.{append-nil}
use Rattle.rowan_green.specs.declared.utility_types.NodeOrToken.TheVariants.{Node, Token}
use Rattle.rowan_green.specs.Fits.{byte_limit}
use Rattle.rowan_green.specs.Term.{TokenTerm, NodeTerm, node, Forest, empty, node_then, token_then}
use Rattle.rowan_green.specs.Term.{Term, terms, node_children, node_len, term_len}
use Rattle.rowan_terms.specs.Path.{len_of}
use Rattle.rowan_green.specs.Search.{child_start}
use Rattle.rowan_green.specs.Sizes.{terms_size}
use Rattle.rowan_green.proofs.Drops.{terms_size-node_children}
use Rattle.rowan_green.proofs.SearchLemmas.{child_start-le_all}
use Rattle.rowan_green.proofs.Terms.{node_len-children}
use Rattle.rowan_table.proofs.PathLemmas.{child_start-next}
use Rattle.rowan_print.specs.declared.open_node.OpenNode.{OpenNode}
use Rattle.rowan_print.specs.Opened.{children_left, next_start, HasNext, Passes, AreLinesFrom}
use Rattle.rowan_print.specs.Opened.{AreLeftLines, AreOpenLines, Completes, open_size, IsWithin}
use Rattle.rowan_print.specs.Printed.{node_line, line_at, Adds, AreForestLines, AreNodeLines}
use Rattle.rowan_print.specs.Printed.{AreTermLines, IsTokenLine}

-- ---- the next child

drop-there : (ts : List Term) (i : ℕ) (t : Term) → slice_get ts i ≡ Some t
    → drop i ts ≡ t ∷ drop (suc i) ts
drop-there [] i t h = absurd cc
drop-there (s ∷ ts) zero t h = cc
drop-there (s ∷ ts) (suc i) t h = drop-there ts i t h

there-below : (ts : List Term) (i : ℕ) (t : Term) → slice_get ts i ≡ Some t → i < length ts
there-below [] i t h = absurd cc
there-below (s ∷ ts) zero t h = omega arith
there-below (s ∷ ts) (suc i) t h = omega (arith, there-below ts i t h)

pub drop-past : (ts : List Term) (i : ℕ) → length ts ≤ i → drop i ts ≡ []
drop-past [] zero h = refl
drop-past [] (suc i) h = refl
drop-past (t ∷ ts) zero h = absurd (omega arith)
drop-past (t ∷ ts) (suc i) h = drop-past ts i (omega arith)

pub left-passes : (p q : OpenNode) (t : Term) → HasNext p t → Passes p q
    → children_left p ≡ t ∷ children_left q
left-passes p q t n f =
    let ts = node_children p.green.now in
    let one : suc p.next ≡ q.next = omega (arith, f.next) in
    drop-there ts p.next t n.child ∙ ap (λ i. t ∷ drop i ts) one
    ∙ ap (λ m. t ∷ drop q.next (node_children m)) (sym f.green)

-- the child behind it starts where this one ends
pub start-passes : (p q : OpenNode) (t : Term) → HasNext p t → Passes p q
    → next_start p + term_len t ≡ next_start q
start-passes p q t n f =
    let ts = node_children p.green.now in
    let step = child_start-next ts p.next (there-below ts p.next t n.child) in
    let at : child_start ts q.next ≡ child_start (node_children q.green.now) q.next =
    ap (λ m. child_start (node_children m) q.next) (sym f.green) in
    omega (arith, step, ap len_of n.child, ap (child_start ts) f.next, at, f.start)

-- a child ends within its parent
pub child-within : (p : OpenNode) (t : Term) → IsWithin p
    → slice_get (node_children p.green.now) p.next ≡ Some t → next_start p + term_len t ≤ byte_limit
child-within p t w there =
    let ts = node_children p.green.now in
    let step = child_start-next ts p.next (there-below ts p.next t there) in
    omega (
      arith,
      w,
      step,
      ap len_of there,
      child_start-le_all ts (p.next + 1),
      node_len-children p.green.now,
    )

-- ---- lines

lines-forest : (name : ℕ → List ℕ) (start level : ℕ) (f : Forest) (lines : List ℕ)
    → AreLinesFrom name start level (terms f) lines → AreForestLines name start level f lines
lines-forest name start level empty lines h = h
lines-forest name start level (node_then n f) lines h =
    (h.0, h.1, h.2, lines-forest name (start + node_len n) level f h.1 h.3, h.4)
lines-forest name start level (token_then t f) lines h =
    let own = h.2 in (
      own.0,
      h.1,
      own.1,
      lines-forest name (start + length t.text) level f h.1 h.3,
      h.4 ∙ ap (λ us. us ++ h.1) own.2,
    )

-- a node's own line, and those of its children
lines-node : (name : ℕ → List ℕ) (start level : ℕ) (n : NodeTerm) (below : List ℕ)
    → AreLinesFrom name start (level + 1) (node_children n) below
    → AreNodeLines name start level n (line_at level (node_line name start n) ++ below)
lines-node name start level (node k f) below h =
    (below, lines-forest name start (level + 1) f below h, refl)

left_lines-passes : (name : ℕ → List ℕ) (level : ℕ) (p q : OpenNode) (t : Term) (own rest : List ℕ)
    → HasNext p t → Passes p q → AreTermLines name (next_start p) level t own
    → AreLeftLines name level q rest → AreLeftLines name level p (own ++ rest)
left_lines-passes name level p q t own rest n f first behind =
    let here = subst (λ at. AreLinesFrom name at level (children_left q) rest)
    (sym (start-passes p q t n f)) behind in
    subst (λ ts. AreLinesFrom name (next_start p) level ts (own ++ rest))
    (sym (left-passes p q t n f))
    (own, rest, first, here, refl)

-- the lines of the last of the nodes that are open come first
open_lines-pop : (name : ℕ → List ℕ) (level : ℕ) (ns : List OpenNode) (n : OpenNode)
    (lines : List ℕ)
    → AreOpenLines name level (ns ++ n ∷ []) lines
    → (inner : List ℕ) × (outer : List ℕ) × AreLeftLines name (level + length ns) n inner
    × AreOpenLines name level ns outer × (lines ≡ inner ++ outer)
open_lines-pop name level [] n lines h =
    let same : level ≡ level + 0 = omega arith in (
      h.1,
      [],
      subst (λ l. AreLeftLines name l n h.1) same h.3,
      refl,
      h.4 ∙ ap (λ us. us ++ h.1) h.2 ∙ sym (append-nil h.1),
    )
open_lines-pop name level (m ∷ ns) n lines h =
    let k = open_lines-pop name (level + 1) ns n h.0 h.2 in
    let deeper : level + 1 + length ns ≡ level + length (m ∷ ns) = omega arith in (
      k.0,
      k.1 ++ h.1,
      subst (λ l. AreLeftLines name l n k.0) deeper k.2,
      (k.1, h.1, k.3, h.3, refl),
      h.4 ∙ ap (λ us. us ++ h.1) k.4 ∙ append_assoc k.0 k.1 h.1,
    )

open_lines-push : (name : ℕ → List ℕ) (level : ℕ) (ns : List OpenNode) (n : OpenNode)
    (inner outer : List ℕ)
    → AreLeftLines name (level + length ns) n inner → AreOpenLines name level ns outer
    → AreOpenLines name level (ns ++ n ∷ []) (inner ++ outer)
open_lines-push name level [] n inner outer a b =
    let same : level + 0 ≡ level = omega arith in (
      [],
      inner,
      refl,
      subst (λ l. AreLeftLines name l n inner) same a,
      ap (λ us. inner ++ us) b ∙ append-nil inner,
    )
open_lines-push name level (m ∷ ns) n inner outer a b =
    let deeper : level + length (m ∷ ns) ≡ level + 1 + length ns = omega arith in
    let own = subst (λ l. AreLeftLines name l n inner) deeper a in (
      inner ++ b.0,
      b.1,
      open_lines-push name (level + 1) ns n inner b.0 own b.2,
      b.3,
      ap (λ us. inner ++ us) b.4 ∙ sym (append_assoc inner b.0 b.1),
    )

-- a node that has no child left leaves no line
pub lines-closed : (name : ℕ → List ℕ) (ns : List OpenNode) (p : OpenNode) (so_far whole : List ℕ)
    → children_left p ≡ [] → Completes name so_far ns whole
    → Completes name so_far (ns ++ p ∷ []) whole
lines-closed name ns p so_far whole none h =
    let level = 1 + length ns in
    let own = subst (λ ts. AreLinesFrom name (next_start p) level ts []) (sym none) refl in
    (h.0, open_lines-push name 1 ns p [] h.0 own h.1, h.2)

-- a line behind a newline and its spaces
line-behind : (bs spaces line inner outer : List ℕ)
    → ((bs ++ codes "\n" ++ spaces) ++ line) ++ codes "\n" ++ (inner ++ outer)
    ≡ bs ++ codes "\n" ++ (((spaces ++ line ++ codes "\n") ++ inner) ++ outer)
line-behind bs spaces line inner outer = simp append_assoc

-- a node that is open from now on has the lines of all its children left
pub entered : (r : OpenNode) (n : NodeTerm) → r.green.now ≡ n → r.next ≡ 0
    → children_left r ≡ node_children n
entered r n green next = ap (λ i. drop i (node_children r.green.now)) next ∙ ap node_children green

pub starts-entered : (r : OpenNode) (start : ℕ) → r.start ≡ start → r.next ≡ 0
    → next_start r ≡ start
starts-entered r start at next = omega
    (arith, at, ap (child_start (node_children r.green.now)) next)

left_lines-entered : (name : ℕ → List ℕ) (start level : ℕ) (r : OpenNode) (n : NodeTerm)
    (lines : List ℕ)
    → r.green.now ≡ n → r.start ≡ start → r.next ≡ 0
    → AreLeftLines name level r lines → AreLinesFrom name start level (node_children n) lines
left_lines-entered name start level r n lines green at next h =
    subst (λ ts. AreLinesFrom name start level ts lines) (entered r n green next)
    (subst (λ s. AreLinesFrom name s level (children_left r) lines)
    (starts-entered r start at next) h)

-- the line of the root was written, which is open from now on
pub root-written : (name : ℕ → List ℕ) (start : ℕ) (root : NodeTerm) (r : OpenNode)
    (items : List OpenNode)
    → (text whole : List ℕ) → r.green.now ≡ root → r.start ≡ start → r.next ≡ 0 → items ≡ r ∷ []
    → text ≡ node_line name start root → Completes name text items whole
    → AreNodeLines name start 0 root whole
root-written name start root r items text whole green at next list wrote h =
    let line = node_line name start root in
    let k = open_lines-pop name 1 [] r h.0 (subst (λ ms. AreOpenLines name 1 ms h.0) list h.1) in
    let below = left_lines-entered name start 1 r root k.0 green at next k.2 in
    let is : whole ≡ (line ++ codes "\n") ++ k.0 =
    h.2 ∙ ap (λ us. us ++ codes "\n" ++ h.0) wrote
    ∙ ap (λ us. line ++ codes "\n" ++ us) (k.4 ∙ ap (λ us. k.0 ++ us) k.3 ∙ append-nil k.0) in
    subst (AreNodeLines name start 0 root) (sym is) (lines-node name start 0 root k.0 below)

-- all was written
pub none-left : (name : ℕ → List ℕ) (text : List ℕ) (items : List OpenNode)
    → items ≡ [] → Completes name text items (text ++ codes "\n")
none-left name text items none = (
  [],
  subst (λ ms. AreOpenLines name 1 ms []) (sym none) refl,
  sym (append-nil (text ++ codes "\n")),
)

-- the line of a token was written
pub token-written : (name : ℕ → List ℕ) (ns : List OpenNode) (p q : OpenNode) (t : TokenTerm)
    → (bs begun new whole : List ℕ) (level at : ℕ) (items : List OpenNode) → HasNext p (Token t)
    → Passes p q
    → items ≡ ns ++ q ∷ [] → level ≡ 1 + length ns → at ≡ next_start p
    → begun ≡ bs ++ codes "\n" ++ replicate (2 * level) 32 → Adds (IsTokenLine name at t) begun new
    → Completes name new items whole → Completes name bs (ns ++ p ∷ []) whole
token-written name ns p q t bs begun new whole level at items has passes list deep starts begins
    wrote h =
    let here = 1 + length ns in
    let line = wrote.0 in
    let k = open_lines-pop name 1 ns q h.0 (subst (λ ms. AreOpenLines name 1 ms h.0) list h.1) in
    let own : AreTermLines name (next_start p) here (Token t) (line_at here line) =
    (line, subst (λ s. IsTokenLine name s t line) starts wrote.1, refl) in
    let behind = left_lines-passes name here p q (Token t)
    (line_at here line) k.0 has passes own k.2 in
    let spaces : begun ≡ bs ++ codes "\n" ++ replicate (2 * here) 32 = begins
    ∙ ap (λ l. bs ++ codes "\n" ++ replicate (2 * l) 32) deep in (
      (line_at here line ++ k.0) ++ k.1,
      open_lines-push name 1 ns p (line_at here line ++ k.0) k.1 behind k.3,
      h.2 ∙ ap (λ us. us ++ codes "\n" ++ h.0) (wrote.2 ∙ ap (λ us. us ++ line) spaces)
          ∙ ap (λ us. ((bs ++ codes "\n" ++ replicate (2 * here) 32) ++ line) ++ codes "\n" ++ us)
          k.4
          ∙ line-behind bs (replicate (2 * here) 32) line k.0 k.1,
    )

-- the own line of a node was written, which is open from now on
pub node-written : (name : ℕ → List ℕ) (ns : List OpenNode) (p q r : OpenNode) (n : NodeTerm)
    → (bs begun new whole : List ℕ) (level at : ℕ) (items : List OpenNode) → HasNext p (Node n)
    → Passes p q
    → r.green.now ≡ n → r.start ≡ at → r.next ≡ 0 → items ≡ (ns ++ q ∷ []) ++ r ∷ []
    → level ≡ 1 + length ns → at ≡ next_start p
    → begun ≡ bs ++ codes "\n" ++ replicate (2 * level) 32
    → new ≡ begun ++ node_line name at n → Completes name new items whole
    → Completes name bs (ns ++ p ∷ []) whole
node-written name ns p q r n bs begun new whole level at items has passes green starts next list
    deep here_too begins wrote h =
    let here = 1 + length ns in
    let from = next_start p in
    let line = node_line name from n in
    let k = open_lines-pop name 1 (ns ++ q ∷ []) r h.0
    (subst (λ ms. AreOpenLines name 1 ms h.0) list h.1) in
    let m = open_lines-pop name 1 ns q k.1 k.3 in
    let deeper : 1 + length (ns ++ q ∷ []) ≡ here + 1 = omega (arith, length-append ns (q ∷ [])) in
    let inner = subst (λ l. AreLeftLines name l r k.0) deeper k.2 in
    let below = left_lines-entered name from (here + 1) r n k.0 green
    (starts ∙ here_too) next inner in
    let own = line_at here line ++ k.0 in
    let behind = left_lines-passes name here p q (Node n) own m.0 has passes
    (lines-node name from here n k.0 below) m.2 in
    let spaces : begun ≡ bs ++ codes "\n" ++ replicate (2 * here) 32 = begins
    ∙ ap (λ l. bs ++ codes "\n" ++ replicate (2 * l) 32) deep in
    let begin = (bs ++ codes "\n" ++ replicate (2 * here) 32) ++ line in (
      (own ++ m.0) ++ m.1,
      open_lines-push name 1 ns p (own ++ m.0) m.1 behind m.3,
      h.2 ∙ ap (λ us. us ++ codes "\n" ++ h.0)
          (wrote ∙ ap (λ us. us ++ node_line name at n) spaces
          ∙ ap (λ s. (bs ++ codes "\n" ++ replicate (2 * here) 32) ++ node_line name s n) here_too)
          ∙ ap (λ us. begin ++ codes "\n" ++ us)
          (k.4 ∙ ap (λ us. k.0 ++ us) m.4 ∙ sym (append_assoc k.0 m.0 m.1))
          ∙ line-behind bs (replicate (2 * here) 32) line (k.0 ++ m.0) m.1
          ∙ ap (λ us. bs ++ codes "\n" ++ (us ++ m.1))
          (sym (append_assoc (line_at here line) k.0 m.0)),
    )

-- ---- lists of open nodes

pub none-open : (ns : List OpenNode) → length ns ≡ 0 → ns ≡ []
none-open [] h = refl
none-open (n ∷ ns) h = absurd (omega arith)

-- a node was put to the list
pub pushed : (err ok : Bool) (old new : List OpenNode) (n : OpenNode) → err ≡ false → ok ≡ not err
    → new ≡ (if ok then old ++ n ∷ [] else old) → new ≡ old ++ n ∷ []
pushed false true old new n h e x = x
pushed false false old new n h e x = absurd (true≢false (sym e))
pushed true ok old new n h e x = absurd (true≢false h)

pub on_ok : {T E P Q : Type 0} (r : Result T E) → OnOk r P → (P → Q) → OnOk r Q
on_ok (Ok x) h f = f h
on_ok (Err e) h f = tt

pub on_ok_too : {T E P : Type 0} (r : Result T E) → P → OnOk r P
on_ok_too (Ok x) h = h
on_ok_too (Err e) h = tt

pub all-front : (P : OpenNode → Type 0) (ns : List OpenNode) (n : OpenNode)
    → AllByRecursion P (ns ++ n ∷ []) → AllByRecursion P ns
all-front P [] n h = tt
all-front P (m ∷ ns) n h = (h.0, all-front P ns n h.1)

pub all-last : (P : OpenNode → Type 0) (ns : List OpenNode) (n : OpenNode)
    → AllByRecursion P (ns ++ n ∷ []) → P n
all-last P [] n h = h.0
all-last P (m ∷ ns) n h = all-last P ns n h.1

open_size-push : (ns : List OpenNode) (n : OpenNode)
    → open_size (ns ++ n ∷ []) ≡ terms_size (children_left n) + open_size ns + 1
open_size-push [] n = refl
open_size-push (m ∷ ns) n = omega (arith, open_size-push ns n)

pub size-closed : (ns : List OpenNode) (p : OpenNode) → open_size ns < open_size (ns ++ p ∷ [])
size-closed ns p = omega (arith, open_size-push ns p)

pub size-token : (ns : List OpenNode) (p q : OpenNode) (t : TokenTerm) → HasNext p (Token t)
    → Passes p q → open_size (ns ++ q ∷ []) < open_size (ns ++ p ∷ [])
size-token ns p q t h f = omega (
  arith,
  open_size-push ns p,
  open_size-push ns q,
  ap terms_size (left-passes p q (Token t) h f),
)

pub size-node_entered : (ns : List OpenNode) (p q r : OpenNode) (n : NodeTerm) → HasNext p (Node n)
    → Passes p q → r.green.now ≡ n → r.next ≡ 0
    → open_size ((ns ++ q ∷ []) ++ r ∷ []) < open_size (ns ++ p ∷ [])
size-node_entered ns p q r n h f green next =
    omega (
      arith,
      open_size-push ns p,
      open_size-push ns q,
      open_size-push (ns ++ q ∷ []) r,
      ap terms_size (left-passes p q (Node n) h f),
      ap terms_size (entered r n green next),
      terms_size-node_children n,
    )
