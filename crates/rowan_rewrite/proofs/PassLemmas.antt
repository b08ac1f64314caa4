-- A pass over the tokens of a tree: into a node, past a token, and back to the node above.
use Rattle.std.proofs.Common.{◌≡◌, ℕ, ◌+◌, List, [], ◌∷◌, ◌++◌, map, length}
use Rattle.std.proofs.Common.{drop, Some, refl, sym, ◌∙◌, ap, subst, arith, append_assoc}
use Rattle.std.specs.Prelude.{slice_get}
use Rattle.rowan_green.specs.declared.fault.Fault.{Fault}
use Rattle.rowan_green.specs.declared.utility_types.NodeOrToken.TheVariants.{Node}
use Rattle.rowan_terms.specs.Path.{Path, subterm_of, subterm, LeafAt, below_place}
use Rattle.rowan_green.specs.Sizes.{terms_size}
use Rattle.rowan_green.specs.Term.{TokenTerm, NodeTerm, Term, node_of, node_kind, node_children}
use Rattle.rowan_green.proofs.Terms.{terms-forest}
use Rattle.rowan_rewrite.specs.declared.rewriting.Rewrite.{Rewrite}
use Rattle.rowan_rewrite.specs.declared.rewriting.draft.Draft.{Draft}
use Rattle.rowan_rewrite.specs.Rewriting.{with_front, HasNodePast}
use Rattle.rowan_rewrite.specs.Drafts.{done, behind, tokens_in, rewritten_list, Led, led, lead_with}
use Rattle.rowan_rewrite.specs.Drafts.{inside_with, tokens_behind, whole, top, AreOpen, work_behind}
use Rattle.rowan_rewrite.specs.Drafts.{leaves_at, leaves_behind, way}

-- ---- the nodes above: one more

pub top-more : (ds : List Draft) (d : Draft) (n : NodeTerm)
    → top (ds ++ d ∷ []) n ≡ top ds d.node.now
top-more [] d n = refl
top-more (e ∷ ds) d n = refl

pub open-more : (ds : List Draft) (d : Draft) (n : NodeTerm) → AreOpen ds d.node.now
    → slice_get (node_children d.node.now) d.next ≡ Some (Node n) → AreOpen (ds ++ d ∷ []) n
open-more [] d n h at = (at, tt)
open-more (c ∷ ds) d n h at = (
  h.0 ∙ ap (λ m. Some (Node m)) (sym (top-more ds d n)),
  open-more ds d n h.1 at,
)

pub open-less : (ds : List Draft) (d : Draft) (n : NodeTerm) → AreOpen (ds ++ d ∷ []) n
    → AreOpen ds d.node.now × (slice_get (node_children d.node.now) d.next ≡ Some (Node n))
open-less [] d n h = (tt, h.0)
open-less (c ∷ ds) d n h = let rest = open-less ds d n h.1 in (
  (h.0 ∙ ap (λ m. Some (Node m)) (top-more ds d n), rest.0),
  rest.1,
)

-- the path of the node below these nodes
pub way-stands : (ds : List Draft) (n : NodeTerm) → AreOpen ds n
    → subterm (Node (top ds n)) (way ds) ≡ Some (Node n)
way-stands [] n h = refl
way-stands (d ∷ ds) n h = ap (λ o. subterm_of o (way ds)) h.0 ∙ way-stands ds n h.1

pub leaves-more : (ds : List Draft) (d : Draft) (inside : List LeafAt)
    → leaves_behind (ds ++ d ∷ []) inside
    ≡ leaves_behind ds (map (below_place d.next) inside ++ leaves_at (d.next + 1) (behind d))
leaves-more [] d inside = refl
leaves-more (c ∷ ds) d inside =
    ap (λ ls. map (below_place c.next) ls ++ leaves_at (c.next + 1) (behind c))
    (leaves-more ds d inside)

-- the first leaf inside
pub leaves-next : (ds : List Draft) (p : Path) (t : TokenTerm) (inside : List LeafAt)
    → leaves_behind ds ((p, t) ∷ inside) ≡ (way ds ++ p, t) ∷ leaves_behind ds inside
leaves-next [] p t inside = refl
leaves-next (c ∷ ds) p t inside =
    ap (λ ls. map (below_place c.next) ls ++ leaves_at (c.next + 1) (behind c))
    (leaves-next ds p t inside)

pub behind-more : (ds : List Draft) (d : Draft) (inside : List TokenTerm)
    → tokens_behind (ds ++ d ∷ []) inside ≡ tokens_behind ds (inside ++ tokens_in (behind d))
behind-more [] d inside = refl
behind-more (c ∷ ds) d inside = ap (λ ts. ts ++ tokens_in (behind c)) (behind-more ds d inside)

pub work-more : (ds : List Draft) (d : Draft)
    → work_behind (ds ++ d ∷ []) ≡ work_behind ds + (terms_size (behind d) + 1)
work-more [] d = omega arith
work-more (c ∷ ds) d = omega (arith, work-more ds d)

-- the node of a draft round another one
abbrev pub round : Draft → (List Rewrite → Led) → List TokenTerm → List Rewrite → Led
round d inner inside answers =
    let child = inner answers in
    led d child.0 (Node child.1 ∷ rewritten_list (behind d) (drop (length inside) answers))

pub whole-more : (ds : List Draft) (d : Draft) (inner : List Rewrite → Led)
    (inside : List TokenTerm) (answers : List Rewrite)
    → whole (ds ++ d ∷ []) inner inside answers
    ≡ whole ds (round d inner inside) (inside ++ tokens_in (behind d)) answers
whole-more [] d inner inside answers = refl
whole-more (c ∷ ds) d inner inside answers =
    let child = whole ds (round d inner inside) (inside ++ tokens_in (behind d)) answers in
    ap (λ (m : Led). led c m.0 (Node m.1 ∷ rewritten_list (behind c)
    (drop (length (tokens_behind (ds ++ d ∷ []) inside)) answers)))
    (whole-more ds d inner inside answers)
    ∙ ap (λ (ts : List TokenTerm). led c child.0 (Node child.1
    ∷ rewritten_list (behind c) (drop (length ts) answers))) (behind-more ds d inside)

-- the same tree inside
pub whole-same : (ds : List Draft) (inner other : List Rewrite → Led) (inside : List TokenTerm)
    (answers : List Rewrite) → inner answers ≡ other answers
    → whole ds inner inside answers ≡ whole ds other inside answers
whole-same [] inner other inside answers h = h
whole-same (c ∷ ds) inner other inside answers h =
    ap (λ (m : Led). led c m.0 (Node m.1 ∷ rewritten_list (behind c)
    (drop (length (tokens_behind ds inside)) answers))) (whole-same ds inner other inside answers h)

-- the first token inside has its turn
pub behind-next : (ds : List Draft) (t : TokenTerm) (inside : List TokenTerm)
    → tokens_behind ds (t ∷ inside) ≡ t ∷ tokens_behind ds inside
behind-next [] t inside = refl
behind-next (c ∷ ds) t inside = ap (λ ts. ts ++ tokens_in (behind c)) (behind-next ds t inside)

pub whole-next : (ds : List Draft) (inner other : List Rewrite → Led) (t : TokenTerm)
    (inside : List TokenTerm) (a : Rewrite) (more : List Rewrite) → inner (a ∷ more) ≡ other more
    → whole ds inner (t ∷ inside) (a ∷ more) ≡ whole ds other inside more
whole-next [] inner other t inside a more h = h
whole-next (c ∷ ds) inner other t inside a more h =
    let child = whole ds inner (t ∷ inside) (a ∷ more) in
    ap (λ (ts : List TokenTerm). led c child.0 (Node child.1
    ∷ rewritten_list (behind c) (drop (length ts) (a ∷ more)))) (behind-next ds t inside)
    ∙ ap (λ (m : Led). led c m.0 (Node m.1 ∷ rewritten_list (behind c)
    (drop (length (tokens_behind ds inside)) more))) (whole-next ds inner other t inside a more h)

-- ---- where a node of the new tree stands

get-middle : (ts us : List Term) (t : Term) → slice_get (ts ++ t ∷ us) (length ts) ≡ Some t
get-middle [] us t = refl
get-middle (x ∷ ts) us t = get-middle ts us t

-- a node that passes a limit, below another one
past-child : (k : ℕ) (ts us : List Term) (m : NodeTerm) (fault : Fault) → HasNodePast m fault
    → HasNodePast (node_of k (ts ++ Node m ∷ us)) fault
past-child k ts us m fault h = record {
  path = length ts ∷ h.path;
  node = h.node;
  stands = ap (λ cs. subterm_of (slice_get cs (length ts)) h.path)
      (terms-forest (ts ++ Node m ∷ us))
      ∙ ap (λ o. subterm_of o h.path) (get-middle ts us (Node m)) ∙ h.stands;
  passes = h.passes;
}

past-led : (d : Draft) (new us : List Term) (m : NodeTerm) (fault : Fault) → HasNodePast m fault
    → HasNodePast (led d new (Node m ∷ us)).1 fault
past-led d new us m fault h =
    subst (λ ts. HasNodePast (node_of (node_kind d.node.now) ts) fault)
    (append_assoc (done d) (inside_with d new) (Node m ∷ us))
    (past-child (node_kind d.node.now) (done d ++ inside_with d new) us m fault h)

past-whole : (ds : List Draft) (inner : List Rewrite → Led) (inside : List TokenTerm)
    (answers : List Rewrite) (fault : Fault) → HasNodePast (inner answers).1 fault
    → HasNodePast (whole ds inner inside answers).1 fault
past-whole [] inner inside answers fault h = h
past-whole (c ∷ ds) inner inside answers fault h =
    let child = whole ds inner inside answers in
    past-led c child.0
    (rewritten_list (behind c) (drop (length (tokens_behind ds inside)) answers)) child.1 fault
    (past-whole ds inner inside answers fault h)

-- below the root, also once it has what it leads with
past-root : (lead : List Term) (d : Draft) (new us : List Term) (m : NodeTerm) (fault : Fault)
    → HasNodePast m fault → HasNodePast (with_front lead (led d new (Node m ∷ us)).1) fault
past-root lead d new us m fault h =
    let k = node_kind d.node.now in
    let ts = inside_with d new in
    let cs = done d ++ (ts ++ Node m ∷ us) in
    let parts : lead ++ node_children (node_of k cs) ≡ (lead ++ (done d ++ ts)) ++ Node m ∷ us =
    ap (λ bs. lead ++ bs) (terms-forest cs ∙ sym (append_assoc (done d) ts (Node m ∷ us)))
    ∙ sym (append_assoc lead (done d ++ ts) (Node m ∷ us)) in
    subst (λ bs. HasNodePast (node_of k bs) fault) (sym parts)
    (past-child k (lead ++ (done d ++ ts)) us m fault h)

pub past-below : (ds : List Draft) (d : Draft) (inner : List Rewrite → Led)
    (inside : List TokenTerm) (answers : List Rewrite) (fault : Fault)
    → HasNodePast (inner answers).1 fault
    → let all = whole (ds ++ d ∷ []) inner inside answers in
    HasNodePast (with_front all.0 all.1) fault
past-below [] d inner inside answers fault h =
    let child = inner answers in
    past-root (lead_with d child.0) d child.0
    (rewritten_list (behind d) (drop (length inside) answers)) child.1 fault h
past-below (c ∷ ds) d inner inside answers fault h =
    let es = ds ++ d ∷ [] in
    let child = whole es inner inside answers in
    past-root (lead_with c child.0) c child.0
    (rewritten_list (behind c) (drop (length (tokens_behind es inside)) answers)) child.1 fault
    (past-whole es inner inside answers fault h)
