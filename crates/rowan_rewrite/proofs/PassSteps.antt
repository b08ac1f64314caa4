-- The steps of a pass over the tokens of a tree: each keeps the tree that the answers make.
use Rattle.std.proofs.Common.{◌≡◌, ◌≢◌, ◌+◌, List, [], ◌∷◌, ◌++◌, map, length, drop, inl, inr}
use Rattle.std.proofs.Common.{Some, None, refl, sym, ◌∙◌, ap, subst, arith, append_assoc}
use Rattle.std.specs.Prelude.{nat_eq, if◌then◌else◌, slice_get}
use Rattle.std.proofs.lemmas.Bool.{cases_eq, ne_eqb}
use Rattle.std.proofs.lemmas.List.{append-nil, drop_all}
use Rattle.rowan_green.specs.declared.fault.Fault.{Fault}
use Rattle.rowan_green.specs.declared.utility_types.NodeOrToken.TheVariants.{Node, Token}
use Rattle.rowan_green.specs.Fits.{PassesLimit}
use Rattle.rowan_terms.specs.Path.{LeafAt, below_place, leaves, tokens}
use Rattle.rowan_green.specs.Sizes.{terms_size}
use Rattle.rowan_green.specs.Term.{TokenTerm, NodeTerm, Term, node_of, node_kind, node_children}
use Rattle.rowan_green.proofs.Drops.{terms_size-node_children}
use Rattle.rowan_green.proofs.Terms.{terms-forest}
use Rattle.rowan_rewrite.specs.declared.rewriting.Rewrite.{Rewrite}
use Rattle.rowan_rewrite.specs.declared.rewriting.draft.Draft.{Draft}
use Rattle.rowan_rewrite.specs.declared.rewriting.pass.Pass.{Pass}
use Rattle.rowan_rewrite.specs.Rewriting.{lead, own, node_lead, behind_lead, with_front, HasNodePast}
use Rattle.rowan_rewrite.specs.Drafts.{done, to_do, behind, tokens_in, rewritten_list, completed}
use Rattle.rowan_rewrite.specs.Drafts.{list_lead, behind_list, lead_with, inside_with, Led, led}
use Rattle.rowan_rewrite.specs.Drafts.{LeadsLater, whole, AreOpen, work_behind, IsPass, left_of}
use Rattle.rowan_rewrite.specs.Drafts.{child_of, tree_of, Continues, Takes, Ends, top, place_of}
use Rattle.rowan_rewrite.specs.Drafts.{leaves_at, leaves_behind}
use Rattle.rowan_rewrite.proofs.PassLemmas.{top-more, open-more, open-less, leaves-more, leaves-next}
use Rattle.rowan_rewrite.proofs.PassLemmas.{work-more, round, whole-more, whole-same, whole-next}
use Rattle.rowan_rewrite.proofs.PassLemmas.{past-below}
use Rattle.rowan_rewrite.proofs.RewritingLemmas.{leaves-children, tokens-children, lead-children}
use Rattle.rowan_rewrite.proofs.RewritingLemmas.{behind-children, list-parts, drop-at, get-past}

-- the root of what the answers make
abbrev root_from : Led → NodeTerm
root_from all = with_front all.0 all.1

-- ---- what the child leads with

-- that of the first child goes to what the node leads with
pub lead-first : (d : Draft) (new : List Term) → d.next ≡ 0 → lead_with d new ≡ new
lead-first d new h = ap (λ k. if nat_eq k 0 then new else d.lead.items) h

pub inside-first : (d : Draft) (new : List Term) → d.next ≡ 0 → inside_with d new ≡ []
inside-first d new h = ap (λ k. if nat_eq k 0 then [] else new) h

pub lead-later : (d : Draft) (new : List Term) → d.next ≢ 0 → lead_with d new ≡ d.lead.items
lead-later d new h = ap (λ b. if b then new else d.lead.items) (ne_eqb d.next 0 h)

pub inside-later : (d : Draft) (new : List Term) → d.next ≢ 0 → inside_with d new ≡ new
inside-later d new h = ap (λ b. if b then [] else new) (ne_eqb d.next 0 h)

-- one that leads with nothing
pub lead-none : (d : Draft) → LeadsLater d → lead_with d [] ≡ d.lead.items
lead-none d later = elim (cases_eq d.next 0) [
  | inl first ↦ lead-first d [] first ∙ sym (later first)
  | inr other ↦ lead-later d [] other
]

pub inside-none : (d : Draft) → inside_with d [] ≡ []
inside-none d = elim (cases_eq d.next 0) [
  | inl first ↦ inside-first d [] first
  | inr other ↦ inside-later d [] other
]

-- ---- a node of which nothing is rewritten

-- the draft is one of this node, at its first child
pub record IsNew (n : NodeTerm) (d : Draft) : Type 0 where
  pub node : d.node.now ≡ n
  pub next : d.next ≡ 0
  pub lead : d.lead.items ≡ []
  pub done : done d ≡ []

pub new-to_do : (n : NodeTerm) (d : Draft) → IsNew n d → to_do d ≡ node_children n
new-to_do n d h =
    ap (λ k. drop k (node_children d.node.now)) h.next ∙ ap node_children h.node

pub new-completed : (n : NodeTerm) (d : Draft) → IsNew n d → (more : List Rewrite)
    → completed d more ≡ (node_lead n more, behind_lead n more)
new-completed n d h more =
    let first = list_lead (to_do d) more in
    let rest = behind_list (to_do d) more in
    let m : NodeTerm = node_of (node_kind d.node.now) (done d ++ (inside_with d first ++ rest)) in
    let lead : lead_with d first ≡ node_lead n more =
    lead-first d first h.next ∙ ap (λ ts. list_lead ts more) (new-to_do n d h)
    ∙ sym (lead-children n more) in
    let made : m ≡ behind_lead n more =
    ap (λ k. node_of k (done d ++ (inside_with d first ++ rest))) (ap node_kind h.node)
    ∙ ap (λ ts. node_of (node_kind n) (ts ++ (inside_with d first ++ rest))) h.done
    ∙ ap (λ ts. node_of (node_kind n) (ts ++ rest)) (inside-first d first h.next)
    ∙ ap (λ ts. node_of (node_kind n) (behind_list ts more)) (new-to_do n d h)
    ∙ sym (behind-children n more) in
    let with_lead : List Term → Led = λ ts. (ts, m) in
    let with_node : NodeTerm → Led = λ x. (node_lead n more, x) in
    ap with_lead lead ∙ ap with_node made

pub new-leaves : (n : NodeTerm) (d : Draft) → IsNew n d
    → leaves_at d.next (to_do d) ≡ leaves (Node n)
new-leaves n d h =
    ap (λ i. leaves_at i (to_do d)) h.next ∙ ap (leaves_at 0) (new-to_do n d h)
    ∙ sym (leaves-children n)

pub new-tokens : (n : NodeTerm) (d : Draft) → IsNew n d → tokens_in (to_do d) ≡ tokens (Node n)
new-tokens n d h = ap tokens_in (new-to_do n d h) ∙ sym (tokens-children n)

-- ---- into a node

pub enters : (old new : Pass) (n : NodeTerm) → IsPass old → child_of old ≡ Some (Node n)
    → new.above.items ≡ old.above.items ++ old.inner ∷ [] → IsNew n new.inner → Continues old new
enters old new n opened at stack h =
    let ds = old.above.items in
    let d = old.inner in
    let e = new.inner in
    let rest = tokens_in (behind d) in
    let split : to_do d ≡ Node n ∷ behind d =
    drop-at (node_children d.node.now) d.next (Node n) at in
    let own : tokens (Node n) ≡ tokens_in (to_do e) = sym (new-tokens n e h) in
    let same : (more : List Rewrite) → completed d more
    ≡ round d (completed e) (tokens_in (to_do e)) more = λ more.
    (ap (λ ts. led d (list_lead ts more) (behind_list ts more)) split
    ∙ ap (λ (m : Led). led d m.0 (Node m.1
    ∷ rewritten_list (behind d) (drop (length (tokens (Node n))) more)))
    (sym (new-completed n e h more))
    ∙ ap (λ (ts : List TokenTerm). led d (completed e more).0 (Node (completed e more).1
    ∷ rewritten_list (behind d) (drop (length ts) more))) own) in
    record {
      pass = (
        subst (λ es. AreOpen es e.node.now) (sym stack)
            (subst (AreOpen (ds ++ d ∷ [])) (sym h.node) (open-more ds d n opened.0 at)),
        λ _. h.lead,
      );
      root = sym (top-more ds d n) ∙ ap (λ es. top es n) (sym stack)
          ∙ ap (top new.above.items) (sym h.node);
      left = ap (λ ts. leaves_behind ds (leaves_at d.next ts)) split
          ∙ ap (λ ls. leaves_behind ds (map (below_place d.next) ls
          ++ leaves_at (d.next + 1) (behind d))) (sym (new-leaves n e h))
          ∙ sym (leaves-more ds d (leaves_at e.next (to_do e)))
          ∙ ap (λ es. leaves_behind es (leaves_at e.next (to_do e))) (sym stack);
      tree = λ more. (ap root_from
          (ap (λ ts. whole ds (completed d) (tokens_in ts) more) split
          ∙ ap (λ ts. whole ds (completed d) (ts ++ rest) more) own
          ∙ whole-same ds (completed d) (round d (completed e) (tokens_in (to_do e)))
          (tokens_in (to_do e) ++ rest) more (same more)
          ∙ sym (whole-more ds d (completed e) (tokens_in (to_do e)) more)
          ∙ ap (λ es. whole es (completed e) (tokens_in (to_do e)) more) (sym stack)));
      work = omega (
        arith,
        ap work_behind stack,
        work-more ds d,
        ap terms_size split,
        ap terms_size (new-to_do n e h),
        terms_size-node_children n,
      );
    }

-- ---- past a child

-- the draft has these elements in place of the child whose turn it was, which leads with `front`
pub record IsPast (d : Draft) (front new : List Term) (e : Draft) : Type 0 where
  pub node : e.node.now ≡ d.node.now
  pub next : e.next ≡ d.next + 1
  pub lead : e.lead.items ≡ lead_with d front
  pub done : done e ≡ done d ++ (inside_with d front ++ new)

-- of one that leads with nothing
pub past-alone : (d e : Draft) (new : List Term) → LeadsLater d → e.node.now ≡ d.node.now
    → e.next ≡ d.next + 1 → e.lead.items ≡ d.lead.items → done e ≡ done d ++ new
    → IsPast d [] new e
past-alone d e new later node next lead made = record {
  node = node;
  next = next;
  lead = lead ∙ sym (lead-none d later);
  done = made ∙ ap (λ ts. done d ++ (ts ++ new)) (sym (inside-none d));
}

pub past-to_do : (d e : Draft) (front new : List Term) → IsPast d front new e → to_do e ≡ behind d
past-to_do d e front new h =
    ap (λ m. drop e.next (node_children m)) h.node
    ∙ ap (λ k. drop k (node_children d.node.now)) h.next

past-leaves : (d e : Draft) (front new : List Term) → IsPast d front new e
    → leaves_at (d.next + 1) (behind d) ≡ leaves_at e.next (to_do e)
past-leaves d e front new h =
    ap (λ i. leaves_at i (behind d)) (sym h.next)
    ∙ ap (leaves_at e.next) (sym (past-to_do d e front new h))

past-later : (d e : Draft) (front new : List Term) → IsPast d front new e → e.next ≢ 0
past-later d e front new h = λ first. omega (arith, h.next, first)

-- the node, once the answers for the children behind have come
past-completed : (d e : Draft) (front new : List Term) → IsPast d front new e
    → (more : List Rewrite) → led d front (new ++ rewritten_list (behind d) more) ≡ completed e more
past-completed d e front new h more =
    let k = node_kind d.node.now in
    let later = past-later d e front new h in
    let ts = inside_with d front in
    let rest = rewritten_list (behind d) more in
    let first = list_lead (to_do e) more in
    let others = behind_list (to_do e) more in
    let both : rest ≡ inside_with e first ++ others =
    ap (λ us. rewritten_list us more) (sym (past-to_do d e front new h))
    ∙ sym (list-parts (to_do e) more)
    ∙ ap (λ us. us ++ others) (sym (inside-later e first later)) in
    let before : lead_with d front ≡ lead_with e first =
    sym h.lead ∙ sym (lead-later e first later) in
    let made : node_of k (done d ++ (ts ++ (new ++ rest)))
    ≡ node_of (node_kind e.node.now) (done e ++ (inside_with e first ++ others)) =
    ap (λ us. node_of k (done d ++ us)) (sym (append_assoc ts new rest))
    ∙ ap (node_of k) (sym (append_assoc (done d) (ts ++ new) rest))
    ∙ ap (λ us. node_of k (us ++ rest)) (sym h.done)
    ∙ ap (λ us. node_of k (done e ++ us)) both
    ∙ ap (λ m. node_of (node_kind m) (done e ++ (inside_with e first ++ others))) (sym h.node) in
    let with_lead : List Term → Led = λ us. (us, node_of k (done d ++ (ts ++ (new ++ rest)))) in
    let with_node : NodeTerm → Led = λ x. (lead_with e first, x) in
    ap with_lead before ∙ ap with_node made

-- the leaves behind the child whose turn it is
abbrev pub leaves_past : Pass → List LeafAt
leaves_past p = leaves_behind p.above.items (leaves_at (p.inner.next + 1) (behind p.inner))

-- the next token
pub left-token : (p : Pass) (t : TokenTerm) → child_of p ≡ Some (Token t)
    → left_of p ≡ (place_of p, t) ∷ leaves_past p
left-token p t at =
    ap (λ ts. leaves_behind p.above.items (leaves_at p.inner.next ts))
    (drop-at (node_children p.inner.node.now) p.inner.next (Token t) at)
    ∙ leaves-next p.above.items (p.inner.next ∷ []) t
    (leaves_at (p.inner.next + 1) (behind p.inner))

pub takes : (old new : Pass) (t : TokenTerm) (a : Rewrite) → IsPass old
    → child_of old ≡ Some (Token t) → new.above.items ≡ old.above.items
    → IsPast old.inner (lead a) (own t a) new.inner → Takes t a old new
takes old new t a opened at stack h =
    let ds = old.above.items in
    let d = old.inner in
    let e = new.inner in
    let rest = tokens_in (behind d) in
    let split : to_do d ≡ Token t ∷ behind d =
    drop-at (node_children d.node.now) d.next (Token t) at in
    let all : behind d ≡ to_do e = sym (past-to_do d e (lead a) (own t a) h) in
    let same : (more : List Rewrite) → completed d (a ∷ more) ≡ completed e more = λ more.
    (ap (λ ts. led d (list_lead ts (a ∷ more)) (behind_list ts (a ∷ more))) split
    ∙ past-completed d e (lead a) (own t a) h more) in
    record {
      pass = (
        subst (λ es. AreOpen es e.node.now) (sym stack)
            (subst (AreOpen ds) (sym h.node) opened.0),
        λ first. absurd (past-later d e (lead a) (own t a) h first),
      );
      root = ap (top ds) (sym h.node) ∙ ap (λ es. top es e.node.now) (sym stack);
      left = left-token old t at
          ∙ ap (λ ls. (place_of old, t) ∷ leaves_behind ds ls)
          (past-leaves d e (lead a) (own t a) h)
          ∙ ap (λ es. (place_of old, t) ∷ leaves_behind es (leaves_at e.next (to_do e)))
          (sym stack);
      tree = λ more. (ap root_from
          (ap (λ ts. whole ds (completed d) (tokens_in ts) (a ∷ more)) split
          ∙ whole-next ds (completed d) (completed e) t rest a more (same more)
          ∙ ap (λ ts. whole ds (completed e) (tokens_in ts) more) all
          ∙ ap (λ es. whole es (completed e) (tokens_in (to_do e)) more) (sym stack)));
      work = omega (arith, ap work_behind stack, ap terms_size split, ap terms_size all);
    }

-- ---- a node is done

to_do-none : (p : Pass) → child_of p ≡ None → to_do p.inner ≡ []
to_do-none p none = drop_all p.inner.next (node_children p.inner.node.now)
    (get-past (node_children p.inner.node.now) p.inner.next none)

-- the node of a pass, of whose children none is left
abbrev pub made_of : Pass → NodeTerm
made_of p = node_of (node_kind p.inner.node.now) (done p.inner)

completed-none : (p : Pass) (more : List Rewrite) → IsPass p → child_of p ≡ None
    → completed p.inner more ≡ (p.inner.lead.items, made_of p)
completed-none p more opened none =
    let d = p.inner in
    let k = node_kind d.node.now in
    let with_lead : List Term → Led =
    λ us. (us, node_of k (done d ++ (inside_with d [] ++ []))) in
    let with_inside : List Term → Led = λ us. (d.lead.items, node_of k (done d ++ (us ++ []))) in
    let with_done : List Term → Led = λ us. (d.lead.items, node_of k us) in
    ap (λ ts. led d (list_lead ts more) (behind_list ts more)) (to_do-none p none)
    ∙ ap with_lead (lead-none d opened.1) ∙ ap with_inside (inside-none d)
    ∙ ap with_done (append-nil (done d))

pub parent-open : (old : Pass) (ds : List Draft) (p : Draft) → IsPass old
    → old.above.items ≡ ds ++ p ∷ []
    → AreOpen ds p.node.now
    × (slice_get (node_children p.node.now) p.next ≡ Some (Node old.inner.node.now))
parent-open old ds p opened stack =
    open-less ds p old.inner.node.now (subst (λ es. AreOpen es old.inner.node.now) stack opened.0)

pub goes_up : (old new : Pass) (p : Draft) (n : NodeTerm) → IsPass old → child_of old ≡ None
    → old.above.items ≡ new.above.items ++ p ∷ [] → n ≡ made_of old
    → IsPast p old.inner.lead.items (Node n ∷ []) new.inner → Continues old new
goes_up old new p n opened none stack made h =
    let ds = new.above.items in
    let d = old.inner in
    let e = new.inner in
    let l = d.lead.items in
    let up = parent-open old ds p opened stack in
    let nothing : tokens_in (to_do d) ≡ [] = ap tokens_in (to_do-none old none) in
    let all : behind p ≡ to_do e = sym (past-to_do p e l (Node n ∷ []) h) in
    let same : (more : List Rewrite) → round p (completed d) [] more ≡ completed e more = λ more.
    (ap (λ (m : Led). led p m.0 (Node m.1 ∷ rewritten_list (behind p) more))
    (completed-none old more opened none)
    ∙ ap (λ m. led p l (Node m ∷ rewritten_list (behind p) more)) (sym made)
    ∙ past-completed p e l (Node n ∷ []) h more) in
    record {
      pass = (
        subst (AreOpen ds) (sym h.node) up.0,
        λ first. absurd (past-later p e l (Node n ∷ []) h first),
      );
      root = ap (λ es. top es d.node.now) stack ∙ top-more ds p d.node.now
          ∙ ap (top ds) (sym h.node);
      left = ap (λ ts. leaves_behind old.above.items (leaves_at d.next ts)) (to_do-none old none)
          ∙ ap (λ es. leaves_behind es []) stack ∙ leaves-more ds p []
          ∙ ap (leaves_behind ds) (past-leaves p e l (Node n ∷ []) h);
      tree = λ more. (ap root_from
          (ap (λ ts. whole old.above.items (completed d) ts more) nothing
          ∙ ap (λ es. whole es (completed d) [] more) stack
          ∙ whole-more ds p (completed d) [] more
          ∙ whole-same ds (round p (completed d) []) (completed e) (tokens_in (behind p)) more
          (same more)
          ∙ ap (λ ts. whole ds (completed e) (tokens_in ts) more) all));
      work = omega (
        arith,
        ap work_behind stack,
        work-more ds p,
        ap terms_size (to_do-none old none),
        ap terms_size all,
      );
    }

-- the children of the root, once it is done
abbrev pub root_done : Pass → List Term
root_done p = p.inner.lead.items ++ done p.inner

root-none : (old : Pass) (more : List Rewrite) → IsPass old → child_of old ≡ None
    → old.above.items ≡ []
    → tree_of old more ≡ node_of (node_kind old.inner.node.now) (root_done old)
root-none old more opened none stack =
    let d = old.inner in
    ap root_from (ap (λ es. whole es (completed d) (tokens_in (to_do d)) more) stack
    ∙ completed-none old more opened none)
    ∙ ap (λ ts. node_of (node_kind d.node.now) (d.lead.items ++ ts)) (terms-forest (done d))

pub ends : (old : Pass) (n : NodeTerm) → IsPass old → child_of old ≡ None → old.above.items ≡ []
    → n ≡ node_of (node_kind old.inner.node.now) (root_done old) → Ends old n
ends old n opened none stack made = record {
  left = ap (λ es. leaves_behind es (leaves_at old.inner.next (to_do old.inner))) stack
      ∙ ap (leaves_at old.inner.next) (to_do-none old none);
  tree = λ more. (root-none old more opened none stack ∙ sym made);
}

-- a limit that the new children of the root pass
pub past-end : (old : Pass) (fault : Fault) → IsPass old → child_of old ≡ None
    → old.above.items ≡ [] → PassesLimit (root_done old) fault → HasNodePast (tree_of old []) fault
past-end old fault opened none stack h =
    let same : node_children (tree_of old []) ≡ root_done old =
    ap node_children (root-none old [] opened none stack) ∙ terms-forest (root_done old) in
    record {
      path = [];
      node = tree_of old [];
      stands = refl;
      passes = subst (λ ts. PassesLimit ts fault) (sym same) h;
    }

-- and those of a node below it
pub past-here : (old : Pass) (ds : List Draft) (p : Draft) (fault : Fault) → IsPass old
    → child_of old ≡ None → old.above.items ≡ ds ++ p ∷ [] → PassesLimit (done old.inner) fault
    → HasNodePast (tree_of old []) fault
past-here old ds p fault opened none stack h =
    let d = old.inner in
    let inside = tokens_in (to_do d) in
    let same : node_children (completed d []).1 ≡ done d =
    ap (λ (m : Led). node_children m.1) (completed-none old [] opened none)
    ∙ terms-forest (done d) in
    let here : HasNodePast (completed d []).1 fault = record {
      path = [];
      node = (completed d []).1;
      stands = refl;
      passes = subst (λ ts. PassesLimit ts fault) (sym same) h;
    } in
    let tree : whole (ds ++ p ∷ []) (completed d) inside []
    ≡ whole old.above.items (completed d) inside [] =
    ap (λ es. whole es (completed d) inside []) (sym stack) in
    subst (λ (m : Led). HasNodePast (with_front m.0 m.1) fault) tree
    (past-below ds p (completed d) inside [] fault here)
