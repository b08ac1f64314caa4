-- Pointers over whole traces: each replacement carries the pointer on, and moves leave the tree as
-- it is.
use Rattle.std.proofs.Common.{◌≡◌, ℕ, suc, ◌<◌, List, [], ◌∷◌, ◌++◌, Option, Some, None, refl, sym}
use Rattle.std.proofs.Common.{◌∙◌, ap, subst, arith, true, Bool}
use Rattle.std.specs.Option.{option_and_then}
use Rattle.rowan_green.specs.declared.utility_types.NodeOrToken.TheVariants.{Node}
use Rattle.rowan_green.specs.Fits.{Fits}
use Rattle.rowan_terms.specs.Path.{Path, subterm, range, put, separate}
use Rattle.rowan_terms.specs.Replacements.{Replacement, SeparateFromAll}
use Rattle.rowan_green.specs.Term.{NodeTerm, node_len, Term, term_len}
use Rattle.rowan_terms.proofs.PutLemmas.{subterm-apart}
use Rattle.rowan_terms.proofs.PutOrders.{subterm-made}
use Rattle.rowan_green.proofs.Terms.{Fits-len}
use Rattle.rowan_table.specs.Cursor.{Cursor}
use Rattle.rowan_table.specs.Moves.{Element, place_of, cursor_at}
use Rattle.rowan_script.specs.declared.script.steps.Report.{Report}
use Rattle.rowan_script.specs.declared.script.steps.Report.TheVariants.{Moved, Nowhere, Replaced, Refused}
use Rattle.rowan_script.specs.declared.script.steps.Step.{Step}
use Rattle.rowan.specs.Pointer.{Pointer, pointer_to, means_kind, carried, carried_in_turn, Resolves}
use Rattle.rowan.specs.Pointer.{LeadsAbove}
use Rattle.rowan_script.specs.Trace.{ReportsInTurn, root_of, tree_of, last_root, last_tree, replacement_of}
use Rattle.rowan_script.specs.Trace.{replacements}
use Rattle.rowan.proofs.CarriedLemmas.{pointer-carried, leads-above}
use Rattle.rowan.proofs.TraceLaws.{root-found, there, turns-make}

-- ---- chains of optional values

and_then-some : {A : Type 0} (o : Option A) → option_and_then (λ a. Some a) o ≡ o
and_then-some None = refl
and_then-some (Some a) = refl

and_then-and_then : {A B C : Type 0} (f : A → Option B) (g : B → Option C) (o : Option A)
    → option_and_then (λ a. option_and_then g (f a)) o ≡ option_and_then g (option_and_then f o)
and_then-and_then f g None = refl
and_then-and_then f g (Some a) = refl

-- ---- one replacement

-- the first of all, and the others
apart-first : (q : Path) (r : Replacement) (rs : List Replacement) → SeparateFromAll q (r ∷ rs)
    → separate r.path q ≡ true
apart-first q r rs h = h 0 r (omega arith)

apart-others : (q : Path) (r : Replacement) (rs : List Replacement) → SeparateFromAll q (r ∷ rs)
    → SeparateFromAll q rs
apart-others q r rs h k d l = h (suc k) d (omega arith)

-- what the pointers are carried to, from one tree to another
abbrev GoesTo : {K : Type 0} → (ℕ → K) → Path → NodeTerm → List Replacement → NodeTerm → Type 0
GoesTo meaning q root rs last =
    option_and_then (carried_in_turn (Node root) rs) (pointer_to meaning (cursor_at root q))
    ≡ pointer_to meaning (cursor_at last q)

goes-on : {K : Type 0} (meaning : ℕ → K) (q : Path) (n : NodeTerm) (c : Cursor) (u w : Term)
    (new last : NodeTerm) (rs : List Replacement) → Node new ≡ put (Node c.root) c.path u
    → Fits (Node new) → subterm (Node c.root) c.path ≡ Some w
    → subterm (Node c.root) q ≡ Some (Node n) → separate c.path q ≡ true → 0 < node_len n
    → GoesTo meaning q new rs last
    → GoesTo meaning q c.root (record { path = c.path; new = u } ∷ rs) last
goes-on {K} meaning q n c u w new last rs is fits there at apart some rest =
    let first = carried {K = K} (range (Node c.root) c.path) (term_len u) in
    let others : Term → Pointer K → Option (Pointer K) = λ t. carried_in_turn t rs in
    and_then-and_then first (others (put (Node c.root) c.path u)) (pointer_to meaning
    (cursor_at c.root q))
    ∙ ap (λ o. option_and_then (others (put (Node c.root) c.path u)) o) (pointer-carried meaning
    c.root new c.path q u w n (sym is) (Fits-len (Node new) fits) there at apart some)
    ∙ ap (λ t. option_and_then (others t) (pointer_to meaning (cursor_at new q))) (sym is)
    ∙ rest

-- ---- all of a trace

pub turns-carry : {K : Type 0} (meaning : ℕ → K) (q : Path) (n : NodeTerm) → 0 < node_len n
    → (steps : List Step) (reports : List Report) (e : Element) → ReportsInTurn e steps reports
    → SeparateFromAll q (replacements e steps reports) → subterm (tree_of e) q ≡ Some (Node n)
    → GoesTo meaning q (root_of e) (replacements e steps reports) (last_root e reports)
turns-carry meaning q n some [] [] e turns apart at = and_then-some (pointer_to meaning
    (cursor_at (root_of e) q))
turns-carry meaning q n some [] (report ∷ reports) e turns apart at = absurd turns
turns-carry meaning q n some (step ∷ steps) [] e turns apart at = absurd turns
turns-carry meaning q n some (step ∷ steps) (Moved found ∷ reports) e turns apart at =
    let stays = root-found step (place_of e) found turns.0.1 in
    let here = ap (λ root. subterm (Node root) q) stays ∙ at in
    subst (λ root. GoesTo meaning q root (replacements found steps reports)
    (last_root found reports)) stays (turns-carry meaning q n some steps reports found turns.1
    apart here)
turns-carry meaning q n some (step ∷ steps) (Nowhere ∷ reports) e turns apart at =
    turns-carry meaning q n some steps reports e turns.1 apart at
turns-carry meaning q n some (step ∷ steps) (Replaced root ∷ reports) e turns apart at =
    let c = place_of e in
    let new = turns.0.1 in
    let rest = replacements (Node root) steps reports in
    let last = last_root (Node root) reports in
    let r : Replacement = record { path = c.path; new = new.new } in
    let all : SeparateFromAll q (r ∷ rest) =
    subst (λ o. SeparateFromAll q (replacement_of c o (Replaced root) ++ rest)) new.puts apart
    in
    let first = apart-first q r rest all in
    let old = there _ _ _ new.replaces.kind in
    let here : subterm (Node root.root) q ≡ Some (Node n) = ap (λ t. subterm t q) new.replaces.root
    ∙ subterm-apart (Node c.root) c.path q new.new first ∙ at in
    subst (λ o. GoesTo meaning q c.root (replacement_of c o (Replaced root) ++ rest) last)
    (sym new.puts)
    (goes-on meaning q n c new.new old.0 root.root last rest new.replaces.root new.replaces.fits
    old.1 at first some (turns-carry meaning q n some steps reports (Node root) turns.1
    (apart-others q r rest all) here))
turns-carry meaning q n some (step ∷ steps) (Refused fault ∷ reports) e turns apart at =
    turns-carry meaning q n some steps reports e turns.1 apart at

-- the pointer that is carried leads to its node in the last tree
pub turns-lead : {K : Type 0} (meaning : ℕ → K) (same : K → K → Bool) → ((x : K) → same x x ≡ true)
    → (e : Element) (steps : List Step) (reports : List Report) (q : Path) (n : NodeTerm)
    (first last : Pointer K) (found : Option Cursor) → ReportsInTurn e steps reports
    → SeparateFromAll q (replacements e steps reports) → subterm (tree_of e) q ≡ Some (Node n)
    → 0 < node_len n
    → pointer_to meaning (cursor_at (root_of e) q) ≡ Some first
    → carried_in_turn (tree_of e) (replacements e steps reports) first ≡ Some last
    → Resolves (means_kind meaning same last.kind) last.range (cursor_at (last_root e reports) [])
    found → LeadsAbove (means_kind meaning same last.kind) last.range (last_root e reports) q
    found
turns-lead meaning same itself e steps reports q n first last found turns apart at some begins ends
    f =
    let rs = replacements e steps reports in
    let there : subterm (last_tree e reports) q ≡ Some (Node n) = subterm-made (tree_of e) rs
    (last_tree e reports) q (turns-make steps reports e turns) apart ∙ at in
    let is : pointer_to meaning (cursor_at (last_root e reports) q) ≡ Some last =
    sym (turns-carry meaning q n some steps reports e turns apart at)
    ∙ ap (option_and_then (carried_in_turn (tree_of e) rs)) begins ∙ ends in
    leads-above meaning same (last_root e reports) q n last found itself there some is f
