-- The kinds of the nodes around one.
use Rattle.std.proofs.Common.{◌≡◌, ℕ, zero, suc, ◌-◌, ◌<◌, ◌≤◌, List, [], ◌∷◌, ◌++◌, length, drop, get_or, refl, sym, ◌∙◌, ap, arith, append_assoc, append-nil}
use Rattle.std.specs.Prelude.{Option, Some, None}
use Rattle.std.proofs.Math.Seq.{drop-cons}
use Rattle.std.proofs.lemmas.List.{map-append}
use Rattle.rowan_green.specs.declared.green.SyntaxKind.{SyntaxKind}
use Rattle.rowan_parser.specs.Building.{raw}
use Rattle.rowan_parser.specs.Events.{begun}
use Rattle.rowan_parser.specs.Shape.{around}
use Rattle.rowan_events.specs.declared.event.Event.{Event}
use Rattle.rowan_events.specs.declared.event.Event.TheVariants as event

abbrev from_there : List Event → List ℕ
from_there events = around 1 events

around-drop : (n : ℕ) (es : List Event) → around (suc n) es ≡ from_there (drop n es)
around-drop zero es = refl
around-drop (suc n) [] = refl
around-drop (suc n) (e ∷ es) = around-drop n es

-- at an event, and on from there
around-at : (outer : ℕ) (es : List Event) (e d : Event) → 0 < outer → outer ≤ length es → e ≡ get_or
    es (outer - 1) d → around outer es ≡ around 1 (e ∷ drop outer es)
around-at zero es e d some there is = absurd (omega (arith, some))
around-at (suc n) es e d some there is =
    let same : suc n - 1 ≡ n = omega arith in
    around-drop n es
    ∙ ap from_there (drop-cons es n d (omega (arith, there)))
    ∙ ap (λ x. around 1 (x ∷ drop (suc n) es)) (sym (is ∙ ap (λ k. get_or es k d) same))

-- past the last event
around-none : (outer : ℕ) (es : List Event) → length es < outer → around outer es ≡ []
around-none zero es none = absurd (omega (arith, none))
around-none (suc n) [] none = refl
around-none (suc zero) (e ∷ es) none = absurd (omega (arith, none))
around-none (suc (suc n)) (e ∷ es) none = around-none (suc n) es (omega (arith, none))

pub around-zero : (outer : ℕ) (es : List Event) → outer ≡ 0 → around outer es ≡ []
around-zero zero es none = refl
around-zero (suc n) es none = absurd (omega (arith, none))

-- no node begins at the event
around-no-node : (e : Event) (es : List Event) → begun e ≡ None → around 1 (e ∷ es) ≡ []
around-no-node (event.Open kind outer) es none = absurd cc
around-no-node (event.Around kind outer) es none = absurd cc
around-no-node event.Close es none = refl
around-no-node event.Token es none = refl
around-no-node (event.Joined kind count) es none = refl
around-no-node event.Nothing es none = refl

abbrev node_or : SyntaxKind × ℕ → Option (SyntaxKind × ℕ) → SyntaxKind × ℕ
node_or other None = other
node_or other (Some node) = node

-- a node begins at the event
around-node : (e : Event) (es : List Event) (node : SyntaxKind × ℕ) → begun e ≡ Some node → around 1
    (e ∷ es) ≡ node.0.0 ∷ around node.1 es
around-node (event.Open k n) es node is =
    let same : (k, n) ≡ node = ap (node_or node) is in
    ap (λ (it : SyntaxKind × ℕ). it.0.0 ∷ around it.1 es) same
around-node (event.Around k n) es node is =
    let same : (k, n) ≡ node = ap (node_or node) is in
    ap (λ (it : SyntaxKind × ℕ). it.0.0 ∷ around it.1 es) same
around-node event.Close es node is = absurd cc
around-node event.Token es node is = absurd cc
around-node (event.Joined kind count) es node is = absurd cc
around-node event.Nothing es node is = absurd cc

-- ---- a loop along the nodes around one

pub around_begins : (kinds : List SyntaxKind) (outer : ℕ) (es : List Event) → kinds ≡ [] → raw kinds
    ++ around outer es ≡ around outer es
around_begins kinds outer es none = ap (λ ks. raw ks ++ around outer es) none

pub around_past : (kinds : List SyntaxKind) (all : List ℕ) (outer : ℕ) (es : List Event) → length es
    < outer → raw kinds ++ around outer es ≡ all → raw kinds ≡ all
around_past kinds all outer es past so_far = sym (append-nil (raw kinds)) ∙ ap
    (λ ks. raw kinds ++ ks) (sym (around-none outer es past)) ∙ so_far

pub around_done : (kinds : List SyntaxKind) (all : List ℕ) (outer : ℕ) (es : List Event) → outer ≡ 0
    → raw kinds ++ around outer es ≡ all → raw kinds ≡ all
around_done kinds all outer es none so_far = sym (append-nil (raw kinds)) ∙ ap
    (λ ks. raw kinds ++ ks) (sym (around-zero outer es none)) ∙ so_far

-- at an event where no node begins
pub around_stop : (kinds : List SyntaxKind) (all : List ℕ) (outer : ℕ) (es : List Event)
    (e d : Event) → 0 < outer → outer ≤ length es → e ≡ get_or es (outer - 1) d → None ≡ begun e →
    raw kinds ++ around outer es ≡ all → raw kinds ≡ all
around_stop kinds all outer es e d some there is none so_far =
    sym (append-nil (raw kinds))
    ∙ ap (λ ks. raw kinds ++ ks) (sym (around-at outer es e d some there is ∙ around-no-node e
    (drop outer es) (sym none)))
    ∙ so_far

-- at one where a node begins
pub around_step : (kinds longer : List SyntaxKind) (all : List ℕ) (outer : ℕ)
    (es others : List Event) (e d : Event) (node : SyntaxKind × ℕ) → 0 < outer → outer ≤ length es
    → e ≡ get_or es (outer - 1) d → Some node ≡ begun e → others ≡ drop outer es → longer ≡ kinds ++
    node.0 ∷ [] → raw kinds ++ around outer es ≡ all → raw longer ++ around node.1 others ≡ all
around_step kinds longer all outer es others e d node some there is first rest pushed so_far =
    ap (λ ks. ks ++ around node.1 others)
    (ap raw pushed ∙ map-append (λ (kind : SyntaxKind). kind.0) kinds (node.0 ∷ []))
    ∙ append_assoc (raw kinds) (node.0.0 ∷ []) (around node.1 others)
    ∙ ap (λ ds. raw kinds ++ node.0.0 ∷ around node.1 ds) rest
    ∙ ap (λ ks. raw kinds ++ ks) (sym (around-at outer es e d some there is ∙ around-node e
    (drop outer es) node (sym first)))
    ∙ so_far
