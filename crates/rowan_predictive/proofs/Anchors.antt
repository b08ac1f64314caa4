-- The tokens that are kept for the items of a stack.
use Rattle.std.proofs.Common.{◌≡◌, ℕ, ◌||◌, ◌+◌, Bool, true, false, cond, Option, Some, List, [], ◌∷◌, ◌++◌, reverse, sym, ap, ap₂, ◌∙◌, subst}
use Rattle.rowan_events.specs.Seen.{has}
use Rattle.rowan_predictive.specs.declared.machine.Frame.{Frame}
use Rattle.rowan_predictive.specs.declared.rules.Entry.{Entry}
use Rattle.rowan_predictive.specs.declared.rules.Action.TheVariants.{Skip}
use Rattle.rowan_predictive.specs.declared.rules.Item.{Item}
use Rattle.rowan_predictive.specs.declared.rules.Item.TheVariants.{Want}
use Rattle.rowan_predictive.specs.Choice.{awaits}
use Rattle.rowan_predictive.specs.Machine.{State, is_anchor, skips, complained, stuck_by}
use Rattle.rowan_predictive.specs.View.{items_of, top_of, AreAnchors}
use Rattle.rowan_predictive.proofs.SetLemmas.{has-zero}
use Rattle.rowan_predictive.proofs.States.{pushed}

-- a token is passed over, and rule i is still expected
abbrev pub passed_over : ℕ → State → State
passed_over i s = record {
  stack = Want i ∷ s.stack;
  actions = s.actions ++ (Skip ∷ []);
  errors = s.errors;
  place = s.place + 1;
  fresh = s.fresh;
}

-- the set of the first frame says what all of them await
pub top-anchors : (entries : List Entry) (frames : List Frame) → AreAnchors entries frames
    → (kind : ℕ) → has (top_of frames) kind ≡ is_anchor entries (items_of frames) kind
top-anchors entries [] anchors kind = has-zero kind
top-anchors entries (frame ∷ frames) anchors kind = anchors.0 kind

-- one frame more
pub anchors-more : (entries : List Entry) (old new : List Frame) (frame : Frame) (item : Item) (a b : ℕ)
    → new ≡ old ++ (frame ∷ []) → frame.item ≡ item
    → ((kind : ℕ) → has a kind ≡ awaits entries kind item)
    → b ≡ top_of (reverse old)
    → ((kind : ℕ) → has frame.anchors.0 kind ≡ (has a kind || has b kind))
    → AreAnchors entries (reverse old) → AreAnchors entries (reverse new)
anchors-more entries old new frame item a b is same awaited below union anchors =
    subst (AreAnchors entries) (sym (pushed old new frame is)) (
      (λ kind.
          union kind
          ∙ ap₂ (λ (x y : Bool). x || y)
          (awaited kind ∙ sym (ap (λ (i : Item). awaits entries kind i) same))
          (ap (λ (n : ℕ). has n kind) below ∙ top-anchors entries (reverse old) anchors kind)),
      anchors,
    )

-- one frame less
pub anchors-less : (entries : List Entry) (old new : List Frame) (frame : Frame)
    → old ≡ new ++ (frame ∷ []) → AreAnchors entries (reverse old) → AreAnchors entries (reverse new)
anchors-less entries old new frame is anchors =
    (subst (AreAnchors entries) (pushed new old frame is) anchors).1

-- the next token does not fit
pub recovered : (entries : List Entry) (next : Option ℕ) (i : ℕ) (b : Bool) (old mid new : State)
    → skips entries i old.stack next ≡ b → mid ≡ complained (Some i) old
    → new ≡ cond b (passed_over i mid) mid
    → new ≡ stuck_by (skips entries i old.stack next) i old.stack old
recovered entries next i true old mid new s c e =
    e ∙ ap (passed_over i) c ∙ sym (ap (λ (b : Bool). stuck_by b i old.stack old) s)
recovered entries next i false old mid new s c e =
    e ∙ c ∙ sym (ap (λ (b : Bool). stuck_by b i old.stack old) s)
