-- One call of a script, from what the builder's call says.
use Rattle.std.proofs.Common.{◌≡◌, ℕ, List, refl, sym, ap, subst}
use Rattle.std.specs.Prelude.{Result, Ok, Err, Some, None, IfErr, OnOk, OnErr, slice_get}
use Rattle.rowan_green.specs.declared.fault.Fault.{Fault}
use Rattle.rowan_green.specs.declared.fault.Fault.TheVariants.{NothingOpen, CheckpointPast}
use Rattle.rowan_green.specs.declared.fault.Fault.TheVariants.{CheckpointBefore, UnknownMark}
use Rattle.rowan_green.specs.declared.green.SyntaxKind.{SyntaxKind}
use Rattle.rowan_builder.specs.Builder.{BuilderValue, FinishesNode, WrapsAt}
use Rattle.rowan_builder.specs.Stream.{intern_all}
use Rattle.rowan_green.specs.Word.{HasNoneOpen, WhyNotClosed, IsPast, IsBeforeOpening}
use Rattle.rowan_green.specs.Word.{WhyNotWrapped}
use Rattle.rowan_script.specs.declared.script.calls.Call.{Call}
use Rattle.rowan_script.specs.declared.script.calls.Call.TheVariants.{FinishNode, StartNodeAt}
use Rattle.rowan_script.specs.declared.script.calls.Outcome.TheVariants.{Refused}
use Rattle.rowan_script.specs.Outcome.{outcome_of}
use Rattle.rowan_script.specs.Rewriting.{Accepts, WhyNotWrappedAt, WhyRefused, MarkPrecedes, Precedes}
use Rattle.rowan_script.specs.Requests.{requests_if_accepted}
use Rattle.rowan_script.specs.Run.{Advances}

-- the call is accepted, and the cache is asked for what it adds or closes
AcceptsAsking : List ℕ → BuilderValue → Call → BuilderValue → Type 0
AcceptsAsking marks old call new =
    (accepts : Accepts marks old.word call new.word)
    × (new.cache ≡ intern_all old.cache (requests_if_accepted marks old.word call new.word
    accepts))

advances : {A : Type 0} (marks : List ℕ) (old new : BuilderValue) (call : Call) (r : Result A Fault)
    → OnOk r (AcceptsAsking marks old call new)
    → IfErr r (WhyRefused marks old.word call)
    → OnErr r (new ≡ old)
    → Precedes marks old.word call (outcome_of r)
    → Advances marks old call (outcome_of r) new
unfolding AcceptsAsking
advances marks old new call (Ok x) ok err stays precedes =
    record { performs = record { gives = ok.0; precedes = precedes }; interns = ok.1 }
advances marks old new call (Err fault) ok err stays precedes =
    record {
      performs = record { gives = (err, ap (λ b. b.word) stays); precedes = precedes };
      interns = ap (λ b. b.cache) stays;
    }

on_ok : {A E : Type 0} (r : Result A E) {P Q : Type 0} → (P → Q) → OnOk r P → OnOk r Q
on_ok (Ok x) f p = f p
on_ok (Err e) f p = tt

pub advances-finish : {A : Type 0} (marks : List ℕ) (old new : BuilderValue) (r : Result A Fault)
    → OnOk r (FinishesNode old new)
    → IfErr r (WhyNotClosed old.word)
    → OnErr r (new ≡ old)
    → (HasNoneOpen old.word → r ≡ Err NothingOpen)
    → Advances marks old FinishNode (outcome_of r) new
unfolding AcceptsAsking
advances-finish marks old new r ok err stays first =
    advances marks old new FinishNode r (on_ok r (λ f. ((f.node, f.closes), f.interns)) ok) err
    stays (λ none. ap outcome_of (first none))

-- a wrap at a mark that was taken is one at its checkpoint
pub advances-taken : {A : Type 0} (marks : List ℕ) (old new : BuilderValue) (mark c : ℕ)
    (kind : SyntaxKind) (r : Result A Fault)
    → slice_get marks mark ≡ Some c
    → OnOk r (WrapsAt old c kind.0 new)
    → IfErr r (WhyNotWrapped old.word c)
    → OnErr r (new ≡ old)
    → (IsPast old.word c → r ≡ Err CheckpointPast)
    → (IsBeforeOpening old.word c → r ≡ Err CheckpointBefore)
    → Advances marks old (StartNodeAt mark kind) (outcome_of r) new
unfolding AcceptsAsking
advances-taken marks old new mark c kind r taken ok err stays past before =
    advances marks old new (StartNodeAt mark kind) r
    (on_ok r (λ w. ((c, taken, w.wraps), w.same_cache)) ok)
    (subst (λ o. IfErr r (WhyNotWrappedAt old.word o)) (sym taken) err) stays
    (subst (λ o. MarkPrecedes old.word o (outcome_of r)) (sym taken) (
      (λ h. ap outcome_of (past h)),
      (λ h. ap outcome_of (before h)),
    ))

pub advances-unknown : (marks : List ℕ) (old new : BuilderValue) (mark : ℕ) (kind : SyntaxKind)
    → slice_get marks mark ≡ None
    → new ≡ old
    → Advances marks old (StartNodeAt mark kind) (Refused UnknownMark) new
advances-unknown marks old new mark kind none stays = record {
  performs = record {
    gives = (
      subst (λ o. WhyNotWrappedAt old.word o UnknownMark) (sym none) refl,
      ap (λ b. b.word) stays,
    );
    precedes = subst (λ o. MarkPrecedes old.word o (Refused UnknownMark)) (sym none) refl;
  };
  interns = ap (λ b. b.cache) stays;
}
