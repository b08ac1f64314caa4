use Rattle.std.proofs.Common.{◌≡◌, ◌+◌, ◌++◌, ◌∷◌, [], inl, inr, length, ◌∙◌, ap, subst, arith}
use Rattle.std.proofs.Common.{below_more, set}
use Rattle.std.proofs.Math.Seq.{set-append_seam}
use Rattle.std.proofs.lemmas.Bool.{cases_lt}
use Rattle.rowan_edit.specs.Ranked.{HasEditAt, HasNoEditAt}
use Rattle.rowan_edit.proofs.ranked.has_edit_of.Goals as goal

pub returns-then-has_edit_at-clause-some : goal.returns-then-has_edit_at-clause-some
returns-then-has_edit_at-clause-some c = λ yes. (
  c.loop-index.index,
  subst (HasEditAt c.args.edits.now.entries) c.loop-index.invariant.place
      (c.has_edit_at.ensures.some c.if-has_edit_at.true),
)

pub loop-index-preserved : goal.loop-index-preserved
loop-index-preserved c =
    let p = c.args.path.now in
    let i = c.loop-index.index in
    let inv = c.loop-index.invariant in
    record {
      place = ap (λ xs. set xs (length p) (i + 1)) inv.place ∙ set-append_seam p i [] (i + 1);
      end = inv.end;
      count = inv.count;
      none = below_more _ _ inv.none (subst (HasNoEditAt c.args.edits.now.entries) inv.place
          (c.has_edit_at.ensures.none c.if-has_edit_at.false));
    }

pub returns-clause-some : goal.returns-clause-some
returns-clause-some c = λ yes. (
  c.loop-index.index,
  subst (HasEditAt c.args.edits.now.entries) c.loop-index.invariant.place
      (c.has_edit_at-2.ensures.some yes),
)

pub returns-clause-none : goal.returns-clause-none
returns-clause-none c = λ other k le.
    (let es = c.args.edits.now.entries in
    let p = c.args.path.now in
    let i = c.loop-index.index in
    elim (cases_lt k i) [
      | inl less ↦ c.loop-index.invariant.none k less
      | inr more ↦
          let same : i ≡ k =
          omega (arith, more, le, c.loop-index-test.false, c.loop-index.auto.index-end) in
          subst (λ j. HasNoEditAt es (p ++ j ∷ [])) same
          (subst (HasNoEditAt es) c.loop-index.invariant.place
          (c.has_edit_at-2.ensures.none other))
    ])
