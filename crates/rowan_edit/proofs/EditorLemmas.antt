-- The path of a cursor, from its parent's.
use Rattle.std.proofs.Common.{◌≡◌, ℕ, ◌<◌, List, [], ◌∷◌, ◌++◌, length, Option, Some, None}
use Rattle.std.proofs.Common.{refl, sym, ◌∙◌, ap, subst, arith, length-append, append_assoc}
use Rattle.std.specs.Prelude.{reverse, Result, Ok, Err, OnOk, IfErr, MatchOption}
use Rattle.std.specs.Option.{option_map}
use Rattle.std.proofs.lemmas.List.{reverse-append}
use Rattle.rowan_terms.specs.Path.{Path}
use Rattle.rowan_table.specs.Cursor.{Cursor, last_index, index}
use Rattle.rowan_table.specs.Moves.{cursor_at, parent_path, parent}
use Rattle.rowan_changes.specs.declared.refusal.Refusal.{Refusal}
use Rattle.rowan_changes.specs.declared.refusal.Refusal.TheVariants.{Conflict, NotFound, Root}
use Rattle.rowan_changes.specs.declared.refusal.Refusal.TheVariants.{OtherTree, Memory}
use Rattle.rowan_edit.specs.Cursors.{AtChild, WhyNotTakenAt}
use Rattle.rowan_changes.specs.Edit.{Edit}
use Rattle.rowan_changes.specs.Plan.{Plan, WhyRefused}

-- ---- what a call above answers

pub on-ok : {A E : Type 0} {P Q : Type 0} (r : Result A E) → (P → Q) → OnOk r P → OnOk r Q
on-ok (Ok x) f h = f h
on-ok (Err e) f h = h

pub if-err : {A : Type 0} {P Q : Refusal → Type 0} (r : Result A Refusal)
    → ((e : Refusal) → P e → Q e) → IfErr r P → IfErr r Q
if-err (Ok x) f h = h
if-err (Err e) f h = f e h

pub at-child : (c d : Cursor) (i : ℕ) (P : Path → ℕ → Type 0) → parent c ≡ Some d → i ≡ index c
    → P d.path i → AtChild c P
at-child c d i P h e p =
    subst (λ o. MatchOption o ⊥ (λ (x : Cursor). P x.path (index c))) (sym h) (subst (P d.path) e p)

pub why-at : (plan : Plan) (c d : Cursor) (i : ℕ) (edit : Path → ℕ → Edit) (r : Refusal)
    → c.root ≡ plan.root → parent c ≡ Some d → i ≡ index c → WhyRefused plan (edit d.path i) r
    → WhyNotTakenAt plan c edit r
why-at plan c d i edit Conflict own h e w =
    (own, at-child c d i (λ p j. WhyRefused plan (edit p j) Conflict) h e w)
why-at plan c d i edit NotFound own h e w =
    (own, at-child c d i (λ p j. WhyRefused plan (edit p j) NotFound) h e w)
why-at plan c d i edit Root own h e w = absurd w
why-at plan c d i edit OtherTree own h e w = absurd w
why-at plan c d i edit Memory own h e w = tt
