-- What a step does to the tokens that are left, and why its move is allowed.
use Rattle.std.proofs.Common.{◌≡◌, ℕ, zero, suc, ◌+◌, Bool, true, false, cond, eqb, ◌⊎◌, inl, inr, List, [], ◌∷◌}
use Rattle.std.proofs.Common.{Option, Some, None, slice_get, drop, refl, sym, ap, ◌∙◌, arith}
use Rattle.std.proofs.Common.{add-one}
use Rattle.std.proofs.lemmas.Bool.Decides.{nat_tests}
use Rattle.rowan_predictive.specs.declared.rules.Rule.{Rule}
use Rattle.rowan_predictive.specs.declared.rules.Rule.TheVariants.{Empty, Token, Node, Chain, Wrap, Seq, Choice, Optional, Star}
use Rattle.rowan_predictive.specs.declared.rules.Move.{Move}
use Rattle.rowan_predictive.specs.declared.rules.Move.TheVariants.{Take, Both, Become, Pass}
use Rattle.rowan_predictive.specs.declared.rules.Entry.{Entry}
use Rattle.rowan_predictive.specs.Choice.{is_begun, may_be_empty, may_pass, take_if, move_in, move_at, move_of}
use Rattle.rowan_predictive.specs.Derived.{Allows, AllowsAt}

abbrev pub head_of : List ℕ → Option ℕ
head_of [] = None
head_of (t ∷ ts) = Some t

pub next-head : (ts : List ℕ) (p : ℕ) → slice_get ts p ≡ head_of (drop p ts)
next-head [] zero = refl
next-head [] (suc p) = refl
next-head (t ∷ ts) zero = refl
next-head (t ∷ ts) (suc p) = next-head ts p

pub drop-next : (ts : List ℕ) (p k : ℕ) → slice_get ts p ≡ Some k → drop p ts ≡ k ∷ drop (p + 1) ts
drop-next [] zero k e = cc
drop-next [] (suc p) k e = cc
drop-next (t ∷ ts) zero k e = let h : t ≡ k = cc in ap (λ x. x ∷ ts) h
drop-next (t ∷ ts) (suc p) k e = rw add-one (let h = drop-next ts p k e in rw add-one at h)

take-is : (kind : ℕ) (next : Option ℕ) (m : Move) → take_if kind next ≡ Some m → (m ≡ Take kind) × (next ≡ Some kind)
take-is kind None m e = absurd (cc)
take-is kind (Some there) m e = split (eqb there kind) refl e
  where
    split : (b : Bool) → eqb there kind ≡ b → cond b (Some (Take kind)) None ≡ Some m → (m ≡ Take kind) × (Some there ≡ Some kind)
    split true is h = (cc, ap Some (let q : there ≡ kind = grind (arith, nat_tests) in q))
    split false is h = absurd (cc)

one-of : (b c : Bool) (x y : Move) (m : Move) → cond b (Some x) (cond c (Some y) None) ≡ Some m → (m ≡ x) ⊎ (m ≡ y)
one-of true c x y m e = inl cc
one-of false true x y m e = inr cc
one-of false false x y m e = absurd (cc)

one-of-four : (p q r s : Bool) (x y : Move) (m : Move)
    → cond p (Some x) (cond q (Some y) (cond r (Some x) (cond s (Some y) None))) ≡ Some m → (m ≡ x) ⊎ (m ≡ y)
one-of-four true q r s x y m e = inl cc
one-of-four false true r s x y m e = inr cc
one-of-four false false true s x y m e = inl cc
one-of-four false false false true x y m e = inr cc
one-of-four false false false false x y m e = absurd (cc)

-- the machine makes a move only where the rule allows it
allowed-in : (entries : List Entry) (i : ℕ) (next : Option ℕ) (rule : Rule) (m : Move)
    → move_in entries i next rule ≡ Some m → Allows i rule m
allowed-in entries i next Empty m e = cc
allowed-in entries i next (Token kind) m e = (take-is kind next m e).0
allowed-in entries i next (Node kind a) m e = cc
allowed-in entries i next (Chain a) m e = cc
allowed-in entries i next (Wrap kind a) m e = cc
allowed-in entries i next (Seq a b) m e = cc
allowed-in entries i next (Choice a b) m e = one-of-four (is_begun entries a next) (is_begun entries b next) (may_be_empty entries a) (may_be_empty entries b) (Become a) (Become b) m e
allowed-in entries i next (Optional a) m e = one-of (is_begun entries a next) (may_pass entries i next) (Become a) Pass m e
allowed-in entries i next (Star a) m e = one-of (is_begun entries a next) (may_pass entries i next) (Both a i) Pass m e

allowed-at : (entries : List Entry) (i : ℕ) (next : Option ℕ) (o : Option Entry) (m : Move)
    → move_at entries i next o ≡ Some m → AllowsAt i o m
allowed-at entries i next None m e = absurd (cc)
allowed-at entries i next (Some entry) m e = allowed-in entries i next entry.rule m e

pub allowed : (entries : List Entry) (i : ℕ) (next : Option ℕ) (m : Move)
    → move_of entries i next ≡ Some m → AllowsAt i (slice_get entries i) m
allowed entries i next m e = allowed-at entries i next (slice_get entries i) m e

taken-in : (entries : List Entry) (i : ℕ) (next : Option ℕ) (rule : Rule) (kind : ℕ)
    → move_in entries i next rule ≡ Some (Take kind) → next ≡ Some kind
taken-in entries i next Empty kind e = absurd (cc)
taken-in entries i next (Token k) kind e =
    let h = take-is k next (Take kind) e in let q : kind ≡ k = cc in h.1 ∙ ap Some (sym q)
taken-in entries i next (Node k a) kind e = absurd (cc)
taken-in entries i next (Chain a) kind e = absurd (cc)
taken-in entries i next (Wrap k a) kind e = absurd (cc)
taken-in entries i next (Seq a b) kind e = absurd (cc)
taken-in entries i next (Choice a b) kind e =
    elim (one-of-four (is_begun entries a next) (is_begun entries b next) (may_be_empty entries a) (may_be_empty entries b) (Become a) (Become b) (Take kind) e) [ inl h ↦ absurd (cc) | inr h ↦ absurd (cc) ]
taken-in entries i next (Optional a) kind e =
    elim (one-of (is_begun entries a next) (may_pass entries i next) (Become a) Pass (Take kind) e) [ inl h ↦ absurd (cc) | inr h ↦ absurd (cc) ]
taken-in entries i next (Star a) kind e =
    elim (one-of (is_begun entries a next) (may_pass entries i next) (Both a i) Pass (Take kind) e) [ inl h ↦ absurd (cc) | inr h ↦ absurd (cc) ]

taken-at : (entries : List Entry) (i : ℕ) (next : Option ℕ) (o : Option Entry) (kind : ℕ)
    → move_at entries i next o ≡ Some (Take kind) → next ≡ Some kind
taken-at entries i next None kind e = absurd (cc)
taken-at entries i next (Some entry) kind e = taken-in entries i next entry.rule kind e

-- and it takes the token that is next
pub taken : (entries : List Entry) (i : ℕ) (next : Option ℕ) (kind : ℕ)
    → move_of entries i next ≡ Some (Take kind) → next ≡ Some kind
taken entries i next kind e = taken-at entries i next (slice_get entries i) kind e
