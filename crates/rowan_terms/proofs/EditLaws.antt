-- Laws of edits and limits, as the contracts of `src/laws.rt` state them.
use Rattle.std.proofs.Common.{◌≡◌, ℕ, zero, suc, ◌+◌, ◌<◌, ◌≤◌, List, [], ◌∷◌, ◌++◌, take, drop}
use Rattle.std.proofs.Common.{length, Some, if◌then◌else◌, refl, sym, ◌∙◌, ap, subst, arith}
use Rattle.std.proofs.Common.{append_assoc, add-one}
use Rattle.std.proofs.lemmas.Bool.{lt-ltb}
use Rattle.std.proofs.lemmas.Grind.{flat_map-append}
use Rattle.std.proofs.lemmas.Option.{slice_get_within}
use Rattle.std.specs.Prelude.{slice_get}
use Rattle.rowan_green.specs.declared.fault.Fault.{Fault}
use Rattle.rowan_green.specs.declared.fault.Fault.TheVariants.{TextTooLong, TooManyChildren}
use Rattle.rowan_green.specs.Edits.{replaced, inserted, removed, spliced}
use Rattle.rowan_green.specs.Fits.{AreWithin, ChildPasses, PassesLimit, child_limit}
use Rattle.rowan_green.specs.Term.{NodeTerm, Term, node_of, node_kind, node_children, node_text}
use Rattle.rowan_green.specs.Term.{term_text, joined_text}
use Rattle.rowan_green.proofs.EditLemmas.{node_of-children, not_within, replaced-past}
use Rattle.rowan_green.proofs.Terms.{forest_text-forest}

pub replaced-within : {A : Type 0} (xs : List A) (i : ℕ) (x : A) → i < length xs
    → replaced xs i x ≡ take i xs ++ x ∷ drop (i + 1) xs
replaced-within xs i x h =
    ap (λ b. if b then take i xs ++ x ∷ drop (i + 1) xs else xs) (lt-ltb i (length xs) h)

joined_text-around : (ts us : List Term) (t : Term)
    → joined_text (ts ++ t ∷ us) ≡ joined_text ts ++ term_text t ++ joined_text us
joined_text-around ts us t =
    flat_map-append term_text ts (t ∷ us)
    ∙ sym (append_assoc (joined_text ts) (term_text t) (joined_text us))

pub text-inserted : (k : ℕ) (ts : List Term) (i : ℕ) (t : Term)
    → node_text (node_of k (inserted ts i t)) ≡ joined_text (take i ts) ++ term_text t
    ++ joined_text (drop i ts)
text-inserted k ts i t = forest_text-forest (inserted ts i t)
    ∙ joined_text-around (take i ts) (drop i ts) t

pub text-replaced : (k : ℕ) (ts : List Term) (i : ℕ) (t : Term) → i < length ts
    → node_text (node_of k (replaced ts i t)) ≡ joined_text (take i ts) ++ term_text t
    ++ joined_text (drop (i + 1) ts)
text-replaced k ts i t h =
    forest_text-forest (replaced ts i t) ∙ ap joined_text (replaced-within ts i t h)
    ∙ joined_text-around (take i ts) (drop (i + 1) ts) t

pub text-removed : (k : ℕ) (ts : List Term) (i : ℕ)
    → node_text (node_of k (removed ts i)) ≡ joined_text (take i ts)
    ++ joined_text (drop (i + 1) ts)
text-removed k ts i = forest_text-forest (removed ts i)
    ∙ flat_map-append term_text (take i ts) (drop (i + 1) ts)

pub text-spliced : (k : ℕ) (ts : List Term) (start end : ℕ) (us : List Term)
    → node_text (node_of k (spliced ts start end us)) ≡ joined_text (take start ts)
    ++ joined_text us ++ joined_text (drop end ts)
text-spliced k ts start end us =
    forest_text-forest (spliced ts start end us)
    ∙ flat_map-append term_text (take start ts ++ us) (drop end ts)
    ∙ ap (λ bs. bs ++ joined_text (drop end ts)) (flat_map-append term_text (take start ts) us)

itself-at : (ts : List Term) (i : ℕ) (t : Term) → slice_get ts i ≡ Some t
    → take i ts ++ t ∷ drop (suc i) ts ≡ ts
itself-at [] i t e = let h : i < length {A = Term} [] = slice_get_within [] i t e in
    absurd (omega arith)
itself-at (u ∷ us) zero t e = let same : t ≡ u = cc e in ap (λ v. v ∷ us) same
itself-at (u ∷ us) (suc i) t e = ap (λ vs. u ∷ vs) (itself-at us i t e)

-- a child that is replaced by itself
pub replaced-itself : (n : NodeTerm) (i : ℕ) (t : Term) → slice_get (node_children n) i ≡ Some t
    → node_of (node_kind n) (replaced (node_children n) i t) ≡ n
replaced-itself n i t e =
    let ts = node_children n in
    let at : take i ts ++ t ∷ drop (i + 1) ts ≡ ts = rw add-one (itself-at ts i t e) in
    ap (node_of (node_kind n)) (replaced-within ts i t (slice_get_within ts i t e) ∙ at)
    ∙ node_of-children n

-- a child that is not there
pub replaced-absent : (n : NodeTerm) (i : ℕ) (t : Term) → length (node_children n) ≤ i
    → node_of (node_kind n) (replaced (node_children n) i t) ≡ n
replaced-absent n i t h =
    ap (node_of (node_kind n)) (replaced-past (node_children n) i t h) ∙ node_of-children n

taken_back : (ts : List Term) (i : ℕ) (t : Term) → i ≤ length ts
    → take i (inserted ts i t) ++ drop (suc i) (inserted ts i t) ≡ ts
taken_back ts zero t h = refl
taken_back [] (suc i) t h = absurd (omega arith)
taken_back (u ∷ us) (suc i) t h = ap (λ vs. u ∷ vs) (taken_back us i t (omega arith))

-- a child that is removed as soon as it is inserted
pub removed-inserted : (n : NodeTerm) (i : ℕ) (t : Term) → i ≤ length (node_children n)
    → node_of (node_kind n) (removed (inserted (node_children n) i t) i) ≡ n
removed-inserted n i t h =
    let ts = node_children n in
    let back : removed (inserted ts i t) i ≡ ts = rw add-one (taken_back ts i t h) in
    ap (node_of (node_kind n)) back ∙ node_of-children n

-- how two places in one list lie to each other: the first with `x` behind `before`, the second with
-- `y` behind `front`
data Places (before front : List Term) (x y : Term) : Type 0 where
  same : before ≡ front → x ≡ y → Places before front x y
  sooner : (us : List Term) → front ≡ before ++ x ∷ us → Places before front x y
  later : (us : List Term) → before ≡ front ++ y ∷ us → Places before front x y

further : (u v : Term) (before front : List Term) (x y : Term) → u ≡ v → Places before front x y
    → Places (u ∷ before) (v ∷ front) x y
further u v before front x y e (same p q) = same (cc) q
further u v before front x y e (sooner us p) = sooner us (cc)
further u v before front x y e (later us p) = later us (cc)

places : (before after front back : List Term) (x y : Term)
    → before ++ x ∷ after ≡ front ++ y ∷ back → Places before front x y
places [] after [] back x y e = same refl (cc e)
places [] after (v ∷ front) back x y e =
    sooner front (let q : v ≡ x = cc e in ap (λ w. w ∷ front) q)
places (u ∷ before) after [] back x y e =
    later before (let q : u ≡ y = cc e in ap (λ w. w ∷ before) q)
places (u ∷ before) after (v ∷ front) back x y e =
    let head : u ≡ v = cc e in
    let tail : before ++ x ∷ after ≡ front ++ y ∷ back = cc e in
    further u v before front x y head (places before after front back x y tail)

too_many : (before : List Term) (x : Term) (f : Fault) → child_limit < length before + 1
    → ChildPasses before x f → TooManyChildren ≡ f
too_many before x TooManyChildren p q = refl
too_many before x TextTooLong p q = absurd (omega (arith, q.0))
too_many before x f p q = absurd q

too_long : (before : List Term) (x : Term) (f : Fault) → length before + 1 ≤ child_limit
    → ChildPasses before x f → TextTooLong ≡ f
too_long before x TextTooLong p q = refl
too_long before x TooManyChildren p q = absurd (omega arith)
too_long before x f p q = absurd q

one_cause : (before : List Term) (x : Term) (e f : Fault) → ChildPasses before x e
    → ChildPasses before x f → e ≡ f
one_cause before x TooManyChildren f p q = too_many before x f p q
one_cause before x TextTooLong f p q = too_long before x f p.0 q
one_cause before x e f p q = absurd p

-- a list that goes on behind the child that passes a limit is not within the limits
passed : (before us whole : List Term) (x : Term) (e : Fault) → AreWithin before
    → ChildPasses before x e → whole ≡ before ++ x ∷ us → AreWithin whole → ⊥
passed before us whole x e w p is =
    not_within whole e (record
    { before = before; child = x; after = us; parts = is; within = w; passes = p })

one_at : (e f : Fault) (before front : List Term) (x y : Term) → AreWithin before
    → ChildPasses before x e → AreWithin front → ChildPasses front y f → Places before front x y
    → e ≡ f
one_at e f before front x y w p v q (same a b) =
    one_cause before x e f p (subst (λ t. ChildPasses before t f) (sym b)
    (subst (λ ts. ChildPasses ts y f) (sym a) q))
one_at e f before front x y w p v q (sooner us a) = absurd (passed before us front x e w p a v)
one_at e f before front x y w p v q (later us a) = absurd (passed front us before y f v q a w)

pub one_limit : (ts : List Term) (e f : Fault) → PassesLimit ts e → PassesLimit ts f → e ≡ f
one_limit ts e f p q = one_at e f p.before q.before p.child q.child p.within p.passes q.within
    q.passes (places p.before p.after q.before q.after p.child q.child (sym p.parts ∙ q.parts))
