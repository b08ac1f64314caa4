-- Tokens that are passed over up to one of some kinds.
use Rattle.std.proofs.Common.{◌≡◌, ℕ, suc, ◌+◌, ◌-◌, ◌<◌, ◌≤◌, IsTrue, List, [], ◌∷◌, length, drop}
use Rattle.std.proofs.Common.{refl, sym, ◌∙◌, ap, subst, arith}
use Rattle.std.specs.Prelude.{Bool, true, false, cond, ◌&&◌, ◌==◌, ◌/◌, ◌%◌, ◌^◌, ltb}
use Rattle.std.specs.Bool.{if◌then◌else◌}
use Rattle.std.proofs.Math.Nat.{zero-div}
use Rattle.rowan_events.specs.Seen.{has, halts_here, next_here}
use Rattle.rowan_events.specs.declared.event.Event.TheVariants.{Nothing}
use Rattle.rowan_events.specs.declared.event.Event.TheVariants as event
use Rattle.rowan_events.specs.Log.{Seen, Piece, Place, Is, with_event, with_token, bumped}
use Rattle.rowan_events.specs.Log.{skipped_by, stops_here, completed, begun_at, recovered}
use Rattle.rowan_events.specs.Log.{level_behind, halts_outside, recovered_over}

-- where it halts nothing is skipped
skipped-here : (halts : ℕ → ℕ → Bool) (next : ℕ → ℕ → ℕ) (n : ℕ) (s : Seen)
    → halts_here halts n s.left ≡ true → skipped_by halts next n s.left s ≡ s
skipped-here halts next n s here = by s.left here
  where
    by : (left : List Piece) → halts_here halts n left ≡ true
        → skipped_by halts next n left s ≡ s
    by [] h = refl
    by (t ∷ left) h =
        let later = skipped_by halts next (next n t.kind) left
        (with_token event.Token (t ∷ left) s) in
        ap (λ (b : Bool). cond b s later) h

-- where it does not, one token is taken first
skipped-on : (halts : ℕ → ℕ → Bool) (next : ℕ → ℕ → ℕ) (n : ℕ) (s : Seen)
    → halts_here halts n s.left ≡ false
    → skipped_by halts next n s.left s
    ≡ skipped_by halts next (next_here next n s.left) (bumped s).left (bumped s)
skipped-on halts next n s on = by s.left on
  where
    by : (left : List Piece) → halts_here halts n left ≡ false
        → skipped_by halts next n left s
        ≡ skipped_by halts next (next_here next n left) (with_token event.Token left s).left
        (with_token event.Token left s)
    by [] h = absurd cc
    by (t ∷ left) h =
        let later = skipped_by halts next (next n t.kind) left
        (with_token event.Token (t ∷ left) s) in
        ap (λ (b : Bool). cond b s later) h

-- the tokens from the first one on at which it halts
abbrev from : (ℕ → ℕ → Bool) → (ℕ → ℕ → ℕ) → ℕ → List Piece → List Piece
from halts next n [] = []
from halts next n (t ∷ left) =
    cond (halts n t.kind) (t ∷ left) (from halts next (next n t.kind) left)

left-by : (halts : ℕ → ℕ → Bool) (next : ℕ → ℕ → ℕ) (n : ℕ) (left : List Piece) (s : Seen)
    → left ≡ s.left → (skipped_by halts next n left s).left ≡ from halts next n left
left-by halts next n [] s e = sym e
left-by halts next n (t ∷ left) s e =
    cases (left-by halts next (next n t.kind) left (with_token event.Token (t ∷ left) s) refl)
    (halts n t.kind)
  where
    later : Seen
    later = skipped_by halts next (next n t.kind) left (with_token event.Token (t ∷ left) s)

    cases : later.left ≡ from halts next (next n t.kind) left
        → (b : Bool) → (cond b s later).left
        ≡ cond b (t ∷ left) (from halts next (next n t.kind) left)
    cases ih true = sym e
    cases ih false = ih

skipped-left : (halts : ℕ → ℕ → Bool) (next : ℕ → ℕ → ℕ) (n : ℕ) (s r : Seen)
    → s.left ≡ r.left
    → (skipped_by halts next n s.left s).left ≡ (skipped_by halts next n r.left r).left
skipped-left halts next n s r same =
    left-by halts next n s.left s refl ∙ ap (from halts next n) same
    ∙ sym (left-by halts next n r.left r refl)

whole-bumped : (s : Seen) → (bumped s).is_whole ≡ s.is_whole
whole-bumped s = by s.left
  where
    by : (left : List Piece) → (with_token event.Token left s).is_whole ≡ s.is_whole
    by [] = refl
    by (t ∷ left) = refl

-- what is skipped from here on, at this level, is what is skipped from the start on
pub record IsSkippingBy (halts : ℕ → ℕ → Bool) (next : ℕ → ℕ → ℕ) (start : Seen) (n : ℕ)
    (s : Seen) : Type 0 where
  pub left : (skipped_by halts next n s.left s).left
      ≡ (skipped_by halts next 0 start.left start).left
  pub all : IsTrue s.is_whole
      → skipped_by halts next n s.left s ≡ skipped_by halts next 0 start.left start

enters-by : (halts : ℕ → ℕ → Bool) (next : ℕ → ℕ → ℕ) (start s : Seen) → Is start s
    → IsSkippingBy halts next start 0 s
enters-by halts next start s is = record {
  left = skipped-left halts next 0 s start is.left;
  all = λ whole. ap (λ (r : Seen). skipped_by halts next 0 r.left r) (is.all whole);
}

goes_on-by : (halts : ℕ → ℕ → Bool) (next : ℕ → ℕ → ℕ) (start : Seen) (n : ℕ) (s new : Seen)
    → IsSkippingBy halts next start n s
    → halts_here halts n s.left ≡ false → Is (bumped s) new
    → IsSkippingBy halts next start (next_here next n s.left) new
goes_on-by halts next start n s new so on is =
    let m = next_here next n s.left in
    record {
      left = skipped-left halts next m new (bumped s) is.left
          ∙ sym (ap (λ (r : Seen). r.left) (skipped-on halts next n s on)) ∙ so.left;
      all = λ whole.
          let e = is.all whole in
          let was : IsTrue s.is_whole = sym (whole-bumped s)
          ∙ sym (ap (λ (r : Seen). r.is_whole) e) ∙ whole in
          ap (λ (r : Seen). skipped_by halts next m r.left r) e
          ∙ sym (skipped-on halts next n s on) ∙ so.all was;
    }

-- what is skipped in a node of this kind, unless it stops at once
abbrev recovered_by : (ℕ → ℕ → Bool) → (ℕ → ℕ → ℕ) → (ℕ → Bool) → ℕ → Seen → Seen
recovered_by halts next stops kind s = cond (stops_here stops s.left) s
    (completed (begun_at s) kind (skipped_by halts next 0 s.left (with_event Nothing s)))

ends-by : (halts : ℕ → ℕ → Bool) (next : ℕ → ℕ → ℕ) (stops : ℕ → Bool) (kind : ℕ)
    (first : Seen) (n : ℕ) (s new : Seen) (m : Place)
    → stops_here stops first.left ≡ false
    → IsSkippingBy halts next (with_event Nothing first) n s
    → halts_here halts n s.left ≡ true → m ≡ begun_at first → Is (completed m kind s) new
    → Is (recovered_by halts next stops kind first) new
ends-by halts next stops kind first n s new m on so here at is =
    let whole_thing = completed (begun_at first) kind
    (skipped_by halts next 0 first.left (with_event Nothing first)) in
    let unskipped : s ≡ skipped_by halts next n s.left s =
    sym (skipped-here halts next n s here) in
    let chosen : recovered_by halts next stops kind first
    ≡ whole_thing = ap (λ (b : Bool). cond b first whole_thing) on in
    record {
      left = is.left ∙ ap (λ (r : Seen). r.left) unskipped ∙ so.left
          ∙ sym (ap (λ (r : Seen). r.left) chosen);
      all = λ whole.
          let e = is.all whole in
          let was : IsTrue s.is_whole = sym (ap (λ (r : Seen). r.is_whole) e) ∙ whole in
          e ∙ ap (λ (p : Place). completed p kind s) at
          ∙ ap (completed (begun_at first) kind) (unskipped ∙ so.all was) ∙ sym chosen;
    }

stays-by : (halts : ℕ → ℕ → Bool) (next : ℕ → ℕ → ℕ) (stops : ℕ → Bool) (kind : ℕ)
    (first : Seen) → stops_here stops first.left ≡ true
    → Is (recovered_by halts next stops kind first) first
stays-by halts next stops kind first here =
    let whole_thing = completed (begun_at first) kind
    (skipped_by halts next 0 first.left (with_event Nothing first)) in
    let e : recovered_by halts next stops kind first
    ≡ first = ap (λ (b : Bool). cond b first whole_thing) here in
    record { left = sym (ap (λ (r : Seen). r.left) e); all = λ whole. sym e }

-- what is left where nothing is skipped, and what is else
abbrev left_of : (ℕ → ℕ → Bool) → (ℕ → ℕ → ℕ) → (ℕ → Bool) → List Piece → List Piece
left_of halts next stops left = cond (stops_here stops left) left (from halts next 0 left)

recovered-left : (halts : ℕ → ℕ → Bool) (next : ℕ → ℕ → ℕ) (stops : ℕ → Bool) (kind : ℕ)
    (s : Seen) → (recovered_by halts next stops kind s).left ≡ left_of halts next stops s.left
recovered-left halts next stops kind s =
    one (stops_here stops s.left)
    (left-by halts next 0 s.left (with_event Nothing s) refl)
  where
    skips : Seen
    skips = skipped_by halts next 0 s.left (with_event Nothing s)

    one : (b : Bool) → skips.left ≡ from halts next 0 s.left
        → (cond b s (completed (begun_at s) kind skips)).left
        ≡ cond b s.left (from halts next 0 s.left)
    one true h = refl
    one false h = h

whole-by : (halts : ℕ → ℕ → Bool) (next : ℕ → ℕ → ℕ) (n : ℕ) (left : List Piece) (s : Seen)
    → (skipped_by halts next n left s).is_whole ≡ s.is_whole
whole-by halts next n [] s = refl
whole-by halts next n (t ∷ left) s =
    one (halts n t.kind)
    (whole-by halts next (next n t.kind) left (with_token event.Token (t ∷ left) s))
  where
    later : Seen
    later = skipped_by halts next (next n t.kind) left (with_token event.Token (t ∷ left) s)

    one : (b : Bool) → later.is_whole ≡ s.is_whole → (cond b s later).is_whole ≡ s.is_whole
    one true h = refl
    one false h = h

recovered-whole : (halts : ℕ → ℕ → Bool) (next : ℕ → ℕ → ℕ) (stops : ℕ → Bool) (kind : ℕ)
    (s : Seen) → (recovered_by halts next stops kind s).is_whole ≡ s.is_whole
recovered-whole halts next stops kind s =
    one (stops_here stops s.left) (skipped_by halts next 0 s.left (with_event Nothing s))
    (whole-by halts next 0 s.left (with_event Nothing s))
  where
    one : (b : Bool) (r : Seen) → r.is_whole ≡ s.is_whole
        → (cond b s (completed (begun_at s) kind r)).is_whole ≡ s.is_whole
    one true r h = refl
    one false r h = h

-- a call that recovers, behind one that did something else
recovers-by : (halts : ℕ → ℕ → Bool) (next : ℕ → ℕ → ℕ) (stops : ℕ → Bool) (kind : ℕ)
    (wanted s new : Seen) → Is wanted s
    → Is (recovered_by halts next stops kind s) new
    → Is (recovered_by halts next stops kind wanted) new
recovers-by halts next stops kind wanted s new was is = record {
  left = is.left ∙ recovered-left halts next stops kind s
      ∙ ap (left_of halts next stops) was.left
      ∙ sym (recovered-left halts next stops kind wanted);
  all = λ whole.
      let e = is.all whole in
      let so : IsTrue s.is_whole = sym (recovered-whole halts next stops kind s)
      ∙ sym (ap (λ (r : Seen). r.is_whole) e) ∙ whole in
      e ∙ ap (recovered_by halts next stops kind) (was.all so);
}

-- ---- up to one of some kinds

abbrev stays_level : ℕ → ℕ → ℕ
stays_level n k = n

abbrev halts_at : (ℕ → Bool) → ℕ → ℕ → Bool
halts_at stops n k = stops k

abbrev pub IsSkipping : (ℕ → Bool) → Seen → Seen → Type 0
IsSkipping stops start s = IsSkippingBy (halts_at stops) stays_level start 0 s

-- it halts where it stops
halts-stops : (stops : ℕ → Bool) (n : ℕ) (left : List Piece) (b : Bool)
    → stops_here stops left ≡ b → halts_here (halts_at stops) n left ≡ b
halts-stops stops n [] b e = e
halts-stops stops n (t ∷ left) b e = e

level-stays : (n : ℕ) (left : List Piece) → next_here stays_level n left ≡ n
level-stays n [] = refl
level-stays n (t ∷ left) = refl

pub enters : (stops : ℕ → Bool) (start s : Seen) → Is start s → IsSkipping stops start s
enters stops = enters-by (halts_at stops) stays_level

pub goes_on : (stops : ℕ → Bool) (start s new : Seen) → IsSkipping stops start s
    → stops_here stops s.left ≡ false → Is (bumped s) new → IsSkipping stops start new
goes_on stops start s new so on is =
    let Q : ℕ → Type 0 = λ n. IsSkippingBy (halts_at stops) stays_level start n new in
    subst Q (level-stays 0 s.left)
    (goes_on-by (halts_at stops) stays_level start 0 s new so
    (halts-stops stops 0 s.left false on) is)

pub ends : (stops : ℕ → Bool) (kind : ℕ) (first s new : Seen) (m : Place)
    → stops_here stops first.left ≡ false → IsSkipping stops (with_event Nothing first) s
    → stops_here stops s.left ≡ true → m ≡ begun_at first → Is (completed m kind s) new
    → Is (recovered kind stops first) new
ends stops kind first s new m on so here at is =
    ends-by (halts_at stops) stays_level stops kind first 0 s new m on so
    (halts-stops stops 0 s.left true here) at is

pub stays : (stops : ℕ → Bool) (kind : ℕ) (first : Seen) → stops_here stops first.left ≡ true
    → Is (recovered kind stops first) first
stays stops = stays-by (halts_at stops) stays_level stops

pub recovers : (kind : ℕ) (stops : ℕ → Bool) (wanted s new : Seen) → Is wanted s
    → Is (recovered kind stops s) new → Is (recovered kind stops wanted) new
recovers kind stops = recovers-by (halts_at stops) stays_level stops kind

-- ---- outside of brackets

pub enters_over : (stops opens closes : ℕ → Bool) (start s : Seen) → Is start s
    → IsSkippingBy (halts_outside stops) (level_behind opens closes) start 0 s
enters_over stops opens closes = enters-by (halts_outside stops) (level_behind opens closes)

pub goes_on_over : (stops opens closes : ℕ → Bool) (start s new : Seen) (n m : ℕ)
    → IsSkippingBy (halts_outside stops) (level_behind opens closes) start n s
    → halts_here (halts_outside stops) n s.left ≡ false
    → m ≡ next_here (level_behind opens closes) n s.left → Is (bumped s) new
    → IsSkippingBy (halts_outside stops) (level_behind opens closes) start m new
goes_on_over stops opens closes start s new n m so on at is =
    let Q : ℕ → Type 0 =
    λ k. IsSkippingBy (halts_outside stops) (level_behind opens closes) start k new in
    subst Q (sym at)
    (goes_on-by (halts_outside stops) (level_behind opens closes) start n s new so on is)

pub ends_over : (stops opens closes : ℕ → Bool) (kind : ℕ) (first : Seen) (n : ℕ)
    (s new : Seen) (m : Place)
    → stops_here stops first.left ≡ false
    → IsSkippingBy (halts_outside stops) (level_behind opens closes) (with_event Nothing first) n s
    → halts_here (halts_outside stops) n s.left ≡ true
    → m ≡ begun_at first → Is (completed m kind s) new
    → Is (recovered_over kind stops opens closes first) new
ends_over stops opens closes = ends-by (halts_outside stops) (level_behind opens closes) stops

pub stays_over : (stops opens closes : ℕ → Bool) (kind : ℕ) (first : Seen)
    → stops_here stops first.left ≡ true
    → Is (recovered_over kind stops opens closes first) first
stays_over stops opens closes = stays-by (halts_outside stops) (level_behind opens closes) stops

pub recovers_over : (stops opens closes : ℕ → Bool) (kind : ℕ) (wanted s new : Seen)
    → Is wanted s
    → Is (recovered_over kind stops opens closes s) new
    → Is (recovered_over kind stops opens closes wanted) new
recovers_over stops opens closes =
    recovers-by (halts_outside stops) (level_behind opens closes) stops

-- a level grows by at most one with each token
level-next : (opens closes : ℕ → Bool) (n most : ℕ) (left : List Piece)
    → 0 < length left → n + length left ≤ most
    → next_here (level_behind opens closes) n left + length (drop 1 left) ≤ most
level-next opens closes n most [] some within = absurd (omega (arith, some))
level-next opens closes n most (t ∷ left) some within =
    by (opens t.kind) (closes t.kind) (omega (arith, within))
  where
    by : (a b : Bool) → (n + 1) + length left ≤ most
        → (if a then suc n else if b then n - 1 else n) + length left ≤ most
    by true b h = omega (arith, h)
    by false true h = omega (arith, h)
    by false false h = omega (arith, h)

some-left : (halts : ℕ → ℕ → Bool) (n : ℕ) (left : List Piece) → halts_here halts n left ≡ false
    → 0 < length left
some-left halts n [] on = absurd cc
some-left halts n (t ∷ left) on = omega arith

-- where it does not halt a token is left
pub halts-some : (halts : ℕ → ℕ → Bool) (n : ℕ) (left : List Piece)
    → halts_here halts n left ≡ false → 0 < length left
halts-some = some-left

left-bumped : (s : Seen) → (bumped s).left ≡ drop 1 s.left
left-bumped s = by s.left refl
  where
    by : (left : List Piece) → left ≡ s.left → (with_token event.Token left s).left ≡ drop 1 left
    by [] e = sym e
    by (t ∷ left) e = refl

pub level-bound : (stops opens closes : ℕ → Bool) (n m most : ℕ) (s new : Seen)
    → halts_here (halts_outside stops) n s.left ≡ false
    → m ≡ next_here (level_behind opens closes) n s.left
    → new.left ≡ (bumped s).left
    → n + length s.left ≤ most
    → m + length new.left ≤ most
level-bound stops opens closes n m most s new on at is within =
    let next = level-next opens closes n most s.left
    (some-left (halts_outside stops) n s.left on) within in
    omega (arith, next, at, ap length is, ap length (left-bumped s))

-- nothing is left where nothing stops
from-none : (left : List Piece) → from (halts_at (λ _. false)) stays_level 0 left ≡ []
from-none [] = refl
from-none (t ∷ left) = from-none left

left-none : (left : List Piece)
    → left_of (halts_at (λ _. false)) stays_level (λ _. false) left ≡ []
left-none [] = refl
left-none (t ∷ left) = from-none left

pub left-ended : (kind : ℕ) (s : Seen) → (recovered kind (λ _. false) s).left ≡ []
left-ended kind s =
    recovered-left (halts_at (λ _. false)) stays_level (λ _. false) kind s ∙ left-none s.left

-- the empty set has no kind
pub none_in : (k : ℕ) → has 0 k ≡ false
none_in k = by (ltb k 128)
  where
    by : (b : Bool) → b && (0 / 2 ^ k) % 2 == 1 ≡ false
    by false = refl
    by true = ap (λ (n : ℕ). n % 2 == 1) (zero-div (2 ^ k))

pub empty_set : has 0 ≡ (λ k. false)
empty_set = λ i k. none_in k i

-- by which `recover_until` is proved, and `recover_over`
pub ruleset skipping = (enters, goes_on, ends, stays)

pub ruleset skipping_over = (enters_over, goes_on_over, ends_over, stays_over)
