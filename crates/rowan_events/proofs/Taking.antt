-- The tokens that are left, some tokens on and at the end, and events in their places.
use Rattle.std.proofs.Common.{◌≡◌, ℕ, zero, suc, ◌+◌, ◌-◌, ◌<◌, ◌≤◌, List, [], ◌∷◌, ◌++◌, length}
use Rattle.std.proofs.Common.{map, drop, get_or, refl, sym, ◌∙◌, ap, subst, arith}
use Rattle.std.specs.Prelude.{slice_set}
use Rattle.std.proofs.lemmas.List.{drop_all, drop-drop, length-drop, length-map}
use Rattle.rowan_green.specs.declared.green.SyntaxKind.{SyntaxKind}
use Rattle.rowan_events.specs.Log.{Seen, Piece, Is, with_token, with_joined, around_by}
use Rattle.rowan_events.specs.Log.{outer_at}
use Rattle.rowan_events.specs.Seen.{pieces_from, piece}
use Rattle.rowan_events.specs.declared.event.Event.{Event}
use Rattle.rowan_events.specs.declared.event.Event.TheVariants.{Joined}
use Rattle.rowan_events.specs.declared.parser.SeenToken.{SeenToken}

more : (n : ℕ) (tokens : List SeenToken)
    → pieces_from (n + 1) tokens ≡ drop 1 (pieces_from n tokens)
more n tokens = sym (drop-drop 1 n (map piece tokens))

long : (n : ℕ) (tokens : List SeenToken) → length (pieces_from n tokens) ≡ length tokens - n
long n tokens = omega (arith, length-drop n (map piece tokens), length-map tokens piece)

-- nothing is left just where so many tokens were taken
pub past_none : (n : ℕ) (tokens : List SeenToken) (left : List Piece) → pieces_from n tokens ≡ left
    → length tokens ≤ n → left ≡ []
past_none n tokens left e past =
    sym e ∙ drop_all n (map piece tokens) (omega (arith, past, length-map tokens piece))

pub none_past : (n : ℕ) (tokens : List SeenToken) (left : List Piece) → pieces_from n tokens ≡ left
    → left ≡ [] → length tokens ≤ n
none_past n tokens left e none = omega (arith, long n tokens, ap length e, ap length none)

-- ---- tokens that are taken

-- a parser that was moved on, and then got an event
abbrev pub moved_on : Event → List Piece → ℕ → Seen → Seen
moved_on e left taken s = record {
  left = left;
  taken = taken;
  events = s.events ++ e ∷ [];
  errors = s.errors;
  is_whole = s.is_whole;
}

taken-is : (e : Event) (n : ℕ) (tokens : List SeenToken) (s : Seen) → n < length tokens
    → pieces_from n tokens ≡ s.left → n ≡ s.taken
    → with_token e s.left s ≡ moved_on e (pieces_from (n + 1) tokens) (n + 1) s
taken-is e n tokens s some same at = by s.left same
  where
    by : (left : List Piece) → pieces_from n tokens ≡ left
        → with_token e left s ≡ moved_on e (pieces_from (n + 1) tokens) (n + 1) s
    by [] is = absurd (omega (arith, some, long n tokens, ap length is))
    by (t ∷ left) is =
        let later : left ≡ pieces_from (n + 1) tokens = sym (more n tokens ∙ ap (drop 1) is) in
        let next : suc s.taken ≡ n + 1 = omega (arith, at) in
        ap (λ (l : List Piece). moved_on e l (suc s.taken) s) later
        ∙ ap (λ (k : ℕ). moved_on e (pieces_from (n + 1) tokens) k s) next

joined-is : (kind n k : ℕ) (tokens : List SeenToken) (s : Seen) → 0 < k
    → pieces_from n tokens ≡ s.left → n ≡ s.taken
    → with_joined kind k s
    ≡ moved_on (Joined (record { 0 = kind }) k) (pieces_from (n + k) tokens) (n + k) s
joined-is kind n zero tokens s some same at = absurd (omega (arith, some))
joined-is kind n (suc k) tokens s some same at =
    let e : Event = Joined (record { 0 = kind }) (suc k) in
    let later : drop (suc k) s.left ≡ pieces_from (n + suc k) tokens =
    ap (drop (suc k)) (sym same) ∙ drop-drop (suc k) n (map piece tokens) in
    let next : s.taken + suc k ≡ n + suc k = omega (arith, at) in
    ap (λ (l : List Piece). moved_on e l (s.taken + suc k) s) later
    ∙ ap (λ (m : ℕ). moved_on e (pieces_from (n + suc k) tokens) m s) next

-- the fields of a parser, `inside`, and the parser that they are, one token on
pub takes_one : (e : Event) (n : ℕ) (tokens : List SeenToken) (inside s new : Seen)
    → inside ≡ s → inside.left ≡ pieces_from n tokens → inside.taken ≡ n → n < length tokens
    → Is (moved_on e (pieces_from (n + 1) tokens) (n + 1) inside) new
    → Is (with_token e s.left s) new
takes_one e n tokens inside s new view left at some is =
    let same : pieces_from n tokens ≡ s.left = sym left ∙ ap (λ (r : Seen). r.left) view in
    let so : n ≡ s.taken = sym at ∙ ap (λ (r : Seen). r.taken) view in
    let P : Seen → Type 0 = λ r. Is r new in
    subst P
    (ap (moved_on e (pieces_from (n + 1) tokens) (n + 1)) view
    ∙ sym (taken-is e n tokens s some same so)) is

-- nothing is done where no token is left
pub takes_none : (e : Event) (n : ℕ) (tokens : List SeenToken) (s : Seen)
    → pieces_from n tokens ≡ s.left → length tokens ≤ n → Is (with_token e s.left s) s
takes_none e n tokens s same none =
    let is = ap (λ (left : List Piece). with_token e left s)
    (past_none n tokens s.left same none) in
    record { left = sym (ap (λ (r : Seen). r.left) is); all = λ whole. sym is }

-- so many tokens on
pub takes_joined : (raw : SyntaxKind) (kind n k : ℕ) (tokens : List SeenToken)
    (inside s new : Seen) → raw ≡ record { 0 = kind }
    → inside ≡ s → inside.left ≡ pieces_from n tokens → inside.taken ≡ n → 0 < k
    → Is (moved_on (Joined raw k) (pieces_from (n + k) tokens) (n + k) inside) new
    → Is (with_joined kind k s) new
takes_joined raw kind n k tokens inside s new known view left at some is =
    let same : pieces_from n tokens ≡ s.left = sym left ∙ ap (λ (r : Seen). r.left) view in
    let so : n ≡ s.taken = sym at ∙ ap (λ (r : Seen). r.taken) view in
    let e : Event = Joined (record { 0 = kind }) k in
    let P : Seen → Type 0 = λ r. Is r new in
    let Q : SyntaxKind → Type 0 =
    λ r. Is (moved_on (Joined r k) (pieces_from (n + k) tokens) (n + k) inside) new in
    subst P
    (ap (moved_on e (pieces_from (n + k) tokens) (n + k)) view
    ∙ sym (joined-is kind n k tokens s some same so)) (subst Q known is)

-- ---- events

pub outer_at-past : (events : List Event) (i d : ℕ) → length events ≤ i
    → outer_at i d events ≡ events
outer_at-past [] i d past = refl
outer_at-past (e ∷ events) zero d past = absurd (omega (arith, past))
outer_at-past (e ∷ events) (suc i) d past =
    let so : length events ≤ i = omega (arith, past) in
    ap (λ (es : List Event). e ∷ es) (outer_at-past events i d so)

pub outer_at-set : (events : List Event) (i d : ℕ) (default : Event) → i < length events
    → slice_set events i (around_by d (get_or events i default)) ≡ outer_at i d events
outer_at-set [] i d default there = absurd (omega (arith, there))
outer_at-set (e ∷ events) zero d default there = refl
outer_at-set (e ∷ events) (suc i) d default there =
    let so : i < length events = omega (arith, there) in
    ap (λ (es : List Event). e ∷ es) (outer_at-set events i d default so)
