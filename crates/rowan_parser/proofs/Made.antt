-- What functions make that give no marker, and what the calls make that recover.
use Rattle.std.proofs.Common.{◌≡◌, ℕ, suc, ◌<◌, IsTrue, List, [], ◌∷◌, ◌++◌, length}
use Rattle.std.proofs.Common.{refl, sym, ◌∙◌, ap, subst, arith, append-nil, inl, inr}
use Rattle.std.proofs.Common.{Bool, true, false}
use Rattle.std.specs.Prelude.{cond}
use Rattle.std.specs.Bool.{if◌then◌else◌}
use Rattle.std.proofs.lemmas.List.Elements.{All-push}
use Rattle.rowan_events.specs.declared.event.Event.{Event}
use Rattle.rowan_events.specs.declared.event.Event.TheVariants.{Nothing}
use Rattle.rowan_events.specs.declared.event.Event.TheVariants as event
use Rattle.rowan_events.specs.Log.{Seen, Place, Extent, Piece, Is, with_event, with_token, bumped}
use Rattle.rowan_events.specs.Log.{extent_of}
use Rattle.rowan_events.specs.Log.{complained, completed, begun_at, skipped, stops_here, recovered}
use Rattle.rowan_events.specs.Log.{refused_unless, ended}
use Rattle.rowan_parser.specs.Shape.{Forest, none, token_then, node_then, joined}
use Rattle.rowan_parser.specs.Making.{IsBegun, IsEnded, HasItems, HasList, IsListNode}
use Rattle.rowan_parser.specs.Making.{IsListOf, IsMade, IsErrorNode, tokens}
use Rattle.rowan_parser.specs.Making.{each_ended}
use Rattle.rowan_parser.proofs.ShapeLemmas.{part_none, part_node}
use Rattle.rowan_parser.proofs.Making.{joined-none, joined-assoc, begins, adds, takes, ends, eats}
use Rattle.rowan_parser.proofs.Making.{eats_not, each-append}

-- a node
pub made_node : (P : Forest → Type 0) (old s : Seen) (c : Extent) (kind : ℕ) (f : Forest)
    → IsEnded old s c kind f
    → P (node_then kind f none) → IsMade P old s
made_node P old s c kind f ended p = record {
  forest = node_then kind f none;
  is = p;
  was = ended.was;
  makes = λ whole.
      let h = ended.is whole in
      record { part = h.node; joins = h.joins; is = part_node h.i h.node kind f h.is };
}

pub made_list : (P Q : Forest → Type 0) (front : Forest) (old s : Seen) (c : Extent) (kind : ℕ)
    → IsListNode Q front old s c kind
    → ((f : Forest) → IsListOf Q front kind f → P f) → IsMade P old s
made_list P Q front old s c kind h to =
    let inside = joined (joined (joined front (each_ended h.items)) h.last) h.back in
    made_node P old s c kind inside h.ended
    (to (node_then kind inside none)
    (record {
      items = h.items;
      last = h.last;
      row = h.row;
      back = h.back;
      is_back = h.is_back;
      is = refl;
    }))

-- nothing
pub made_none : (P : Forest → Type 0) (old s : Seen) → Is old s → P none → IsMade P old s
made_none P old s is p = record {
  forest = none;
  is = p;
  was = λ whole. subst IsTrue (ap (λ (r : Seen). r.is_whole) (is.all whole)) whole;
  makes = λ whole. record {
    part = [];
    joins = ap (λ (r : Seen). r.events) (is.all whole) ∙ sym (append-nil old.events);
    is = part_none;
  };
}

-- behind a call that made no event
pub made_behind : (P : Forest → Type 0) (old s new : Seen)
    → (IsTrue s.is_whole → IsTrue old.is_whole)
    → (IsTrue s.is_whole → s.events ≡ old.events) → IsMade P s new → IsMade P old new
made_behind P old s new was same made = record {
  forest = made.forest;
  is = made.is;
  was = λ whole. was (made.was whole);
  makes = λ whole.
      let h = made.makes whole in
      record {
        part = h.part;
        joins = h.joins ∙ ap (λ (es : List Event). es ++ h.part) (same (made.was whole));
        is = h.is;
      };
}

-- ---- the calls that recover

at_once : (s : Seen) → Is s s
at_once s = record { left = refl; all = λ whole. refl }

record IsMany (old s : Seen) (m : Place) (f : Forest) : Type 0 where
  n : ℕ
  begun : IsBegun old s m (joined f (tokens n))

skips : (stops : ℕ → Bool) (left : List Piece) (old s : Seen) (m : Place) (f : Forest)
    → left ≡ s.left → IsBegun old s m f
    → IsMany old (skipped stops left s) m f
skips stops [] old s m f e begun =
    let Q : Forest → Type 0 = λ k. IsBegun old s m k in
    record { n = 0; begun = subst Q (sym (joined-none f)) begun }
skips stops (t ∷ left) old s m f e begun =
    let next = with_token event.Token (t ∷ left) s in
    let is : Is (bumped s) next = ap_is (t ∷ left) s e in
    let some : 0 < length s.left = omega (arith, ap length e) in
    one (stops t.kind)
    (skips stops left old next m (joined f (token_then none)) refl
    (takes old s next m f begun is some))
  where
    ap_is : (left : List Piece) (s : Seen) → left ≡ s.left
        → Is (bumped s) (with_token event.Token left s)
    ap_is left s e =
        let r = with_token event.Token left s in
        let Q : List Piece → Type 0 = λ l. Is (with_token event.Token l s) r in
        subst Q e (at_once (with_token event.Token left s))

    one : (b : Bool)
        → IsMany old (skipped stops left (with_token event.Token (t ∷ left) s)) m
        (joined f (token_then none))
        → IsMany old (cond b s (skipped stops left (with_token event.Token (t ∷ left) s))) m f
    one true h =
        let Q : Forest → Type 0 = λ k. IsBegun old s m k in
        record { n = 0; begun = subst Q (sym (joined-none f)) begun }
    one false h =
        let r = skipped stops left (with_token event.Token (t ∷ left) s) in
        let Q : Forest → Type 0 = λ k. IsBegun old r m k in
        record {
          n = suc h.n;
          begun = subst Q (joined-assoc f (token_then none) (tokens h.n)) h.begun;
        }

-- `recover_until`
pub made_recovered : (P : Forest → Type 0) (old new : Seen) (kind : ℕ) (stops : ℕ → Bool)
    → Is (recovered kind stops old) new
    → ((f : Forest) → IsErrorNode kind f → P f) → IsMade P old new
made_recovered P old new kind stops is to = by (stops_here stops old.left) is
  where
    by : (b : Bool)
        → Is (cond b old
        (completed (begun_at old) kind (skipped stops old.left (with_event Nothing old)))) new
        → IsMade P old new
    by true is = made_none P old new is (to none (inl refl))
    by false is =
        let s = with_event Nothing old in
        let m = begun_at old in
        let begun = begins old s m (at_once s) refl in
        let many = skips stops old.left old s m none refl begun in
        let all = skipped stops old.left s in
        made_node P old new (extent_of m all) kind (tokens many.n)
        (ends old all new m (extent_of m all) kind (tokens many.n) many.begun is refl)
        (to (node_then kind (tokens many.n) none) (inr (many.n, refl)))

-- `error_to_end`, and `deeper` at depth 0
pub made_ended : (P : Forest → Type 0) (old new : Seen) (kind : ℕ) (message : List ℕ)
    → Is (ended kind message old) new
    → ((f : Forest) → IsErrorNode kind f → P f) → IsMade P old new
made_ended P old new kind message is to =
    made_behind P old (complained message old) new (λ w. w) (λ w. refl)
    (made_recovered P (complained message old) new kind (λ k. false) is to)

-- `err_recover`
pub made_refused : (P : Forest → Type 0) (old new : Seen) (kind : ℕ) (message : List ℕ)
    (stops : ℕ → Bool) (b : Bool)
    → Is (refused_unless b kind (complained message old)) new → b ≡ stops_here stops old.left
    → ((f : Forest) → IsErrorNode kind f → P f) → IsMade P old new
made_refused P old new kind message stops true is e to =
    made_behind P old (complained message old) new (λ w. w) (λ w. refl)
    (made_none P (complained message old) new is (to none (inl refl)))
made_refused P old new kind message stops false is e to =
    let s = complained message old in
    let s1 = with_event Nothing s in
    let begun = begins s s1 (begun_at s) (at_once s1) refl in
    let took = takes s s1 (bumped s1) (begun_at s) none begun (at_once (bumped s1))
    (some old.left e) in
    made_behind P old s new (λ w. w) (λ w. refl)
    (made_node P s new (extent_of (begun_at s) (bumped s1)) kind (tokens 1)
    (ends s (bumped s1) new (begun_at s) (extent_of (begun_at s) (bumped s1)) kind (tokens 1) took
    is refl)
    (to (node_then kind (tokens 1) none) (inr (1, refl))))
  where
    some : (left : List Piece) → false ≡ stops_here stops left → 0 < length left
    some [] h = absurd cc
    some (t ∷ left) h = omega arith

-- ---- as a part of a node

pub adds_made : (P : Forest → Type 0) (old s s2 : Seen) (m : Place) (f : Forest) → IsBegun old s m f
    → (made : IsMade P s s2)
    → IsBegun old s2 m (joined f made.forest)
adds_made P old s s2 m f begun made = record {
  was = λ whole. begun.was (made.was whole);
  closes = λ whole more g p raw.
      let n = made.makes whole in
      let b = adds old s s2 m f made.forest n.part begun made.was (λ w. n.joins) n.is in
      b.closes whole more g p raw;
}

pub adds_made_item : (P : Forest → Type 0) (old s s2 s3 : Seen) (m : Place) (front : Forest)
    (b : Bool)
    → HasItems P old s m front → IsMade P s s2
    → b ≡ false → Is (if b then bumped s2 else s2) s3 → HasList P old s3 m front
adds_made_item P old s s2 s3 m front b has made no_token is =
    let f = joined front (each_ended has.items) in
    record {
      items = has.items;
      last = made.forest;
      row = record { each = has.each; is_last = inr made.is };
      begun = eats_not old s2 s3 m (joined f made.forest) b
          (adds_made P old s s2 m f has.begun made) no_token is;
    }

pub adds_made_item_and : (P : Forest → Type 0) (old s s2 s3 : Seen) (m : Place) (front : Forest)
    (b : Bool)
    → HasItems P old s m front → IsMade P s s2
    → b ≡ true → Is (if b then bumped s2 else s2) s3 → (IsTrue b → 0 < length s2.left)
    → HasItems P old s3 m front
adds_made_item_and P old s s2 s3 m front b has made token is some =
    let e = made.forest in
    let f = joined front (each_ended has.items) in
    let all = eats old s2 s3 m (joined f e) b (adds_made P old s s2 m f has.begun made)
    token is some in
    let Q : Forest → Type 0 = λ f. IsBegun old s3 m f in
    let same : joined (joined f e) (token_then none)
    ≡ joined front (each_ended (has.items ++ e ∷ [])) =
    ap (λ (k : Forest). joined k (token_then none)) (joined-assoc front (each_ended has.items) e)
    ∙ joined-assoc front (joined (each_ended has.items) e) (token_then none)
    ∙ ap (joined front) (sym (each-append has.items e)) in
    record {
      items = has.items ++ e ∷ [];
      each = All-push P has.items e has.each made.is;
      begun = subst Q same all;
    }

-- behind a call that left all as it was
pub made_kept : (P : Forest → Type 0) (old s new : Seen) → s ≡ old → IsMade P s new
    → IsMade P old new
made_kept P old s new e made = let Q : Seen → Type 0 = λ r. IsMade P r new in subst Q e made
