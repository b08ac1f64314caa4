-- One rule for each call: what a user's proof of a shape is made of.
use Rattle.std.proofs.Common.{◌≡◌, ℕ, zero, suc, ◌+◌, ◌-◌, ◌<◌, ◌≤◌, IsTrue, List, [], ◌∷◌, ◌++◌}
use Rattle.std.proofs.Common.{length, refl, sym, ◌∙◌, ap, subst, arith, append_assoc, append-nil}
use Rattle.std.proofs.Common.{length-append, min, inl, inr, Bool, true, false}
use Rattle.std.specs.Bool.{if◌then◌else◌}
use Rattle.std.proofs.lemmas.List.Elements.{All-push}
use Rattle.std.specs.Prelude.{Some, None}
use Rattle.rowan_green.specs.declared.green.SyntaxKind.{SyntaxKind}
use Rattle.rowan_events.specs.declared.event.Event.{Event}
use Rattle.rowan_events.specs.declared.event.Event.TheVariants.{Open, Around, Close, Nothing}
use Rattle.rowan_events.specs.declared.event.Event.TheVariants as event
use Rattle.rowan_events.specs.Log.{Seen, Place, Extent, Piece, Is, with_event, with_token}
use Rattle.rowan_events.specs.Log.{with_joined, bumped, bumped_as, glued, completed, closed_at}
use Rattle.rowan_events.specs.Log.{closed_by, outer_at, begun_at, extent_of, place_around}
use Rattle.rowan_events.specs.Log.{noted, with_errors, missed}
use Rattle.rowan_events.specs.Told.{Told}
use Rattle.rowan_events.specs.declared.parser.Spot.TheVariants.{Behind}
use Rattle.rowan_parser.specs.Shape.{Step, Forest, none, token_then, joined_then, node_then}
use Rattle.rowan_parser.specs.Shape.{word, steps, joined, IsPart}
use Rattle.rowan_parser.specs.Making.{HasNode, IsBegun, IsEnded, HasItems, HasList, IsListNode}
use Rattle.rowan_parser.specs.Making.{each_ended}
use Rattle.rowan_parser.proofs.ShapeLemmas.{word-joined, part_none, part_node, node_ends}
use Rattle.rowan_parser.proofs.ShapeLemmas.{closed_alone, closed_around, around_ends}

pub joined-none : (f : Forest) → joined f none ≡ f
joined-none none = refl
joined-none (token_then f) = ap token_then (joined-none f)
joined-none (joined_then kind n f) = ap (joined_then kind n) (joined-none f)
joined-none (node_then kind inside f) = ap (node_then kind inside) (joined-none f)

pub joined-assoc : (f g h : Forest) → joined (joined f g) h ≡ joined f (joined g h)
joined-assoc none g h = refl
joined-assoc (token_then f) g h = ap token_then (joined-assoc f g h)
joined-assoc (joined_then kind n f) g h = ap (joined_then kind n) (joined-assoc f g h)
joined-assoc (node_then kind inside f) g h = ap (node_then kind inside) (joined-assoc f g h)

-- `start`
pub begins : (old new : Seen) (m : Place) → Is (with_event Nothing old) new
    → m ≡ begun_at old
    → IsBegun old new m none
begins old new m is at = record {
  was = λ whole. subst IsTrue (ap (λ (s : Seen). s.is_whole) (is.all whole)) whole;
  closes = λ whole more g part raw.
      let same : new.events ++ more ≡ old.events ++ Nothing ∷ more =
      ap (λ (s : Seen). s.events ++ more) (is.all whole)
      ∙ append_assoc old.events (Nothing ∷ []) more in
      record {
        node = Open raw 0 ∷ (more ++ Close ∷ []);
        i = 0;
        joins = ap (λ (p : Place). closed_at p raw (new.events ++ more)) at
            ∙ ap (closed_by None (length old.events) raw) same
            ∙ closed_alone old.events more raw;
        there = ap (λ (p : Place). p.at) at ∙ omega arith;
        is = node_ends more g raw part;
      };
}

-- what only adds events
pub adds : (old s s2 : Seen) (m : Place) (f h : Forest) (part : List Event)
    → IsBegun old s m f → (IsTrue s2.is_whole → IsTrue s.is_whole)
    → (IsTrue s2.is_whole → s2.events ≡ s.events ++ part) → IsPart part h
    → IsBegun old s2 m (joined f h)
adds old s s2 m f h part begun was e made = record {
  was = λ whole. begun.was (was whole);
  closes = λ whole more g p raw.
      let both : IsPart (part ++ more) (joined h g) = record {
        spells = λ rest.
            ap steps (append_assoc part more rest) ∙ made.spells (more ++ rest)
            ∙ ap (λ (w : List Step). word h ++ w) (p.spells rest)
            ∙ sym (append_assoc (word h) (word g) (steps rest))
            ∙ ap (λ (w : List Step). w ++ steps rest) (sym (word-joined h g));
      } in
      let all : List Event = closed_at m raw (s.events ++ (part ++ more)) in
      let k = joined (joined f h) g in
      let P : List Event → Type 0 = λ es. HasNode old.events (closed_at m raw es) m.at raw.0 k in
      let Q : Forest → Type 0 = λ k. HasNode old.events all m.at raw.0 k in
      let same : s.events ++ (part ++ more) ≡ s2.events ++ more =
      sym (append_assoc s.events part more)
      ∙ ap (λ (es : List Event). es ++ more) (sym (e whole)) in
      subst P same
      (subst Q (sym (joined-assoc f h g))
      (begun.closes (was whole) (part ++ more) (joined h g) both raw));
}

-- what makes no event
pub keeps : (old s s2 : Seen) (m : Place) (f : Forest) → IsBegun old s m f
    → (IsTrue s2.is_whole → IsTrue s.is_whole) → (IsTrue s2.is_whole → s2.events ≡ s.events)
    → IsBegun old s2 m f
keeps old s s2 m f begun was e = record {
  was = λ whole. begun.was (was whole);
  closes = λ whole more g p raw.
      let k = joined f g in
      let P : List Event → Type 0 =
      λ es. HasNode old.events (closed_at m raw (es ++ more)) m.at raw.0 k in
      subst P (sym (e whole)) (begun.closes (was whole) more g p raw);
}

one_token : IsPart (event.Token ∷ []) (token_then none)
one_token = record { spells = λ more. refl }

one_joined : (kind n : ℕ)
    → IsPart (event.Joined (record { 0 = kind }) n ∷ []) (joined_then kind n none)
one_joined kind n = record { spells = λ more. refl }

-- what is taken where a token is left
taken : (e : Event) (s : Seen) → 0 < length s.left
    → (with_token e s.left s).events ≡ s.events ++ e ∷ []
taken e s some = by s.left some
  where
    by : (left : List Piece) → 0 < length left → (with_token e left s).events ≡ s.events ++ e ∷ []
    by [] some = absurd (omega (arith, some))
    by (t ∷ left) some = refl

whole-taken : (e : Event) (s : Seen) → (with_token e s.left s).is_whole ≡ s.is_whole
whole-taken e s = by s.left
  where
    by : (left : List Piece) → (with_token e left s).is_whole ≡ s.is_whole
    by [] = refl
    by (t ∷ left) = refl

by_token : (e : Event) (g : Forest) → IsPart (e ∷ []) g
    → (old s new : Seen) (m : Place) (f : Forest) → IsBegun old s m f
    → Is (with_token e s.left s) new → 0 < length s.left → IsBegun old new m (joined f g)
by_token e g part old s new m f begun is some =
    adds old s new m f g (e ∷ []) begun
    (λ whole.
    let e = ap (λ (p : Seen). p.is_whole) (is.all whole) ∙ whole-taken e s in
    subst IsTrue e whole)
    (λ whole. ap (λ (p : Seen). p.events) (is.all whole) ∙ taken e s some)
    part

-- `bump`, where a token is left
pub takes : (old s new : Seen) (m : Place) (f : Forest) → IsBegun old s m f
    → Is (bumped s) new → 0 < length s.left → IsBegun old new m (joined f (token_then none))
takes = by_token event.Token (token_then none) one_token

-- `bump_as`, where a token is left
pub takes_as : (old s new : Seen) (m : Place) (f : Forest) (kind : ℕ) → IsBegun old s m f
    → Is (bumped_as kind s) new → 0 < length s.left
    → IsBegun old new m (joined f (joined_then kind 1 none))
takes_as old s new m f kind =
    by_token (event.Joined (record { 0 = kind }) 1) (joined_then kind 1 none)
    (one_joined kind 1) old s new m f

-- `bump_glued`, where so many tokens are left
pub takes_glued : (old s new : Seen) (m : Place) (f : Forest) (kind n : ℕ) → IsBegun old s m f
    → Is (glued kind n s) new → n ≤ length s.left → 0 < n
    → IsBegun old new m (joined f (joined_then kind n none))
takes_glued old s new m f kind n begun is some one =
    let count : min (length s.left) n ≡ n = omega (arith, some) in
    adds old s new m f (joined_then kind n none) (event.Joined (record { 0 = kind }) n ∷ []) begun
    (λ whole.
    let e = ap (λ (p : Seen). p.is_whole) (is.all whole)
    ∙ whole-joined kind (min (length s.left) n) s in
    subst IsTrue e whole)
    (λ whole.
    ap (λ (p : Seen). p.events) (is.all whole)
    ∙ ap (λ (k : ℕ). (with_joined kind k s).events) count
    ∙ events-joined kind n s one)
    (one_joined kind n)
  where
    whole-joined : (kind k : ℕ) (s : Seen) → (with_joined kind k s).is_whole ≡ s.is_whole
    whole-joined kind zero s = refl
    whole-joined kind (suc k) s = refl

    events-joined : (kind k : ℕ) (s : Seen) → 0 < k → (with_joined kind k s).events
        ≡ s.events ++ event.Joined (record { 0 = kind }) k ∷ []
    events-joined kind zero s h = absurd (omega (arith, h))
    events-joined kind (suc k) s h = refl

-- the calls that complain
pub complains : (old s s2 : Seen) (m : Place) (f : Forest) (errors : List Told)
    → IsBegun old s m f → Is (with_errors errors s) s2 → IsBegun old s2 m f
complains old s s2 m f errors begun is =
    keeps old s s2 m f begun
    (λ whole. let e = ap (λ (p : Seen). p.is_whole) (is.all whole) in subst IsTrue e whole)
    (λ whole. ap (λ (p : Seen). p.events) (is.all whole))

-- `eat`, where it took the token, and where it took none
pub eats : (old s s2 : Seen) (m : Place) (f : Forest) (b : Bool) → IsBegun old s m f → b ≡ true
    → Is (if b then bumped s else s) s2 → (IsTrue b → 0 < length s.left)
    → IsBegun old s2 m (joined f (token_then none))
eats old s s2 m f true begun h is some = takes old s s2 m f begun is (some refl)
eats old s s2 m f false begun h is some = absurd cc

pub eats_not : (old s s2 : Seen) (m : Place) (f : Forest) (b : Bool) → IsBegun old s m f → b ≡ false
    → Is (if b then bumped s else s) s2 → IsBegun old s2 m f
eats_not old s s2 m f true begun h is = absurd cc
eats_not old s s2 m f false begun h is = keeps old s s2 m f begun
    (λ whole. let e = ap (λ (p : Seen). p.is_whole) (is.all whole) in subst IsTrue e whole)
    (λ whole. ap (λ (p : Seen). p.events) (is.all whole))

-- `complete`
pub ends : (old s new : Seen) (m : Place) (c : Extent) (kind : ℕ) (f : Forest)
    → IsBegun old s m f → Is (completed m kind s) new → c ≡ extent_of m s
    → IsEnded old new c kind f
ends old s new m c kind f begun is at =
    let so : IsTrue new.is_whole → IsTrue s.is_whole =
    λ whole. subst IsTrue (ap (λ (p : Seen). p.is_whole) (is.all whole)) whole in
    record {
      was = λ whole. begun.was (so whole);
      is = λ whole.
          let e = is.all whole in
          let raw : SyntaxKind = record { 0 = kind } in
          let h = begun.closes (so whole) [] none part_none raw in
          let P : List Event → Type 0 = λ es. HasNode old.events es m.at kind (joined f none) in
          let Q : Forest → Type 0 = λ k. HasNode old.events new.events m.at kind k in
          let R : ℕ → Type 0 = λ n. HasNode old.events new.events n kind f in
          let same : closed_at m raw (s.events ++ []) ≡ new.events =
          ap (closed_at m raw) (append-nil s.events) ∙ sym (ap (λ (p : Seen). p.events) e) in
          subst R (sym (ap (λ (e : Extent). e.at) at)) (subst Q (joined-none f) (subst P same h));
    }

-- `precede`
pub precedes : (old s new : Seen) (m : Place) (c : Extent) (kind : ℕ) (f : Forest)
    → IsEnded old s c kind f → Is (with_event Nothing s) new
    → m ≡ place_around c s
    → IsBegun old new m (node_then kind f none)
precedes old s new m c kind f ended is at = record {
  was = λ whole. ended.was (subst IsTrue (ap (λ (p : Seen). p.is_whole) (is.all whole)) whole);
  closes = λ whole more g part raw.
      let before = old.events in
      let e = is.all whole in
      let was : IsTrue s.is_whole = subst IsTrue (ap (λ (p : Seen). p.is_whole) e) whole in
      let h = ended.is was in
      let at_end = length before + (length h.node + 0) in
      let place : Place = record {
        at = at_end;
        inner = Some (length before + h.i);
        first = c.first;
      } in
      let long : length s.events ≡ length before + (length h.node + 0) =
      ap length h.joins ∙ length-append before h.node ∙ omega arith in
      let where_is : m ≡ place =
      at
      ∙ ap (λ (n : ℕ).
      let p : Place = record { at = n; inner = Some c.at; first = c.first } in p) long
      ∙ ap (λ (n : ℕ).
      let p : Place = record { at = at_end; inner = Some n; first = c.first } in p) h.there in
      let same : new.events ++ more ≡ before ++ h.node ++ [] ++ Nothing ∷ more =
      ap (λ (p : Seen). p.events ++ more) e
      ∙ append_assoc s.events (Nothing ∷ []) more
      ∙ ap (λ (es : List Event). es ++ Nothing ∷ more)
      (h.joins ∙ sym (append-nil (before ++ h.node))) in
      let linked = outer_at h.i ((length h.node + 0) - h.i) h.node in
      let after : List Event = Around raw 0 ∷ (more ++ Close ∷ []) in
      record {
        node = linked ++ [] ++ after;
        i = length h.node + 0;
        joins = ap (λ (p : Place). closed_at p raw (new.events ++ more)) where_is
            ∙ ap (closed_at place raw) same
            ∙ closed_around before h.node [] more raw h.i h.is.there
            ∙ append_assoc (before ++ linked) [] after
            ∙ append_assoc before linked after
            ∙ ap (λ (es : List Event). before ++ es) (sym (append_assoc linked [] after));
        there = ap (λ (p : Place). p.at) where_is;
        is = around_ends h.node [] more f none g raw h.i kind h.is part_none part;
      };
}

-- a function of a grammar that makes one node
pub adds_node : (old s s2 : Seen) (m : Place) (f h : Forest) (c : Extent) (kind : ℕ)
    → IsBegun old s m f → IsEnded s s2 c kind h
    → IsBegun old s2 m (joined f (node_then kind h none))
adds_node old s s2 m f h c kind begun ended = record {
  was = λ whole. begun.was (ended.was whole);
  closes = λ whole more g p raw.
      let n = ended.is whole in
      let b = adds old s s2 m f (node_then kind h none) n.node begun ended.was (λ w. n.joins)
      (part_node n.i n.node kind h n.is) in
      b.closes whole more g p raw;
}

-- ---- lists with separators

pub each-append : (fs : List Forest) (f : Forest)
    → each_ended (fs ++ f ∷ []) ≡ joined (joined (each_ended fs) f) (token_then none)
each-append [] f = refl
each-append (g ∷ fs) f =
    ap (λ (k : Forest). joined g (token_then k)) (each-append fs f)
    ∙ sym (joined-assoc g (token_then (joined (each_ended fs) f)) (token_then none))
    ∙ ap (λ (k : Forest). joined k (token_then none))
    (sym (joined-assoc g (token_then (each_ended fs)) f))

pub no_items : (P : Forest → Type 0) (old s : Seen) (m : Place) (front : Forest)
    → IsBegun old s m front → HasItems P old s m front
no_items P old s m front begun =
    let Q : Forest → Type 0 = λ f. IsBegun old s m f in
    record {
      items = [];
      each = λ k d h. absurd (omega (arith, h));
      begun = subst Q (sym (joined-none front)) begun;
    }

pub no_more : (P : Forest → Type 0) (old s : Seen) (m : Place) (front : Forest)
    → HasItems P old s m front → HasList P old s m front
no_more P old s m front h =
    let Q : Forest → Type 0 = λ f. IsBegun old s m f in
    record {
      items = h.items;
      last = none;
      row = record { each = h.each; is_last = inl refl };
      begun = subst Q (sym (joined-none (joined front (each_ended h.items)))) h.begun;
    }

-- an element, and no separator was eaten
pub adds_item : (P : Forest → Type 0) (old s s2 s3 : Seen) (m : Place) (front h : Forest)
    (c : Extent) (kind : ℕ) (b : Bool)
    → HasItems P old s m front → IsEnded s s2 c kind h → P (node_then kind h none)
    → b ≡ false → Is (if b then bumped s2 else s2) s3 → HasList P old s3 m front
adds_item P old s s2 s3 m front h c kind b has ended p no_token is =
    let f = joined front (each_ended has.items) in
    record {
      items = has.items;
      last = node_then kind h none;
      row = record { each = has.each; is_last = inr p };
      begun = eats_not old s2 s3 m (joined f (node_then kind h none)) b
          (adds_node old s s2 m f h c kind has.begun ended) no_token is;
    }

-- an element, and a separator was eaten
pub adds_item_and : (P : Forest → Type 0) (old s s2 s3 : Seen) (m : Place) (front h : Forest)
    (c : Extent) (kind : ℕ) (b : Bool)
    → HasItems P old s m front → IsEnded s s2 c kind h → P (node_then kind h none)
    → b ≡ true → Is (if b then bumped s2 else s2) s3 → (IsTrue b → 0 < length s2.left)
    → HasItems P old s3 m front
adds_item_and P old s s2 s3 m front h c kind b has ended p token is some =
    let e = node_then kind h none in
    let f = joined front (each_ended has.items) in
    let made = eats old s2 s3 m (joined f e) b (adds_node old s s2 m f h c kind has.begun ended)
    token is some in
    let Q : Forest → Type 0 = λ f. IsBegun old s3 m f in
    let same : joined (joined f e) (token_then none)
    ≡ joined front (each_ended (has.items ++ e ∷ [])) =
    ap (λ (k : Forest). joined k (token_then none)) (joined-assoc front (each_ended has.items) e)
    ∙ joined-assoc front (joined (each_ended has.items) e) (token_then none)
    ∙ ap (joined front) (sym (each-append has.items e)) in
    record {
      items = has.items ++ e ∷ [];
      each = All-push P has.items e has.each p;
      begun = subst Q same made;
    }

-- a token that was expected, and the end of the node
pub closes : (P : Forest → Type 0) (old s s2 new : Seen) (m : Place) (front : Forest) (b : Bool)
    (message : List ℕ)
    (c : Extent) (kind : ℕ) → HasList P old s m front
    → Is (if b then bumped s else missed message s) s2 → (IsTrue b → 0 < length s.left)
    → Is (completed m kind s2) new → c ≡ extent_of m s2 → IsListNode P front old new c kind
closes P old s s2 new m front true message c kind has is some done at =
    let all = joined (joined front (each_ended has.items)) has.last in
    record {
      items = has.items;
      last = has.last;
      row = has.row;
      back = token_then none;
      is_back = inr refl;
      ended = ends old s2 new m c kind (joined all (token_then none))
          (takes old s s2 m all has.begun is (some refl)) done at;
    }
closes P old s s2 new m front false message c kind has is some done at =
    let all = joined (joined front (each_ended has.items)) has.last in
    let Q : Forest → Type 0 = λ f. IsEnded old new c kind f in
    record {
      items = has.items;
      last = has.last;
      row = has.row;
      back = none;
      is_back = inl refl;
      ended = subst Q (sym (joined-none all))
          (ends old s2 new m c kind all
          (complains old s s2 m all (noted s.taken Behind message s.errors) has.begun is) done at);
    }
