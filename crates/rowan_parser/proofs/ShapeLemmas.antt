-- Parts, nodes, and nodes around them.
use Rattle.std.proofs.Common.{◌≡◌, ℕ, zero, suc, ◌+◌, ◌-◌, ◌<◌, List, [], ◌∷◌, ◌++◌, length, refl}
use Rattle.std.proofs.Common.{sym, ◌∙◌, ap, arith, append_assoc, length-append}
use Rattle.std.specs.Prelude.{Some, None, slice_set}
use Rattle.std.proofs.Math.Seq.{set-append_seam}
use Rattle.rowan_green.specs.declared.green.SyntaxKind.{SyntaxKind}
use Rattle.rowan_events.specs.declared.event.Event.{Event}
use Rattle.rowan_events.specs.declared.event.Event.TheVariants.{Open, Around, Close, Nothing}
use Rattle.rowan_events.specs.declared.event.Event.TheVariants as event
use Rattle.rowan_events.specs.Log.{outer_at, closed_by}
use Rattle.rowan_parser.specs.Shape.{Step, Enter, Take, TakeAs, Exit, Forest, none, token_then}
use Rattle.rowan_parser.specs.Shape.{joined_then, node_then, around, enters, steps, word, joined}
use Rattle.rowan_parser.specs.Shape.{IsPart, IsNode, reach}

-- ---- parts

pub word-joined : (f g : Forest) → word (joined f g) ≡ word f ++ word g
word-joined none g = refl
word-joined (token_then f) g = ap (λ (w : List Step). Take ∷ w) (word-joined f g)
word-joined (joined_then kind n f) g = ap (λ (w : List Step). TakeAs kind n ∷ w) (word-joined f g)
word-joined (node_then kind inside f) g =
    ap (λ (w : List Step). Enter kind ∷ (word inside ++ Exit ∷ w)) (word-joined f g)
    ∙ ap (λ (w : List Step). Enter kind ∷ w)
    (sym (append_assoc (word inside) (Exit ∷ word f) (word g)))

pub part_none : IsPart [] none
part_none = record { spells = λ more. refl }

pub part_both : (a b : List Event) (f g : Forest) → IsPart a f → IsPart b g
    → IsPart (a ++ b) (joined f g)
part_both a b f g p q = record {
  spells = λ more.
      ap steps (append_assoc a b more)
      ∙ p.spells (b ++ more)
      ∙ ap (λ (w : List Step). word f ++ w) (q.spells more)
      ∙ sym (append_assoc (word f) (word g) (steps more))
      ∙ ap (λ (w : List Step). w ++ steps more) (sym (word-joined f g));
}

one_token : IsPart (event.Token ∷ []) (token_then none)
one_token = record { spells = λ more. refl }

pub part_token : (events : List Event) (f : Forest) → IsPart events f
    → IsPart (events ++ event.Token ∷ []) (joined f (token_then none))
part_token events f p = part_both events (event.Token ∷ []) f (token_then none) p one_token

one_joined : (kind : SyntaxKind) (n : ℕ)
    → IsPart (event.Joined kind n ∷ []) (joined_then kind.0 n none)
one_joined kind n = record { spells = λ more. refl }

pub part_joined : (kind : SyntaxKind) (n : ℕ) (events : List Event) (f : Forest) → IsPart events f
    → IsPart (events ++ event.Joined kind n ∷ []) (joined f (joined_then kind.0 n none))
part_joined kind n events f p =
    part_both events (event.Joined kind n ∷ []) f (joined_then kind.0 n none) p (one_joined kind n)

pub part_given_up : (events : List Event) (f : Forest) → IsPart events f
    → IsPart (events ++ Nothing ∷ []) f
part_given_up events f p = record {
  spells = λ more. ap steps (append_assoc events (Nothing ∷ []) more) ∙ p.spells (Nothing ∷ more);
}

pub part_node : (i : ℕ) (events : List Event) (kind : ℕ) (f : Forest) → IsNode i events kind f
    → IsPart events (node_then kind f none)
part_node i events kind f p = record {
  spells = λ more.
      ap (λ (es : List Event). steps (es ++ more)) (sym p.alone)
      ∙ p.spells 0 more
      ∙ ap (λ (w : List Step). Enter kind ∷ w)
      (sym (append_assoc (word f) (Exit ∷ []) (steps more)));
}

-- ---- a node

-- the node around begins behind all of these events
pass : (x : List Event) (n d : ℕ) (more : List Event) → d ≡ length x + suc n
    → around d (x ++ more) ≡ around (suc n) more
pass [] n d more e =
    let is : d ≡ suc n = omega (arith, e) in ap (λ (m : ℕ). around m more) is
pass (x ∷ xs) n zero more e = absurd (omega (arith, e))
pass (x ∷ xs) n (suc zero) more e = absurd (omega (arith, e))
pass (x ∷ xs) n (suc (suc m)) more e =
    let is : suc m ≡ length xs + suc n = omega (arith, e) in pass xs n (suc m) more is

passes : (x : List Event) (i len n : ℕ) (more : List Event) → len - i ≡ length x + 1
    → around (reach i len n) (x ++ more) ≡ around n more
passes x i len zero more e = refl
passes x i len (suc n) more e =
    let is : (len - i) + n ≡ length x + suc n = omega (arith, e) in pass x n ((len - i) + n) more is

ends : (inside : List Event) (f : Forest) (more : List Event) → IsPart inside f
    → steps ((inside ++ Close ∷ []) ++ more) ≡ word f ++ Exit ∷ steps more
ends inside f more p = ap steps (append_assoc inside (Close ∷ []) more) ∙ p.spells (Close ∷ more)

pub node_ends : (inside : List Event) (f : Forest) (kind : SyntaxKind) → IsPart inside f
    → IsNode 0 (Open kind 0 ∷ (inside ++ Close ∷ [])) kind.0 f
node_ends inside f kind p =
    let x : List Event = inside ++ Close ∷ [] in
    let len = length (Open kind 0 ∷ x) in
    record {
      there = omega arith;
      alone = refl;
      spells = λ n more.
          let far : len - 0 ≡ length x + 1 = omega arith in
          ap (λ (ks : List ℕ). enters ks ++ Enter kind.0 ∷ steps (x ++ more))
          (passes x 0 len n more far)
          ∙ ap (λ (w : List Step). enters (around n more) ++ Enter kind.0 ∷ w)
          (ends inside f more p);
    }

-- ---- lists of events

event_past : (before : List Event) (i : ℕ) (e old : Event) (after : List Event) → i ≡ length before
    → slice_set (before ++ old ∷ after) i e ≡ before ++ e ∷ after
event_past before i e old after is =
    ap (λ (k : ℕ). slice_set (before ++ old ∷ after) k e) is ∙ set-append_seam before old after e

outer_past : (before after : List Event) (i j d : ℕ) → i ≡ length before + j
    → outer_at i d (before ++ after) ≡ before ++ outer_at j d after
outer_past [] after i j d is =
    let so : i ≡ j = omega (arith, is) in ap (λ (k : ℕ). outer_at k d after) so
outer_past (b ∷ before) after zero j d is = absurd (omega (arith, is))
outer_past (b ∷ before) after (suc i) j d is =
    let so : i ≡ length before + j = omega (arith, is) in
    ap (λ (es : List Event). b ∷ es) (outer_past before after i j d so)

outer_in : (x after : List Event) (i d : ℕ) → i < length x
    → outer_at i d (x ++ after) ≡ outer_at i d x ++ after
outer_in [] after i d is = absurd (omega (arith, is))
outer_in (b ∷ x) after zero d is = refl
outer_in (b ∷ x) after (suc i) d is =
    let so : i < length x = omega (arith, is) in
    ap (λ (es : List Event). b ∷ es) (outer_in x after i d so)

length-outer : (x : List Event) (i d : ℕ) → length (outer_at i d x) ≡ length x
length-outer [] i d = refl
length-outer (b ∷ x) zero d = refl
length-outer (b ∷ x) (suc i) d = ap suc (length-outer x i d)

pub closed_alone : (before inside : List Event) (kind : SyntaxKind)
    → closed_by None (length before) kind (before ++ Nothing ∷ inside)
    ≡ before ++ Open kind 0 ∷ (inside ++ Close ∷ [])
closed_alone before inside kind =
    ap (λ (es : List Event). es ++ Close ∷ [])
    (event_past before (length before) (Open kind 0) Nothing inside refl)
    ∙ append_assoc before (Open kind 0 ∷ inside) (Close ∷ [])

-- ---- a node around

pub closed_around : (before node gap inside : List Event) (kind : SyntaxKind) (i : ℕ)
    → i < length node
    → closed_by (Some (length before + i)) (length before + (length node + length gap)) kind
    (before ++ node ++ gap ++ Nothing ∷ inside)
    ≡ before ++ outer_at i ((length node + length gap) - i) node ++ gap
    ++ Around kind 0 ∷ (inside ++ Close ∷ [])
closed_around before node gap inside kind i in_node =
    let at = length before + (length node + length gap) in
    let d = (length node + length gap) - i in
    let behind : List Event = Around kind 0 ∷ inside in
    let long : at ≡ length (before ++ node ++ gap) =
    omega (arith, length-append (before ++ node) gap, length-append before node) in
    let far : at - (length before + i) ≡ d = omega arith in
    ap (λ (es : List Event).
    outer_at (length before + i) (at - (length before + i)) es ++ Close ∷ [])
    (event_past (before ++ node ++ gap) at (Around kind 0) Nothing inside long)
    ∙ ap (λ (k : ℕ).
    outer_at (length before + i) k (before ++ node ++ gap ++ behind) ++ Close ∷ []) far
    ∙ ap (λ (es : List Event). outer_at (length before + i) d es ++ Close ∷ [])
    (append_assoc (before ++ node) gap behind ∙ append_assoc before node (gap ++ behind))
    ∙ ap (λ (es : List Event). es ++ Close ∷ [])
    (outer_past before (node ++ (gap ++ behind)) (length before + i) i d refl
    ∙ ap (λ (es : List Event). before ++ es) (outer_in node (gap ++ behind) i d in_node)
    ∙ sym (append_assoc before (outer_at i d node) (gap ++ behind))
    ∙ sym (append_assoc (before ++ outer_at i d node) gap behind))
    ∙ append_assoc (before ++ outer_at i d node ++ gap) behind (Close ∷ [])

pub around_ends : (node gap inside : List Event) (f g h : Forest) (kind : SyntaxKind) (i inner : ℕ)
    → IsNode i node inner f → IsPart gap g → IsPart inside h
    → IsNode (length node + length gap)
    (outer_at i ((length node + length gap) - i) node ++ gap
    ++ Around kind 0 ∷ (inside ++ Close ∷ []))
    kind.0 (node_then inner f (joined g h))
around_ends node gap inside f g h kind i inner n p q =
    let place = length node + length gap in
    let d = place - i in
    let x : List Event = inside ++ Close ∷ [] in
    let linked = outer_at i d node in
    let front : List Event = linked ++ gap in
    let all : List Event = front ++ Around kind 0 ∷ x in
    let long : length front ≡ place = length-append linked gap
    ∙ ap (λ (k : ℕ). k + length gap) (length-outer node i d) in
    let whole : length all ≡ place + suc (length x) = length-append front (Around kind 0 ∷ x)
    ∙ ap (λ (k : ℕ). k + suc (length x)) long in
    let here : place ≡ length front + 0 = omega (arith, long) in
    record {
      there = omega (arith, whole);
      alone = outer_past front (Around kind 0 ∷ x) place 0 0 here;
      spells = λ m more.
          let r = reach place (length all) m in
          let rest : List Event = Around kind r ∷ (x ++ more) in
          let later : List Event = gap ++ rest in
          let so_far : d ≡ reach i (length node) (suc (length gap)) = omega (arith, n.there) in
          let far : length all - place ≡ length x + 1 = omega (arith, whole) in
          let kinds : around (suc (length gap)) later ≡ kind.0 ∷ around m more =
          pass gap 0 (suc (length gap)) rest (omega arith)
          ∙ ap (λ (ks : List ℕ). kind.0 ∷ ks) (passes x place (length all) m more far) in
          let made : steps later ≡ word (joined g h) ++ Exit ∷ steps more =
          p.spells rest
          ∙ ap (λ (w : List Step). word g ++ w) (ends inside h more q)
          ∙ sym (append_assoc (word g) (word h) (Exit ∷ steps more))
          ∙ ap (λ (w : List Step). w ++ Exit ∷ steps more) (sym (word-joined g h)) in
          let inside_word : List Step = word f ++ Exit ∷ word (joined g h) in
          ap (λ (es : List Event). steps (es ++ more))
          (outer_past front (Around kind 0 ∷ x) place 0 r here)
          ∙ ap steps (append_assoc front (Around kind r ∷ x) more ∙ append_assoc linked gap rest)
          ∙ ap (λ (k : ℕ). steps (outer_at i k node ++ later)) so_far
          ∙ n.spells (suc (length gap)) later
          ∙ ap (λ (ks : List ℕ). enters ks ++ Enter inner ∷ (word f ++ Exit ∷ steps later)) kinds
          ∙ ap (λ (w : List Step). (enters (around m more) ++ Enter kind.0 ∷ [])
          ++ Enter inner ∷ (word f ++ Exit ∷ w)) made
          ∙ append_assoc (enters (around m more)) (Enter kind.0 ∷ [])
          (Enter inner ∷ (word f ++ Exit ∷ (word (joined g h) ++ Exit ∷ steps more)))
          ∙ ap (λ (w : List Step). enters (around m more) ++ Enter kind.0 ∷ Enter inner ∷ w)
          (sym (append_assoc (word f) (Exit ∷ word (joined g h)) (Exit ∷ steps more)));
    }
