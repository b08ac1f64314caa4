-- By which rules an author says the shape of a function: one for each call, in the order in which a
-- search can use them. What the call did comes first, and tells from which parser it went. A file
-- of a grammar names them by `#![tactic(auto, using(rowan_parser::proofs::Rules::grammar))]`.
use Rattle.std.proofs.Common.{◌≡◌, ℕ, ◌<◌, ◌≤◌, IsTrue, List, [], ◌∷◌, ◌++◌, Bool, true, false}
use Rattle.std.proofs.Common.{length, sym}
use Rattle.std.proofs.Common.{subst}
use Rattle.std.specs.Bool.{if◌then◌else◌}
use Rattle.rowan_events.specs.declared.event.Event.TheVariants.{Nothing}
use Rattle.rowan_events.specs.Log.{Seen, Place, Extent, Is, with_event, bumped, bumped_as, glued}
use Rattle.rowan_events.specs.Log.{completed, begun_at, extent_of, place_around, noted}
use Rattle.rowan_events.specs.Log.{complained, missed, told_of}
use Rattle.rowan_events.specs.declared.parser.Spot.{Spot}
use Rattle.rowan_events.specs.declared.parser.Spot.TheVariants.{Here, Behind}
use Rattle.rowan_parser.specs.Shape.{Forest, none, token_then, joined_then, node_then, joined}
use Rattle.rowan_parser.specs.Making.{IsBegun, IsEnded, HasItems, HasList, IsListNode, IsMade, init}
use Rattle.rowan_parser.proofs.Made.{adds_made_item, adds_made_item_and, made_node, made_list}
use Rattle.rowan_parser.proofs.Made.{made_ended, made_refused, made_recovered}
use Rattle.rowan_parser.proofs.Making.{begins, takes, takes_as, takes_glued, complains, adds_node}
use Rattle.rowan_parser.proofs.Making.{ends, precedes, no_items, no_more, adds_item, adds_item_and}
use Rattle.rowan_parser.proofs.Making.{closes}

pub then_begins : (old new : Seen) (m : Place) → Is (with_event Nothing old) new
    → m ≡ begun_at old → IsBegun old new m none
then_begins = begins

pub then_takes : (old s new : Seen) (m : Place) (g : Forest) → Is (bumped s) new
    → IsBegun old s m (init g)
    → 0 < length s.left → joined (init g) (token_then none) ≡ g → IsBegun old new m g
then_takes old s new m g is begun some e =
    let Q : Forest → Type 0 = λ k. IsBegun old new m k in
    subst Q e (takes old s new m (init g) begun is some)

pub then_node : (old s new : Seen) (m : Place) (c : Extent) (kind : ℕ) (g h : Forest) → IsEnded s new c kind h
    → IsBegun old s m (init g)
    → joined (init g) (node_then kind h none) ≡ g → IsBegun old new m g
then_node old s new m c kind g h ended begun e =
    let Q : Forest → Type 0 = λ k. IsBegun old new m k in
    subst Q e (adds_node old s new m (init g) h c kind begun ended)

pub then_precedes : (old s new : Seen) (m : Place) (c : Extent) (kind : ℕ) (f : Forest)
    → Is (with_event Nothing s) new
    → m ≡ place_around c s
    → IsEnded old s c kind f → IsBegun old new m (node_then kind f none)
then_precedes old s new m c kind f is at ended = precedes old s new m c kind f ended is at

pub then_ends : (old s new : Seen) (m : Place) (c : Extent) (kind : ℕ) (f : Forest)
    → Is (completed m kind s) new → c ≡ extent_of m s
    → IsBegun old s m f → IsEnded old new c kind f
then_ends old s new m c kind f is at begun = ends old s new m c kind f begun is at

pub then_complains : (old s new : Seen) (m : Place) (f : Forest) (message : List ℕ)
    → Is (complained message s) new
    → IsBegun old s m f → IsBegun old new m f
then_complains old s new m f message is begun =
    complains old s new m f (noted s.taken Here message s.errors) begun is

pub then_misses : (old s new : Seen) (m : Place) (f : Forest) (message : List ℕ)
    → Is (missed message s) new
    → IsBegun old s m f → IsBegun old new m f
then_misses old s new m f message is begun =
    complains old s new m f (noted s.taken Behind message s.errors) begun is

pub then_tells : (old s new : Seen) (m : Place) (f : Forest) (spot : Spot) (message : List ℕ)
    → Is (told_of spot message s) new
    → IsBegun old s m f → IsBegun old new m f
then_tells old s new m f spot message is begun =
    complains old s new m f
    (s.errors ++ record { place = s.taken; spot = spot; message = message } ∷ []) begun is

pub then_takes_as : (old s new : Seen) (m : Place) (g : Forest) (kind : ℕ)
    → Is (bumped_as kind s) new → IsBegun old s m (init g)
    → 0 < length s.left → joined (init g) (joined_then kind 1 none) ≡ g → IsBegun old new m g
then_takes_as old s new m g kind is begun some e =
    let Q : Forest → Type 0 = λ k. IsBegun old new m k in
    subst Q e (takes_as old s new m (init g) kind begun is some)

pub then_takes_glued : (old s new : Seen) (m : Place) (g : Forest) (kind n : ℕ)
    → Is (glued kind n s) new → IsBegun old s m (init g)
    → n ≤ length s.left → 0 < n → joined (init g) (joined_then kind n none) ≡ g
    → IsBegun old new m g
then_takes_glued old s new m g kind n is begun some one e =
    let Q : Forest → Type 0 = λ k. IsBegun old new m k in
    subst Q e (takes_glued old s new m (init g) kind n begun is some one)

-- ---- lists with separators

pub then_items : (P : Forest → Type 0) (old s : Seen) (m : Place) (front : Forest)
    → IsBegun old s m front → HasItems P old s m front
then_items = no_items

pub then_no_more : (P : Forest → Type 0) (old s : Seen) (m : Place) (front : Forest)
    → HasItems P old s m front → HasList P old s m front
then_no_more = no_more

pub then_item_and : (P : Forest → Type 0) (old s s2 new : Seen) (m : Place) (front h : Forest)
    (c : Extent) (kind : ℕ) (b : Bool)
    → Is (if b then bumped s2 else s2) new → b ≡ true → (IsTrue b → 0 < length s2.left)
    → IsEnded s s2 c kind h → HasItems P old s m front → P (node_then kind h none)
    → HasItems P old new m front
then_item_and P old s s2 new m front h c kind b is token some ended has p =
    adds_item_and P old s s2 new m front h c kind b has ended p token is some

pub then_item : (P : Forest → Type 0) (old s s2 new : Seen) (m : Place) (front h : Forest)
    (c : Extent) (kind : ℕ) (b : Bool)
    → Is (if b then bumped s2 else s2) new → b ≡ false
    → IsEnded s s2 c kind h → HasItems P old s m front → P (node_then kind h none)
    → HasList P old new m front
then_item P old s s2 new m front h c kind b is no_token ended has p =
    adds_item P old s s2 new m front h c kind b has ended p no_token is

pub then_closes : (P : Forest → Type 0) (old s s2 new : Seen) (m : Place) (front : Forest)
    (b : Bool) (message : List ℕ)
    (c : Extent) (kind : ℕ) → Is (completed m kind s2) new → c ≡ extent_of m s2
    → Is (if b then bumped s else missed message s) s2 → (IsTrue b → 0 < length s.left)
    → HasList P old s m front → IsListNode P front old new c kind
then_closes P old s s2 new m front b message c kind done at is some has =
    closes P old s s2 new m front b message c kind has is some done at

pub then_made_item_and : (P : Forest → Type 0) (old s s2 new : Seen) (m : Place) (front : Forest)
    (b : Bool)
    → Is (if b then bumped s2 else s2) new → b ≡ true → (IsTrue b → 0 < length s2.left)
    → IsMade P s s2 → HasItems P old s m front → HasItems P old new m front
then_made_item_and P old s s2 new m front b is token some made has =
    adds_made_item_and P old s s2 new m front b has made token is some

pub then_made_item : (P : Forest → Type 0) (old s s2 new : Seen) (m : Place) (front : Forest)
    (b : Bool)
    → Is (if b then bumped s2 else s2) new → b ≡ false
    → IsMade P s s2 → HasItems P old s m front → HasList P old new m front
then_made_item P old s s2 new m front b is no_token made has =
    adds_made_item P old s s2 new m front b has made no_token is

-- where ways join, the parser is the one of the way that was gone
pub then_joins : (P : Forest → Type 0) (old s new : Seen) (m : Place) (front : Forest) → new ≡ s
    → HasList P old s m front → HasList P old new m front
then_joins P old s new m front e has =
    let Q : Seen → Type 0 = λ r. HasList P old r m front in
    subst Q (sym e) has

-- straight code
pub ruleset making = (
  then_begins,
  then_takes,
  then_takes_as,
  then_takes_glued,
  then_node,
  then_precedes,
  then_complains,
  then_misses,
  then_ends,
)

-- a function that complains of a range or of a node names this besides
pub ruleset told = (then_tells)

-- lists with separators
pub ruleset lists = (
  then_items,
  then_no_more,
  then_item_and,
  then_item,
  then_made_item_and,
  then_made_item,
  then_closes,
  then_joins,
)

-- functions that give no marker
pub ruleset made = (made_node, made_list, made_ended, made_refused, made_recovered)

-- all of these
pub ruleset grammar = (making, lists, made)
