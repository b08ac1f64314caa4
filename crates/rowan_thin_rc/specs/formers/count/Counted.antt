-- `Counted` as a type that may hold the type that holds it, as `Box` is. It has a label too.
use Rattle.std.specs.Prelude.{◌≡◌, List, [], ◌∷◌}
use mathlib.Core.Path.{refl}
use mathlib.Core.Former.{Former, Count, Row, arity, over, this, children}
use base.Stored.{Gv, gcons, gnil}
use base.Fml.{fsep}
use denote.RattleType.{RattleType}
use denote.Memory.{part_of}
use denote.Sharing.{beside}
use denote.Struct.Struct.{Struct}
use denote.Struct.Owning.{shape, to}
use denote.HoleLaws.{Alike}
use denote.HolePlaces.{one_value}
use denote.Hole.Carrier.{listed}
use denote.Param.Weighed.{Weighed}
use Rattle.rowan_thin_rc.specs.Counting.{counted_owns, counted_shares}
use Rattle.rowan_thin_rc.specs.declared.count.Counted.{Counted}
use Rattle.rowan_thin_rc.specs.contracts.count.Counted as C

abbrev pub holding : {X Y : Type 0} → Counted X → Y → Counted Y
holding d y = record { ptr = d.ptr; value = y; label = d.label }

abbrev pub mapped : {X Y : Type 0} → (X → Y) → Counted X → Counted Y
mapped h d = holding d (h d.value)

module _ (g : Former {0}) where
  abbrev pub got : (X : Type 0) (a : Counted g.Shape) (n : Count) → Row X (g.count a.value n)
      → Counted (g.Of X) × Row X n
  got X a n v = let r : g.Of X × Row X n = g.get X a.value n v in (holding a r.0, r.1)

  pub got-put : (X : Type 0) (d : Counted (g.Of X)) (n : Count) (t : Row X n)
      → got X (mapped (g.shape X) d) n (g.put X d.value n t) ≡ (d, t)
  got-put X d n t =
      λ i. (holding d (g.get-put X d.value n t i).0, (g.get-put X d.value n t i).1)

  pub put-got : (X : Type 0) (a : Counted g.Shape) (n : Count) (v : Row X (g.count a.value n))
      → ◌≡◌ {A = (b : Counted g.Shape) × Row X (g.count b.value n)} (
        mapped (g.shape X) (got X a n v).0,
        g.put X (got X a n v).0.value n (got X a n v).1,
      ) (a, v)
  put-got X a n v =
      λ i. (holding a (g.put-get X a.value n v i).0, (g.put-get X a.value n v i).1)

  pub got-map : (X Y : Type 0) (h : X → Y) (a : Counted g.Shape) (n : Count)
      (v : Row X (g.count a.value n))
      → got Y a n (over h (g.count a.value n) v)
      ≡ (mapped (g.map X Y h) (got X a n v).0, over h n (got X a n v).1)
  got-map X Y h a n v =
      λ i. (
        holding a (g.get-map X Y h a.value n v i).0,
        (g.get-map X Y h a.value n v i).1,
      )

  abbrev pub the_former : Former {0}
  the_former = record {
    Of = λ X. Counted (g.Of X);
    Shape = Counted g.Shape;
    count = λ a. g.count a.value;
    shape = λ X. mapped (g.shape X);
    put = λ X d. g.put X d.value;
    get = got;
    map = λ X Y h. mapped (g.map X Y h);
    get-put = got-put;
    put-get = put-got;
    get-map = got-map;
  }

abbrev pub the_weighed : {g : Former {0}} → Weighed g → Weighed (the_former g)
the_weighed w = record {
  weight = λ X μ d. w.weight X μ d.value;
  puts = λ X μ d. w.puts X μ d.value;
}

abbrev pub the_items : (X : Type 0) → Counted X → List X
the_items X d = d.value ∷ []

pub the_items_listed : (X : Type 0) (d : Counted X)
    → listed (arity (the_former this) ((the_former this).shape X d)) (children (the_former this) X d)
    ≡ the_items X d
the_items_listed X d = refl

first : {a b c : Gv} → a ≡ b → gcons a c ≡ gcons b c
first {c = c} e = λ i. gcons (e i) c

second : {a b c : Gv} → a ≡ b → gcons c a ≡ gcons c b
second {c = c} e = λ i. gcons c (e i)

module _ (R R' : RattleType) (h : R.Denot → R'.Denot) where
  pub the_places : Alike R R' h
      → Alike (C.the_row R) (C.the_row R') ((the_former this).map R.Denot R'.Denot h)
  unfolding part_of
  the_places a = record {
    mir_same = refl;
    own_same = λ d i vs. fsep
        ((Struct (shape (C.the_type R))).own_val (to (C.the_type R) d) vs)
        (counted_owns (one_value R (a.mir_same i) (a.own_same d.value i) (a.shr_same d.value i) gnil)
        d.ptr tt d.label);
    shr_same = λ d i b o. beside
        ((Struct (shape (C.the_type R))).shr_at (to (C.the_type R) d) b o)
        (counted_shares
        (one_value R (a.mir_same i) (a.own_same d.value i) (a.shr_same d.value i) gnil)
        d.ptr tt d.label);
  }

  pub the_codes_placed : ((y : R.Denot) → R'.coded.code (h y) ≡ R.coded.code y)
      → (d : Counted R.Denot)
      → (C.the_row R').coded.code ((the_former this).map R.Denot R'.Denot h d)
      ≡ (C.the_row R).coded.code d
  the_codes_placed e d = second (first (e d.value))
