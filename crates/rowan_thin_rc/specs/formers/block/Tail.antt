-- `Tail` as a type that may hold the type that holds it, as `Vec` is.
use Rattle.std.specs.Prelude.{◌≡◌, List, [], map}
use mathlib.Core.Path.{refl}
use mathlib.Core.Former.{Former, Count, Row, over, this, list, list_count, list_get, children}
use base.Stored.{Gv, gcons}
use base.Fml.{fsep}
use denote.RattleType.{RattleType}
use denote.RawPtr.{null_ptr}
use denote.Sharing.{beside}
use denote.Struct.Struct.{Struct}
use denote.Struct.Owning.{shape, to}
use denote.HoleLaws.{Alike}
use denote.Hole.Carrier.{listed, list-listed}
use denote.Param.Weighed.{Weighed, most, List-puts}
use Rattle.std_alloc.specs.Vec.Recursive.{codes_placed}
use Rattle.rowan_thin_rc.specs.Recursive.{tail_placed, seen_placed}
use Rattle.rowan_thin_rc.specs.declared.block.Tail.{Tail}
use Rattle.rowan_thin_rc.specs.contracts.block.Tail as C

abbrev pub holding : {X Y : Type 0} → Tail X → List Y → Tail Y
holding d ys = record { mark = record {}; ptr = d.ptr; cap = d.cap; items = ys }

abbrev pub mapped : {X Y : Type 0} → (X → Y) → Tail X → Tail Y
mapped h d = holding d (map h d.items)

module _ (g : Former {0}) where
  abbrev pub got : (X : Type 0) (a : Tail g.Shape) (n : Count) → Row X (list_count g a.items n)
      → Tail (g.Of X) × Row X n
  got X a n v = let r : List (g.Of X) × Row X n = list_get g X a.items n v in (holding a r.0, r.1)

  pub got-put : (X : Type 0) (d : Tail (g.Of X)) (n : Count) (t : Row X n)
      → got X (mapped (g.shape X) d) n ((list g).put X d.items n t) ≡ (d, t)
  got-put X d n t =
      λ i. (holding d ((list g).get-put X d.items n t i).0, ((list g).get-put X d.items n t i).1)

  pub put-got : (X : Type 0) (a : Tail g.Shape) (n : Count) (v : Row X (list_count g a.items n))
      → ◌≡◌ {A = (b : Tail g.Shape) × Row X (list_count g b.items n)} (
        mapped (g.shape X) (got X a n v).0,
        (list g).put X (got X a n v).0.items n (got X a n v).1,
      ) (a, v)
  put-got X a n v =
      λ i. (holding a ((list g).put-get X a.items n v i).0, ((list g).put-get X a.items n v i).1)

  pub got-map : (X Y : Type 0) (h : X → Y) (a : Tail g.Shape) (n : Count)
      (v : Row X (list_count g a.items n))
      → got Y a n (over h (list_count g a.items n) v)
      ≡ (mapped (g.map X Y h) (got X a n v).0, over h n (got X a n v).1)
  got-map X Y h a n v =
      λ i. (
        holding a ((list g).get-map X Y h a.items n v i).0,
        ((list g).get-map X Y h a.items n v i).1,
      )

  abbrev pub the_former : Former {0}
  the_former = record {
    Of = λ X. Tail (g.Of X);
    Shape = Tail g.Shape;
    count = λ a. list_count g a.items;
    shape = λ X. mapped (g.shape X);
    put = λ X d. (list g).put X d.items;
    get = got;
    map = λ X Y h. mapped (g.map X Y h);
    get-put = got-put;
    put-get = put-got;
    get-map = got-map;
  }

abbrev pub the_weighed : {g : Former {0}} → Weighed g → Weighed (the_former g)
the_weighed w = record {
  weight = λ X μ d. most (w.weight X μ) d.items;
  puts = λ X μ d. List-puts w X μ d.items;
}

pub the_empty : Tail ⊥
the_empty = record { mark = record {}; ptr = null_ptr; cap = 0; items = [] }

abbrev pub the_items : (X : Type 0) → Tail X → List X
the_items X d = d.items

pub the_items_listed : (X : Type 0) (d : Tail X)
    → listed _ (children (the_former this) X d) ≡ the_items X d
the_items_listed X d = list-listed X d.items

first : {a b c : Gv} → a ≡ b → gcons a c ≡ gcons b c
first {c = c} e = λ i. gcons (e i) c

second : {a b c : Gv} → a ≡ b → gcons c a ≡ gcons c b
second {c = c} e = λ i. gcons c (e i)

module _ (R R' : RattleType) (h : R.Denot → R'.Denot) where
  pub the_places : Alike R R' h
      → Alike (C.the_row R) (C.the_row R') ((the_former this).map R.Denot R'.Denot h)
  the_places a = record {
    mir_same = refl;
    own_same =
        λ d i vs. fsep ((Struct (shape (C.the_type R))).own_val (to (C.the_type R) d) vs)
        (tail_placed R R' h a d.ptr d.cap d.items i);
    shr_same =
        λ d i b o. beside ((Struct (shape (C.the_type R))).shr_at (to (C.the_type R) d) b o)
        (seen_placed R R' h a d.ptr d.cap d.items i);
  }

  pub the_codes_placed : ((y : R.Denot) → R'.coded.code (h y) ≡ R.coded.code y) → (d : Tail R.Denot)
      → (C.the_row R').coded.code ((the_former this).map R.Denot R'.Denot h d)
      ≡ (C.the_row R).coded.code d
  the_codes_placed e d =
      second (second (second (first (codes_placed R.coded.code R'.coded.code h e d.items))))
