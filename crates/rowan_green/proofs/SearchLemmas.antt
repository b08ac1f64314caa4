-- A search by halves among the children of a node: what it has narrowed the range's child to, and
-- how many steps are left.
use Rattle.std.proofs.Common.{◌≡◌, ℕ, zero, suc, ◌+◌, ◌-◌, ◌/◌, ◌^◌, ◌<◌, ◌≤◌, List, [], ◌∷◌, map}
use Rattle.std.proofs.Common.{length, get_or, refl, sym, subst, arith, add-one, inl, inr}
use Rattle.std.proofs.lemmas.Bool.{cases_lt, cases_order}
use Rattle.std.proofs.Math.Nat.{lt_of_not-le}
use Rattle.std.proofs.lemmas.Int.Digits.{length-digits_of-le, length-digits_of_step, number_lt}
use Rattle.std.proofs.lemmas.Int.Digits.{number_digits_of, all_below_base_digits_of}
use Rattle.std.proofs.Math.Pow.{pow_mono}
use Rattle.std.specs.Int.Digits.{digits_of}
use Rattle.rowan_green.specs.declared.green.node.GreenChild.{GreenChild}
use Rattle.rowan_green.specs.View.{child_term, child_offset, HasOffsetsFrom}
use Rattle.rowan_green.proofs.ChildList.{child-at}
use Rattle.rowan_green.specs.Term.{Term, sum_of_lens}
use Rattle.rowan_green.specs.Steps.{count_limit, one_more}
use Rattle.rowan_green.specs.Search.{child_start, child_end, HasRange, IsChildAt, has_bytes}
use Rattle.rowan_green.specs.Search.{has_place, ends_there, begins_there, IsOnlyChoice, digits}

pub child_start-le : (ts : List Term) (i j : ℕ) → i ≤ j → child_start ts i ≤ child_start ts j
child_start-le ts zero j h = omega arith
child_start-le ts (suc i) zero h = absurd (omega arith)
child_start-le [] (suc i) (suc j) h = omega arith
child_start-le (t ∷ ts) (suc i) (suc j) h = omega (arith, child_start-le ts i j (omega arith))

pub child_start-le_all : (ts : List Term) (i : ℕ) → child_start ts i ≤ sum_of_lens ts
child_start-le_all ts zero = omega arith
child_start-le_all [] (suc i) = omega arith
child_start-le_all (t ∷ ts) (suc i) = omega (arith, child_start-le_all ts i)

-- what is true of the child at a range, whichever it is
pub record Bounds (ts : List Term) (a b k : ℕ) : Type 0 where
  pub place : k < length ts
  pub order : a ≤ b
  pub from : child_start ts k ≤ a
  pub to : b ≤ child_end ts k
  pub later : (j : ℕ) → k < j → j < length ts → a < child_end ts j
  pub own : 0 < k → a < child_end ts k → child_start ts k < b

pub bounds : (ts : List Term) (a b k : ℕ) → IsChildAt ts a b k → Bounds ts a b k
bounds ts a b k (has_bytes ab r) = record {
  place = r.place;
  order = omega arith;
  from = r.from;
  to = r.to;
  later = λ j h l. omega (arith, r.to, child_start-le ts (k + 1) (j + 1) (omega arith));
  own = λ h l. omega (arith, r.from);
}
bounds ts a b k (has_place ab r) = record {
  place = r.place;
  order = omega arith;
  from = omega (arith, r.before);
  to = omega (arith, r.behind);
  later = λ j h l. omega (arith, r.behind, child_start-le ts (k + 1) (j + 1) (omega arith));
  own = λ h l. omega (arith, r.before);
}
bounds ts a b k (ends_there ab r) = record {
  place = r.place;
  order = omega arith;
  from = omega (arith, r.ends, child_start-le ts k (k + 1) (omega arith));
  to = omega (arith, r.ends);
  later = λ j h l. lt_of_not-le (λ q. omega (arith, r.last j l q));
  own = λ h l. omega (arith, r.ends);
}
bounds ts a b k (begins_there ab r) = record {
  place = r.place;
  order = omega arith;
  from = omega (arith, r.begins);
  to = omega (arith, r.begins, child_start-le ts k (k + 1) (omega arith));
  later = λ j h l. r.none j l;
  own = λ h l. omega (arith, r.first);
}

not-before : (ts : List Term) (a b j k : ℕ) → Bounds ts a b j → Bounds ts a b k → j < k → ⊥
not-before ts a b j k p q h =
    omega (
      arith,
      p.later k h q.place,
      q.own (omega arith) (p.later k h q.place),
      child_start-le ts (j + 1) k (omega arith),
      p.to,
      p.order,
    )

-- at most one child is the one at a range
pub one_child-at : (ts : List Term) (a b j k : ℕ) → IsChildAt ts a b j → IsChildAt ts a b k → j ≡ k
one_child-at ts a b j k p q =
    let x = bounds ts a b j p in
    let y = bounds ts a b k q in
    elim (cases_order j k) [
      | inl e ↦ e
      | inr r ↦ elim r [
        | inl h ↦ absurd (not-before ts a b j k x y h)
        | inr h
            ↦ absurd (not-before ts a b k j y x h)
      ]
    ]

-- the child at a range has the range, which so lies inside the node
pub has-range : (ts : List Term) (a b k : ℕ) → IsChildAt ts a b k → HasRange ts a b k
has-range ts a b k p = let x = bounds ts a b k p in
    record { place = x.place; from = x.from; to = x.to }

pub inside-node : (ts : List Term) (a b k : ℕ) → IsChildAt ts a b k → b ≤ sum_of_lens ts
inside-node ts a b k p = omega (arith, (bounds ts a b k p).to, child_start-le_all ts (k + 1))

-- A search that has found a child which lies over some of the range.
overlap-is : (ts : List Term) (a b k : ℕ) → a ≤ b → a < child_end ts k → child_start ts k < b
    → HasRange ts a b k → IsChildAt ts a b k
overlap-is ts a b k ab behind before r =
    elim (cases_lt a b) [
      | inl h ↦ has_bytes h r
      | inr h ↦ has_place (omega arith)
          record { place = r.place; before = omega arith; behind = behind }
    ]

overlap-only : (ts : List Term) (a b k j : ℕ) → a < child_end ts k → child_start ts k < b
    → Bounds ts a b j → j ≡ k
overlap-only ts a b k j behind before x =
    elim (cases_order j k) [
      | inl e ↦ e
      | inr p ↦ elim p [
        | inl h ↦ absurd (omega (arith, x.to, child_start-le ts (j + 1) k (omega arith)))
        | inr h ↦ absurd (omega (arith, x.from, child_start-le ts (k + 1) j (omega arith)))
      ]
    ]

pub overlap-choice : (ts : List Term) (a b k : ℕ) → a ≤ b → a < child_end ts k
    → child_start ts k < b → IsOnlyChoice ts a b k
overlap-choice ts a b k ab behind before = record {
  is = overlap-is ts a b k ab behind before;
  only = λ j p.
      let e = overlap-only ts a b k j behind before (bounds ts a b j p) in
      (e, subst (HasRange ts a b) e (has-range ts a b j p));
}

-- A search whose child, if there is one that lies over some of the range, is at place low or later,
-- and before place high.
pub record IsNarrowed (ts : List Term) (a b low high : ℕ) : Type 0 where
  pub order : low ≤ high
  pub place : high ≤ length ts
  pub before : child_start ts low ≤ a
  pub behind : high < length ts → (b ≤ child_start ts high) × (a < child_end ts high)

pub not-narrowed : (ts : List Term) (a b n : ℕ) → n ≡ length ts → IsNarrowed ts a b 0 n
not-narrowed ts a b n e =
    record {
      order = omega arith;
      place = omega arith;
      before = omega arith;
      behind =
          λ h. absurd (omega arith);
    }

-- the child in the middle, or another one that is left, lies before the range, or behind it
pub narrowed-less : (ts : List Term) (a b low high middle : ℕ) → IsNarrowed ts a b low high
    → middle < high → child_end ts middle ≤ a → IsNarrowed ts a b (middle + 1) high
narrowed-less ts a b low high middle s h less =
    record { order = omega arith; place = s.place; before = less; behind = s.behind }

pub narrowed-greater : (ts : List Term) (a b low high middle : ℕ) → IsNarrowed ts a b low high
    → low ≤ middle → middle < high → a < child_end ts middle → b ≤ child_start ts middle
    → IsNarrowed ts a b low middle
narrowed-greater ts a b low high middle s l h behind greater =
    record {
      order = l;
      place = omega (arith, s.place);
      before = s.before;
      behind =
          λ q. (greater, behind);
    }

border-is : (ts : List Term) (a b i : ℕ) → a ≤ b → IsNarrowed ts a b i i → HasRange ts a b (i - 1)
    → IsChildAt ts a b (i - 1)
border-is ts a b zero ab s r =
    let place : 0 < length ts = omega (arith, r.place) in
    let at = s.behind place in
    begins_there (omega (arith, at.0)) record {
      place = r.place;
      first = omega arith;
      begins = omega (arith, at.0);
      none = λ j l. omega (arith, at.1, child_start-le ts (0 + 1) (j + 1) (omega arith));
    }
border-is ts a b (suc i) ab s r =
    let here : suc i - 1 ≡ i = omega arith in
    let p : HasRange ts a b i = subst (HasRange ts a b) here r in
    let end : child_end ts i ≡ child_start ts (suc i) = rw add-one refl in
    let is : IsChildAt ts a b i = ends_there (omega (arith, p.to, s.before)) record {
      place = p.place;
      ends = omega (arith, p.to, s.before);
      last = λ j l h. elim (cases_lt j (suc i)) [
        | inl q ↦ omega arith
        | inr q ↦ absurd (omega (
          arith,
          (s.behind (omega arith)).1,
          child_start-le ts (suc i + 1) (j + 1) (omega arith),
        ))
      ];
    } in
    subst (IsChildAt ts a b) (sym here) is

border-only : (ts : List Term) (a b i j : ℕ) → IsNarrowed ts a b i i → Bounds ts a b j → j ≡ i - 1
border-only ts a b zero j s x =
    let at = s.behind (omega (arith, x.place)) in
    elim (cases_lt 0 j) [
      | inl h ↦ absurd (omega (
        arith,
        at.0,
        at.1,
        x.order,
        x.own h (omega (arith, at.1, child_start-le ts (0 + 1) (j + 1) (omega arith))),
      ))
      | inr h ↦ omega arith
    ]
border-only ts a b (suc i) j s x =
    let end : child_end ts i ≡ child_start ts (suc i) = rw add-one refl in
    elim (cases_order j i) [
      | inl e ↦ omega arith
      | inr p ↦ elim p [
        | inl h ↦ absurd (omega (arith, x.later i h (omega (arith, s.place)), s.before))
        | inr h ↦ absurd (
            let at = s.behind (omega (arith, x.place)) in
            omega (
              arith,
              at.0,
              at.1,
              x.own (omega arith) (omega
                  (arith, at.1, child_start-le ts (suc i + 1) (j + 1) (omega arith))),
              child_start-le ts (suc i) j (omega arith),
            ))
      ]
    ]

-- where none is left, the only choice is the last child that lies before the range, or else the
-- first
pub border : (ts : List Term) (a b i : ℕ) → a ≤ b → IsNarrowed ts a b i i
    → IsOnlyChoice ts a b (i - 1)
border ts a b i ab s = record {
  is = border-is ts a b i ab s;
  only = λ j p.
      let e = border-only ts a b i j s (bounds ts a b j p) in
      (e, subst (HasRange ts a b) e (has-range ts a b j p));
}

-- the place x is reached among the first n children: child i is the first of them that ends behind
-- it, if one does
record IsReached (ts : List Term) (x n i : ℕ) : Type 0 where
  bound : i ≤ n
  before : child_start ts i ≤ x
  behind : i < n → x < child_end ts i

reached : (ts : List Term) (x n : ℕ) → n ≤ length ts → (i : ℕ) × IsReached ts x n i
reached ts x zero h = (
  0,
  record { bound = omega arith; before = omega arith; behind = λ q. absurd (omega arith) },
)
reached ts x (suc n) h =
    let p = reached ts x n (omega arith) in
    elim (cases_lt p.0 n) [
      | inl q ↦ (
        p.0,
        record {
          bound = omega (arith, p.1.bound);
          before = p.1.before;
          behind =
              λ r. p.1.behind q;
        },
      )
      | inr q ↦
          let e : p.0 ≡ n = omega (arith, p.1.bound) in
          let before : child_start ts n ≤ x = subst (λ i. child_start ts i ≤ x) e p.1.before in
          elim (cases_lt x (child_end ts n)) [
            | inl r ↦ (n, record { bound = omega arith; before = before; behind = λ l. r })
            | inr r ↦ (
              suc n,
              record {
                bound = omega arith;
                before = (let end : child_end ts n ≡ child_start ts (suc n) = rw add-one refl in
                    omega arith);
                behind = λ l. absurd (omega arith);
              },
            )
          ]
    ]

child_start-whole : (ts : List Term) → sum_of_lens ts ≤ child_start ts (length ts)
child_start-whole [] = omega arith
child_start-whole (t ∷ ts) = omega (arith, child_start-whole ts)

-- each place in the text of a node with children is at a child
pub child-at-place : (ts : List Term) (x : ℕ) → 0 < length ts → x ≤ sum_of_lens ts
    → (k : ℕ) × IsChildAt ts x x k
child-at-place ts x some h =
    let p = reached ts x (length ts) (omega arith) in
    elim (cases_lt (child_start ts p.0) x) [
      | inl q ↦ elim (cases_lt p.0 (length ts)) [
        | inl l ↦ (p.0, has_place refl record { place = l; before = q; behind = p.1.behind l })
        | inr l ↦ absurd (omega (arith, child_start-whole ts, child_start-le ts (length ts) p.0 l))
      ]
      | inr q ↦
          let s : IsNarrowed ts x x p.0 p.0 =
          record {
            order = omega arith;
            place = p.1.bound;
            before = p.1.before;
            behind =
                λ l. (q, p.1.behind l);
          } in (
            p.0 - 1,
            border-is ts x x p.0 (omega arith) s record {
              place = omega (arith, p.1.bound);
              from = omega (arith, p.1.before, child_start-le ts (p.0 - 1) p.0 (omega arith));
              to = omega (arith, q, child_start-le ts p.0 (p.0 - 1 + 1) (omega arith));
            },
          )
    ]

-- the last child ends where the text of all ends
pub child_end-last : (ts : List Term) (k : ℕ) → k + 1 ≡ length ts → child_end ts k ≡ sum_of_lens ts
child_end-last ts k e = omega (
  arith,
  child_start-whole ts,
  child_start-le ts (length ts) (k + 1) (omega arith),
  child_start-le_all ts (k + 1),
)

-- a child in memory begins at its place
pub offset-is : (cs : List GreenChild) (k : ℕ) (c : GreenChild) → HasOffsetsFrom 0 cs
    → c ≡ get_or cs k c → k < length cs → child_offset c ≡ child_start (map child_term cs) k
offset-is cs k c h e l = omega (arith, (child-at 0 cs k c h l e).offset)

-- binary digits
pub digits-le : (n d : ℕ) → n < 2 ^ d → digits n ≤ d
unfolding digits
digits-le n d h = length-digits_of-le 2 d n (omega arith) h

pub lt-digits : (n : ℕ) → n < 2 ^ digits n
unfolding digits
lt-digits n =
    omega (
      arith,
      number_lt 2 (digits_of 2 n) (all_below_base_digits_of 2 n (omega arith)),
      number_digits_of 2 n (omega arith),
    )

pub digits-rise : (m n : ℕ) → m ≤ n → digits m ≤ digits n
digits-rise m n h = digits-le m (digits n) (omega (arith, lt-digits n))

pub lt-from_digits : (n d : ℕ) → digits n ≤ d → n < 2 ^ d
lt-from_digits n d h = let more : 2 ^ digits n ≤ 2 ^ d = pow_mono h in omega (arith, lt-digits n)

digits-step : (n : ℕ) → 0 < n → digits n ≡ digits (n / 2) + 1
unfolding digits
digits-step n p = length-digits_of_step 2 n (omega arith) p

-- of half as many, or less, there is one digit less
pub digits-half : (m n : ℕ) → 0 < n → m ≤ n / 2 → digits m + 1 ≤ digits n
digits-half m n p h = let step : digits n ≡ digits (n / 2) + 1 = digits-step n p in
    omega (arith, digits-rise m (n / 2) h)

-- the comparisons of a search among `all` children that has `left` of them left
pub record IsCounted (all left old new : ℕ) : Type 0 where
  pub most : new + digits left ≤ old + digits all
  pub least : left < all → old < count_limit → old < new
  pub grows : old ≤ new

pub IsCounted-start : (all left old : ℕ) → left ≡ all → IsCounted all left old old
IsCounted-start all left old e =
    record { most = rw e (omega arith); least = λ h l. absurd (omega arith); grows = omega arith }

-- one more comparison leaves half as many children, or less
pub IsCounted-step : (all left less old new newer : ℕ) → IsCounted all left old new → 0 < left
    → less ≤ left / 2 → newer ≡ one_more new → new ≤ newer → IsCounted all less old newer
IsCounted-step all left less old new newer s p h e g = record {
  most = omega (arith, s.most, digits-half less left p h);
  least = λ q l. omega (arith, s.grows);
  grows = omega (arith, s.grows);
}
