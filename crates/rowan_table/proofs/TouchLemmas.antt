-- Laws of leaves that touch an offset, among elements side by side.
use Rattle.std.proofs.Common.{◌≡◌, true, false, ℕ, ◌+◌, ◌-◌, ◌<◌, ◌≤◌, ◌⊎◌, Bool, cond, ◌&&◌, List}
use Rattle.std.proofs.Common.{[], ◌∷◌, ◌++◌, map, filter, Option, Some, None, inl, inr, refl, sym}
use Rattle.std.proofs.Common.{◌∙◌, ap, subst, arith}
use Rattle.std.specs.Prelude.{nat_lt, nat_le, slice_get}
use Rattle.std.proofs.lemmas.Bool.{cases_lt, lt-ltb, le-ltb, le-leb, lt-leb, cond-true, cond-false}
use Rattle.std.proofs.lemmas.Bool.{true≢false}
use Rattle.rowan_green.specs.declared.utility_types.NodeOrToken.TheVariants.{Node, Token}
use Rattle.rowan_green.specs.Term.{NodeTerm, Term}
use Rattle.rowan_terms.specs.Path.{Path, term_children, subterm_of, subterm, begins, offset, len_of}
use Rattle.rowan_table.specs.Cursor.{Cursor, term_at, text_range}
use Rattle.rowan_table.specs.Moves.{cursor_at, leaf_paths}
use Rattle.rowan_table.specs.Search.{touches, touching, tokens_at, IsLeafOver}
use Rattle.rowan_table.proofs.OffsetLemmas.{Fill, IsAmong, leaves_below-fill, among-leaves_below}
use Rattle.rowan_table.proofs.PathLemmas.{begins-rest}

-- where an element starts and ends
abbrev start_at : NodeTerm → Path → ℕ
start_at root q = offset (Node root) q

abbrev end_at : NodeTerm → Path → ℕ
end_at root q = offset (Node root) q + len_of (subterm (Node root) q)

-- ---- one element

both-false : (b : Bool) → (b && false) ≡ false
both-false true = refl
both-false false = refl

yes : (root : NodeTerm) (x : ℕ) (q : Path) → start_at root q < end_at root q → start_at root q ≤ x
    → x ≤ end_at root q → touches root x q ≡ true
yes root x q some from to =
    ap (λ b. b && (nat_le (start_at root q) x && nat_le x (end_at root q)))
    (lt-ltb (start_at root q) (end_at root q) some)
    ∙ ap (λ b. b && nat_le x (end_at root q)) (le-leb (start_at root q) x from)
    ∙ le-leb x (end_at root q) to

no-empty : (root : NodeTerm) (x : ℕ) (q : Path) → end_at root q ≤ start_at root q
    → touches root x q ≡ false
no-empty root x q h = ap (λ b. b && (nat_le (start_at root q) x && nat_le x (end_at root q)))
    (le-ltb (start_at root q) (end_at root q) h)

no-later : (root : NodeTerm) (x : ℕ) (q : Path) → x < start_at root q → touches root x q ≡ false
no-later root x q h =
    let some = nat_lt (start_at root q) (end_at root q) in
    ap (λ b. some && (b && nat_le x (end_at root q))) (lt-leb (start_at root q) x h)
    ∙ both-false some

no-earlier : (root : NodeTerm) (x : ℕ) (q : Path) → end_at root q < x → touches root x q ≡ false
no-earlier root x q h =
    let some = nat_lt (start_at root q) (end_at root q) in
    let from = nat_le (start_at root q) x in
    ap (λ b. some && (from && b)) (lt-leb x (end_at root q) h)
    ∙ ap (λ b. some && b) (both-false from) ∙ both-false some

-- ---- elements side by side

taken : (root : NodeTerm) (x : ℕ) (q : Path) (qs rs : List Path) → touches root x q ≡ true
    → filter (touches root x) qs ≡ rs → filter (touches root x) (q ∷ qs) ≡ q ∷ rs
taken root x q qs rs h e = cond-true (touches root x q) (q ∷ filter (touches root x) qs)
    (filter (touches root x) qs) h ∙ ap (λ us. q ∷ us) e

passed : (root : NodeTerm) (x : ℕ) (q : Path) (qs rs : List Path) → touches root x q ≡ false
    → filter (touches root x) qs ≡ rs → filter (touches root x) (q ∷ qs) ≡ rs
passed root x q qs rs h e = cond-false (touches root x q) (q ∷ filter (touches root x) qs)
    (filter (touches root x) qs) h ∙ e

order : (root : NodeTerm) (s e : ℕ) (qs : List Path) → Fill (Node root) s qs e → s ≤ e
order root s e [] f = omega arith
order root s e (q ∷ qs) f = omega (arith, order root (s + len_of (subterm (Node root) q)) e qs f.1)

among-start : (root : NodeTerm) (s e : ℕ) (qs : List Path) (a : Path) → Fill (Node root) s qs e
    → IsAmong a qs → s ≤ start_at root a
among-start root s e [] a f m = absurd m
among-start root s e (q ∷ qs) a f m = elim m [
  | inl h ↦ omega (arith, f.0, ap (start_at root) h)
  | inr n ↦ omega (arith, among-start root (s + len_of (subterm (Node root) q)) e qs a f.1 n)
]

-- none of elements that begin behind the offset touches it
none-later : (root : NodeTerm) (x s e : ℕ) (qs : List Path) → Fill (Node root) s qs e → x < s
    → filter (touches root x) qs ≡ []
none-later root x s e [] f h = refl
none-later root x s e (q ∷ qs) f h =
    passed root x q qs [] (no-later root x q (omega (arith, f.0)))
    (none-later root x (s + len_of (subterm (Node root) q)) e qs f.1 (omega arith))

-- elements that together have no bytes do not touch
none-empty : (root : NodeTerm) (x s e : ℕ) (qs : List Path) → Fill (Node root) s qs e → e ≤ s
    → filter (touches root x) qs ≡ []
none-empty root x s e [] f h = refl
none-empty root x s e (q ∷ qs) f h =
    let next = s + len_of (subterm (Node root) q) in
    let less : next ≤ e = order root next e qs f.1 in
    passed root x q qs [] (no-empty root x q (omega arith))
    (none-empty root x next e qs f.1 (omega arith))

-- where all begin at the offset or behind it, only the one with the byte behind it
only-right : (root : NodeTerm) (x s e : ℕ) (qs : List Path) (b : Path) → Fill (Node root) s qs e
    → IsAmong b qs → x ≤ s → start_at root b ≤ x → x < end_at root b
    → filter (touches root x) qs ≡ b ∷ []
only-right root x s e [] b f m h from to = absurd m
only-right root x s e (q ∷ qs) b f m h from to =
    let next = s + len_of (subterm (Node root) q) in
    elim m [
      | inl i ↦ (
          let same : start_at root b ≡ start_at root q = ap (start_at root) i in
          let ends : end_at root b ≡ end_at root q = ap (end_at root) i in
          taken root x q qs [] (yes root x q (omega (arith, f.0)) (omega (arith, f.0))
          (omega (arith, f.0))) (none-later root x next e qs f.1 (omega (arith, f.0)))
          ∙ ap (λ u. u ∷ []) (sym i))
      | inr n ↦ (
          let later : next ≤ start_at root b = among-start root next e qs b f.1 n in
          passed root x q qs (b ∷ []) (no-empty root x q (omega (arith, f.0)))
          (only-right root x next e qs b f.1 n (omega arith) from to))
    ]

-- where all end at the offset or before it, only the one with the byte before it
only-left : (root : NodeTerm) (x s e : ℕ) (qs : List Path) (a : Path) → Fill (Node root) s qs e
    → IsAmong a qs → e ≤ x → start_at root a < x → x ≤ end_at root a
    → filter (touches root x) qs ≡ a ∷ []
only-left root x s e [] a f m h from to = absurd m
only-left root x s e (q ∷ qs) a f m h from to =
    let next = s + len_of (subterm (Node root) q) in
    let less : next ≤ e = order root next e qs f.1 in
    elim m [
      | inl i ↦ (
          let same : start_at root a ≡ start_at root q = ap (start_at root) i in
          let ends : end_at root a ≡ end_at root q = ap (end_at root) i in
          taken root x q qs [] (yes root x q (omega (arith, f.0)) (omega (arith, f.0))
          (omega (arith, f.0))) (none-empty root x next e qs f.1 (omega (arith, f.0)))
          ∙ ap (λ u. u ∷ []) (sym i))
      | inr n ↦ (
          let later : next ≤ start_at root a = among-start root next e qs a f.1 n in
          passed root x q qs (a ∷ []) (no-earlier root x q (omega (arith, f.0)))
          (only-left root x next e qs a f.1 n h from to))
    ]

-- else the one with the byte before it, and the one with the byte behind it
pub record AreBeside (root : NodeTerm) (x : ℕ) (qs : List Path) (a b : Path) : Type 0 where
  pub one : a ≡ b → filter (touches root x) qs ≡ a ∷ []
  pub two : (a ≡ b → ⊥) → filter (touches root x) qs ≡ a ∷ b ∷ []

beside : (root : NodeTerm) (x s e : ℕ) (qs : List Path) (a b : Path) → Fill (Node root) s qs e
    → IsAmong a qs → IsAmong b qs → start_at root a < x → x ≤ end_at root a → start_at root b ≤ x
    → x < end_at root b → AreBeside root x qs a b
beside root x s e [] a b f m n af at bf bt = absurd m
beside root x s e (q ∷ qs) a b f m n af at bf bt =
    let next = s + len_of (subterm (Node root) q) in
    elim m [
      | inl i ↦ (
          let astart : start_at root a ≡ start_at root q = ap (start_at root) i in
          let aend : end_at root a ≡ end_at root q = ap (end_at root) i in
          let here : touches root x q ≡ true =
          yes root x q (omega (arith, f.0)) (omega (arith, f.0)) (omega (arith, f.0)) in
          elim n [
            | inl j ↦ (
                let bend : end_at root b ≡ end_at root q = ap (end_at root) j in
                record {
                  one = λ h. taken root x q qs [] here
                      (none-later root x next e qs f.1 (omega (arith, f.0)))
                      ∙ ap (λ u. u ∷ []) (sym i);
                  two = λ h. absurd (h (i ∙ sym j));
                })
            | inr k ↦ (
                let later : next ≤ start_at root b = among-start root next e qs b f.1 k in
                record {
                  one = λ h. absurd (omega (arith, f.0, ap (start_at root) h));
                  two = λ h. taken root x q qs (b ∷ []) here
                      (only-right root x next e qs b f.1 k (omega (arith, f.0)) bf bt)
                      ∙ ap (λ u. u ∷ b ∷ []) (sym i);
                })
          ])
      | inr k ↦ (
          let later : next ≤ start_at root a = among-start root next e qs a f.1 k in
          elim n [
            | inl j ↦ (let bend : end_at root b ≡ end_at root q = ap (end_at root) j in
                absurd (omega (arith, f.0)))
            | inr l ↦ (
                let r = beside root x next e qs a b f.1 k l af at bf bt in
                let not : touches root x q ≡ false = no-earlier root x q (omega (arith, f.0)) in
                record {
                  one = λ h. passed root x q qs (a ∷ []) not (r.one h);
                  two = λ h. passed root x q qs (a ∷ b ∷ []) not (r.two h);
                })
          ])
    ]

-- ---- the leaves below a path

among : (root : NodeTerm) (p q : Path) (u : Term) (x : ℕ) → subterm (Node root) p ≡ Some u
    → IsLeafOver root x p q → IsAmong q (filter (begins p) (leaf_paths (Node root)))
among root p q u x there h =
    let r = begins-rest p q h.below in
    subst (λ y. IsAmong y (filter (begins p) (leaf_paths (Node root)))) (sym r.1)
    (among-leaves_below (Node root) p r.0 u h.token there
    (ap (subterm (Node root)) (sym r.1) ∙ h.is))

leaf-end : (root : NodeTerm) (x : ℕ) (p q : Path) → IsLeafOver root x p q → x < end_at root q
leaf-end root x p q h = omega (arith, h.to, ap len_of h.is)

-- no leaf of an empty element
pub touching-empty : (root : NodeTerm) (x : ℕ) (p : Path) (u : Term)
    → subterm (Node root) p ≡ Some u → end_at root p ≤ start_at root p → touching root x p ≡ []
touching-empty root x p u there h = none-empty root x (start_at root p) (end_at root p)
    (filter (begins p) (leaf_paths (Node root))) (leaves_below-fill (Node root) p u there) h

-- at the start the leaf with the first byte
pub touching-start : (root : NodeTerm) (x : ℕ) (p b : Path) (u : Term)
    → subterm (Node root) p ≡ Some u → x ≤ start_at root p → IsLeafOver root x p b
    → touching root x p ≡ b ∷ []
touching-start root x p b u there h over =
    only-right root x (start_at root p) (end_at root p) (filter (begins p) (leaf_paths (Node root)))
    b (leaves_below-fill (Node root) p u there) (among root p b u x there over) h over.from
    (leaf-end root x p b over)

-- at the end the leaf with the last byte
pub touching-end : (root : NodeTerm) (x y : ℕ) (p a : Path) (u : Term)
    → subterm (Node root) p ≡ Some u → end_at root p ≤ x → x ≡ y + 1 → IsLeafOver root y p a
    → touching root x p ≡ a ∷ []
touching-end root x y p a u there h e over =
    only-left root x (start_at root p) (end_at root p) (filter (begins p) (leaf_paths (Node root)))
    a (leaves_below-fill (Node root) p u there) (among root p a u y there over) h
    (omega (arith, over.from)) (omega (arith, leaf-end root y p a over))

-- within, the leaf with the byte before the offset, and the leaf with the byte behind it
pub touching-within : (root : NodeTerm) (x y : ℕ) (p a b : Path) (u : Term)
    → subterm (Node root) p ≡ Some u → x ≡ y + 1 → IsLeafOver root y p a → IsLeafOver root x p b
    → AreBeside root x (filter (begins p) (leaf_paths (Node root))) a b
touching-within root x y p a b u there e over last =
    beside root x (start_at root p) (end_at root p) (filter (begins p) (leaf_paths (Node root))) a b
    (leaves_below-fill (Node root) p u there) (among root p a u y there over)
    (among root p b u x there last)
    (omega (arith, over.from)) (omega (arith, leaf-end root y p a over)) last.from
    (leaf-end root x p b last)

-- ---- one leaf at an offset

among-filter : (P : Path → Bool) (q : Path) (qs : List Path) → IsAmong q qs → P q ≡ true
    → IsAmong q (filter P qs)
among-filter P q [] m h = m
among-filter P q (r ∷ rs) m h = by (P r) refl (λ n. among-filter P q rs n h)
  where
    by : (b : Bool) → P r ≡ b → (IsAmong q rs → IsAmong q (filter P rs))
        → IsAmong q (cond b (r ∷ filter P rs) (filter P rs))
    by true e rest = elim m [ inl i ↦ inl i | inr n ↦ inr (rest n) ]
    by false e rest = elim m [ inl i ↦ absurd (true≢false (sym h ∙ ap P i ∙ e)) | inr n ↦ rest n ]

-- each byte is one of an element
record HasByte (root : NodeTerm) (x : ℕ) (qs : List Path) : Type 0 where
  path : Path
  among : IsAmong path qs
  from : start_at root path ≤ x
  to : x < end_at root path

has_byte : (root : NodeTerm) (x s e : ℕ) (qs : List Path) → Fill (Node root) s qs e → s ≤ x → x < e
    → HasByte root x qs
has_byte root x s e [] f h k = absurd (omega arith)
has_byte root x s e (q ∷ qs) f h k = elim (cases_lt x (s + len_of (subterm (Node root) q))) [
  | inl less ↦ record {
    path = q;
    among = inl refl;
    from = omega (arith, f.0);
    to = omega (arith, f.0);
  }
  | inr more ↦ (
      let r = has_byte root x (s + len_of (subterm (Node root) q)) e qs f.1 more k in
      record { path = r.path; among = inr r.among; from = r.from; to = r.to })
]

only-one : (qs : List Path) (p q : Path) → qs ≡ p ∷ [] → IsAmong q qs → q ≡ p
only-one [] p q e m = absurd m
only-one (r ∷ rs) p q e m = by rs e m
  where
    by : (us : List Path) → r ∷ us ≡ p ∷ [] → (q ≡ r) ⊎ IsAmong q us → q ≡ p
    by [] e m = elim m [ inl i ↦ i ∙ cc | inr n ↦ absurd n ]
    by (u ∷ us) e m = absurd cc

one-among : (root : NodeTerm) (x y s e : ℕ) (qs : List Path) (q : Path) → Fill (Node root) s qs e
    → x ≡ y + 1 → s < x → x < e → filter (touches root x) qs ≡ q ∷ []
    → (start_at root q < x) × (x < end_at root q)
one-among root x y s e qs q f next from to h =
    let a = has_byte root y s e qs f (omega arith) (omega arith) in
    let b = has_byte root x s e qs f (omega arith) to in
    let left : touches root x a.path ≡ true =
    yes root x a.path (omega (arith, a.from, a.to)) (omega (arith, a.from)) (omega (arith, a.to)) in
    let right : touches root x b.path ≡ true =
    yes root x b.path (omega (arith, b.from, b.to)) b.from (omega (arith, b.to)) in
    let first : a.path ≡ q = only-one (filter (touches root x) qs) q a.path h
    (among-filter (touches root x) a.path qs a.among left) in
    let last : b.path ≡ q = only-one (filter (touches root x) qs) q b.path h
    (among-filter (touches root x) b.path qs b.among right) in (
      omega (arith, a.from, ap (start_at root) first),
      omega (arith, b.to, ap (end_at root) last),
    )

same_paths : (root : NodeTerm) (qs : List Path) (t : Cursor) → map (cursor_at root) qs ≡ t ∷ []
    → (qs ≡ t.path ∷ []) × (t.root ≡ root)
same_paths root [] t h = absurd cc
same_paths root (q ∷ []) t h = let e : cursor_at root q ≡ t = cc in
    (ap (λ (c : Cursor). c.path ∷ []) e, sym (ap (λ (c : Cursor). c.root) e))
same_paths root (q ∷ r ∷ rs) t h = absurd cc

stands-nonempty : (o : Option Term) → 0 < len_of o → (u : Term) × (o ≡ Some u)
stands-nonempty None h = absurd (omega arith)
stands-nonempty (Some u) h = (u, refl)

pub one_token : (c t : Cursor) (x : ℕ) → tokens_at x c ≡ t ∷ [] → (text_range c).start < x
    → x < (text_range c).end → ((text_range t).start < x) × (x < (text_range t).end)
one_token c t x h from to =
    let qs = filter (begins c.path) (leaf_paths (Node c.root)) in
    let u = stands-nonempty (term_at c) (omega arith) in
    let p = same_paths c.root (filter (touches c.root x) qs) t h in
    let r = one-among c.root x (x - 1) (start_at c.root c.path) (end_at c.root c.path) qs t.path
    (leaves_below-fill (Node c.root) c.path u.0 u.1) (omega arith) from to p.0 in
    subst (λ (root : NodeTerm). (start_at root t.path < x) × (x < end_at root t.path)) (sym p.1) r

above : (t : Option Term) (p q : Path) (k : Term) → subterm_of t (p ++ q) ≡ Some k
    → (u : Term) × (subterm_of t p ≡ Some u)
above None p q k h = absurd cc
above (Some t) [] q k h = (t, refl)
above (Some t) (i ∷ p) q k h = above (slice_get (term_children t) i) p q k h

pub token_alone : (c : Cursor) (q : Path) (x : ℕ) → IsLeafOver c.root x c.path q
    → offset (Node c.root) q < x → tokens_at x c ≡ cursor_at c.root q ∷ []
token_alone c q x over from =
    let r = begins-rest c.path q over.below in
    let u = above (Some (Node c.root)) c.path r.0 (Token over.token)
    (ap (subterm (Node c.root)) (sym r.1) ∙ over.is) in
    let before : IsLeafOver c.root (x - 1) c.path q =
    record {
      token = over.token;
      is = over.is;
      below = over.below;
      from = omega arith;
      to = omega (arith, over.to);
    } in
    let b = touching-within c.root x (x - 1) c.path q q u.0 u.1 (omega arith) before over in
    ap (map (cursor_at c.root)) (b.one refl)
