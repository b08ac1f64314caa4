-- Five rules derive the chains of operators.
use Rattle.std.proofs.Common.{◌≡◌, ℕ, Bool, true, false, List, [], ◌∷◌, ◌++◌, Some, refl, sym, ap, ◌∙◌, subst, append_assoc, append-nil}
use Rattle.rowan_parser.specs.Shape.{Forest, none, token_then, node_then, joined}
use Rattle.rowan_predictive.specs.declared.rules.Rule.{Rule}
use Rattle.rowan_predictive.specs.declared.rules.Rule.TheVariants.{Empty, Node, Chain, Wrap, Seq, Choice, Optional, Star}
use Rattle.rowan_predictive.specs.declared.rules.Rule.TheVariants as rule
use Rattle.rowan_predictive.specs.Derivations.{HasRule}
use Rattle.rowan_predictive.specs.Trees.{Makes}
use Rattle.rowan_predictive.specs.Trees as make
use Rattle.rowan_predictive.specs.Binary.{IsLeftNested, one, HasBinary, DerivesBinary}
use Rattle.rowan_predictive.specs.Binary as binary

module _ (rules : List Rule) where
  same : (i : ℕ) (f g : Rule) → HasRule rules i f → HasRule rules i g → f ≡ g
  same i f g a b = let e : Some f ≡ Some g = sym a ∙ b in cc

  -- what the rules that are asked for make
  abbrev Inside : Rule → Bool → Forest → List ℕ → Forest → Type 0
  Inside Empty c f ts h = Unit {0}
  Inside (rule.Token kind) c f ts h = Unit {0}
  Inside (Node kind a) c f ts h = Unit {0}
  Inside (Chain a) c f ts h = (g : Forest) × (h ≡ joined f g) × Makes rules true a none ts g
  Inside (Wrap kind a) true f ts h =
      (g : Forest) × (h ≡ node_then kind (joined f g) none) × Makes rules false a none ts g
  Inside (Wrap kind a) false f ts h = Unit {0}
  Inside (Seq a b) c f ts h =
      (g : Forest) × (us : List ℕ) × (vs : List ℕ) × (ts ≡ us ++ vs)
      × Makes rules c a f us g × Makes rules c b g vs h
  Inside (Choice a b) c f ts h = Unit {0}
  Inside (Optional a) c f ts h = Unit {0}
  Inside (Star a) c f ts h = Unit {0}

  wrap-inside : (kind a : ℕ) (c : Bool) (f : Forest) (ts : List ℕ) (h : Forest) → c ≡ false → Inside (Wrap kind a) c f ts h
  wrap-inside kind a true f ts h e = absurd (cc)
  wrap-inside kind a false f ts h e = tt

  inside : (r : Rule) (c : Bool) (i : ℕ) (f : Forest) (ts : List ℕ) (h : Forest) → HasRule rules i r → Makes rules c i f ts h
      → Inside r c f ts h
  inside r c i f _ _ has (make.empty is) = subst (λ (x : Rule). Inside x c f [] f) (same i Empty r is has) tt
  inside r c i f _ _ has (make.token {kind = k} is) =
      subst (λ (x : Rule). Inside x c f (k ∷ []) (joined f (token_then none))) (same i (rule.Token k) r is has) tt
  inside r c i f ts _ has (make.node {kind = k} {a = a} {g = g} is m) =
      subst (λ (x : Rule). Inside x c f ts (joined f (node_then k g none))) (same i (Node k a) r is has) tt
  inside r c i f ts _ has (make.chain {a = a} {g = g} is m) =
      subst (λ (x : Rule). Inside x c f ts (joined f g)) (same i (Chain a) r is has) (g, refl, m)
  inside r _ i f ts _ has (make.wrap {kind = k} {a = a} {g = g} is m) =
      subst (λ (x : Rule). Inside x true f ts (node_then k (joined f g) none)) (same i (Wrap k a) r is has) (g, refl, m)
  inside r _ i f ts _ has (make.wrap_outside {kind = k} {a = a} {g = g} is m) =
      subst (λ (x : Rule). Inside x false f ts (joined f (node_then k g none))) (same i (Wrap k a) r is has) tt
  inside r c i f _ h has (make.seq {a = a} {b = b} {g = g} {ts = ts} {us = us} is m n) =
      subst (λ (x : Rule). Inside x c f (ts ++ us) h) (same i (Seq a b) r is has) (g, ts, us, refl, m, n)
  inside r c i f ts h has (make.left {a = a} b is m) = subst (λ (x : Rule). Inside x c f ts h) (same i (Choice a b) r is has) tt
  inside r c i f ts h has (make.right {b = b} a is m) = subst (λ (x : Rule). Inside x c f ts h) (same i (Choice a b) r is has) tt
  inside r c i f ts h has (make.present {a = a} is m) = subst (λ (x : Rule). Inside x c f ts h) (same i (Optional a) r is has) tt
  inside r c i f _ _ has (make.absent a is) = subst (λ (x : Rule). Inside x c f [] f) (same i (Optional a) r is has) tt
  inside r c i f _ h has (make.more {a = a} {ts = ts} {us = us} is m n) =
      subst (λ (x : Rule). Inside x c f (ts ++ us) h) (same i (Star a) r is has) tt
  inside r c i f _ _ has (make.stop a is) = subst (λ (x : Rule). Inside x c f [] f) (same i (Star a) r is has) tt

  module _ (i kind operand operator : ℕ) (has : HasBinary rules i kind operand operator) where
    abbrev Nested : List ℕ → Forest → Type 0
    Nested ts f = IsLeftNested rules kind operand operator ts f

    recast : (ts us : List ℕ) (f g : Forest) → ts ≡ us → f ≡ g → Nested ts f → Nested us g
    recast ts us f g p q x =
        subst (λ (y : List ℕ). Nested y g) p (subst (λ (y : Forest). Nested ts y) q x)

    -- one operator and operand more
    next : (ts us : List ℕ) (f h : Forest) → Nested ts f → Makes rules true has.step f us h → Nested (ts ++ us) h
    next ts us f h b m =
        let w = inside (Wrap kind has.pair) true has.step f us h has.wrap m in
        let s = inside (Seq operator operand) false has.pair none us w.0 has.both w.2 in
        recast (ts ++ (s.1 ++ s.2)) (ts ++ us) (node_then kind (joined f w.0) none) h
        (ap (λ (x : List ℕ). ts ++ x) (sym s.3)) (sym w.1) (binary.more b s.4 s.5)

    clash : (r : Rule) (j : ℕ) → j ≡ has.rest → HasRule rules j r → r ≡ Star has.step
    clash r j e is = same has.rest r (Star has.step) (subst (λ (x : ℕ). HasRule rules x r) e is) has.star

    inner : (j a : ℕ) → j ≡ has.rest → HasRule rules j (Star a) → a ≡ has.step
    inner j a e is = let q = clash (Star a) j e is in cc

    tail : (c : Bool) (j : ℕ) (us : List ℕ) (f h : Forest) → c ≡ true → j ≡ has.rest → Makes rules c j f us h
        → (ts : List ℕ) → Nested ts f → Nested (ts ++ us) h
    tail c j _ f _ t e (make.empty is) ts b = let q = clash Empty j e is in absurd (cc)
    tail c j _ f _ t e (make.token {kind = k} is) ts b = let q = clash (rule.Token k) j e is in absurd (cc)
    tail c j _ f _ t e (make.node {kind = k} {a = a} is m) ts b = let q = clash (Node k a) j e is in absurd (cc)
    tail c j _ f _ t e (make.chain {a = a} is m) ts b = let q = clash (Chain a) j e is in absurd (cc)
    tail _ j _ f _ t e (make.wrap {kind = k} {a = a} is m) ts b = let q = clash (Wrap k a) j e is in absurd (cc)
    tail _ j _ f _ t e (make.wrap_outside {kind = k} {a = a} is m) ts b = let q = clash (Wrap k a) j e is in absurd (cc)
    tail c j _ f _ t e (make.seq {a = a} {b = d} is m n) ts b = let q = clash (Seq a d) j e is in absurd (cc)
    tail c j _ f _ t e (make.left {a = a} d is m) ts b = let q = clash (Choice a d) j e is in absurd (cc)
    tail c j _ f _ t e (make.right {b = d} a is m) ts b = let q = clash (Choice a d) j e is in absurd (cc)
    tail c j _ f _ t e (make.present {a = a} is m) ts b = let q = clash (Optional a) j e is in absurd (cc)
    tail c j _ f _ t e (make.absent a is) ts b = let q = clash (Optional a) j e is in absurd (cc)
    tail c j _ f h t e (make.more {a = a} {g = g} {ts = us} {us = vs} is m n) ts b =
        let step : Makes rules true has.step f us g =
        subst (λ (x : Bool). Makes rules x has.step f us g) t
        (subst (λ (x : ℕ). Makes rules c x f us g) (inner j a e is) m) in
        recast ((ts ++ us) ++ vs) (ts ++ (us ++ vs)) h h (append_assoc ts us vs) refl
        (tail c j vs g h t e n (ts ++ us) (next ts us f g b step))
    tail c j _ f _ t e (make.stop a is) ts b = recast ts (ts ++ []) f f (sym (append-nil ts)) refl b

    from : (c : Bool) (ts : List ℕ) (f : Forest) → Makes rules c i none ts f → Nested ts f
    from c ts f m =
        let w = inside (Chain has.whole) c i none ts f has.chain m in
        let s = inside (Seq operand has.rest) true has.whole none ts w.0 has.seq w.2 in
        recast (s.1 ++ s.2) ts w.0 f (sym s.3) (sym w.1)
        (tail true has.rest s.2 s.0 w.0 refl refl s.5 s.1 (one s.4))

    -- ---- and back

    record IsRest (ts : List ℕ) (f : Forest) : Type 0 where
      us : List ℕ
      vs : List ℕ
      g : Forest
      tokens : ts ≡ us ++ vs
      first : Makes rules true operand none us g
      others : Makes rules true has.rest g vs f

    retold : (f : Forest) (xs ys : List ℕ) (h : Forest) → xs ≡ ys → Makes rules true has.rest f xs h → Makes rules true has.rest f ys h
    retold f xs ys h e m = subst (λ (x : List ℕ). Makes rules true has.rest f x h) e m

    only : (g : Forest) (us : List ℕ) (h : Forest) → Makes rules true has.step g us h → Makes rules true has.rest g us h
    only g us h m = retold g (us ++ []) us h (append-nil us) (make.more has.star m (make.stop has.step has.star))

    behind : (c : Bool) (j : ℕ) (f : Forest) (xs : List ℕ) (g : Forest) → c ≡ true → j ≡ has.rest → Makes rules c j f xs g
        → (us : List ℕ) (h : Forest) → Makes rules true has.step g us h → Makes rules true has.rest f (xs ++ us) h
    behind c j f _ _ t e (make.empty is) us h q = let x = clash Empty j e is in absurd (cc)
    behind c j f _ _ t e (make.token {kind = k} is) us h q = let x = clash (rule.Token k) j e is in absurd (cc)
    behind c j f _ _ t e (make.node {kind = k} {a = a} is m) us h q = let x = clash (Node k a) j e is in absurd (cc)
    behind c j f _ _ t e (make.chain {a = a} is m) us h q = let x = clash (Chain a) j e is in absurd (cc)
    behind _ j f _ _ t e (make.wrap {kind = k} {a = a} is m) us h q = let x = clash (Wrap k a) j e is in absurd (cc)
    behind _ j f _ _ t e (make.wrap_outside {kind = k} {a = a} is m) us h q = let x = clash (Wrap k a) j e is in absurd (cc)
    behind c j f _ _ t e (make.seq {a = a} {b = d} is m n) us h q = let x = clash (Seq a d) j e is in absurd (cc)
    behind c j f _ _ t e (make.left {a = a} d is m) us h q = let x = clash (Choice a d) j e is in absurd (cc)
    behind c j f _ _ t e (make.right {b = d} a is m) us h q = let x = clash (Choice a d) j e is in absurd (cc)
    behind c j f _ _ t e (make.present {a = a} is m) us h q = let x = clash (Optional a) j e is in absurd (cc)
    behind c j f _ _ t e (make.absent a is) us h q = let x = clash (Optional a) j e is in absurd (cc)
    behind c j f _ g t e (make.more {a = a} {g = k} {ts = xs} {us = ys} is m n) us h q =
        let step : Makes rules true has.step f xs k =
        subst (λ (x : Bool). Makes rules x has.step f xs k) t
        (subst (λ (x : ℕ). Makes rules c x f xs k) (inner j a e is) m) in
        retold f (xs ++ (ys ++ us)) ((xs ++ ys) ++ us) h (sym (append_assoc xs ys us))
        (make.more has.star step (behind c j k ys g t e n us h q))
    behind c j f _ _ t e (make.stop a is) us h q = only f us h q

    rest-of : (ts : List ℕ) (f : Forest) → Nested ts f → IsRest ts f
    rest-of ts f (one m) = record {
      us = ts;
      vs = [];
      g = f;
      tokens = sym (append-nil ts);
      first = m;
      others = make.stop has.step has.star;
    }
    rest-of _ _ (binary.more {ts = ts} {us = us} {vs = vs} {f = f} {h = h} b m n) =
        let r = rest-of ts f b in
        let step : Makes rules true has.step f (us ++ vs) (node_then kind (joined f h) none) =
        make.wrap has.wrap (make.seq has.both m n) in
        record {
          us = r.us;
          vs = r.vs ++ (us ++ vs);
          g = r.g;
          tokens = ap (λ (x : List ℕ). x ++ (us ++ vs)) r.tokens ∙ append_assoc r.us r.vs (us ++ vs);
          first = r.first;
          others = behind true has.rest r.g r.vs f refl refl r.others (us ++ vs) (node_then kind (joined f h) none) step;
        }

    to : (c : Bool) (ts : List ℕ) (f : Forest) → Nested ts f → Makes rules c i none ts f
    to c ts f b =
        let r = rest-of ts f b in
        make.chain has.chain
        (subst (λ (x : List ℕ). Makes rules true has.whole none x f) (sym r.tokens) (make.seq has.seq r.first r.others))

    pub derives : DerivesBinary rules i kind operand operator
    derives = record { from = from; to = to }
