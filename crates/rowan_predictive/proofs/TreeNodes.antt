-- Each node of a tree that derives may get others below it.
use Rattle.std.proofs.Common.{◌≡◌, ℕ, Bool, true, false, List, [], ◌∷◌, ◌++◌, refl, sym, ap, ◌∙◌, subst, append_assoc, append-nil}
use Rattle.rowan_parser.specs.Shape.{Step, Enter, Take, TakeAs, Exit, Forest, none, token_then, joined_then, node_then, joined, word}
use Rattle.rowan_parser.proofs.ShapeLemmas.{word-joined}
use Rattle.rowan_predictive.specs.declared.rules.Rule.{Rule}
use Rattle.rowan_predictive.specs.declared.rules.Rule.TheVariants.{Node, Wrap}
use Rattle.rowan_predictive.specs.declared.rules.Rule.TheVariants as rule
use Rattle.rowan_predictive.specs.Derivations.{HasRule}
use Rattle.rowan_predictive.specs.TreeNodes.{IsNodeIn, first, behind_token, behind_joined, behind_node, within, IsReplaceable}
use Rattle.rowan_predictive.specs.Trees.{Makes, MakesForest}
use Rattle.rowan_predictive.specs.Trees as make
use Rattle.rowan_predictive.proofs.Amid.{into-last}

-- ---- words around a place

in-node-word : (k : ℕ) (g : Forest) (a xs s : List Step) → word g ≡ a ++ (xs ++ s)
    → word (node_then k g none) ≡ (Enter k ∷ a) ++ (xs ++ (s ++ Exit ∷ []))
in-node-word k g a xs s e =
    ap (λ (ss : List Step). Enter k ∷ (ss ++ (Exit ∷ []))) e
    ∙ ap (λ (ss : List Step). Enter k ∷ ss) (into-last a xs s (Exit ∷ []))

behind-word : (f g : Forest) (a xs s : List Step) → word g ≡ a ++ (xs ++ s)
    → word (joined f g) ≡ (word f ++ a) ++ (xs ++ s)
behind-word f g a xs s e =
    word-joined f g ∙ ap (λ (ss : List Step). word f ++ ss) e ∙ sym (append_assoc (word f) a (xs ++ s))

before-word : (f g : Forest) (a xs s : List Step) → word f ≡ a ++ (xs ++ s)
    → word (joined f g) ≡ a ++ (xs ++ (s ++ word g))
before-word f g a xs s e =
    word-joined f g ∙ ap (λ (ss : List Step). ss ++ word g) e ∙ into-last a xs s (word g)

-- ---- a node of two forests

module _ (kind : ℕ) (f : Forest) where
  data IsInOne (ahead after : List Step) (x y : Forest) : Type 0 where
    in-left : (s : List Step) → IsNodeIn kind f ahead s x → after ≡ s ++ word y → IsInOne ahead after x y
    in-right : (a : List Step) → IsNodeIn kind f a after y → ahead ≡ word x ++ a → IsInOne ahead after x y

  token-on : (ahead after : List Step) (x y : Forest) → IsInOne ahead after x y → IsInOne (Take ∷ ahead) after (token_then x) y
  token-on ahead after x y (in-left s u v) = in-left s (behind_token u) v
  token-on ahead after x y (in-right a u v) = in-right a u (ap (λ (ss : List Step). Take ∷ ss) v)

  joined-on : (k n : ℕ) (ahead after : List Step) (x y : Forest) → IsInOne ahead after x y → IsInOne (TakeAs k n ∷ ahead) after (joined_then k n x) y
  joined-on k n ahead after x y (in-left s u v) = in-left s (behind_joined u) v
  joined-on k n ahead after x y (in-right a u v) = in-right a u (ap (λ (ss : List Step). TakeAs k n ∷ ss) v)

  node-on : (k : ℕ) (i : Forest) (ahead after : List Step) (x y : Forest) → IsInOne ahead after x y
      → IsInOne (Enter k ∷ (word i ++ Exit ∷ ahead)) after (node_then k i x) y
  node-on k i ahead after x y (in-left s u v) = in-left s (behind_node u) v
  node-on k i ahead after x y (in-right a u v) =
      in-right a u (ap (λ (ss : List Step). Enter k ∷ (word i ++ Exit ∷ ss)) v
      ∙ ap (λ (ss : List Step). Enter k ∷ ss) (sym (append_assoc (word i) (Exit ∷ word x) a)))

  in-one : (x y : Forest) (ahead after : List Step) → IsNodeIn kind f ahead after (joined x y) → IsInOne ahead after x y
  in-one none y ahead after p = in-right ahead p refl
  in-one (token_then x) y _ after (behind_token {ahead = ahead} p) = token-on ahead after x y (in-one x y ahead after p)
  in-one (joined_then k n x) y _ after (behind_joined {ahead = ahead} p) = joined-on k n ahead after x y (in-one x y ahead after p)
  in-one (node_then k i x) y _ _ first = in-left (word x) first (word-joined x y)
  in-one (node_then k i x) y _ after (behind_node {ahead = ahead} p) = node-on k i ahead after x y (in-one x y ahead after p)
  in-one (node_then k i x) y _ _ (within {after = after} p) =
      in-left (after ++ Exit ∷ word x) (within p)
      (ap (λ (ss : List Step). after ++ Exit ∷ ss) (word-joined x y) ∙ sym (append_assoc after (Exit ∷ word x) (word y)))

  nowhere : (ahead after : List Step) → IsNodeIn kind f ahead after none → ⊥
  nowhere ahead after p = elim p [ ]

  no-token : (ahead after : List Step) → IsNodeIn kind f ahead after (token_then none) → ⊥
  no-token _ after (behind_token {ahead = ahead} p) = nowhere ahead after p

  -- the node itself, or one in it
  data IsInNode (k : ℕ) (i : Forest) (ahead after : List Step) : Type 0 where
    itself : k ≡ kind → i ≡ f → ahead ≡ [] → after ≡ [] → IsInNode k i ahead after
    inner : (a s : List Step) → IsNodeIn kind f a s i → ahead ≡ Enter k ∷ a → after ≡ s ++ (Exit ∷ []) → IsInNode k i ahead after

  in-node : (k : ℕ) (i : Forest) (ahead after : List Step) → IsNodeIn kind f ahead after (node_then k i none) → IsInNode k i ahead after
  in-node k i _ _ first = itself refl refl refl refl
  in-node k i _ after (behind_node {ahead = ahead} p) = absurd (nowhere ahead after p)
  in-node k i _ _ (within {ahead = ahead} {after = after} p) = inner ahead after p refl refl

-- ---- what a rule derives behind a forest

module _ (rules : List Rule) (kind : ℕ) (f : Forest) (unwrapped : (j a : ℕ) → HasRule rules j (Wrap kind a) → ⊥) where
  -- it makes a forest with this word
  record Spells (c : Bool) (i : ℕ) (x : Forest) (ts : List ℕ) (made : List Step) : Type 0 where
    forest : Forest
    makes : Makes rules c i x ts forest
    spells : word forest ≡ made

  -- The node is in the forest before. With another one there, the same is made behind it.
  record FromOld (c : Bool) (i : ℕ) (x : Forest) (ts : List ℕ) (ahead after : List Step) : Type 0 where
    a : List Step
    s : List Step
    is : IsNodeIn kind f a s x
    moves : (y : Forest) (xs : List Step) → word y ≡ a ++ (xs ++ s) → Spells c i y ts (ahead ++ (xs ++ after))

  -- The node is made here.
  record FromNew (c : Bool) (i : ℕ) (x : Forest) (ts : List ℕ) (ahead after : List Step) : Type 0 where
    rule : ℕ
    content : ℕ
    is_node : HasRule rules rule (Node kind content)
    before : List ℕ
    below : List ℕ
    behind : List ℕ
    all_tokens : ts ≡ before ++ (below ++ behind)
    derives : MakesForest rules content below f
    holds : (others : List ℕ) (g : Forest) → MakesForest rules content others g
        → Spells c i x (before ++ (others ++ behind)) (ahead ++ (word (node_then kind g none) ++ after))

  data Found (c : Bool) (i : ℕ) (x : Forest) (ts : List ℕ) (ahead after : List Step) : Type 0 where
    old : FromOld c i x ts ahead after → Found c i x ts ahead after
    new : FromNew c i x ts ahead after → Found c i x ts ahead after

  abbrev Finds : Bool → ℕ → Forest → List ℕ → Forest → Type 0
  Finds c i x ts g = (ahead after : List Step) → IsNodeIn kind f ahead after g → Found c i x ts ahead after

  not-in-none : (c : Bool) (i : ℕ) (ts : List ℕ) (ahead after : List Step) → Found c i none ts ahead after → FromNew c i none ts ahead after
  not-in-none c i ts ahead after (old o) = absurd (nowhere kind f o.a o.s o.is)
  not-in-none c i ts ahead after (new n) = n

  -- nothing is made
  unchanged : (c : Bool) (i : ℕ) (x : Forest) → ((y : Forest) → Makes rules c i y [] y) → Finds c i x [] x
  unchanged c i x makes ahead after p =
      old (record { a = ahead; s = after; is = p; moves = λ y xs e. record { forest = y; makes = makes y; spells = e } })

  -- what is made stands behind the forest
  behind-old : (c : Bool) (i : ℕ) (x z : Forest) (ts : List ℕ) (ahead after s : List Step)
      → ((y : Forest) → Makes rules c i y ts (joined y z)) → IsNodeIn kind f ahead s x → after ≡ s ++ word z → Found c i x ts ahead after
  behind-old c i x z ts ahead after s makes p e = old (record {
    a = ahead;
    s = s;
    is = p;
    moves = λ y xs w. record {
      forest = joined y z;
      makes = makes y;
      spells = before-word y z ahead xs s w ∙ ap (λ (ss : List Step). ahead ++ (xs ++ ss)) (sym e);
    };
  })

  -- a part, amid more of the tokens
  lifted : (c d : Bool) (i a : ℕ) (x z : Forest) (ts us vs : List ℕ) (p q ahead after : List Step) → FromNew d a z ts p q
      → ((g : Forest) (ms : List ℕ) (xs : List Step) → Makes rules d a z ms g → word g ≡ p ++ (xs ++ q)
      → Spells c i x (us ++ (ms ++ vs)) (ahead ++ (xs ++ after)))
      → FromNew c i x (us ++ (ts ++ vs)) ahead after
  lifted c d i a x z ts us vs p q ahead after n lift =
      let regroup : (ms : List ℕ) → us ++ ((n.before ++ (ms ++ n.behind)) ++ vs) ≡ (us ++ n.before) ++ (ms ++ (n.behind ++ vs)) =
      (λ ms. ap (λ (xs : List ℕ). us ++ xs) (into-last n.before ms n.behind vs) ∙ sym (append_assoc us n.before (ms ++ (n.behind ++ vs)))) in
      record {
        rule = n.rule;
        content = n.content;
        is_node = n.is_node;
        before = us ++ n.before;
        below = n.below;
        behind = n.behind ++ vs;
        all_tokens = ap (λ (xs : List ℕ). us ++ (xs ++ vs)) n.all_tokens ∙ regroup n.below;
        derives = n.derives;
        holds = λ others g m.
            let w = n.holds others g m in
            subst (λ (xs : List ℕ). Spells c i x xs (ahead ++ (word (node_then kind g none) ++ after))) (regroup others)
            (lift w.forest (n.before ++ (others ++ n.behind)) (word (node_then kind g none)) w.makes w.spells);
      }

  -- a part, with the same tokens
  kept : (c d : Bool) (i a : ℕ) (x z : Forest) (ts : List ℕ) (p q ahead after : List Step) → FromNew d a z ts p q
      → ((g : Forest) (ms : List ℕ) (xs : List Step) → Makes rules d a z ms g → word g ≡ p ++ (xs ++ q)
      → Spells c i x ms (ahead ++ (xs ++ after)))
      → FromNew c i x ts ahead after
  kept c d i a x z ts p q ahead after n lift = record {
    rule = n.rule;
    content = n.content;
    is_node = n.is_node;
    before = n.before;
    below = n.below;
    behind = n.behind;
    all_tokens = n.all_tokens;
    derives = n.derives;
    holds = λ others g m.
        let w = n.holds others g m in
        lift w.forest (n.before ++ (others ++ n.behind)) (word (node_then kind g none)) w.makes w.spells;
  }

  respelled : (c : Bool) (i : ℕ) (x : Forest) (ts : List ℕ) (xs ahead after p q : List Step) → ahead ≡ p → after ≡ q
      → Spells c i x ts (p ++ (xs ++ q)) → Spells c i x ts (ahead ++ (xs ++ after))
  respelled c i x ts xs ahead after p q e t h =
      record { forest = h.forest; makes = h.makes; spells = h.spells ∙ ap (λ (ss : List Step). ss ++ (xs ++ q)) (sym e) ∙ ap (λ (ss : List Step). ahead ++ (xs ++ ss)) (sym t) }

  -- ---- the rules

  -- a node around what another rule derives, behind the forest
  node-found : (c : Bool) (i k a : ℕ) (x h : Forest) (ts : List ℕ)
      → ((y g : Forest) (us : List ℕ) → Makes rules false a none us g → Makes rules c i y us (joined y (node_then k g none)))
      → (k ≡ kind → HasRule rules i (Node kind a)) → Makes rules false a none ts h
      → Finds false a none ts h → Finds c i x ts (joined x (node_then k h none))
  node-found c i k a x h ts makes is-node m finds ahead after p = by (in-one kind f x (node_then k h none) ahead after p)
    where
      itself-new : (b : List Step) → k ≡ kind → h ≡ f → b ≡ [] → after ≡ [] → ahead ≡ word x ++ b → FromNew c i x ts ahead after
      itself-new b e t u v w = record {
        rule = i;
        content = a;
        is_node = is-node e;
        before = [];
        below = ts;
        behind = [];
        all_tokens = sym (append-nil ts);
        derives = subst (λ (y : Forest). MakesForest rules a ts y) t m;
        holds = λ others g n. record {
          forest = joined x (node_then k g none);
          makes = subst (λ (us : List ℕ). Makes rules c i x us (joined x (node_then k g none))) (sym (append-nil others)) (makes x g others n);
          spells = word-joined x (node_then k g none)
              ∙ ap (λ (n : ℕ). word x ++ word (node_then n g none)) e
              ∙ ap (λ (ss : List Step). ss ++ word (node_then kind g none)) (sym (w ∙ ap (λ (ss : List Step). word x ++ ss) u ∙ append-nil (word x)))
              ∙ ap (λ (ss : List Step). ahead ++ ss) (sym (append-nil (word (node_then kind g none))))
              ∙ ap (λ (ss : List Step). ahead ++ (word (node_then kind g none) ++ ss)) (sym v);
        };
      }

      inner-new : (b d s : List Step) → IsNodeIn kind f d s h → b ≡ Enter k ∷ d → after ≡ s ++ (Exit ∷ []) → ahead ≡ word x ++ b
          → FromNew c i x ts ahead after
      inner-new b d s q u v w =
          kept c false i a x none ts d s ahead after (not-in-none false a ts d s (finds d s q)) (λ g ms xs n e.
          respelled c i x ms xs ahead after (word x ++ Enter k ∷ d) (s ++ (Exit ∷ []))
          (w ∙ ap (λ (ss : List Step). word x ++ ss) u) v
          (record {
            forest = joined x (node_then k g none);
            makes = makes x g ms n;
            spells = behind-word x (node_then k g none) (Enter k ∷ d) xs (s ++ (Exit ∷ [])) (in-node-word k g d xs s e);
          }))

      in-it : (b : List Step) → IsInNode kind f k h b after → ahead ≡ word x ++ b → Found c i x ts ahead after
      in-it b (itself e t u v) w = new (itself-new b e t u v w)
      in-it b (inner d s q u v) w = new (inner-new b d s q u v w)

      by : IsInOne kind f ahead after x (node_then k h none) → Found c i x ts ahead after
      by (in-left s u v) = behind-old c i x (node_then k h none) ts ahead after s (λ y. makes y h ts m) u v
      by (in-right b u v) = in-it b (in-node kind f k h b after u) v

  chain-found : (c : Bool) (i a : ℕ) (x h : Forest) (ts : List ℕ) → HasRule rules i (rule.Chain a) → Makes rules true a none ts h
      → Finds true a none ts h → Finds c i x ts (joined x h)
  chain-found c i a x h ts is m finds ahead after p = by (in-one kind f x h ahead after p)
    where
      by : IsInOne kind f ahead after x h → Found c i x ts ahead after
      by (in-left s u v) = behind-old c i x h ts ahead after s (λ y. make.chain is m) u v
      by (in-right b u v) = new (kept c true i a x none ts b after ahead after (not-in-none true a ts b after (finds b after u)) (λ g ms xs n e.
          respelled c i x ms xs ahead after (word x ++ b) after v refl
          (record { forest = joined x g; makes = make.chain is n; spells = behind-word x g b xs after e })))

  wrap-found : (i k a : ℕ) (x h : Forest) (ts : List ℕ) → HasRule rules i (Wrap k a) → Makes rules false a none ts h
      → Finds false a none ts h → Finds true i x ts (node_then k (joined x h) none)
  wrap-found i k a x h ts is m finds ahead after p = by (in-node kind f k (joined x h) ahead after p)
    where
      within-it : (d s : List Step) → ahead ≡ Enter k ∷ d → after ≡ s ++ (Exit ∷ []) → IsInOne kind f d s x h → Found true i x ts ahead after
      within-it d s u v (in-left t q w) = old (record {
        a = d;
        s = t;
        is = q;
        moves = λ y xs e.
            respelled true i y ts xs ahead after (Enter k ∷ d) (s ++ (Exit ∷ [])) u v
            (record {
              forest = node_then k (joined y h) none;
              makes = make.wrap is m;
              spells = in-node-word k (joined y h) d xs s (before-word y h d xs t e ∙ ap (λ (ss : List Step). d ++ (xs ++ ss)) (sym w));
            });
      })
      within-it d s u v (in-right b q w) =
          new (kept true false i a x none ts b s ahead after (not-in-none false a ts b s (finds b s q)) (λ g ms xs n e.
          respelled true i x ms xs ahead after (Enter k ∷ d) (s ++ (Exit ∷ [])) u v
          (record {
            forest = node_then k (joined x g) none;
            makes = make.wrap is n;
            spells = in-node-word k (joined x g) d xs s (behind-word x g b xs s e ∙ ap (λ (ss : List Step). ss ++ (xs ++ s)) (sym w));
          })))

      by : IsInNode kind f k (joined x h) ahead after → Found true i x ts ahead after
      by (itself e t u v) = absurd (unwrapped i a (subst (λ (n : ℕ). HasRule rules i (Wrap n a)) e is))
      by (inner d s q u v) = within-it d s u v (in-one kind f x h d s q)

  pair-found : (c : Bool) (i a b : ℕ) (x y z : Forest) (ts us : List ℕ)
      → ((u v w : Forest) (ms ns : List ℕ) → Makes rules c a u ms v → Makes rules c b v ns w → Makes rules c i u (ms ++ ns) w)
      → Makes rules c a x ts y → Finds c a x ts y → Finds c b y us z → Finds c i x (ts ++ us) z
  pair-found c i a b x y z ts us join m finds others ahead after p = by (others ahead after p)
    where
      at-end : (ms : List ℕ) → ts ++ (ms ++ []) ≡ ts ++ ms
      at-end ms = ap (λ (ks : List ℕ). ts ++ ks) (append-nil ms)

      second : FromNew c b y us ahead after → FromNew c i x (ts ++ us) ahead after
      second n =
          subst (λ (ks : List ℕ). FromNew c i x ks ahead after) (at-end us)
          (lifted c c i b x y us ts [] ahead after ahead after n (λ g ms xs k e.
          subst (λ (ks : List ℕ). Spells c i x ks (ahead ++ (xs ++ after))) (sym (at-end ms))
          (record { forest = g; makes = join x y g ts ms m k; spells = e })))

      from : (o : FromOld c b y us ahead after) → Found c a x ts o.a o.s → Found c i x (ts ++ us) ahead after
      from o (old q) = old (record {
        a = q.a;
        s = q.s;
        is = q.is;
        moves = λ w xs e.
            let v = q.moves w xs e in
            let k = o.moves v.forest xs v.spells in
            record { forest = k.forest; makes = join w v.forest k.forest ts us v.makes k.makes; spells = k.spells };
      })
      from o (new n) = new (lifted c c i a x x ts [] us o.a o.s ahead after n (λ g ms xs v e.
          let k = o.moves g xs e in
          record { forest = k.forest; makes = join x g k.forest ms us v k.makes; spells = k.spells }))

      by : Found c b y us ahead after → Found c i x (ts ++ us) ahead after
      by (old o) = from o (finds o.a o.s o.is)
      by (new n) = new (second n)

  same-found : (c : Bool) (i a : ℕ) (x z : Forest) (ts : List ℕ)
      → ((u v : Forest) (ms : List ℕ) → Makes rules c a u ms v → Makes rules c i u ms v)
      → Finds c a x ts z → Finds c i x ts z
  same-found c i a x z ts lift finds ahead after p = by (finds ahead after p)
    where
      by : Found c a x ts ahead after → Found c i x ts ahead after
      by (old o) = old (record {
        a = o.a;
        s = o.s;
        is = o.is;
        moves = λ y xs e. let k = o.moves y xs e in record { forest = k.forest; makes = lift y k.forest ts k.makes; spells = k.spells };
      })
      by (new n) = new (kept c c i a x x ts ahead after ahead after n (λ g ms xs k e. record { forest = g; makes = lift x g ms k; spells = e }))

  token-found : (c : Bool) (i k : ℕ) (x : Forest) → HasRule rules i (rule.Token k) → Finds c i x (k ∷ []) (joined x (token_then none))
  token-found c i k x is ahead after p = by (in-one kind f x (token_then none) ahead after p)
    where
      by : IsInOne kind f ahead after x (token_then none) → Found c i x (k ∷ []) ahead after
      by (in-left s u v) = behind-old c i x (token_then none) (k ∷ []) ahead after s (λ y. make.token is) u v
      by (in-right b u v) = absurd (no-token kind f b after u)

  found : (c : Bool) (i : ℕ) (x : Forest) (ts : List ℕ) (g : Forest) → Makes rules c i x ts g → Finds c i x ts g
  found c i x _ _ (make.empty is) = unchanged c i x (λ y. make.empty is)
  found c i x _ _ (make.token {kind = k} is) = token-found c i k x is
  found c i x ts _ (make.node {kind = k} {a = a} {g = g} is m) =
      node-found c i k a x g ts (λ y h us n. make.node is n) (λ e. subst (λ (n : ℕ). HasRule rules i (Node n a)) e is) m (found false a none ts g m)
  found c i x ts _ (make.chain {a = a} {g = g} is m) = chain-found c i a x g ts is m (found true a none ts g m)
  found _ i x ts _ (make.wrap {kind = k} {a = a} {g = g} is m) = wrap-found i k a x g ts is m (found false a none ts g m)
  found _ i x ts _ (make.wrap_outside {kind = k} {a = a} {g = g} is m) =
      node-found false i k a x g ts (λ y h us n. make.wrap_outside is n)
      (λ e. absurd (unwrapped i a (subst (λ (n : ℕ). HasRule rules i (Wrap n a)) e is))) m (found false a none ts g m)
  found c i x _ h (make.seq {a = a} {b = b} {g = g} {ts = ts} {us = us} is m n) =
      pair-found c i a b x g h ts us (λ u v w ms ns p q. make.seq is p q) m (found c a x ts g m) (found c b g us h n)
  found c i x ts g (make.left {a = a} b is m) = same-found c i a x g ts (λ u v ms p. make.left b is p) (found c a x ts g m)
  found c i x ts g (make.right {b = b} a is m) = same-found c i b x g ts (λ u v ms p. make.right a is p) (found c b x ts g m)
  found c i x ts g (make.present {a = a} is m) = same-found c i a x g ts (λ u v ms p. make.present is p) (found c a x ts g m)
  found c i x _ _ (make.absent a is) = unchanged c i x (λ y. make.absent a is)
  found c i x _ h (make.more {a = a} {g = g} {ts = ts} {us = us} is m n) =
      pair-found c i a i x g h ts us (λ u v w ms ns p q. make.more is p q) m (found c a x ts g m) (found c i g us h n)
  found c i x _ _ (make.stop a is) = unchanged c i x (λ y. make.stop a is)

  pub replaceable : (i : ℕ) (ts : List ℕ) (g : Forest) (ahead after : List Step) → MakesForest rules i ts g → IsNodeIn kind f ahead after g
      → IsReplaceable rules i kind ts f ahead after
  replaceable i ts g ahead after m p =
      let n = not-in-none false i ts ahead after (found false i none ts g m ahead after p) in
      record {
        rule = n.rule;
        content = n.content;
        is_node = n.is_node;
        before = n.before;
        below = n.below;
        behind = n.behind;
        all_tokens = n.all_tokens;
        derives = n.derives;
        holds = λ others h q.
            let w = n.holds others h q in
            record {
              forest = w.forest;
              makes = w.makes;
              spells = w.spells ∙ ap (λ (ss : List Step). ahead ++ Enter kind ∷ ss) (append_assoc (word h) (Exit ∷ []) after);
            };
      }
