-- What a builder asked its cache for, with each of its calls.
use Rattle.std.proofs.Common.{◌≡◌, ℕ, List, [], ◌∷◌, ◌++◌, map, refl, sym, ◌∙◌, ap, subst}
use Rattle.std.proofs.Common.{append_assoc}
use Rattle.std.proofs.lemmas.List.{append-nil}
use Rattle.std.specs.Prelude.{fold, Result, Ok, Err}
use Rattle.std.specs.Result.{OnOk, OnErr}
use Rattle.std.proofs.lemmas.List.Sums.{fold-append}
use Rattle.std.proofs.lemmas.Grind.{flat_map-append}
use Rattle.std.specs.List.{flat_map}
use Rattle.rowan_green.specs.declared.utility_types.NodeOrToken.TheVariants.{Node, Token}
use Rattle.rowan_green.specs.Term.{TokenTerm, NodeTerm, Term, forest, node_of}
use Rattle.rowan_green.specs.Word.{Symbol, Open, Leaf, Close, Bare, Whole, spelled, whole_terms}
use Rattle.rowan_green.specs.Word.{HasTerms, Closes, IsFinished}
use Rattle.rowan_builder.specs.Cache.{CacheValue, intern, with_term, first_seen}
use Rattle.rowan_builder.specs.Builder.{BuilderValue, adds, opens, FinishesNode, WrapsAt}
use Rattle.rowan_builder.specs.Stream.{forest_subterms, subterms, intern_all, InternsWord, Grows}
use Rattle.rowan_builder.specs.Stream.{BuildsOn}
use Rattle.rowan_builder.proofs.CacheLemmas.{Continues-with_term, Continues-trans}
use Rattle.rowan_terms.proofs.ItemLemmas.{whole_terms-append, whole_terms-map, whole_terms-open}
use Rattle.rowan_terms.proofs.ItemLemmas.{spelled-close}
use Rattle.rowan_terms.proofs.Words.{parts-unique, parts-more}

forest_subterms-forest : (ts : List Term) → forest_subterms (forest ts) ≡ flat_map subterms ts
forest_subterms-forest [] = refl
forest_subterms-forest (Node n ∷ ts) =
    ap (λ us. subterms (Node n) ++ us) (forest_subterms-forest ts)
forest_subterms-forest (Token t ∷ ts) = ap (λ us. Token t ∷ us) (forest_subterms-forest ts)

-- the subterms of the children, and the node last
subterms-node_of : (k : ℕ) (ts : List Term)
    → subterms (Node (node_of k ts)) ≡ flat_map subterms ts ++ Node (node_of k ts) ∷ []
subterms-node_of k ts = ap (λ us. us ++ Node (node_of k ts) ∷ []) (forest_subterms-forest ts)

pub HasTerms-unique : (w : List Symbol) (ts us : List Term) → HasTerms w ts → HasTerms w us
    → ts ≡ us
HasTerms-unique w ts us h g =
    sym h.terms ∙ ap whole_terms (parts-unique w h.items g.items h.parts g.parts) ∙ g.terms

-- ---- the word's whole terms, with each call

HasTerms-leaf : (v w : List Symbol) (ts : List Term) (t : TokenTerm) → HasTerms v ts
    → w ≡ v ++ Leaf t ∷ [] → HasTerms w (ts ++ Token t ∷ [])
HasTerms-leaf v w ts t h e = record {
  items = h.items ++ Whole (Token t) ∷ [];
  parts = parts-more v w (Leaf t ∷ []) h.items (Whole (Token t)) h.parts e refl;
  terms = whole_terms-append h.items (Whole (Token t) ∷ []) ∙ ap (λ us. us ++ Token t ∷ []) h.terms;
}

HasTerms-open : (v w : List Symbol) (ts : List Term) (k : ℕ) → HasTerms v ts → w ≡ v ++ Open k ∷ []
    → HasTerms w ts
HasTerms-open v w ts k h e = record {
  items = h.items ++ Bare k ∷ [];
  parts = parts-more v w (Open k ∷ []) h.items (Bare k) h.parts e refl;
  terms = whole_terms-append h.items (Bare k ∷ []) ∙ append-nil (whole_terms h.items) ∙ h.terms;
}

module _ (v : List Symbol) (n : NodeTerm) (w : List Symbol) (c : Closes v n w) where
  HasTerms-before : HasTerms v (whole_terms c.before ++ c.children)
  HasTerms-before = record {
    items = c.before ++ Bare c.kind ∷ map Whole c.children;
    parts = c.parts;
    terms = whole_terms-open c.before c.kind c.children;
  }

  HasTerms-behind : HasTerms w (whole_terms c.before ++ Node n ∷ [])
  HasTerms-behind = record {
    items = c.before ++ Whole (Node n) ∷ [];
    parts = record {
      spells =
          c.closed ∙ ap (λ u. u ++ Close ∷ []) c.parts.spells
          ∙ sym (spelled-close c.before c.kind c.children)
          ∙ ap (λ m. spelled (c.before ++ Whole (Node m) ∷ [])) (sym c.closes);
    };
    terms = whole_terms-append c.before (Whole (Node n) ∷ []);
  }

-- ---- what was asked

abbrev with_seen : ℕ → List Term → CacheValue
with_seen limit ts = record { limit = limit; seen = ts }

intern_all-one : (cache : CacheValue) (ts us : List Term) (t : Term) → us ≡ ts ++ t ∷ []
    → intern_all cache us ≡ intern (intern_all cache ts) t
intern_all-one cache ts us t e = ap (intern_all cache) e ∙ fold-append intern cache ts (t ∷ [])

pub InternsWord-starts : (cache : CacheValue) (b : BuilderValue) → b.word ≡ [] → b.cache ≡ cache
    → InternsWord cache b
InternsWord-starts cache b e f =
    record {
      terms = [];
      stand = record { items = []; parts = record { spells = e }; terms = refl };
      interns = f;
    }

pub InternsWord-adds : (cache : CacheValue) (old new : BuilderValue) (t : TokenTerm)
    → InternsWord cache old → new ≡ adds old t → InternsWord cache new
InternsWord-adds cache old new t h e = record {
  terms = h.terms ++ Token t ∷ [];
  stand = HasTerms-leaf old.word new.word h.terms t h.stand (ap (λ b. b.word) e);
  interns =
      ap (λ b. b.cache) e ∙ ap (λ c. intern c (Token t)) h.interns
      ∙ sym (intern_all-one cache (flat_map subterms h.terms)
      (flat_map subterms (h.terms ++ Token t ∷ [])) (Token t)
      (flat_map-append subterms h.terms (Token t ∷ [])));
}

pub InternsWord-opens : (cache : CacheValue) (old new : BuilderValue) (k : ℕ)
    → InternsWord cache old → new ≡ opens old k → InternsWord cache new
InternsWord-opens cache old new k h e = record {
  terms = h.terms;
  stand = HasTerms-open old.word new.word h.terms k h.stand (ap (λ b. b.word) e);
  interns = ap (λ b. b.cache) e ∙ h.interns;
}

pub InternsWord-finishes : (cache : CacheValue) (old new : BuilderValue) → InternsWord cache old
    → FinishesNode old new → InternsWord cache new
InternsWord-finishes cache old new h f =
    let c = f.closes in
    let outer = whole_terms c.before in
    let same : h.terms ≡ outer ++ c.children =
    HasTerms-unique old.word h.terms (outer ++ c.children) h.stand
    (HasTerms-before old.word f.node new.word c) in
    let node : Term = Node f.node in
    let ended : subterms node ≡ flat_map subterms c.children ++ node ∷ [] =
    ap (λ m. subterms (Node m)) c.closes ∙ subterms-node_of c.kind c.children
    ∙ ap (λ m. flat_map subterms c.children ++ Node m ∷ []) (sym c.closes) in
    let before : flat_map subterms h.terms ≡ flat_map subterms outer
    ++ flat_map subterms c.children =
    ap (flat_map subterms) same ∙ flat_map-append subterms outer c.children in
    let behind : flat_map subterms (outer ++ node ∷ []) ≡ flat_map subterms h.terms ++ node ∷ [] =
    flat_map-append subterms outer (node ∷ [])
    ∙ ap (λ us. flat_map subterms outer ++ us) (append-nil (subterms node) ∙ ended)
    ∙ sym (append_assoc (flat_map subterms outer) (flat_map subterms c.children) (node ∷ []))
    ∙ ap (λ us. us ++ node ∷ []) (sym before) in
    record {
      terms = outer ++ node ∷ [];
      stand = HasTerms-behind old.word f.node new.word c;
      interns = f.interns ∙ ap (λ d. intern d node) h.interns
          ∙ sym (intern_all-one cache (flat_map subterms h.terms)
          (flat_map subterms (outer ++ node ∷ [])) node behind);
    }

-- the cache of a finished tree
pub InternsWord-finished : (cache : CacheValue) (b : BuilderValue) (n : NodeTerm)
    → InternsWord cache b → IsFinished b.word n → b.cache ≡ intern_all cache (subterms (Node n))
InternsWord-finished cache b n h f =
    h.interns ∙ ap (λ ts. intern_all cache (flat_map subterms ts))
    (HasTerms-unique b.word h.terms (Node n ∷ []) h.stand f)
    ∙ ap (intern_all cache) (append-nil (subterms (Node n)))

-- ---- a cache that grows

pub Grows-same : (c d : CacheValue) → d ≡ c → Grows c d
Grows-same c d e = record {
  same_limit = ap (λ x. x.limit) e;
  continues =
      record { more = []; goes_on = ap (λ x. x.seen) e ∙ sym (append-nil c.seen) };
}

pub Grows-intern : (c d : CacheValue) (t : Term) → d ≡ intern c t → Grows c d
Grows-intern c d t e =
    let more = Continues-with_term c.limit c.seen t in
    record {
      same_limit = ap (λ x. x.limit) e;
      continues =
          record { more = more.more; goes_on = ap (λ x. x.seen) e ∙ more.goes_on };
    }

pub Grows-trans : (c d e : CacheValue) → Grows c d → Grows d e → Grows c e
Grows-trans c d e h g = record {
  same_limit = g.same_limit ∙ h.same_limit;
  continues = Continues-trans c.seen d.seen e.seen h.continues g.continues;
}

-- ---- first seen

intern_all-fold : (cache : CacheValue) (ts : List Term)
    → intern_all cache ts ≡ with_seen cache.limit (fold (with_term cache.limit) cache.seen ts)
intern_all-fold cache [] = refl
intern_all-fold cache (t ∷ ts) = intern_all-fold (intern cache t) ts

-- what a cache has after it was asked for terms is first seen in what it had with the terms behind
-- it
pub intern_all-first_seen : (cache : CacheValue) (ts : List Term)
    → first_seen cache.limit cache.seen ≡ cache.seen
    → intern_all cache ts ≡ with_seen cache.limit (first_seen cache.limit (cache.seen ++ ts))
intern_all-first_seen cache ts own =
    intern_all-fold cache ts
    ∙ ap (λ us. with_seen cache.limit (fold (with_term cache.limit) us ts)) (sym own)
    ∙ ap (with_seen cache.limit) (sym (fold-append (with_term cache.limit) [] cache.seen ts))

-- ---- what each call does

InternsWord-wraps : (cache : CacheValue) (old new : BuilderValue) (c k : ℕ) → InternsWord cache old
    → WrapsAt old c k new → InternsWord cache new
InternsWord-wraps cache old new c k h f =
    let w = f.wraps in
    let around : HasTerms old.word (whole_terms w.before ++ w.after) = record {
      items = w.before ++ map Whole w.after;
      parts = w.parts;
      terms = whole_terms-append w.before (map Whole w.after)
          ∙ ap (λ us. whole_terms w.before ++ us) (whole_terms-map w.after);
    } in
    record {
      terms = h.terms;
      stand = record {
        items = w.before ++ Bare k ∷ map Whole w.after;
        parts = w.opened;
        terms =
            whole_terms-open w.before k w.after
            ∙ HasTerms-unique old.word (whole_terms w.before ++ w.after) h.terms around h.stand;
      };
      interns = f.same_cache ∙ h.interns;
    }

pub BuildsOn-same : (old new : BuilderValue) → new ≡ old → BuildsOn old new
BuildsOn-same old new e =
    record {
      keeps = λ c h. subst (InternsWord c) (sym e) h;
      grows =
          Grows-same old.cache new.cache (ap (λ b. b.cache) e);
    }

pub BuildsOn-trans : (a b c : BuilderValue) → BuildsOn a b → BuildsOn b c → BuildsOn a c
BuildsOn-trans a b c h g =
    record {
      keeps = λ d k. g.keeps d (h.keeps d k);
      grows =
          Grows-trans a.cache b.cache c.cache h.grows g.grows;
    }

module _ {E : Type 0} (old new : BuilderValue) where
  pub BuildsOn-adds : (r : Result (Unit {0}) E) (t : TokenTerm) → OnOk r (new ≡ adds old t)
      → OnErr r (new ≡ old) → BuildsOn old new
  BuildsOn-adds (Ok x) t ok err =
      record {
        keeps = λ c h. InternsWord-adds c old new t h ok;
        grows =
            Grows-intern old.cache new.cache (Token t) (ap (λ b. b.cache) ok);
      }
  BuildsOn-adds (Err e) t ok err = BuildsOn-same old new err

  pub BuildsOn-opens : (r : Result (Unit {0}) E) (k : ℕ) → OnOk r (new ≡ opens old k)
      → OnErr r (new ≡ old) → BuildsOn old new
  BuildsOn-opens (Ok x) k ok err =
      record {
        keeps = λ c h. InternsWord-opens c old new k h ok;
        grows =
            Grows-same old.cache new.cache (ap (λ b. b.cache) ok);
      }
  BuildsOn-opens (Err e) k ok err = BuildsOn-same old new err

  pub BuildsOn-finishes : (r : Result (Unit {0}) E) → OnOk r (FinishesNode old new)
      → OnErr r (new ≡ old) → BuildsOn old new
  BuildsOn-finishes (Ok x) ok err =
      record {
        keeps = λ c h. InternsWord-finishes c old new h ok;
        grows =
            Grows-intern old.cache new.cache (Node ok.node) ok.interns;
      }
  BuildsOn-finishes (Err e) ok err = BuildsOn-same old new err

  pub BuildsOn-wraps : (r : Result (Unit {0}) E) (c k : ℕ) → OnOk r (WrapsAt old c k new)
      → OnErr r (new ≡ old) → BuildsOn old new
  BuildsOn-wraps (Ok x) c k ok err =
      record {
        keeps = λ d h. InternsWord-wraps d old new c k h ok;
        grows =
            Grows-same old.cache new.cache ok.same_cache;
      }
  BuildsOn-wraps (Err e) c k ok err = BuildsOn-same old new err
