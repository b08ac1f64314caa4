-- The terms of a builder's elements, where there is one, and a builder's value.
use Rattle.std.proofs.Common.{◌≡◌, ℕ, List, [], ◌∷◌, ◌++◌, map, length, get_or, Option, sym, ◌∙◌}
use Rattle.std.proofs.Common.{ap, subst, arith, length-append}
use Rattle.rowan_builder.specs.declared.builder.owning.Opening.{Opening}
use Rattle.rowan_green.specs.declared.green.node.GreenChild.{GreenChild}
use Rattle.rowan_green.specs.Term.{Term}
use Rattle.rowan_builder.specs.Builder.{BuilderValue}
use Rattle.rowan_builder.specs.Cache.{CacheValue, AreNumbered}
use Rattle.rowan_green.specs.View.{child_term}
use Rattle.rowan_builder.specs.Weave.{weave, AreInOrder}
use Rattle.rowan_green.specs.Word.{Symbol, spelled}

-- a list of one element has the term of its first element alone, and is its last one
pub elements-first : (cs : List GreenChild) (c : GreenChild) (t : Term) → length cs ≡ 1
    → c ≡ get_or cs 0 c → child_term c ≡ t → map child_term cs ≡ t ∷ []
elements-first [] c t long e same = absurd (omega arith)
elements-first (d ∷ []) c t long e same = ap (λ u. u ∷ []) (ap child_term (sym e) ∙ same)
elements-first (d ∷ b ∷ cs) c t long e same = absurd (omega arith)

pub only-last : (ts us : List Term) (u t : Term) → length ts ≡ 1 → ts ≡ us ++ u ∷ [] → u ≡ t
    → ts ≡ t ∷ []
only-last ts [] u t long e same = e ∙ ap (λ v. v ∷ []) same
only-last ts (v ∷ us) u t long e same =
    absurd (omega (arith, ap length e, length-append us (u ∷ [])))

abbrev value : List Symbol → CacheValue → BuilderValue
value w c = record { word = w; cache = c }

pub same_value : (w v : List Symbol) (c d : CacheValue) → w ≡ v → c ≡ d → value w c ≡ value v d
same_value w v c d e f = ap (λ x. value x c) e ∙ ap (λ x. value v x) f

-- ---- a builder whose lists hold the same

pub same_builder : (os : List Opening) (ts us : List Term) (c d : CacheValue) (b : BuilderValue)
    → us ≡ ts → d ≡ c → value (spelled (weave 0 os ts)) c ≡ b
    → value (spelled (weave 0 os us)) d ≡ b
same_builder os ts us c d b e f is =
    same_value (spelled (weave 0 os us)) (spelled (weave 0 os ts)) d c
    (ap (λ vs. spelled (weave 0 os vs)) e) f ∙ is

pub same_invariant : (os : List Opening) (ts us : List Term) (ns ms : List (Option ℕ))
    (c d : CacheValue) → us ≡ ts → ms ≡ ns → d ≡ c
    → AreInOrder 0 os (length ts) × AreNumbered c ts ns
    → AreInOrder 0 os (length us) × AreNumbered d us ms
same_invariant os ts us ns ms c d e f g h = (
  subst (λ vs. AreInOrder 0 os (length vs)) (sym e) h.0,
  subst (λ vs. AreNumbered d vs ms) (sym e)
      (subst (λ ks. AreNumbered d ts ks) (sym f) (subst (λ v. AreNumbered v ts ns) (sym g) h.1)),
)
