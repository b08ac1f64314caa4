-- Other tokens of a rule, amid what stands around it.
use Rattle.std.proofs.Common.{◌≡◌, ℕ, List, [], ◌∷◌, ◌++◌, sym, ap, ◌∙◌, subst, append_assoc, append-nil}
use Rattle.rowan_predictive.specs.declared.rules.Action.{Action}
use Rattle.rowan_predictive.specs.declared.rules.Action.TheVariants.{Open, Mark, Around, Close, Done}
use Rattle.rowan_predictive.specs.declared.rules.Rule.{Rule}
use Rattle.rowan_predictive.specs.Amid.{IsAmid, itself, in_node, in_chain, in_wrap, in_first, in_second, in_left, in_right, in_present, in_item, in_rest}
use Rattle.rowan_predictive.specs.Derivations.{Parses, node, chain, wrap, seq, left, right, present, more}

-- what stands behind the middle one of three goes into the last one
pub into-last : {A : Type 0} (es xs fs gs : List A) → (es ++ (xs ++ fs)) ++ gs ≡ es ++ (xs ++ (fs ++ gs))
into-last es xs fs gs = append_assoc es (xs ++ fs) gs ∙ ap (λ x. es ++ x) (append_assoc xs fs gs)

module _ (rules : List Rule) (p : ℕ) (ms : List ℕ) (xs : List Action) (parses : Parses rules p ms xs) where
  recast : (i : ℕ) (ts us : List ℕ) (es fs : List Action) → ts ≡ us → es ≡ fs → Parses rules i ts es → Parses rules i us fs
  recast i ts us es fs t e x =
      subst (λ (y : List ℕ). Parses rules i y fs) t (subst (λ (y : List Action). Parses rules i ts y) e x)

  -- an action before a part, and one behind it
  around : (e f : Action) (i : ℕ) (ts : List ℕ) (es fs : List Action) → Parses rules i ts (e ∷ ((es ++ (xs ++ fs)) ++ (f ∷ [])))
      → Parses rules i ts (e ∷ (es ++ (xs ++ (fs ++ (f ∷ [])))))
  around e f i ts es fs x =
      subst (λ (y : List Action). Parses rules i ts (e ∷ y)) (into-last es xs fs (f ∷ [])) x

  ahead : (i : ℕ) (ts us vs : List ℕ) (es fs gs : List Action) → Parses rules i ((ts ++ (ms ++ us)) ++ vs) ((es ++ (xs ++ fs)) ++ gs)
      → Parses rules i (ts ++ (ms ++ (us ++ vs))) (es ++ (xs ++ (fs ++ gs)))
  ahead i ts us vs es fs gs x = recast i _ _ _ _ (into-last ts ms us vs) (into-last es xs fs gs) x

  behind : (i : ℕ) (ts us vs : List ℕ) (es fs gs : List Action) → Parses rules i (vs ++ (ts ++ (ms ++ us))) (gs ++ (es ++ (xs ++ fs)))
      → Parses rules i ((vs ++ ts) ++ (ms ++ us)) ((gs ++ es) ++ (xs ++ fs))
  behind i ts us vs es fs gs x =
      recast i _ _ _ _ (sym (append_assoc vs ts (ms ++ us))) (sym (append_assoc gs es (xs ++ fs))) x

  pub amid-parses : (i : ℕ) (ts us : List ℕ) (es fs : List Action) → IsAmid rules p i ts us es fs
      → Parses rules i (ts ++ (ms ++ us)) (es ++ (xs ++ fs))
  amid-parses i _ _ _ _ itself =
      recast p ms (ms ++ []) xs (xs ++ []) (sym (append-nil ms)) (sym (append-nil xs)) parses
  amid-parses i ts us _ _ (in_node {kind = k} {a = a} {es = es} {fs = fs} is m) =
      around (Open k) Close i (ts ++ (ms ++ us)) es fs (node is (amid-parses a ts us es fs m))
  amid-parses i ts us _ _ (in_chain {a = a} {es = es} {fs = fs} is m) =
      around Mark Done i (ts ++ (ms ++ us)) es fs (chain is (amid-parses a ts us es fs m))
  amid-parses i ts us _ _ (in_wrap {kind = k} {a = a} {es = es} {fs = fs} is m) =
      around (Around k) Close i (ts ++ (ms ++ us)) es fs (wrap is (amid-parses a ts us es fs m))
  amid-parses i ts _ es _ (in_first {a = a} {us = us} {vs = vs} {fs = fs} {gs = gs} is m d) =
      ahead i ts us vs es fs gs (seq is (amid-parses a ts us es fs m) d)
  amid-parses i _ us _ fs (in_second {b = b} {ts = ts} {vs = vs} {es = es} {gs = gs} is d m) =
      behind i ts us vs es fs gs (seq is d (amid-parses b ts us es fs m))
  amid-parses i ts us es fs (in_left {a = a} b is m) = left b is (amid-parses a ts us es fs m)
  amid-parses i ts us es fs (in_right {b = b} a is m) = right a is (amid-parses b ts us es fs m)
  amid-parses i ts us es fs (in_present {a = a} is m) = present is (amid-parses a ts us es fs m)
  amid-parses i ts _ es _ (in_item {a = a} {us = us} {vs = vs} {fs = fs} {gs = gs} is m d) =
      ahead i ts us vs es fs gs (more is (amid-parses a ts us es fs m) d)
  amid-parses i _ us _ fs (in_rest {ts = ts} {vs = vs} {es = es} {gs = gs} is d m) =
      behind i ts us vs es fs gs (more is d (amid-parses i ts us es fs m))
