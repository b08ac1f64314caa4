use Rattle.std.proofs.Common.{◌≡◌, ℕ, ◌≤◌, List, [], ◌∷◌, ◌++◌, length, drop, refl, sym, ap, ◌∙◌, arith, append_assoc, append-nil, subst}
use Rattle.std.proofs.lemmas.List.{map-append, drop_all, drop_more}
use Rattle.rowan_predictive.specs.declared.rules.Entry.{Entry}
use Rattle.rowan_predictive.specs.declared.rules.Rule.{Rule}
use Rattle.rowan_predictive.specs.Causes.{AreKnown, IsSo}
use Rattle.rowan_predictive.specs.View.{rules_of}
use Rattle.rowan_predictive.proofs.CauseLemmas.{none-known, one-known}
use Rattle.rowan_predictive.proofs.making.entries_of.Goals as goal

entries-more : (rules rest others : List Rule) (r : Rule) (old new : List Entry) (e : Entry)
    → rest ≡ r ∷ others → new ≡ old ++ (e ∷ []) → e.rule ≡ r
    → rules_of old ++ rest ≡ rules → rules_of new ++ others ≡ rules
entries-more rules rest others r old new e first pushed is so_far =
    ap (λ (es : List Entry). rules_of es ++ others) pushed
    ∙ ap (λ (rs : List Rule). rs ++ others) (map-append (λ (x : Entry). x.rule) old (e ∷ []))
    ∙ append_assoc (rules_of old) (e.rule ∷ []) others
    ∙ ap (λ (x : Rule). rules_of old ++ x ∷ others) is
    ∙ ap (λ (rs : List Rule). rules_of old ++ rs) (sym first)
    ∙ so_far

entries-end : (rules : List Rule) (i : ℕ) (entries : List Entry) → length rules ≤ i
    → rules_of entries ++ drop i rules ≡ rules → rules_of entries ≡ rules
entries-end rules i entries none so_far =
    sym (append-nil (rules_of entries))
    ∙ ap (λ (rs : List Rule). rules_of entries ++ rs) (sym (drop_all i rules none))
    ∙ so_far

pub loop-rule-init : goal.loop-rule-init
loop-rule-init c = record {
  rules = ap (λ es. rules_of es ++ c.args.rules.now) c.in_ok-entries.ensures.items;
  known = subst (λ es. AreKnown c.args.rules.now es) (sym c.in_ok-entries.ensures.items) (none-known c.args.rules.now);
}

pub loop-rule-preserved : goal.loop-rule-preserved
loop-rule-preserved c =
    let next = drop_more c.args.rules.now c.loop-rule.rule-index _ (omega arith) in
    record {
      rules = entries-more c.args.rules.now _ _ _ c.loop-rule.entries.items c.push.new.self.items _ next
          c.in_ok-push.ensures.items refl c.loop-rule.invariant.rules;
      known = subst (λ es. AreKnown c.args.rules.now es) (sym c.in_ok-push.ensures.items)
          (one-known c.args.rules.now c.loop-rule.entries.items _
          (subst (λ (n : ℕ). IsSo c.args.rules.now n c.facts_of-facts.result) (omega arith) (c.facts_of-facts.ensures c.args.rules.now c.requires))
          c.loop-rule.invariant.known);
    }

pub returns : goal.returns
returns c = record {
  rules = entries-end c.args.rules.now c.loop-rule.rule-index _ (omega arith) c.loop-rule.invariant.rules;
  known = c.loop-rule.invariant.known;
}
