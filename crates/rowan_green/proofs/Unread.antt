-- What is still to be read, with one more at the end of the list.
use Rattle.std.proofs.Common.{◌≡◌, ℕ, suc, ◌+◌, ◌<◌, ◌≤◌, ◌-◌, ◌&&◌, Bool, true, false, not}
use Rattle.std.proofs.Common.{true≢false, List, [], ◌∷◌, ◌++◌, length, map, get_or, take, drop}
use Rattle.std.proofs.Common.{drop-cons, append_assoc, Option, Some, None, refl, sym, ◌∙◌, ap}
use Rattle.std.proofs.Common.{arith}
use Rattle.std.proofs.lemmas.List.{append-nil}
use Rattle.std.specs.Bool.{if◌then◌else◌}
use Rattle.std.specs.Option.{option_to_list, MatchOption}
use Rattle.std.specs.Borrow.{Bor}
use Rattle.rowan_green.specs.declared.green.node.GreenChild.{GreenChild}
use Rattle.rowan_green.specs.View.{child_term}
use Rattle.rowan_green.specs.Sizes.{children_size}
use Rattle.rowan_green.specs.Unread.{same_row, same_rows, row_size, rows_size, unread_terms}
use Rattle.rowan_green.specs.Unread.{unread_size, left_terms, left_size}

and_swap : (a b c : Bool) → (a && (b && c)) ≡ (b && (a && c))
and_swap true b c = refl
and_swap false true c = refl
and_swap false false c = refl

pub same_rows-push : (rs : List (Bor (List GreenChild) × Bor (List GreenChild)))
    (r : Bor (List GreenChild) × Bor (List GreenChild))
    → same_rows (rs ++ r ∷ []) ≡ (same_row r && same_rows rs)
same_rows-push [] r = refl
same_rows-push (q ∷ rs) r =
    ap (λ b. same_row q && b) (same_rows-push rs r)
    ∙ and_swap (same_row q) (same_row r) (same_rows rs)

pub rows_size-push : (rs : List (Bor (List GreenChild) × Bor (List GreenChild)))
    (r : Bor (List GreenChild) × Bor (List GreenChild))
    → rows_size (rs ++ r ∷ []) ≡ rows_size rs + row_size r
rows_size-push [] r = omega arith
rows_size-push (q ∷ rs) r = omega (arith, rows_size-push rs r)

-- the child at an index, and those behind it
pub drop-child : (cs : List GreenChild) (i : ℕ) (c : GreenChild) → i < length cs → c ≡ get_or cs i c
    → drop i cs ≡ c ∷ drop (i + 1) cs
drop-child cs i c h e =
    let next : suc i ≡ i + 1 = omega arith in
    drop-cons cs i c h ∙ ap (λ x. x ∷ drop (suc i) cs) (sym e) ∙ ap (λ j. c ∷ drop j cs) next

pub unread_terms-push : (rest : List (Bor (List GreenChild))) (cs : Bor (List GreenChild))
    → unread_terms (rest ++ cs ∷ []) ≡ map child_term cs.now ++ unread_terms rest
unread_terms-push [] cs = sym (append-nil (map child_term cs.now))
unread_terms-push (ds ∷ rest) cs =
    ap (λ ts. ts ++ map child_term ds.now) (unread_terms-push rest cs)
    ∙ append_assoc (map child_term cs.now) (unread_terms rest) (map child_term ds.now)

pub unread_size-push : (rest : List (Bor (List GreenChild))) (cs : Bor (List GreenChild))
    → unread_size (rest ++ cs ∷ []) ≡ children_size cs.now + unread_size rest + 1
unread_size-push [] cs = omega arith
unread_size-push (ds ∷ rest) cs = omega (arith, unread_size-push rest cs)

pub no_children : (cs : List GreenChild) → length cs ≡ 0 → map child_term cs ≡ []
no_children [] h = refl
no_children (c ∷ cs) h = absurd (omega arith)

-- what a pop takes from a list, whose length was n and is m
pub record Pops (n m : ℕ) (old : List (Bor (List GreenChild)))
    (taken : Option (Bor (List GreenChild))) (new : List (Bor (List GreenChild))) : Type 0 where
  pub items : old ≡ new ++ option_to_list taken
  pub rest : new ≡ take (n - 1) old
  pub none : MatchOption taken ((n ≡ 0) × (m ≡ 0)) (λ _. m + 1 ≡ n)

pub left_terms-pop : (n m : ℕ) (old new : List (Bor (List GreenChild)))
    (taken : Option (Bor (List GreenChild))) → Pops n m old taken new
    → left_terms taken new ≡ unread_terms old
left_terms-pop n m old new (Some cs) p = sym (ap unread_terms p.items ∙ unread_terms-push new cs)
left_terms-pop n m old new None p =
    let none : new ≡ [] = p.rest ∙ ap (λ k. take (k - 1) old) p.none.0 in
    sym (ap unread_terms p.items ∙ ap (λ x. unread_terms (x ++ [])) none)

pub left_size-pop : (n m : ℕ) (old new : List (Bor (List GreenChild)))
    (taken : Option (Bor (List GreenChild))) → Pops n m old taken new
    → left_size taken new ≤ unread_size old
left_size-pop n m old new (Some cs) p =
    omega (arith, ap unread_size p.items, unread_size-push new cs)
left_size-pop n m old new None p = omega arith

-- the children behind a node were put to the list
pub pushed : (err ok : Bool) (old new : List (Bor (List GreenChild))) (cs : Bor (List GreenChild))
    → err ≡ false → ok ≡ not err → new ≡ (if ok then old ++ cs ∷ [] else old) → new ≡ old ++ cs ∷ []
pushed false true old new cs h e x = x
pushed false false old new cs h e x = absurd (true≢false (sym e))
pushed true ok old new cs h e x = absurd (true≢false h)
