-- The kinds of a set, in order, and the message of them.
use Rattle.std.proofs.Common.{◌≡◌, ℕ, zero, suc, ◌+◌, Bool, true, false, cond, Some, List, [], ◌∷◌, ◌++◌, refl, sym, ap, ap₂, ◌∙◌, arith, append_assoc, append-nil}
use Rattle.std.specs.Prelude.{codes}
use Rattle.std.specs.Borrow.{Bor}
use Rattle.rowan_events.specs.Seen.{has}
use Rattle.rowan_predictive.specs.declared.rules.Entry.{Entry}
use Rattle.rowan_predictive.specs.Messages.{fits_at, fitting_from, words_text, message_in}

by-member : (b : Bool) (k : ℕ) (rest : List ℕ) → cond b (k ∷ []) [] ++ rest ≡ cond b (k ∷ rest) rest
by-member true k rest = refl
by-member false k rest = refl

one-kind : (fits : ℕ → Bool) (n k : ℕ)
    → fitting_from fits (suc n) k ≡ cond (fits k) (k ∷ fitting_from fits n (suc k)) (fitting_from fits n (suc k))
unfolding fitting_from
one-kind fits n k = refl

no-kind : (fits : ℕ → Bool) (k : ℕ) → fitting_from fits zero k ≡ []
unfolding fitting_from
no-kind fits k = refl

-- one kind on
pub members-more : (fits : ℕ → Bool) (b : Bool) (n m k : ℕ) (old new all : List ℕ) → n ≡ suc m → b ≡ fits k
    → new ≡ old ++ cond b (k ∷ []) [] → old ++ fitting_from fits n k ≡ all
    → new ++ fitting_from fits m (k + 1) ≡ all
members-more fits b n m k old new all e is pushed so_far =
    ap₂ (λ (x : List ℕ) (j : ℕ). x ++ fitting_from fits m j) pushed (let q : k + 1 ≡ suc k = omega arith in q)
    ∙ append_assoc old (cond b (k ∷ []) []) (fitting_from fits m (suc k))
    ∙ ap (λ (x : List ℕ). old ++ x) (by-member b k (fitting_from fits m (suc k))
    ∙ ap (λ (c : Bool). cond c (k ∷ fitting_from fits m (suc k)) (fitting_from fits m (suc k))) is
    ∙ sym (one-kind fits m k)
    ∙ ap (λ (x : ℕ). fitting_from fits x k) (sym e))
    ∙ so_far

pub members-end : (fits : ℕ → Bool) (n k : ℕ) (members all : List ℕ) → n ≡ 0
    → members ++ fitting_from fits n k ≡ all → members ≡ all
members-end fits zero k members all e so_far =
    sym (append-nil members) ∙ ap (λ (x : List ℕ). members ++ x) (sym (no-kind fits k)) ∙ so_far
members-end fits (suc n) k members all e so_far = absurd (omega arith)

fitting-same : (f g : ℕ → Bool) → ((k : ℕ) → f k ≡ g k) → (n k : ℕ) → fitting_from f n k ≡ fitting_from g n k
fitting-same f g same zero k = no-kind f k ∙ sym (no-kind g k)
fitting-same f g same (suc n) k =
    one-kind f n k
    ∙ ap₂ (λ (b : Bool) (rest : List ℕ). cond b (k ∷ rest) rest) (same k) (fitting-same f g same n (suc k))
    ∙ sym (one-kind g n k)

-- the message of a rule
pub message-is : (entries : List Entry) (words : List (Bor (List ℕ))) (i set : ℕ) (kinds slice old new : List ℕ)
    → ((k : ℕ) → has set k ≡ fits_at entries i k)
    → kinds ≡ fitting_from (has set) 128 0 → slice ≡ kinds
    → old ≡ codes "expected " → new ≡ old ++ words_text words slice
    → new ≡ message_in entries words (Some i)
message-is entries words i set kinds slice old new fits members same start put =
    put
    ∙ ap₂ (λ (x ks : List ℕ). x ++ words_text words ks) start
    (same ∙ members ∙ fitting-same (has set) (fits_at entries i) fits 128 0)
