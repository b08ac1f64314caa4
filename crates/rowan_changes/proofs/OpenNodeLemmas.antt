-- An open node: how its children go from those that are kept to those that are done.
use Rattle.std.proofs.Common.{◌≡◌, ℕ, zero, suc, ◌+◌, ◌≤◌, ◌<◌, List, [], ◌∷◌, ◌++◌, length, take}
use Rattle.std.proofs.Common.{drop, Some, refl, sym, ◌∙◌, ap, subst, arith, append_assoc}
use Rattle.rowan_changes.proofs.Places.{drop-all}
use Rattle.std.specs.Prelude.{slice_get, slice_index_or, reverse, Option, Bool, true, false}
use Rattle.std.specs.Iterator.Runs.{Run, ItemsAre}
use Rattle.std.proofs.lemmas.List.{append-nil, reverse-append}
use Rattle.rowan_green.specs.declared.utility_types.NodeOrToken.TheVariants.{Node}
use Rattle.rowan_green.specs.Edits.{spliced, spliced_so_far}
use Rattle.rowan_green.specs.declared.fault.Fault.{Fault}
use Rattle.rowan_green.specs.Fits.{PassesLimit}
use Rattle.rowan_green.specs.Term.{NodeTerm, Term, node_of, node_kind, node_children}
use Rattle.rowan_green.proofs.EditLemmas.{node_of-children, PassesLimit-append}

pub take-more : {A : Type 0} (xs : List A) (k : ℕ) (x : A) → slice_get xs k ≡ Some x
    → take (suc k) xs ≡ take k xs ++ x ∷ []
take-more [] k x h = absurd cc
take-more (y ∷ ys) zero x h = let e : y ≡ x = cc in ap (λ z. z ∷ []) e
take-more (y ∷ ys) (suc k) x h = ap (λ z. y ∷ z) (take-more ys k x h)

take-whole : {A : Type 0} (xs : List A) → take (length xs) xs ≡ xs
take-whole [] = refl
take-whole (x ∷ xs) = ap (λ z. x ∷ z) (take-whole xs)

take-again : {A : Type 0} (xs : List A) (i j : ℕ) (ys : List A) → i ≤ j → j ≤ length xs
    → take i (take j xs ++ ys) ≡ take i xs
take-again xs zero j ys h k = refl
take-again xs (suc i) zero ys h k = absurd (omega arith)
take-again [] (suc i) (suc j) ys h k = absurd (omega arith)
take-again (x ∷ xs) (suc i) (suc j) ys h k =
    ap (λ z. x ∷ z) (take-again xs i j ys (omega arith) (omega arith))

drop-taken : {A : Type 0} (xs : List A) (j : ℕ) (ys : List A) → j ≤ length xs
    → drop j (take j xs ++ ys) ≡ ys
drop-taken xs zero ys h = refl
drop-taken [] (suc j) ys h = absurd (omega arith)
drop-taken (x ∷ xs) (suc j) ys h = drop-taken xs j ys (omega arith)

-- at first the node is as it was
pub whole : (n : NodeTerm) (k : ℕ) (done : List Term) → k ≡ length (node_children n) → done ≡ []
    → node_of (node_kind n) (take k (node_children n) ++ reverse done) ≡ n
whole n k done e f =
    let cs = node_children n in
    ap (node_of (node_kind n)) (ap (λ i. take i cs ++ reverse done) e
    ∙ ap (λ d. take (length cs) cs ++ reverse d) f ∙ append-nil (take (length cs) cs)
    ∙ take-whole cs) ∙ node_of-children n

-- the last child that is kept is done
pub kept-done : {A : Type 0} (xs : List A) (k m : ℕ) (x : A) (done : List A) → m ≡ k + 1
    → slice_get xs k ≡ Some x
    → take k xs ++ reverse (done ++ x ∷ []) ≡ take m xs ++ reverse done
kept-done xs k m x done e h =
    let next : m ≡ suc k = omega arith in
    ap (λ r. take k xs ++ r) (reverse-append done (x ∷ []))
    ∙ sym (append_assoc (take k xs) (x ∷ []) (reverse done))
    ∙ ap (λ t. t ++ reverse done) (sym (take-more xs k x h))
    ∙ ap (λ n. take n xs ++ reverse done) (sym next)

-- the last child that is kept is opened
pub opened : (f g : NodeTerm) (index m : ℕ) (done all : List Term) (child inner : NodeTerm)
    → f ≡ g → take m (node_children f) ++ reverse done ≡ all → m ≡ index + 1
    → slice_get (node_children f) index ≡ Some (Node child) → inner ≡ child
    → ◌≡◌ {A = Term} (Node (node_of (node_kind f)
    (take index (node_children f) ++ Node inner ∷ reverse done))) (Node (node_of (node_kind g) all))
opened f g index m done all child inner e w n h i =
    let cs = node_children f in
    let next : m ≡ suc index = omega arith in
    let children : take index cs ++ Node inner ∷ reverse done ≡ all =
    ap (λ x. take index cs ++ Node x ∷ reverse done) i
    ∙ sym (append_assoc (take index cs) (Node child ∷ []) (reverse done))
    ∙ ap (λ t. t ++ reverse done) (sym (take-more cs index (Node child) h))
    ∙ ap (λ k. take k cs ++ reverse done) (sym next) ∙ w in
    ap (λ ts. Node (node_of (node_kind f) ts)) children
    ∙ ap (λ x. Node (node_of (node_kind x) all)) e

-- a splice of children that are kept
pub spliced-before : {A : Type 0} (xs : List A) (start end : ℕ) (rest new : List A) → start ≤ end
    → end ≤ length xs
    → take start xs ++ (new ++ rest) ≡ spliced (take end xs ++ rest) start end new
spliced-before xs start end rest new h k =
    sym (append_assoc (take start xs) new rest)
    ∙ ap (λ t. (t ++ new) ++ rest) (sym (take-again xs start end rest h k))
    ∙ ap (λ d. (take start (take end xs ++ rest) ++ new) ++ d) (sym (drop-taken xs end rest k))

-- ---- why a node is not closed

begins-with : {A : Type 0} (items xs : List A) → length items ≤ length xs
    → ((k : ℕ) (d : A) → k < length items → slice_index_or items k d ≡ slice_index_or xs k d)
    → xs ≡ items ++ drop (length items) xs
begins-with [] xs h same = refl
begins-with (y ∷ items) [] h same = absurd (omega arith)
begins-with (y ∷ items) (x ∷ xs) h same =
    let first : y ≡ x = same zero y (omega arith) in
    ap (λ z. z ∷ xs) (sym first)
    ∙ ap (λ zs. y ∷ zs) (begins-with items xs (omega arith) (λ k d l. same (suc k) d (omega arith)))

-- a run through a list has given a beginning of it
pub run-begins : {S : Type 0} {steps : S → Option Term → S → Type 0} (p : Run steps)
    (xs : List Term) → ItemsAre p xs → xs ≡ p.items ++ drop (length p.items) xs
run-begins p xs h =
    begins-with p.items xs (omega (arith, p.long, h.0)) (λ k d l. (
    let less : k < p.len = omega (arith, p.long, l) in
    let both : Some (slice_index_or p.items k d) ≡ Some (slice_index_or xs k d) =
    sym (p.reads k d less) ∙ h.2 k d less in
    cc))

-- the limit that the children so far pass is the one that all of them pass
pub passes-all : (cs : List Term) (kept end : ℕ) (items xs : List Term) (whole : Bool)
    (fault : Fault) → length cs ≤ end → xs ≡ items ++ drop (length items) xs
    → (whole ≡ true → items ≡ xs) → PassesLimit (spliced_so_far cs kept end items whole) fault
    → PassesLimit (take kept cs ++ xs) fault
passes-all cs kept end items xs true fault len parts all h =
    let none : drop end cs ≡ [] = drop-all cs end len in
    subst (λ ts. PassesLimit ts fault) (ap (λ ds. take kept cs ++ items ++ ds) none
    ∙ append-nil (take kept cs ++ items) ∙ ap (λ ys. take kept cs ++ ys) (all refl)) h
passes-all cs kept end items xs false fault len parts all h =
    subst (λ ts. PassesLimit ts fault)
    (append_assoc (take kept cs) items (drop (length items) xs)
    ∙ ap (λ ys. take kept cs ++ ys) (sym parts))
    (PassesLimit-append (take kept cs ++ items) (drop (length items) xs) fault h)
