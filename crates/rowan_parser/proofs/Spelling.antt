-- How the word of a builder grows to what the steps of events spell.
use Rattle.std.proofs.Common.{◌≡◌, ℕ, zero, suc, ◌+◌, ◌-◌, ◌<◌, List, [], ◌∷◌, ◌++◌, length, take, drop, refl, sym, ◌∙◌, ap, arith, append_assoc, append-nil}
use Rattle.std.specs.Prelude.{take_while, Result, Ok, Err, IfOk}
use Rattle.std.proofs.lemmas.List.{map-append}
use Rattle.rowan_green.specs.declared.fault.Fault.{Fault}
use Rattle.rowan_green.specs.declared.green.SyntaxKind.{SyntaxKind}
use Rattle.rowan_green.specs.Word.{Symbol, Open, Close}
use Rattle.rowan_events.specs.declared.lexer.Token.{Token}
use Rattle.rowan_parser.specs.declared.tree.Progress.{Progress}
use Rattle.rowan_parser.specs.declared.tree.Source.{Source}
use Rattle.rowan_parser.specs.declared.tree.Trivia.{Trivia}
use Rattle.rowan_parser.specs.Building.{raw, to_come, AreDone}
use Rattle.rowan_parser.specs.Events.{is_trivia, outside, past, leaves, opening, closings, spelled_by, Puts}
use Rattle.rowan_parser.specs.Shape.{Step, Enter, enters}
use Rattle.rowan_parser.proofs.Trivial.{past-outside, none-inside, none-attached, taken-past}

-- ---- a node begins

pub puts_opening : (trivia : Trivia) (kind : ℕ) (ts : List Token) (u v w x : List Symbol)
    (from put same next : ℕ)
    → Puts ts u (leaves (take (outside trivia kind (drop from ts)) (drop from ts)))
    (drop (outside trivia kind (drop from ts)) (drop from ts)) v put
    → w ≡ v ++ Open kind ∷ []
    → same ≡ put
    → Puts ts w (leaves (take_while (is_trivia trivia) (drop same ts)))
    (past (is_trivia trivia) (drop same ts)) x next
    → Puts ts u (opening trivia kind (drop from ts)) (past (is_trivia trivia) (drop from ts)) x next
puts_opening trivia kind ts u v w x from put same next h e is k =
    let p = is_trivia trivia in
    let us = drop from ts in
    let n = outside trivia kind us in
    let before = leaves (take n us) in
    let inside = leaves (take_while p (drop n us)) in
    let left : drop same ts ≡ drop n us = ap (λ n. drop n ts) is ∙ h.left in
    record {
      word =
          k.word
          ∙ ap (λ s. w ++ leaves (take_while p s)) left
          ∙ ap (λ s. s ++ inside) (e ∙ ap (λ s. s ++ Open kind ∷ []) h.word)
          ∙ append_assoc (u ++ before) (Open kind ∷ []) inside
          ∙ append_assoc u before (Open kind ∷ inside);
      left = k.left ∙ ap (past p) left ∙ past-outside trivia kind us;
    }

-- where no trivia are attached, none are left behind those that stay outside
pub puts_unattached : (trivia : Trivia) (kind : ℕ) (ts : List Token) (u v w : List Symbol)
    (from put same : ℕ)
    → length trivia.attached.now ≡ 0
    → Puts ts u (leaves (take (outside trivia kind (drop from ts)) (drop from ts)))
    (drop (outside trivia kind (drop from ts)) (drop from ts)) v put
    → w ≡ v ++ Open kind ∷ []
    → same ≡ put
    → Puts ts u (opening trivia kind (drop from ts)) (past (is_trivia trivia) (drop from ts)) w same
puts_unattached trivia kind ts u v w from put same none h e is =
    let p = is_trivia trivia in
    let us = drop from ts in
    let n = outside trivia kind us in
    let left : drop same ts ≡ drop n us = ap (λ n. drop n ts) is ∙ h.left in
    let empty = none-inside trivia kind us
    (none-attached trivia kind none) in
    let untaken : take_while p (drop same ts) ≡ [] = ap (take_while p) left ∙ empty in
    let unpassed : drop same ts ≡ past p (drop same ts) =
    sym (taken-past p (drop same ts)) ∙ ap (λ xs. xs ++ past p (drop same ts)) untaken in
    puts_opening trivia kind ts u v w w from put same same h e is (record {
      word = sym (ap (λ s. w ++ leaves s) untaken ∙ append-nil w);
      left = unpassed;
    })

-- ---- steps

-- what the step and those behind it spell, where its own part is put
spelled-on : (u v w symbols rest : List Symbol) → v ≡ u ++ symbols → rest ≡ w → v ++ rest ≡ u ++
    (symbols ++ w)
spelled-on u v w symbols rest e same = ap (λ s. s ++ rest) e ∙ append_assoc u symbols rest ∙ ap
    (λ s. u ++ (symbols ++ s)) same

pub done_enter : (source : Source) (kind : ℕ) (u v : List Symbol) (p q : Progress)
    → q.depth ≡ p.depth + 1
    → Puts source.tokens.now u (opening source.trivia kind (drop p.put source.tokens.now))
    (past (is_trivia source.trivia) (drop p.put source.tokens.now)) v q.put
    → AreDone source u p (Enter kind ∷ []) v q
done_enter source kind u v p q more h = record {
  spells = λ others.
      let deeper : q.depth ≡ suc p.depth = omega (arith, more) in
      spelled-on u v (spelled_by source.trivia (suc p.depth) others
      (past (is_trivia source.trivia) (drop p.put source.tokens.now)))
      (opening source.trivia kind (drop p.put source.tokens.now))
      (spelled_by source.trivia q.depth others (drop q.put source.tokens.now)) h.word
      (ap (λ n. spelled_by source.trivia n others (drop q.put source.tokens.now)) deeper
      ∙ ap (spelled_by source.trivia (suc p.depth) others) h.left);
}

pub done_enter_if : (r : Result Progress Fault) (source : Source) (kind : ℕ) (u v : List Symbol)
    (p : Progress)
    → IfOk r (λ q. q.depth ≡ p.depth + 1)
    → IfOk r (λ q. Puts source.tokens.now u
    (opening source.trivia kind (drop p.put source.tokens.now))
    (past (is_trivia source.trivia) (drop p.put source.tokens.now)) v q.put)
    → IfOk r (AreDone source u p (Enter kind ∷ []) v)
done_enter_if (Ok q) source kind u v p more h = done_enter source kind u v p q more h
done_enter_if (Err f) source kind u v p more h = h

-- the nodes of these kinds are still to be opened, the last one first
pub record IsOpening (source : Source) (all : List SyntaxKind) (u : List Symbol) (first : Progress)
    (kinds : List SyntaxKind) (v : List Symbol) (p : Progress) : Type 0 where
  pub spells : (others : List Step) → to_come source v p (enters (raw kinds) ++ others)
      ≡ to_come source u first (enters (raw all) ++ others)

pub opening_begins : (source : Source) (all : List SyntaxKind) (u : List Symbol) (first : Progress)
    → IsOpening source all u first all u first
opening_begins source all u first = record { spells = λ others. refl }

enters-last : (kinds : List ℕ) (kind : ℕ) → enters (kinds ++ kind ∷ []) ≡ Enter kind ∷ enters kinds
enters-last [] kind = refl
enters-last (k ∷ kinds) kind = ap (λ (ss : List Step). ss ++ Enter k ∷ []) (enters-last kinds kind)

pub opening_more : (source : Source) (outer : SyntaxKind) (all kinds left : List SyntaxKind)
    (u v w : List Symbol) (first p q : Progress)
    → kinds ≡ left ++ outer ∷ []
    → IsOpening source all u first kinds v p
    → AreDone source v p (Enter outer.0 ∷ []) w q
    → IsOpening source all u first left w q
opening_more source outer all kinds left u v w first p q popped h k = record {
  spells = λ others.
      k.spells (enters (raw left) ++ others)
      ∙ ap (λ (ss : List Step). to_come source v p (ss ++ others))
      (sym (ap (λ ks. enters (raw ks)) popped
      ∙ ap enters (map-append (λ (kind : SyntaxKind). kind.0) left (outer ∷ []))
      ∙ enters-last (raw left) outer.0))
      ∙ h.spells others;
}

-- ---- the ends

pub closings_more : (n m : ℕ) (u v w : List Symbol) → 0 < n → m ≡ n - 1 → v ++ closings n ≡ u → w ≡
    v ++ Close ∷ [] → w ++ closings m ≡ u
closings_more zero m u v w some less before e = absurd (omega (arith, some))
closings_more (suc n) m u v w some less before e =
    let same : m ≡ n = omega (arith, less) in
    ap (λ s. s ++ closings m) e
    ∙ append_assoc v (Close ∷ []) (closings m)
    ∙ ap (λ k. v ++ Close ∷ closings k) same
    ∙ before

-- behind the last step all nodes end, and the tokens that are left follow
pub spelled_rest : (source : Source) (u v w all : List Symbol) (p q : Progress) (steps : List Step)
    → steps ≡ []
    → to_come source u p steps ≡ all
    → v ≡ u ++ closings p.depth
    → q.put ≡ p.put
    → w ≡ v ++ leaves (drop q.put source.tokens.now)
    → w ≡ all
spelled_rest source u v w all p q steps none before closed same put_now =
    put_now
    ∙ ap (λ n. v ++ leaves (drop n source.tokens.now)) same
    ∙ ap (λ (s : List Symbol). s ++ leaves (drop p.put source.tokens.now)) closed
    ∙ append_assoc u (closings p.depth) (leaves (drop p.put source.tokens.now))
    ∙ ap (to_come source u p) (sym none)
    ∙ before
