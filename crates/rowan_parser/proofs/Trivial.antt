-- The trivia before a node that stay outside of it.
use Rattle.std.proofs.Common.{◌≡◌, ℕ, zero, suc, ◌+◌, ◌-◌, ◌≤◌, Bool, true, false, cond, not, List, []}
use Rattle.std.proofs.Common.{◌∷◌, ◌++◌, length, take, drop, refl, sym, ◌∙◌, ap, arith, subst}
use Rattle.std.proofs.Common.{append_assoc, append-nil, length-append, get_or, ◌<◌, ◌||◌}
use Rattle.std.specs.Prelude.{take_while, ◌&&◌, ltb}
use Rattle.std.specs.List.{list_any}
use Rattle.std.proofs.lemmas.List.{take-append-drop, nil_from_length, take_more, take_all, length-take}
use Rattle.std.proofs.lemmas.List.Sums.{take_while-cons}
use Rattle.rowan_green.specs.Word.{Symbol}
use Rattle.rowan_parser.specs.Building.{IsAhead}
use Rattle.rowan_parser.specs.Events.{is_trivia, is_attached, is_pair, outside, past, leaves, Puts}
use Rattle.rowan_lines.specs.Lines.{line_ends}
use Rattle.rowan_parser.specs.Outside.{is_blank, outside_of}
use Rattle.rowan_green.specs.declared.green.SyntaxKind.{SyntaxKind}
use Rattle.rowan_events.specs.declared.lexer.Token.{Token}
use Rattle.rowan_events.specs.declared.token_set.TokenSet.{TokenSet}
use Rattle.rowan_parser.specs.declared.tree.Source.{Source}
use Rattle.rowan_parser.specs.declared.tree.Trivia.{Trivia}
use Rattle.rowan_parser.proofs.Passing.{run_length}

-- ---- what stays outside are trivia

outside-le : (a : Token → Bool) (us : List Token) → outside_of a us ≤ length us
outside-le a [] = omega arith
outside-le a (t ∷ us) =
    by (a t && not (list_any (is_blank a) us)) (outside-le a us)
  where
    by : (b : Bool) → outside_of a us ≤ length us
        → cond b 0 (suc (outside_of a us)) ≤ length (t ∷ us)
    by true h = omega arith
    by false h = omega (arith, h)

past-drop : (p : Token → Bool) (ts : List Token) (n : ℕ) → n ≤ length (take_while p ts)
    → past p (drop n ts) ≡ past p ts
past-drop p ts zero within = refl
past-drop p [] (suc n) within = refl
past-drop p (t ∷ ts) (suc n) within =
    by (p t) refl (omega (arith, within, ap length (take_while-cons p t ts)))
    (λ h. past-drop p ts n h)
  where
    by : (b : Bool) → p t ≡ b → suc n ≤ length (cond (p t) (t ∷ take_while p ts) [])
        → (n ≤ length (take_while p ts) → past p (drop n ts) ≡ past p ts)
        → past p (drop n ts) ≡ cond (p t) (past p ts) (t ∷ ts)
    by true e h rest =
        let less : suc n ≤ length (t ∷ take_while p ts) =
        omega (arith, h, ap (λ (c : Bool). length (cond c (t ∷ take_while p ts) [])) e) in
        rest (omega (arith, less))
        ∙ sym (ap (λ (c : Bool). cond c (past p ts) (t ∷ ts)) e)
    by false e h rest =
        absurd (omega (arith, h, ap (λ (c : Bool). length (cond c (t ∷ take_while p ts) [])) e))

pub past-outside : (trivia : Trivia) (kind : ℕ) (ts : List Token)
    → past (is_trivia trivia) (drop (outside trivia kind ts) ts) ≡ past (is_trivia trivia) ts
past-outside trivia kind ts =
    let run = take_while (is_trivia trivia) ts in
    past-drop (is_trivia trivia) ts (outside trivia kind ts)
    (outside-le (is_attached trivia kind) run)

pub taken-past : (p : Token → Bool) (ts : List Token) → take_while p ts ++ past p ts ≡ ts
taken-past p [] = refl
taken-past p (t ∷ ts) =
    ap (λ us. us ++ past p (t ∷ ts)) (take_while-cons p t ts) ∙ by (p t) (taken-past p ts)
  where
    by : (b : Bool) → take_while p ts ++ past p ts ≡ ts
        → cond b (t ∷ take_while p ts) [] ++ cond b (past p ts) (t ∷ ts) ≡ t ∷ ts
    by true rest = ap (λ (us : List Token). t ∷ us) rest
    by false rest = refl

-- what stands outside, what belongs to the node, and what follows these
pub outside-parts : (trivia : Trivia) (kind : ℕ) (ts : List Token)
    → (take (outside trivia kind ts) ts
    ++ take_while (is_trivia trivia) (drop (outside trivia kind ts) ts))
    ++ past (is_trivia trivia) ts ≡ ts
outside-parts trivia kind ts =
    let n = outside trivia kind ts in
    let inside = take_while (is_trivia trivia) (drop n ts) in
    append_assoc (take n ts) inside (past (is_trivia trivia) ts)
    ∙ ap (λ us. take n ts ++ (inside ++ us)) (sym (past-outside trivia kind ts))
    ∙ ap (λ us. take n ts ++ us) (taken-past (is_trivia trivia) (drop n ts))
    ∙ take-append-drop n ts

-- ---- where nothing is attached

-- where nothing is attached all of it is outside
pub outside-none : (a : Token → Bool) (us : List Token) → ((t : Token) → a t ≡ false)
    → outside_of a us ≡ length us
outside-none a [] none = refl
outside-none a (t ∷ us) none =
    ap (λ (b : Bool). cond (b && not (list_any (is_blank a) us)) 0 (suc (outside_of a us))) (none t)
    ∙ ap suc (outside-none a us none)

run-end : (p : Token → Bool) (ts : List Token)
    → take_while p (drop (length (take_while p ts)) ts) ≡ []
run-end p [] = refl
run-end p (t ∷ ts) =
    ap (λ us. take_while p (drop (length us) (t ∷ ts))) (take_while-cons p t ts)
    ∙ by (p t) refl (run-end p ts)
  where
    by : (b : Bool) → p t ≡ b → take_while p (drop (length (take_while p ts)) ts) ≡ []
        → take_while p (drop (length (cond b (t ∷ take_while p ts) [])) (t ∷ ts)) ≡ []
    by true e rest = rest
    by false e rest =
        take_while-cons p t ts ∙ ap (λ (c : Bool). cond c (t ∷ take_while p ts) []) e

pub none-inside : (trivia : Trivia) (kind : ℕ) (ts : List Token)
    → ((t : Token) → is_attached trivia kind t ≡ false)
    → take_while (is_trivia trivia) (drop (outside trivia kind ts) ts) ≡ []
none-inside trivia kind ts none =
    let p = is_trivia trivia in
    ap (λ n. take_while p (drop n ts))
    (outside-none (is_attached trivia kind) (take_while p ts) none)
    ∙ run-end p ts

seam : (xs ys : List Token) → take (length xs) (xs ++ ys) ≡ xs
seam [] ys = refl
seam (x ∷ xs) ys = ap (λ (zs : List Token). x ∷ zs) (seam xs ys)

seam-behind : (xs ys : List Token) → drop (length xs) (xs ++ ys) ≡ ys
seam-behind [] ys = refl
seam-behind (x ∷ xs) ys = seam-behind xs ys

pub none-attached : (trivia : Trivia) (kind : ℕ) → length trivia.attached.now ≡ 0
    → (t : Token) → is_attached trivia kind t ≡ false
none-attached trivia kind none t =
    ap (list_any (is_pair kind t.kind.0)) (nil_from_length trivia.attached.now none)

-- all trivia that come next
pub puts_all : (trivia : Trivia) (kind : ℕ) (ts : List Token) (u v : List Symbol) (from put : ℕ)
    → length trivia.attached.now ≡ 0
    → Puts ts u (leaves (take_while (is_trivia trivia) (drop from ts)))
    (past (is_trivia trivia) (drop from ts)) v put
    → Puts ts u (leaves (take (outside trivia kind (drop from ts)) (drop from ts)))
    (drop (outside trivia kind (drop from ts)) (drop from ts)) v put
puts_all trivia kind ts u v from put none h =
    let p = is_trivia trivia in
    let us = drop from ts in
    let run = take_while p us in
    let n = outside trivia kind us in
    let long : n ≡ length run =
    outside-none (is_attached trivia kind) run (none-attached trivia kind none) in
    let parts = taken-past p us in
    let front : take n us ≡ run =
    ap (λ k. take k us) long ∙ ap (take (length run)) (sym parts) ∙ seam run (past p us) in
    let back : drop n us ≡ past p us =
    ap (λ k. drop k us) long ∙ ap (drop (length run)) (sym parts) ∙ seam-behind run (past p us) in
    record {
      word = h.word ∙ ap (λ xs. u ++ leaves xs) (sym front);
      left = h.left ∙ sym back;
    }

-- ---- a run of trivia

-- the tokens that pass are as many as stand before the first that does not
pub run-is : (p : Token → Bool) (us : List Token) (k : ℕ)
    → length (past p us) + k ≡ length us → take k us ≡ take_while p us
run-is p us k e =
    let run = take_while p us in
    let parts = taken-past p us in
    let long : length run ≡ k = omega (arith, e, ap length parts, length-append run (past p us)) in
    ap (λ xs. take k xs) (sym parts)
    ∙ ap (λ n. take n (run ++ past p us)) (sym long)
    ∙ seam run (past p us)

-- ---- from the end of a run on

-- Behind these tokens no blank line stands, and so many of the whole run are outside.
pub record IsSeenBack (a : Token → Bool) (run rest : List Token) (out : ℕ) : Type 0 where
  pub behind : List Token
  pub parts : run ≡ rest ++ behind
  pub uncut : list_any (is_blank a) behind ≡ false
  pub counted : length rest + outside_of a behind ≡ out

pub back_begins : (a : Token → Bool) (run : List Token) (out : ℕ) → out ≡ length run
    → IsSeenBack a run run out
back_begins a run out e = record {
  behind = [];
  parts = sym (append-nil run);
  uncut = refl;
  counted = omega (arith, e);
}

pub back_attached : (a : Token → Bool) (run rest others : List Token) (t : Token) (out : ℕ)
    → rest ≡ others ++ t ∷ [] → a t ≡ true
    → IsSeenBack a run rest out → IsSeenBack a run others (length others)
back_attached a run rest others t out last is h = record {
  behind = t ∷ h.behind;
  parts = h.parts ∙ ap (λ us. us ++ h.behind) last ∙ append_assoc others (t ∷ []) h.behind;
  uncut = ap (λ (b : Bool). (not b && ltb 1 (line_ends t.text.now))
      || list_any (is_blank a) h.behind) is ∙ h.uncut;
  counted =
      let none : outside_of a (t ∷ h.behind) ≡ 0 =
      ap (λ (b : Bool). cond (b && not (list_any (is_blank a) h.behind)) 0
      (suc (outside_of a h.behind))) is
      ∙ ap (λ (b : Bool). cond (not b) 0 (suc (outside_of a h.behind))) h.uncut in
      omega (arith, none);
}

pub back_over : (a : Token → Bool) (run rest others : List Token) (t : Token) (out : ℕ)
    → rest ≡ others ++ t ∷ [] → a t ≡ false → ltb 1 (line_ends t.text.now) ≡ false
    → IsSeenBack a run rest out → IsSeenBack a run others out
back_over a run rest others t out last is short h = record {
  behind = t ∷ h.behind;
  parts = h.parts ∙ ap (λ us. us ++ h.behind) last ∙ append_assoc others (t ∷ []) h.behind;
  uncut = ap (λ (b : Bool). (not b && ltb 1 (line_ends t.text.now))
      || list_any (is_blank a) h.behind) is
      ∙ ap (λ (b : Bool). b || list_any (is_blank a) h.behind) short ∙ h.uncut;
  counted =
      let one : outside_of a (t ∷ h.behind) ≡ suc (outside_of a h.behind) =
      ap (λ (b : Bool). cond (b && not (list_any (is_blank a) h.behind)) 0
      (suc (outside_of a h.behind))) is in
      omega (arith, one, h.counted, ap length last, length-append others (t ∷ []));
}

any-behind : (c : Token → Bool) (us vs : List Token) → list_any c vs ≡ true
    → list_any c (us ++ vs) ≡ true
any-behind c [] vs e = e
any-behind c (u ∷ us) vs e =
    ap (λ (b : Bool). c u || b) (any-behind c us vs e) ∙ by (c u)
  where
    by : (b : Bool) → (b || true) ≡ true
    by true = refl
    by false = refl

-- before a blank line all is outside
before-cut : (a : Token → Bool) (us vs : List Token) → list_any (is_blank a) vs ≡ true
    → outside_of a (us ++ vs) ≡ length us + outside_of a vs
before-cut a [] vs cut = omega arith
before-cut a (u ∷ us) vs cut =
    ap (λ (b : Bool). cond (a u && not b) 0 (suc (outside_of a (us ++ vs))))
    (any-behind (is_blank a) us vs cut)
    ∙ by (a u)
    ∙ (let h = before-cut a us vs cut in omega (arith, h))
  where
    by : (b : Bool) → cond (b && false) 0 (suc (outside_of a (us ++ vs)))
        ≡ suc (outside_of a (us ++ vs))
    by true = refl
    by false = refl

pub back_cut : (a : Token → Bool) (run rest others : List Token) (t : Token) (out : ℕ)
    → rest ≡ others ++ t ∷ [] → a t ≡ false → ltb 1 (line_ends t.text.now) ≡ true
    → IsSeenBack a run rest out → out ≡ outside_of a run
back_cut a run rest others t out last is long h =
    let cut : list_any (is_blank a) (t ∷ h.behind) ≡ true =
    ap (λ (b : Bool). (not b && ltb 1 (line_ends t.text.now)) || list_any (is_blank a) h.behind) is
    ∙ ap (λ (b : Bool). b || list_any (is_blank a) h.behind) long in
    let one : outside_of a (t ∷ h.behind) ≡ suc (outside_of a h.behind) =
    ap (λ (b : Bool). cond (b && not (list_any (is_blank a) h.behind)) 0
    (suc (outside_of a h.behind))) is in
    let whole : run ≡ others ++ t ∷ h.behind =
    h.parts ∙ ap (λ us. us ++ h.behind) last ∙ append_assoc others (t ∷ []) h.behind in
    let all = ap (outside_of a) whole ∙ before-cut a others (t ∷ h.behind) cut in
    omega (arith, all, one, h.counted, ap length last, length-append others (t ∷ []))

pub back_ends : (a : Token → Bool) (run rest : List Token) (out : ℕ) → length rest ≡ 0
    → IsSeenBack a run rest out → out ≡ outside_of a run
back_ends a run [] out none h = omega (arith, h.counted, ap (outside_of a) h.parts)
back_ends a run (t ∷ rest) out none h = absurd (omega (arith, none))

-- ---- the kinds that are attached

pub kinds_more : (node k : ℕ) (pair : SyntaxKind × TokenSet)
    (rest others all : List (SyntaxKind × TokenSet)) (old new : Bool)
    → rest ≡ pair ∷ others
    → new ≡ (old || is_pair node k pair)
    → (old || list_any (is_pair node k) rest) ≡ list_any (is_pair node k) all
    → (new || list_any (is_pair node k) others) ≡ list_any (is_pair node k) all
kinds_more node k pair rest others all old new first e so_far =
    ap (λ (b : Bool). b || list_any (is_pair node k) others) e
    ∙ or-assoc old (is_pair node k pair) (list_any (is_pair node k) others)
    ∙ ap (λ (b : Bool). old || b) (sym (ap (list_any (is_pair node k)) first))
    ∙ so_far
  where
    or-assoc : (x y z : Bool) → ((x || y) || z) ≡ (x || (y || z))
    or-assoc true y z = refl
    or-assoc false y z = refl

-- ---- the same by the place in the run

last-is : (run : List Token) (p q : ℕ) (d : Token) → p ≡ q + 1 → q < length run
    → take p run ≡ take q run ++ get_or run q d ∷ []
last-is run p q d next some = ap (λ n. take n run) next ∙ take_more run q d some

long : (run : List Token) (q : ℕ) → q < length run → length (take q run) ≡ q
long run q some = omega (arith, length-take q run, some)

pub at_begins : (a : Token → Bool) (run : List Token) (p out : ℕ) → p ≡ length run
    → out ≡ length run → IsSeenBack a run (take p run) out
at_begins a run p out at e =
    let Q : List Token → Type 0 = λ rest. IsSeenBack a run rest out in
    subst Q (sym (take_all p run (omega (arith, at)))) (back_begins a run out e)

pub at_attached : (a : Token → Bool) (run : List Token) (p q out : ℕ) (d : Token)
    → p ≡ q + 1 → q < length run → a (get_or run q d) ≡ true
    → IsSeenBack a run (take p run) out → IsSeenBack a run (take q run) q
at_attached a run p q out d next some got h =
    let Q : ℕ → Type 0 = λ n. IsSeenBack a run (take q run) n in
    subst Q (long run q some)
    (back_attached a run (take p run) (take q run) (get_or run q d) out
    (last-is run p q d next some) got h)

pub at_over : (a : Token → Bool) (run : List Token) (p q out : ℕ) (d : Token)
    → p ≡ q + 1 → q < length run → a (get_or run q d) ≡ false
    → ltb 1 (line_ends (get_or run q d).text.now) ≡ false
    → IsSeenBack a run (take p run) out → IsSeenBack a run (take q run) out
at_over a run p q out d next some not_so short h =
    back_over a run (take p run) (take q run) (get_or run q d) out (last-is run p q d next some)
    not_so short h

pub at_cut : (a : Token → Bool) (run : List Token) (p q out : ℕ) (d : Token)
    → p ≡ q + 1 → q < length run → a (get_or run q d) ≡ false
    → ltb 1 (line_ends (get_or run q d).text.now) ≡ true
    → IsSeenBack a run (take p run) out → out ≡ outside_of a run
at_cut a run p q out d next some not_so blank h =
    back_cut a run (take p run) (take q run) (get_or run q d) out (last-is run p q d next some)
    not_so blank h

pub at_ends : (a : Token → Bool) (run : List Token) (p out : ℕ) → p ≡ 0
    → IsSeenBack a run (take p run) out → out ≡ outside_of a run
at_ends a run p out none h =
    back_ends a run (take p run) out (omega (arith, length-take p run, none)) h

-- ---- the run

pub run-taken : (source : Source) (put next count : ℕ) (left run : List Token)
    → IsAhead source put next → put ≤ length source.tokens.now
    → left ≡ drop put source.tokens.now → count ≡ next - put → run ≡ take count left
    → run ≡ take_while (is_trivia source.trivia) (drop put source.tokens.now)
run-taken source put next count left run ahead within at many is =
    is ∙ ap (take count) at
    ∙ run-is (is_trivia source.trivia) (drop put source.tokens.now) count
    (run_length source put next count ahead within many)
