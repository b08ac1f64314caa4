-- Edits of lists of terms: their lengths and sums, and the limits that they pass.
use Rattle.std.proofs.Common.{◌≡◌, ◌≢◌, ℕ, zero, suc, ◌+◌, ◌≤◌, List, [], ◌∷◌, ◌++◌, take, drop}
use Rattle.std.proofs.Common.{length, refl, sym, ◌∙◌, ap, arith, length-append, append_assoc}
use Rattle.std.proofs.Common.{add-one, if◌then◌else◌}
use Rattle.std.proofs.lemmas.Bool.{le-ltb}
use Rattle.std.proofs.lemmas.List.{take-append-drop}
use Rattle.rowan_green.specs.declared.fault.Fault.{Fault}
use Rattle.rowan_green.specs.declared.fault.Fault.TheVariants.{TextTooLong, TooManyChildren, Memory}
use Rattle.rowan_green.specs.Edits.{replaced, removed}
use Rattle.rowan_green.specs.Fits.{AreWithin, PassesLimit}
use Rattle.rowan_green.specs.Term.{NodeTerm, node, Term, node_of, node_kind, node_children}
use Rattle.rowan_green.specs.Term.{sum_of_lens}
use Rattle.rowan_green.proofs.Terms.{forest-terms, sum_of_lens-append}

pub node_of-children : (n : NodeTerm) → node_of (node_kind n) (node_children n) ≡ n
node_of-children (node k f) = ap (λ g. node k g) (forest-terms f)

-- a list that passes a limit is not within the limits
pub not_within : (ts : List Term) (e : Fault) → PassesLimit ts e → AreWithin ts → ⊥
not_within ts TooManyChildren p w =
    omega (arith, p.passes, w.count, ap length p.parts, length-append p.before (p.child ∷ p.after))
not_within ts TextTooLong p w =
    omega (
      arith,
      p.passes.1,
      w.text,
      ap sum_of_lens p.parts,
      sum_of_lens-append p.before (p.child ∷ p.after),
    )
not_within ts e p w = absurd p.passes

-- where the children are within the limits, only memory is left as a cause
pub memory_only : (ts : List Term) (e : Fault) → AreWithin ts → (e ≢ Memory → PassesLimit ts e)
    → e ≡ Memory
memory_only ts Memory w h = refl
memory_only ts e w h = absurd (not_within ts _ (h (λ q. absurd (cc q))) w)

pub PassesLimit-append : (ts us : List Term) (e : Fault) → PassesLimit ts e
    → PassesLimit (ts ++ us) e
PassesLimit-append ts us e p = record {
  before = p.before;
  child = p.child;
  after = p.after ++ us;
  parts = ap (λ xs. xs ++ us) p.parts ∙ append_assoc p.before (p.child ∷ p.after) us;
  within = p.within;
  passes = p.passes;
}

sum_of_lens-take-drop : (i : ℕ) (ts : List Term)
    → sum_of_lens (take i ts) + sum_of_lens (drop i ts) ≡ sum_of_lens ts
sum_of_lens-take-drop i ts =
    sym (sum_of_lens-append (take i ts) (drop i ts)) ∙ ap sum_of_lens (take-append-drop i ts)

length-take-drop : (i : ℕ) (ts : List Term) → length (take i ts) + length (drop i ts) ≡ length ts
length-take-drop i ts = sym (length-append (take i ts) (drop i ts))
    ∙ ap length (take-append-drop i ts)

sum_of_lens-drop-suc : (i : ℕ) (ts : List Term)
    → sum_of_lens (drop (suc i) ts) ≤ sum_of_lens (drop i ts)
sum_of_lens-drop-suc zero [] = omega arith
sum_of_lens-drop-suc zero (t ∷ ts) = omega arith
sum_of_lens-drop-suc (suc i) [] = omega arith
sum_of_lens-drop-suc (suc i) (t ∷ ts) = sum_of_lens-drop-suc i ts

length-drop-suc : (i : ℕ) (ts : List Term) → length (drop (suc i) ts) ≤ length (drop i ts)
length-drop-suc zero [] = omega arith
length-drop-suc zero (t ∷ ts) = omega arith
length-drop-suc (suc i) [] = omega arith
length-drop-suc (suc i) (t ∷ ts) = length-drop-suc i ts

pub AreWithin-take : (i : ℕ) (ts : List Term) → AreWithin ts → AreWithin (take i ts)
AreWithin-take i ts w = record {
  count = omega (arith, w.count, length-take-drop i ts);
  text = omega (arith, w.text, sum_of_lens-take-drop i ts);
}

pub AreWithin-removed : (i : ℕ) (ts : List Term) → AreWithin ts → AreWithin (removed ts i)
AreWithin-removed i ts w = rw add-one record {
  count = omega (
    arith,
    w.count,
    length-append (take i ts) (drop (suc i) ts),
    length-take-drop i ts,
    length-drop-suc i ts,
  );
  text = omega (
    arith,
    w.text,
    sum_of_lens-append (take i ts) (drop (suc i) ts),
    sum_of_lens-take-drop i ts,
    sum_of_lens-drop-suc i ts,
  );
}

-- past the end nothing is replaced
pub replaced-past : {A : Type 0} (xs : List A) (i : ℕ) (x : A) → length xs ≤ i
    → replaced xs i x ≡ xs
replaced-past xs i x h = ap (λ b. if b then take i xs ++ x ∷ drop (i + 1) xs else xs)
    (le-ltb i (length xs) h)
