-- What is stored beside a node's children stays right when a child is added.
use Rattle.std.proofs.Common.{◌≡◌, ℕ, zero, suc, ◌+◌, ◌<◌, ◌≤◌, List, [], ◌∷◌, ◌++◌, map, take}
use Rattle.std.proofs.Common.{length, refl, sym, ◌∙◌, ap, subst, arith, length-append}
use Rattle.std.proofs.lemmas.List.{length-map, map-append, take-map}
use Rattle.rowan_green.specs.declared.green.node.GreenChild.{GreenChild}
use Rattle.rowan_green.specs.Term.{Term, node_of, node_len, term_len, sum_of_lens}
use Rattle.rowan_green.specs.Fits.{Fits, FitsNode, AreWithin, AllFit, byte_limit, child_limit}
use Rattle.rowan_green.specs.Search.{child_start}
use Rattle.rowan_green.specs.View.{child_term, child_offset, HasOffsetsFrom, AreSound}
use Rattle.rowan_green.proofs.EditLemmas.{AreWithin-take}
use Rattle.rowan_green.proofs.Terms.{node_len-node_of, sum_of_lens-append, FitsNode-node_of}
use Rattle.rowan_green.proofs.Terms.{AllFit-push}

pub map-push : (cs : List GreenChild) (c : GreenChild)
    → map child_term (cs ++ c ∷ []) ≡ map child_term cs ++ child_term c ∷ []
map-push cs c = map-append child_term cs (c ∷ [])

pub HasOffsetsFrom-push : (at : ℕ) (cs : List GreenChild) (c : GreenChild) → HasOffsetsFrom at cs
    → child_offset c ≡ at + sum_of_lens (map child_term cs) → HasOffsetsFrom at (cs ++ c ∷ [])
HasOffsetsFrom-push at [] c h e = (omega arith, tt)
HasOffsetsFrom-push at (d ∷ cs) c h e =
    (h.0, HasOffsetsFrom-push (at + term_len (child_term d)) cs c h.1 (omega arith))

pub AreSound-push : (len len' : ℕ) (cs cs' : List GreenChild) (c : GreenChild) → AreSound len cs
    → child_offset c ≡ len → length cs < child_limit → Fits (child_term c)
    → len' ≡ len + term_len (child_term c) → len' ≤ byte_limit → cs' ≡ cs ++ c ∷ []
    → AreSound len' cs'
AreSound-push len len' cs cs' c s e room f more fits e' =
    let ts = map child_term cs in
    let t = child_term c in
    rw e' record {
      sum = rw map-push (omega (arith, s.sum, sum_of_lens-append ts (t ∷ [])));
      offsets = HasOffsetsFrom-push 0 cs c s.offsets (omega (arith, s.sum));
      within = rw map-push record {
        count = omega (arith, length-append ts (t ∷ []), length-map cs child_term);
        text = omega (arith, s.sum, sum_of_lens-append ts (t ∷ []));
      };
      fit = rw map-push (AllFit-push ts t s.fit f);
    }

pub AreSound-empty : AreSound 0 []
AreSound-empty = record {
  sum = refl;
  offsets = tt;
  within =
      record { count = omega arith; text = omega arith };
  fit = tt;
}

pub AreSound-len : (k len : ℕ) (cs : List GreenChild) → AreSound len cs
    → len ≡ node_len (node_of k (map child_term cs))
AreSound-len k len cs s = s.sum ∙ sym (node_len-node_of k (map child_term cs))

pub AreSound-fits : (k len : ℕ) (cs : List GreenChild) → AreSound len cs
    → FitsNode (node_of k (map child_term cs))
AreSound-fits k len cs s = FitsNode-node_of k (map child_term cs) s.within s.fit

HasOffsetsFrom-take : (at i : ℕ) (cs : List GreenChild) → HasOffsetsFrom at cs
    → HasOffsetsFrom at (take i cs)
HasOffsetsFrom-take at zero [] h = tt
HasOffsetsFrom-take at zero (c ∷ cs) h = tt
HasOffsetsFrom-take at (suc i) [] h = tt
HasOffsetsFrom-take at (suc i) (c ∷ cs) h =
    (h.0, HasOffsetsFrom-take (at + term_len (child_term c)) i cs h.1)

AllFit-take : (i : ℕ) (ts : List Term) → AllFit ts → AllFit (take i ts)
AllFit-take zero [] h = tt
AllFit-take zero (t ∷ ts) h = tt
AllFit-take (suc i) [] h = tt
AllFit-take (suc i) (t ∷ ts) h = (h.0, AllFit-take i ts h.1)

-- the children before an index, with the length of their text
pub AreSound-take : (i len len' : ℕ) (cs : List GreenChild) → AreSound len cs
    → len' ≡ child_start (map child_term cs) i → AreSound len' (take i cs)
AreSound-take i len len' cs s e =
    let ts = map child_term cs in
    let same : map child_term (take i cs) ≡ take i ts = sym (take-map child_term i cs) in
    record {
      sum = e ∙ ap sum_of_lens (sym same);
      offsets = HasOffsetsFrom-take 0 i cs s.offsets;
      within = subst AreWithin (sym same) (AreWithin-take i ts s.within);
      fit = subst AllFit (sym same) (AllFit-take i ts s.fit);
    }
