-- The first node that is wanted, along a list of nodes.
use Rattle.std.proofs.Common.{◌≡◌, ℕ, Bool, true, List, ◌∷◌, Some, sym, subst, inl}
use Rattle.std.specs.Option.{option_map}
use Rattle.rowan_green.specs.Term.{NodeTerm}
use Rattle.rowan_table.specs.Cursor.{Cursor, StandsAt, kind}
use Rattle.rowan_edit.specs.FromText.{IsFirstWanted, AreUnwanted}

module _ {K : Type 0} (meaning : ℕ → K) (wants : K → Bool → Type 0) (cs ds : List Cursor) where
  pub first-along : cs ≡ ds → (n : NodeTerm) → IsFirstWanted meaning wants cs n
      → IsFirstWanted meaning wants ds n
  first-along e n h = subst (λ xs. IsFirstWanted meaning wants xs n) e h

  pub unwanted-along : cs ≡ ds → AreUnwanted meaning wants cs → AreUnwanted meaning wants ds
  unwanted-along e h = subst (λ xs. AreUnwanted meaning wants xs) e h

  pub first-here : (c : Cursor) (n : NodeTerm) → cs ≡ c ∷ ds → (k : K)
      → option_map meaning (kind c) ≡ Some k → (b : Bool) → wants k b → b ≡ true
      → StandsAt c n → IsFirstWanted meaning wants cs n
  first-here c n e k h b w t s =
      subst (λ xs. IsFirstWanted meaning wants xs n) (sym e)
      (inl ((k, h, subst (λ x. wants k x) t w), s))
