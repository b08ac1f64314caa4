-- A node is larger than its children together.
use Rattle.std.proofs.Common.{◌≡◌, ℕ, ◌+◌, ◌≤◌, List, [], ◌∷◌, ◌++◌, refl, ap, arith}
use Rattle.std.specs.Mem.{manually_drop_value}
use Rattle.std.specs.declared.mem.ManuallyDrop.{ManuallyDrop}
use Rattle.rowan_thin_rc_tests.specs.declared.Child.{Child}
use Rattle.rowan_thin_rc_tests.specs.declared.Node.TheView.{size}
use Rattle.rowan_thin_rc_tests.specs.View.{child_view, children_view, kept_size}

abbrev pub total : List Child → ℕ
total cs = (children_view cs).0

pub some_total : (cs : List Child) → 1 ≤ total cs
some_total [] = omega arith
some_total (c ∷ cs) = omega (arith, some_total cs)

total-append : (cs ds : List Child) → total (cs ++ ds) + 1 ≡ total cs + total ds
total-append [] ds = omega arith
total-append (c ∷ cs) ds = omega (arith, total-append cs ds)

kept-append : (ms ns : List (ManuallyDrop (ℕ × List ℕ)))
    → kept_size (ms ++ ns) ≡ kept_size ms + kept_size ns
kept-append [] ns = omega arith
kept-append (m ∷ ms) ns = omega (arith, kept-append ms ns)

-- the last of the list left, or came
pub kept-last : (short long : List (ManuallyDrop (ℕ × List ℕ))) (m : ManuallyDrop (ℕ × List ℕ))
    → long ≡ short ++ m ∷ [] → kept_size long ≡ kept_size short + (manually_drop_value m).0
kept-last short long m e = omega (arith, ap kept_size e, kept-append short (m ∷ []))

pub total-last : (short long : List Child) (c : Child) → long ≡ short ++ c ∷ []
    → total long ≡ total short + (child_view c).0 + 1
total-last short long c e = omega (arith, ap total e, total-append short (c ∷ []))

pub size_is : (n : ℕ × List ℕ) → size n ≡ n.0
size_is n = refl
