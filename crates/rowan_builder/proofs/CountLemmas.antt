-- How many of the terms that a cache keeps are tokens, and how many are nodes.
use Rattle.std.proofs.Common.{◌≡◌, ℕ, ◌+◌, cond, not, List, [], ◌∷◌, ◌++◌, length, arith}
use Rattle.std.specs.Prelude.{fold}
use Rattle.std.proofs.lemmas.List.Sums.{fold-append}
use Rattle.rowan_green.specs.declared.utility_types.NodeOrToken.TheVariants.{Node, Token}
use Rattle.rowan_green.specs.Term.{Term}
use Rattle.rowan_builder.specs.Cache.{is_token, count_tokens, count_nodes}

counts : (ts : List Term) (m n : ℕ)
    → fold (λ a x. a + cond (is_token x) 1 0) m ts
    + fold (λ a x. a + cond (not (is_token x)) 1 0) n ts ≡ m + n + length ts
counts [] m n = omega arith
counts (Node x ∷ ts) m n = omega (arith, counts ts (m + 0) (n + 1))
counts (Token x ∷ ts) m n = omega (arith, counts ts (m + 1) (n + 0))

pub count-length : (ts : List Term) → count_tokens ts + count_nodes ts ≡ length ts
count-length ts = omega (arith, counts ts 0 0)

pub count_tokens-push : (ts : List Term) (t : Term)
    → count_tokens (ts ++ t ∷ []) ≡ count_tokens ts + cond (is_token t) 1 0
count_tokens-push ts t = fold-append (λ a x. a + cond (is_token x) 1 0) 0 ts (t ∷ [])
