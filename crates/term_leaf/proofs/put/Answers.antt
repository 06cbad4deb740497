-- `term_leaf::put` meets its contract: two stores.
use Rattle.std.proofs.Common.{refl, length, List, [], ◌∷◌, ℕ, ◌≤◌, arith}
use Rattle.std.proofs.Math.Path.{◌≡◌}
use Rattle.std.specs.Prelude.{set, drop}
use Rattle.term_leaf.proofs.put.Goals as goal

two-set : (d : List ℕ) (a b : ℕ) → 2 ≤ length d → set (set d 0 a) 1 b ≡ a ∷ (b ∷ drop 2 d)
two-set [] a b h = absurd (omega arith)
two-set (x ∷ []) a b h = absurd (omega arith)
two-set (x ∷ y ∷ d) a b h = refl

pub returns : goal.returns
returns c =
    two-set c.args.out.now _ _ c.requires.0
