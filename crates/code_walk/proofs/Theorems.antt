-- What stands besides: theorems of this crate that no other proof leans on.
use Rattle.std.proofs.Common.{Bool, true, false, List, refl, ℕ, true≢false, sym}
use Rattle.std.proofs.Math.Path.{◌≡◌}
use Rattle.code.specs.Coding.{Coded, dec}
use Rattle.code_walk.specs.Shapes.{Decides}
use Rattle.code_walk.specs.laws.Shapes.{decides-forms}

-- a test that tells whether two codes are one tells whether their forms are
pub tells :
    {r : Bool} {x y : List ℕ} → Decides r (x ≡ y) →
    Decides r (x ≡ y) × ((w : ℕ) → Coded w x → Coded w y → Decides r (dec w x ≡ dec w y))
tells d = (d, λ w c e. decides-forms c e d)

pub says-no : {P : Type 0} → (P → ⊥) → Decides false P
says-no n = record { yes = λ e. absurd (true≢false (sym e)); no = λ p. absurd (n p) }

pub says-yes : {P : Type 0} → P → Decides true P
says-yes p = record { yes = λ e. p; no = λ q. refl }
