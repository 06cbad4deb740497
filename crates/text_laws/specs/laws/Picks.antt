-- One of two, by a test.
use Rattle.std.specs.Prelude.{◌≡◌, Bool, true, false}
use Rattle.std.proofs.Common.{ap}

-- it stays shut, so that a proof goes by the two laws
unfoldable pub pick : {A : Type 0} → Bool → A → A → A
pick true a b = a
pick false a b = b

pub pick_yes : {A : Type 0} {t : Bool} (a b : A) → t ≡ true → pick t a b ≡ a
unfolding pick
pick_yes a b e = ap (λ t. pick t a b) e

pub pick_no : {A : Type 0} {t : Bool} (a b : A) → t ≡ false → pick t a b ≡ b
unfolding pick
pick_no a b e = ap (λ t. pick t a b) e
