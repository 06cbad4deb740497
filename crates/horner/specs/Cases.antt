-- Document 01's corrections of document 000, and its first easy slip, each by an example that computes. (The starred cases are a table
-- of texts, in crates/text.)
use Rattle.std.proofs.Common.{true≢false}
use Rattle.std.specs.Prelude.{[], ◌∷◌, ◌≡◌, refl, ℕ, ℤ, pos, negsuc}
use Rattle.horner.specs.definitions.Form.{Form, int, pop, pow, Normal, evalh}
use Rattle.horner.specs.definitions.Rings.{ℤ_ring}
use Rattle.horner.specs.definitions.Term.{Term, num, var, minus, plus, diff, times, expt, norm_ℤ}

abbrev X : Term
X = var 0

abbrev Y : Term
Y = var 1

abbrev Z : Term
Z = var 2

-- a number as a term, and as a form
abbrev k : ℕ → Term
k a = num (pos a)

abbrev n : ℕ → Form ℤ
n a = int (pos a)

-- "Definition 6(c) lets (POW i 0 q) through. Here p must not be 0."
pub not-zero : Normal ℤ_ring 1 (pow 1 (n 0) (n 5)) → ⊥
not-zero h = true≢false h.3

-- "Definition 11(6) .. The exponent there must be j, the second factor's": (x^2 + 2)(x + 3)
pub exponent-j : norm_ℤ (times (plus (expt X 2) (k 2)) (plus X (k 3))) ≡ pow 1 (pow 1 (pow 1 (n 1) (n 3)) (n 2)) (n 6)
exponent-j = refl

-- "Its example .. at (1 2 3) is 186, not 207": 4x^4y^2 + 3x^3 + 2z^4 + 5
abbrev first : Term
first = plus (plus (plus (times (k 4) (times (expt X 4) (expt Y 2))) (times (k 3) (expt X 3))) (times (k 2) (expt Z 4))) (k 5)

abbrev first_form : Form ℤ
first_form = pow 3 (pow 1 (pop 1 (pow 2 (n 4) (n 0))) (n 3)) (pop 1 (pow 4 (n 2) (n 5)))

pub first-form : norm_ℤ first ≡ first_form
first-form = refl

pub first-value : evalh ℤ_ring first_form (pos 1 ∷ pos 2 ∷ pos 3 ∷ []) ≡ pos 186
first-value = refl

-- -z + x^3(z + x - 3y): "It gives .. the first example's form, wrongly"
abbrev second : Term
second = plus (minus Z) (times (expt X 3) (diff (plus Z X) (times (k 3) Y)))

pub second-form : norm_ℤ second ≡ pow 3 (pow 1 (n 1) (pow 1 (int (negsuc 2)) (pow 1 (n 1) (n 0)))) (pop 1 (pow 1 (int (negsuc 0)) (n 0)))
second-form = refl

-- "Leaving (POW 1 (POW 2 3 0) 0) unmerged after a sum cancels": 5x + 3x^3 - 5x
pub merged : norm_ℤ (diff (plus (times (k 5) X) (times (k 3) (expt X 3))) (times (k 5) X)) ≡ pow 3 (n 3) (n 0)
merged = refl
