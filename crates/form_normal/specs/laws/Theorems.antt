-- What stands besides: theorems of this crate that no other proof leans on.
use Rattle.std.specs.Prelude.{false, List, ◌≡◌, ℕ, zero, suc, ◌-◌, ◌≤◌, min, eqb, ℤ, pos, negsuc, nat_abs}
use Rattle.std.proofs.Common.{ap, ◌∙◌, arith, eq-eqb, ne_eqb}
use Rattle.horner.specs.definitions.Form.{int, pop, pow}
use Rattle.text_laws.specs.laws.Picks.{pick}
use Rattle.form_head.specs.Heads.{is_node, Headed}
use Rattle.form_head.specs.declared.Kind.{Kind}
use Rattle.form_head.specs.declared.Kind.TheVariants as K
use Rattle.form_normal.specs.declared.Shape.{Shape}
use Rattle.form_normal.specs.declared.Shape.TheVariants.{Zero, Number}
use Rattle.form_normal.specs.Normal.{shape_of, fine, SeenAt}

int-shape : (z : ℤ) (number : ℕ) → number ≡ min (nat_abs z) 1073741824 → pick (eqb number 0) Zero Number ≡ shape_of (int z)
unfolding pick
int-shape (pos zero) number e = ap (λ b. pick b Zero Number) (eq-eqb number 0 (omega (arith, e)))
int-shape (pos (suc n)) number e = ap (λ b. pick b Zero Number) (ne_eqb number 0 (λ f. omega (arith, e, f)))
int-shape (negsuc n) number e = ap (λ b. pick b Zero Number) (ne_eqb number 0 (λ f. omega (arith, e, f)))

module _ {s : List ℕ} {at : ℕ} {kind : Kind} {number first : ℕ} (left : ℕ) (H : Headed s at kind number first) (few : left ≤ 4) where
  pub int-seen : is_node kind ≡ false → (shape : Shape) → shape ≡ pick (eqb number 0) Zero Number → SeenAt left s at (fine shape first)
  int-seen k shape e m l (int z) rest f h =
      ap (λ x. fine x first) (e ∙ int-shape z number (H _ _ h).is_number) ∙ ap (fine (shape_of (int z))) (H _ _ h).is-next
  int-seen k shape e m l (pop i p) rest f h = absurd (cc (k, ap is_node (H _ _ h).is-kind))
  int-seen k shape e m l (pow i p q) rest f h = absurd (cc (k, ap is_node (H _ _ h).is-kind))
