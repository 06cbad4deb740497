-- What the laws of proofs/laws/Hom speak of.
use Rattle.std.specs.Prelude.{◌≡◌}
use Rattle.horner.specs.definitions.Form.{Form, int, pop, pow}
use Rattle.horner.specs.definitions.Rings.{Ring}

-- a map that keeps sums, products and 0 and 1
pub record Hom {A B : Type 0} (R : Ring A) (S : Ring B) (f : A → B) : Type 0 where
  pub keeps-add : (a b : A) → f (R.◌⊞◌ a b) ≡ S.◌⊞◌ (f a) (f b)
  pub keeps-mul : (a b : A) → f (R.◌·◌ a b) ≡ S.◌·◌ (f a) (f b)
  pub keeps-neg : (a : A) → f (R.neg a) ≡ S.neg (f a)
  pub keeps-nil : f R.nil ≡ S.nil
  pub keeps-unit : f R.unit ≡ S.unit

module _ {A B : Type 0} (f : A → B) where
  abbrev pub map_form : Form A → Form B
  map_form (int c) = int (f c)
  map_form (pop i p) = pop i (map_form p)
  map_form (pow i p q) = pow i (map_form p) (map_form q)
