-- What a field is as a number, from the tests that the code makes: whether it is digits, and their value, cut down to 4,294,967,296.
use Rattle.std.specs.Prelude.{Some, None, true, false, List, [], ◌∷◌, ◌≡◌, refl, ℕ, ◌-◌, ◌<◌, min, length, get_or, drop}
use Rattle.std.proofs.Math.Bool.{cond}
use Rattle.std.proofs.Math.Option.{none, some}
use Rattle.std.proofs.Common.{sym, ◌∙◌, arith, eq-eqb, ne_eqb}
use Rattle.std.proofs.Math.Path.{ap}
use Rattle.text.specs.definitions.Bytes.{canonical, value_from, read_nat, read_int, below0, from0}
use Rattle.desk_field.specs.Fields.{cut_of, signed32, signed_of}

module _ (w : List ℕ) where
  pub none_read : canonical w ≡ false → read_nat w ≡ none
  unfolding read_nat
  none_read e = ap (λ b. cond b (some (value_from 0 w)) none) e

  pub some_read : canonical w ≡ true → read_nat w ≡ some (value_from 0 w)
  unfolding read_nat
  some_read e = ap (λ b. cond b (some (value_from 0 w)) none) e

  pub cut-none : canonical w ≡ false → None ≡ cut_of (read_nat w)
  cut-none e = sym (ap cut_of (none_read e))

  -- n is the value of the digits, cut down
  module _ (digits : canonical w ≡ true) (n : ℕ) (is : n ≡ min (value_from 0 w) 4294967296) where
    pub cut-some : Some n ≡ cut_of (read_nat w)
    cut-some = ap Some is ∙ sym (ap cut_of (some_read digits))

-- ---- by the first byte

pub signed-minus : (w : List ℕ) → (length w ≡ 0 → ⊥) → get_or w 0 0 ≡ 45 → signed32 (below0 (read_nat (drop 1 w))) ≡ signed_of w
unfolding read_int
signed-minus [] h e = absurd (h refl)
signed-minus (x ∷ w) h e =
    sym (ap (λ b. signed32 (elim b [ true ↦ below0 (read_nat w) | false ↦ from0 (read_nat (x ∷ w)) ])) (eq-eqb x 45 e))

pub signed-plain : (w : List ℕ) → (length w ≡ 0 → ⊥) → (get_or w 0 0 ≡ 45 → ⊥) → signed32 (from0 (read_nat w)) ≡ signed_of w
unfolding read_int
signed-plain [] h e = absurd (h refl)
signed-plain (x ∷ w) h e =
    sym (ap (λ b. signed32 (elim b [ true ↦ below0 (read_nat w) | false ↦ from0 (read_nat (x ∷ w)) ])) (ne_eqb x 45 e))

pub signed-short : (w : List ℕ) → length w < 1 → signed32 (from0 (read_nat w)) ≡ signed_of w
unfolding read_int read_nat
signed-short [] h = refl
signed-short (x ∷ w) h = absurd (omega arith)
