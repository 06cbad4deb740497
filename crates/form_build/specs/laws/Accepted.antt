-- An accepted form: what its text, its code and its form over the remainders by P are.
use Rattle.std.specs.Prelude.{List, [], ◌∷◌, ◌≡◌, refl, ℕ, zero, suc, ◌≤◌, ℤ, length, take}
use Rattle.std.proofs.Common.{append-nil, sym, ap, ◌∙◌, arith}
use Rattle.horner.specs.definitions.Form.{Form, int, pop, pow, size, Normal}
use Rattle.horner.specs.definitions.Rings.{ℤ_ring, red_ℤ, prime, prime-pos}
use Rattle.horner.proofs.laws.Degree.{bounded-mono, bounded-degrees, length-degrees}
use Rattle.horner.specs.laws.Degree.{Bounded, Below}
use Rattle.horner.specs.definitions.Measures.{AllLe, degrees}
use Rattle.horner.specs.laws.Hom.{map_form}
use Rattle.horner.proofs.laws.Lifting.{bounded-map, normal-red}
use Rattle.horner.proofs.laws.Room.{words-3073}
use Rattle.code.specs.Coding.{limits, Good, Coded, Made, enc}
use Rattle.code.specs.Widths.{ring_of}
use Rattle.code.specs.laws.Codes.{coded}
use Rattle.code.specs.laws.Good.{good-at}
use Rattle.code.specs.laws.Sizes.{size-enc}
use Rattle.text.specs.definitions.Bytes.{read}
use Rattle.text.specs.definitions.FormReading.{accept_form, text}
use Rattle.text.specs.definitions.FormMeaning.{IsForm, IsFormText}
use Rattle.text_laws.specs.laws.FormAccepted.{accepts}
use Rattle.form_head.specs.Heads.{Stands}
use Rattle.form_build.specs.Build.{over_p, Fit, ReadyAt, Accepted}

below-limits : (n : ℕ) (ds : List ℕ) → length ds ≡ n → AllLe 63 ds → Below ds (limits n)
below-limits zero [] e h = tt
below-limits zero (d ∷ ds) e h = absurd (omega arith)
below-limits (suc n) [] e h = tt
below-limits (suc n) (d ∷ ds) e h = (h.0, below-limits n ds (omega arith) h.1)

size-map : {A B : Type 0} (f : A → B) (x : Form A) → size (map_form f x) ≡ size x
size-map f (int c) = refl
size-map f (pop i p) = ap suc (size-map f p)
size-map f (pow i p q) = omega (arith, size-map f p, size-map f q)

-- a form's text, alone
pub text-stands : {s : List ℕ} {f : Form ℤ} → IsFormText s f → Stands s 0 f []
text-stands {s} {f} t = record { parts = t.is ∙ sym (append-nil (text f)); calm = tt }

module _ (m : ℕ) (s : List ℕ) (few : m ≤ 4) (f : Form ℤ) (e : accept_form m s ≡ read f) where
  pub accepted-is : IsForm m s f
  accepted-is = (accepts m s f).0 e

  pub accepted-stands : Stands s 0 f []
  accepted-stands = text-stands accepted-is.written

  pub accepted-bounded : Bounded (limits m) f
  accepted-bounded =
      let a = accepted-is in
      bounded-mono f (degrees m f) (limits m) (below-limits m (degrees m f) (length-degrees ℤ_ring m f a.normal) a.degrees-fit)
      (bounded-degrees ℤ_ring m f a.normal)

  pub accepted-normal : Normal (ring_of 0) m (over_p f)
  accepted-normal = let a = accepted-is in normal-red prime prime-pos m f (omega (arith, a.weight-fits)) a.normal

  -- the form over the remainders by P is good: normal, and of degree at most 63 in each variable
  pub accepted-good : Good 0 (over_p f)
  accepted-good =
      good-at 0 m (over_p f) few accepted-normal (bounded-map (red_ℤ prime prime-pos) (limits m) f accepted-bounded)

  pub accepted-fit : Fit f
  accepted-fit = record { good = accepted-good; light = accepted-is.weight-fits }

  pub accepted-size : size (over_p f) ≤ 3073
  accepted-size =
      let a = accepted-is in
      omega (arith, size-map (red_ℤ prime prime-pos) f, words-3073 ℤ_ring m f few a.normal (omega (arith, a.terms-fit)))

  pub accepted-words : length (enc 0 (over_p f)) ≤ 3073
  accepted-words = omega (arith, size-enc 0 (over_p f), accepted-size)

  -- what is made of it is a code
  pub accepted-coded : {r : ℕ} {d : List ℕ} → Made 0 (over_p f) r d → Coded 0 (take r d)
  accepted-coded b = coded (record { is = b.is; good = accepted-good })

pub accepted-ready : {m : ℕ} {s : List ℕ} (l : ℕ) → m ≤ 4 → Accepted m s → 3073 ≤ l → l ≤ 33554432 → ReadyAt s 0 l
accepted-ready {m} {s} l few a h k =
    record {
      g = a.f;
      rest = [];
      stands = accepted-stands m s few a.f a.is;
      fit = accepted-fit m s few a.f a.is;
      room = omega (arith, h, accepted-words m s few a.f a.is);
      small = k;
    }
