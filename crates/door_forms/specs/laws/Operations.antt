-- What is written of an operation on two forms.
use Rattle.std.specs.Prelude.{Result, Ok, List, ◌≡◌, refl, ℕ, ◌≤◌, ℤ, take}
use Rattle.std.proofs.Common.{sym, subst}
use Rattle.horner.specs.definitions.Form.{Form as HForm}
use Rattle.horner.specs.definitions.Measures.{degrees}
use Rattle.code.specs.Coding.{Codes, Made, dec}
use Rattle.text.specs.definitions.FormReading.{text}
use Rattle.form_write.specs.Write.{text_of}
use Rattle.reply.specs.definitions.Calls.{Measured}
use Rattle.measure.specs.declared.Measures.{Measures}
use Rattle.measure.specs.Measure.{limit_m, Within as Limits}
use Rattle.form_build.specs.Build.{over_p}
use Rattle.form_build.specs.Measure.{measures_of}
use Rattle.door_forms.specs.Forms.{IsPair}
use Rattle.door_forms.specs.Operation.{Fitting, OperationLaws}
use Rattle.door_forms.specs.declared.FormPair.{FormPair}
use Rattle.door_forms.specs.laws.Limits.{Meets, inside, within-ok}
use Rattle.door_forms.specs.laws.Results.{Within, operand, codes, words, result-text}

module _ {measured : ℕ → HForm ℤ → HForm ℤ → Measured} {found : Measures → Measures → Measures} {op : HForm ℤ → HForm ℤ → HForm ℤ}
    (L : OperationLaws measured found op) {m : ℕ} {s t l : List ℕ} {p : FormPair} (few : m ≤ 4) (P : IsPair m s t p l) where
  wx : Within m (degrees m P.of_left.f) P.of_left.f
  wx = operand m s few P.of_left.f P.of_left.accepted

  wy : Within m (degrees m P.of_right.f) P.of_right.f
  wy = operand m t few P.of_right.f P.of_right.accepted

  pub pair-meets : Meets (measured m P.of_left.f P.of_right.f) (found p.left.measures p.right.measures)
  pair-meets =
      subst (λ x. Meets (measured m P.of_left.f P.of_right.f) (found x p.right.measures)) (sym P.of_left.found)
      (subst (λ y. Meets (measured m P.of_left.f P.of_right.f) (found (measures_of m P.of_left.f) y)) (sym P.of_right.found)
      (L.meets m few P.of_left.f P.of_right.f wx.sized wy.sized))

  module _ (z : limit_m (found p.left.measures p.right.measures) ≡ 0) where
    pub pair-within : Within m (measured m P.of_left.f P.of_right.f).powers (op P.of_left.f P.of_right.f)
    pair-within = L.within m P.of_left.f P.of_right.f wx wy (inside pair-meets z)

    module _ {r : ℕ} {d : List ℕ} (M : Made 0 (over_p (op P.of_left.f P.of_right.f)) r d) where
      pub pair-codes : Codes 0 (over_p (op P.of_left.f P.of_right.f)) (take r d)
      pair-codes = codes few pair-within refl M

      pub pair-words : r ≤ 3073
      pair-words = words few pair-within refl M

      pub pair-text : text_of (dec 0 (take r d)) ≡ text (op P.of_left.f P.of_right.f)
      pair-text = result-text few pair-within pair-codes

-- two forms that were read fit where no limit is passed
abbrev pub fitting :
    {found : Measures → Measures → Measures} {m : ℕ} {s t l : List ℕ} {p : FormPair} {a : Measures} {r : Result (Unit {0}) ℕ} {u : Unit {0}} →
    m ≤ 4 → IsPair m s t p l → a ≡ found p.left.measures p.right.measures → Limits a r → r ≡ Ok u → Fitting found p l
fitting {m = m} {s} {t} few P e w h =
    record { m = m; s = s; t = t; few = few; pair = P; fits = within-ok e w h }
