-- What is written is a form again: a normal form whose measures are within the limits is accepted as that form. So it is of the form of an
-- accepted term, and of what the operations make of forms.
use Rattle.std.specs.Prelude.{true, List, ◌≡◌, refl, ℕ, ◌≤◌, ℤ, length}
use Rattle.std.proofs.Common.{sym, subst, arith}
use Rattle.dialect.specs.Dialects.{ordinary}
use Rattle.dialect.specs.declared.Dialect.{Dialect}
use Rattle.horner.specs.definitions.Form.{Form, Normal}
use Rattle.horner.specs.definitions.Measures.{degrees}
use Rattle.horner.specs.definitions.Rings.{ℤ_ring}
use Rattle.horner.specs.definitions.Term.{norm_ℤ}
use Rattle.horner.proofs.laws.Degree.{length-degrees, bounded-degrees}
use Rattle.horner.proofs.laws.Room.{nest-255}
use Rattle.horner.proofs.laws.Table.{norm-fits}
use Rattle.horner.proofs.laws.Term.{normal-norm}
use Rattle.text.specs.definitions.Answer as A
use Rattle.text.specs.definitions.Bytes.{read, is_row}
use Rattle.text.specs.definitions.FormReading.{accept_form, text}
use Rattle.text.specs.definitions.FormMeaning.{IsForm}
use Rattle.text.specs.definitions.Limits.{accept, accept_term}
use Rattle.text.specs.definitions.Meaning.{itself}
use Rattle.text.specs.definitions.Tree.{Tree, term_of}
use Rattle.text_laws.specs.laws.Accepted.{accepts as term-accepts}
use Rattle.text_laws.specs.laws.FormAccepted.{Fits, accepts}
use Rattle.text_laws.specs.laws.Ordinary.{accepted}
use Rattle.text_laws.specs.laws.Rows.{row-length, letters-over}
use Rattle.text_laws.specs.laws.Result.{table_fits, text-short}

-- in at most 4 variables
module _ (n : ℕ) (f : Form ℤ) (l : n ≤ 4) (h : Normal ℤ_ring n f) (k : Fits n f) where
  pub text-form : IsForm n (text f) f
  text-form =
      let e : length (degrees n f) ≡ n = length-degrees ℤ_ring n f h in
      let deep = nest-255 ℤ_ring (degrees n f) f (omega arith) k.degrees-fit (subst (λ m. Normal ℤ_ring m f) (sym e) h) (bounded-degrees ℤ_ring n f h) in
      record {
        written = record { short = omega (arith, text-short n f l h k); is = refl; shallow = omega (arith, deep) };
        normal = h;
        degrees-fit = k.degrees-fit;
        weight-fits = k.weight-fits;
        terms-fit = k.terms-fit;
      }

-- ---- the form of an accepted term
module _ (D : Dialect) (row s : List ℕ) (t : Tree) (r : is_row row ≡ true) (e : accept D row s ≡ A.read t) where
  abbrev n : ℕ
  n = length row

  abbrev f : Form ℤ
  f = norm_ℤ (term_of row t)

  pub dialect-form : (length (text f) ≤ 13529) × IsForm n (text f) f
  dialect-form =
      let a = (term-accepts D row s t).0 e in
      let k = a.1 t (itself refl) in
      let o = letters-over row t a.0.in_row in
      let l = (row-length row r).1 in
      let h : Normal ℤ_ring n f = normal-norm ℤ_ring (λ z. z) refl n (term_of row t) o in
      let fits : Fits n f = table_fits n _ _ _ f (norm-fits n (term_of row t) o) k.degrees k.weight (omega (arith, k.terms)) in
      (text-short n f l h fits, text-form n f l h fits)

-- document 01's own terms
module _ (row s : List ℕ) (t : Tree) (r : is_row row ≡ true) (e : accept_term row s ≡ read t) where
  pub result-form :
      (length (text (norm_ℤ (term_of row t))) ≤ 13529) × IsForm (length row) (text (norm_ℤ (term_of row t))) (norm_ℤ (term_of row t))
  result-form = dialect-form ordinary row s t r (accepted row s t e)

  -- read back it is that form
  pub result-accepted : accept_form (length row) (text (norm_ℤ (term_of row t))) ≡ read (norm_ℤ (term_of row t))
  result-accepted = (accepts (length row) (text (norm_ℤ (term_of row t))) (norm_ℤ (term_of row t))).1 result-form.1
