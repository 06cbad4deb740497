-- Demand 2: "its form is exactly the sparse Horner normal form of the polynomial it denotes". The polynomial is known by its values, and of
-- all normal forms over the row one alone has them: the form that is written.
use Rattle.std.specs.Prelude.{true, List, ◌↔◌, ◌≡◌, refl, ℕ, ℤ, length}
use Rattle.std.proofs.Common.{sym, ap, ◌∙◌, subst, arith}
use Rattle.std.proofs.lemmas.List.{length-map}
use Rattle.dialect.specs.Dialects.{ordinary}
use Rattle.horner.specs.definitions.Form.{Form, Normal, evalh, nats}
use Rattle.horner.specs.definitions.Rings.{ℤ_ring, nat}
use Rattle.horner.specs.definitions.Term.{Term, norm_ℤ, eval_ℤ}
use Rattle.horner.proofs.laws.Term.{evalh-norm, normal-norm, only-form}
use Rattle.horner.specs.laws.Within.{Over}
use Rattle.text.specs.definitions.Bytes.{is_row}
use Rattle.text.specs.definitions.FormMeaning.{IsForm}
use Rattle.text.specs.definitions.FormReading.{text}
use Rattle.text.specs.definitions.Meaning.{IsTerm, Part, Fits}
use Rattle.text.specs.definitions.Tree.{Tree, term_of}
use Rattle.text_laws.specs.laws.Ordinary.{accepts}
use Rattle.text_laws.proofs.laws.Result.{result-form}
use Rattle.text_laws.specs.laws.Rows.{accepted-within}

-- of a term inside the limits
module _ (row s : List ℕ) (r : is_row row ≡ true) (t : Tree) (is : IsTerm ordinary row s t)
    (inside : (y : Tree) → Part y t → Fits row y) where
  abbrev m : ℕ
  m = length row

  abbrev term : Term
  term = term_of row t

  over : Over m term
  over = (accepted-within row s t ((accepts row s t).1 (is, inside))).over

  -- "the term's value at every whole-number assignment"
  abbrev pub HasItsValues : Form ℤ → Type 0
  HasItsValues x = (N : List ℤ) → length N ≡ m → evalh ℤ_ring x N ≡ eval_ℤ term N

  -- the form is the one normal form that has them
  pub exactly-the-form : (x : Form ℤ) → (x ≡ norm_ℤ term) ↔ (Normal ℤ_ring m x × HasItsValues x)
  exactly-the-form x = (
    λ e. subst (λ y. Normal ℤ_ring m y × HasItsValues y) (sym e) (
      normal-norm ℤ_ring (λ z. z) refl m term over,
      λ N l. evalh-norm ℤ_ring (λ z. z) refl m term N over (omega (arith, l)),
    ),
    λ h. only-form m term over x h.0 (λ N l. h.1 (nats ℤ_ring N) (length-map N (nat ℤ_ring) ∙ l)),
  )

  -- the values at the assignments of whole numbers from zero up are enough
  pub enough-from-zero :
      (x : Form ℤ) → Normal ℤ_ring m x →
      ((N : List ℕ) → length N ≡ m → evalh ℤ_ring x (nats ℤ_ring N) ≡ eval_ℤ term (nats ℤ_ring N)) → x ≡ norm_ℤ term
  enough-from-zero = only-form m term over

  -- and its bytes are those of the one form's text that has them
  pub exactly-its-bytes : (w : List ℕ) (x : Form ℤ) → (IsForm m w x × HasItsValues x) ↔ ((w ≡ text (norm_ℤ term)) × (x ≡ norm_ℤ term))
  exactly-its-bytes w x = (
    λ h. let e = (exactly-the-form x).1 (h.0.normal, h.1) in (h.0.written.is ∙ ap text e, e),
    λ h. (
      subst (λ y. IsForm m w y) (sym h.1)
          (subst (λ u. IsForm m u (norm_ℤ term)) (sym h.0) (result-form row s t r ((accepts row s t).1 (is, inside))).1),
      ((exactly-the-form x).0 h.1).1,
    ),
  )
