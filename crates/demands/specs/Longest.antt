-- How long a result buffer has to be: a form's text has at most 13,529 bytes, and one has so many.
use Rattle.std.specs.Prelude.{true, cond, List, [], ◌∷◌, ◌++◌, ◌≡◌, refl, ℕ, zero, suc, ◌+◌, ◌*◌, ◌≤◌, ltb, ℤ, pos, negsuc, length}
use Rattle.std.proofs.Common.{ap, ◌∙◌, arith, leb-true, length-append}
use Rattle.horner.specs.definitions.Form.{Form, int, pop, pow}
use Rattle.horner.specs.definitions.Measures.{degrees, terms, weight}
use Rattle.horner.specs.definitions.Rings.{ℤ_ring}
use Rattle.horner.proofs.laws.Decide.{is_normal-is}
use Rattle.text.specs.definitions.Bytes.{decimal, write_int, is_row}
use Rattle.text.specs.definitions.FormMeaning.{IsForm}
use Rattle.text.specs.definitions.FormReading.{text, pop_head, pow_head}
use Rattle.text_laws.specs.laws.Bytes.{all-le}
use Rattle.text_laws.specs.laws.FormAccepted.{Fits}
use Rattle.text_laws.specs.laws.Result.{text-short}
use Rattle.text_laws.proofs.laws.Result.{text-form}
use Rattle.text_laws.specs.laws.Rows.{row-length}

-- the k-th of its 256 coefficients
abbrev coefficient : ℕ → ℤ
coefficient k = cond (ltb k 90) (negsuc 9999999) (negsuc 999999)

-- it times the tenth powers of the third and fourth variable
abbrev monomial : ℕ → Form ℤ
monomial k = pow 10 (pop 1 (pow 10 (int (coefficient k)) (int (pos 0)))) (int (pos 0))

-- four of these, times the 10th, 20th, 30th and 40th power of the second
abbrev four : ℕ → Form ℤ
four k =
    pow 10 (pow 10 (pow 10 (pow 10 (pop 1 (monomial (k + 3))) (monomial (k + 2))) (monomial (k + 1))) (monomial k)) (int (pos 0))

-- these, times each power of the first up to the j-th
abbrev powers : ℕ → Form ℤ
powers zero = pop 1 (four 0)
powers (suc j) = pow 1 (powers j) (four (4 * suc j))

abbrev pub longest : Form ℤ
longest = powers 63

fits : Fits 4 longest
fits =
    record {
      degrees-fit = all-le (degrees 4 longest) refl;
      weight-fits = leb-true (weight longest) 1073741823 refl;
      terms-fit = leb-true (terms ℤ_ring longest) 256 refl;
    }

-- the bytes of a text, counted without writing it
abbrev bytes_of : Form ℤ → ℕ
bytes_of (int z) = length (write_int z)
bytes_of (pop i p) = length (pop_head i) + (bytes_of p + 1)
bytes_of (pow i p q) = length (pow_head i) + (bytes_of p + (1 + (bytes_of q + 1)))

bytes-are : (x : Form ℤ) → length (text x) ≡ bytes_of x
bytes-are (int z) = refl
bytes-are (pop i p) =
    omega (arith, length-append (pop_head i) (text p ++ (41 ∷ [])), length-append (text p) (41 ∷ []), bytes-are p)
bytes-are (pow i p q) =
    omega (
      arith,
      length-append (pow_head i) (text p ++ (32 ∷ text q ++ (41 ∷ []))),
      length-append (text p) (32 ∷ text q ++ (41 ∷ [])),
      length-append (text q) (41 ∷ []),
      bytes-are p,
      bytes-are q,
    )

counted : bytes_of longest ≡ 13529
unfolding decimal
counted = refl

-- it is a form over every row of four letters, and its text has 13,529 bytes
pub longest-is-form : IsForm 4 (text longest) longest
longest-is-form = text-form 4 longest (omega arith) ((is_normal-is ℤ_ring 4 longest).0 tt) fits

pub longest-length : length (text longest) ≡ 13529
longest-length = bytes-are longest ∙ counted

-- no form over any row has a longer one
pub none-longer : (row s : List ℕ) (x : Form ℤ) → is_row row ≡ true → IsForm (length row) s x → length s ≤ 13529
none-longer row s x r is =
    let within : Fits (length row) x =
    record { degrees-fit = is.degrees-fit; weight-fits = is.weight-fits; terms-fit = is.terms-fit } in
    omega (arith, ap length is.written.is, text-short (length row) x (row-length row r).1 is.normal within)
