-- "Numbers a call may refuse with": for each call which number, side and place comes when, in document 01's order and without reading.
-- Refusals.antt proves that the calls refuse exactly so.
use Rattle.std.specs.Prelude.{Bool, true, false, List, [], ◌∷◌, ◌++◌, ◌≡◌, ℕ, ◌≤◌, min, eqb, leb, ℤ, length}
use Rattle.dialect.specs.Dialects.{ordinary}
use Rattle.refusal.specs.Refusal.{fault, on_side, of_neither}
use Rattle.refusal.specs.declared.Refusal.{Refusal}
use Rattle.refusal.specs.declared.Side.TheVariants.{Left, Right}
use Rattle.horner.specs.definitions.Form.{Form, Normal, sum, negate, prod, raise}
use Rattle.horner.specs.definitions.Measures.{AllLe, degrees, weight, terms, box}
use Rattle.horner.specs.definitions.Rings.{ℤ_ring}
use Rattle.horner.specs.definitions.Term.{norm_ℤ}
use Rattle.text.specs.definitions.Bytes.{all, is_row}
use Rattle.text.specs.definitions.FormMeaning as M
use Rattle.text.specs.definitions.FormMeaning.{IsForm, IsFormText, WrongNode}
use Rattle.text.specs.definitions.FormReading.{text}
use Rattle.text.specs.definitions.Meaning.{IsTerm, Part, Fits, OrdinaryRefused}
use Rattle.text.specs.definitions.Tree.{Tree, term_of}
use Rattle.reply.specs.definitions.Calls.{Measured, of_sum, of_product, of_power, is_width}
use Rattle.reply.specs.definitions.Reply.{enough}

-- ---- tests
-- a test of what was lent or of a result, and the number of the refusal where it fails
pub record Test : Type 0 where
  pub number : ℕ
  pub passes : Bool

-- the number e, unless the test b passes
infix 68 ◌unless◌
abbrev pub ◌unless◌ : ℕ → Bool → Test
e unless b = record { number = e; passes = b }

-- every one passes
abbrev pub AllPass : List Test → Type 0
AllPass [] = Unit {0}
AllPass (t ∷ ts) = (t.passes ≡ true) × AllPass ts

-- e is the number of the first that fails
pub data FirstFails (e : ℕ) : List Test → Type 0 where
  this : (t : Test) (ts : List Test) → t.passes ≡ false → e ≡ t.number → FirstFails e (t ∷ ts)
  later : (t : Test) (ts : List Test) → t.passes ≡ true → FirstFails e ts → FirstFails e (t ∷ ts)

-- "8: .. degree", "9: weight", "10: terms": "each degree at most 63, weight at most 1,073,741,823, terms at most 256"
abbrev pub limits : (degrees : List ℕ) (weight terms : ℕ) → List Test
limits ds w n = 8 unless all (λ d. leb d 63) ds ∷ 9 unless leb w 1073741823 ∷ 10 unless leb n 256 ∷ []

-- ---- texts
-- s is the text of the term t, and every subterm is inside the limits
pub record TermInside (row s : List ℕ) (t : Tree) : Type 0 where
  pub is : IsTerm ordinary row s t
  pub inside : (y : Tree) → Part y t → Fits row y

-- Of a form's text. 3, 4 and 6: it is no form's text. 7: the first node, in order of finishing, that is not normal. 8, 9 and 10: its
-- measures, at place 0. (Of a term's text: OrdinaryRefused.)
pub data FormRefused (m : ℕ) (s : List ℕ) (e p : ℕ) : Type 0 where
  no-form : M.RefusedAs s e p → FormRefused m s e p
  not-normal : (f : Form ℤ) → IsFormText s f → e ≡ 7 → WrongNode m f p → FormRefused m s e p
  over-measure :
      (f : Form ℤ) → IsFormText s f → Normal ℤ_ring m f → FirstFails e (limits (degrees m f) (weight f) (terms ℤ_ring f)) → p ≡ 0 →
      FormRefused m s e p

-- ---- calls
-- "Order: 1, 2, 14, 12", the tests of what is lent; "then 3; then 4, 5, 6 ..; then 7; then 8, 9, 10", the text's own; "then come the
-- measures of a result"; "then 11". The text s is that of something (Is), or wrong with a number at a place (Wrong)
module _ {A : Type 0} (lent : List Test) (Is : List ℕ → A → Type 0) (Wrong : List ℕ → (e p : ℕ) → Type 0) where
  -- "The refusal says left, right or neither: left for the text of a call with one text; neither for 1, 2, 11 to 14 .. and the measures of
  -- a result"
  pub data RefusedOne (s : List ℕ) (result : A → List Test) (r : Refusal) : Type 0 where
    lent-wrong : (e : ℕ) → FirstFails e lent → r ≡ of_neither e → RefusedOne s result r
    text-wrong : (e p : ℕ) → AllPass lent → Wrong s e p → r ≡ on_side Left (fault e p) → RefusedOne s result r
    result-wrong : (x : A) (e : ℕ) → AllPass lent → Is s x → FirstFails e (result x) → r ≡ of_neither e → RefusedOne s result r

  -- "A refusal of the left text ends the call before the right one is read": the left one is refused whatever the right one is, and the
  -- right one only where the left one stands
  pub data RefusedTwo (s t : List ℕ) (result : A → A → List Test) (r : Refusal) : Type 0 where
    lent-wrong : (e : ℕ) → FirstFails e lent → r ≡ of_neither e → RefusedTwo s t result r
    left-wrong : (e p : ℕ) → AllPass lent → Wrong s e p → r ≡ on_side Left (fault e p) → RefusedTwo s t result r
    right-wrong : (x : A) (e p : ℕ) → AllPass lent → Is s x → Wrong t e p → r ≡ on_side Right (fault e p) → RefusedTwo s t result r
    result-wrong :
        (x y : A) (e : ℕ) → AllPass lent → Is s x → Is t y → FirstFails e (result x y) → r ≡ of_neither e → RefusedTwo s t result r

module _ (row : List ℕ) (lent : List Test) where
  abbrev pub OneTerm : (s : List ℕ) (result : Tree → List Test) → Refusal → Type 0
  OneTerm = RefusedOne lent (TermInside row) (OrdinaryRefused row)

  abbrev pub TwoTerms : (s t : List ℕ) (result : Tree → Tree → List Test) → Refusal → Type 0
  TwoTerms = RefusedTwo lent (TermInside row) (OrdinaryRefused row)

  abbrev pub OneForm : (s : List ℕ) (result : Form ℤ → List Test) → Refusal → Type 0
  OneForm = RefusedOne lent (IsForm (length row)) (FormRefused (length row))

  abbrev pub TwoForms : (s t : List ℕ) (result : Form ℤ → Form ℤ → List Test) → Refusal → Type 0
  TwoForms = RefusedTwo lent (IsForm (length row)) (FormRefused (length row))

-- ---- the lines of the table that are tests
-- "1: row not 1 to 4 distinct letters A to Z"; "2: work table under its fixed length"
abbrev pub door : (row tables : List ℕ) → List Test
door row tables = 1 unless is_row row ∷ 2 unless enough tables ∷ []

-- "2: .. point buffer under the row's length", which has k numbers
abbrev pub point_room : (row : List ℕ) (k : ℕ) → List Test
point_room row k = 2 unless leb (length row) k ∷ []

-- "14: counter width not 0, 8 or 16"
abbrev pub width : ℕ → List Test
width w = 14 unless is_width w ∷ []

-- "12: point to evaluate at has another length than the row"
abbrev pub point_length : (row : List ℕ) (N : List ℤ) → List Test
point_length row N = 12 unless eqb (length N) (length row) ∷ []

-- "8: exponent ..": "exponent n .. at most 63"
abbrev pub exponent : ℕ → List Test
exponent k = 8 unless leb k 63 ∷ []

-- "Operations on forms are limited by the same table": 8, 9 and 10 of a result, "terms is cut down to the box"
abbrev pub measures : Measured → List Test
measures m = limits m.powers m.heavy (min m.many (box m.powers))

-- that none of them fails: "each degree at most 63, weight at most 1,073,741,823, terms at most 256"
pub record Inside (m : Measured) : Type 0 where
  pub degrees-fit : AllLe 63 m.powers
  pub weight-fits : m.heavy ≤ 1073741823
  pub terms-fit : min m.many (box m.powers) ≤ 256

-- "11: result text longer than the lent result buffer", which has n bytes
abbrev pub result_room : ℕ → List ℕ → List Test
result_room n w = 11 unless leb (length w) n ∷ []

-- ---- each call, with the arguments of its reply
abbrev pub FormRefuses : (row tables s : List ℕ) (n : ℕ) → Refusal → Type 0
FormRefuses row tables s n = OneTerm row (door row tables) s (λ t. result_room n (text (norm_ℤ (term_of row t))))

abbrev pub RemainderRefuses : (row tables s : List ℕ) (N : List ℤ) → Refusal → Type 0
RemainderRefuses row tables s N = OneTerm row (door row tables ++ point_length row N) s (λ t. [])

-- with no tables
abbrev pub JudgeRefuses : (row s : List ℕ) → Refusal → Type 0
JudgeRefuses row s = OneForm row (1 unless is_row row ∷ []) s (λ x. [])

abbrev pub NegateRefuses : (row tables s : List ℕ) (n : ℕ) → Refusal → Type 0
NegateRefuses row tables s n = OneForm row (door row tables) s (λ x. result_room n (text (negate ℤ_ring x)))

abbrev pub AddRefuses : (row tables s t : List ℕ) (n : ℕ) → Refusal → Type 0
AddRefuses row tables s t n =
    TwoForms row (door row tables) s t (λ x y. measures (of_sum (length row) x y) ++ result_room n (text (sum ℤ_ring x y)))

abbrev pub MultiplyRefuses : (row tables s t : List ℕ) (n : ℕ) → Refusal → Type 0
MultiplyRefuses row tables s t n =
    TwoForms row (door row tables) s t (λ x y. measures (of_product (length row) x y) ++ result_room n (text (prod ℤ_ring x y)))

abbrev pub RaiseRefuses : (row tables s : List ℕ) (k n : ℕ) → Refusal → Type 0
RaiseRefuses row tables s k n =
    OneForm row (door row tables) s
    (λ x. exponent k ++ measures (of_power (length row) x k) ++ result_room n (text (raise ℤ_ring x k)))

abbrev pub FormRemainderRefuses : (row tables s : List ℕ) (N : List ℤ) → Refusal → Type 0
FormRemainderRefuses row tables s N = OneForm row (door row tables ++ point_length row N) s (λ x. [])

-- "the measures of a result (a comparison has none)"
abbrev pub CompareRefuses : (row tables : List ℕ) (k : ℕ) (s t : List ℕ) → Refusal → Type 0
CompareRefuses row tables k s t = TwoTerms row (door row tables ++ point_room row k) s t (λ f g. [])

abbrev pub CountersRefuses : (row tables : List ℕ) (w : ℕ) (s t : List ℕ) → Refusal → Type 0
CountersRefuses row tables w s t = TwoTerms row (door row tables ++ width w) s t (λ f g. [])
