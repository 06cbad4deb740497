-- The text of a form, by writing it; reading it; and which of the forms that were read stand.
use Rattle.std.specs.Prelude.{Bool, true, false, ◌||◌, cond, ◌&&◌, List, [], ◌∷◌, ◌++◌, ℕ, suc, ◌+◌, eqb, leb, ltb, ℤ, length}
use Rattle.std.proofs.Math.Option.{Option, none, some}
use Rattle.horner.specs.definitions.Form.{Form, int, pop, pow, is_pow, leads}
use Rattle.horner.specs.definitions.Rings.{ℤ_ring}
use Rattle.horner.specs.definitions.Measures.{weight, degrees, terms}
use Rattle.text.specs.definitions.Bytes.{Reading, read, refused_at, onward, fine, bytes, same, all, decimal, write_int, canonical}
use Rattle.text.specs.definitions.Bytes.{read_nat, read_int, is_some}

-- the bytes of (POP i p) and (POW i p q) before those of p: the name, i, and one space behind each
abbrev pub pop_head : ℕ → List ℕ
pop_head i = bytes "(POP " ++ (decimal i ++ (32 ∷ []))

abbrev pub pow_head : ℕ → List ℕ
pow_head i = bytes "(POW " ++ (decimal i ++ (32 ∷ []))

-- "A form is an integer, `(POP i p)` or `(POW i p q)`, i an integer not below zero, one space between members, no other blanks, integers
-- as above." "In a written POW the text of q is written right after the text of p and one space."
abbrev pub text : Form ℤ → List ℕ
text (int z) = write_int z
text (pop i p) = pop_head i ++ (text p ++ (41 ∷ []))
text (pow i p q) = pow_head i ++ (text p ++ (32 ∷ text q ++ (41 ∷ [])))

-- ---- reading, byte by byte, with the open parentheses on a stack: a state knows what was read so far and nothing of what comes
-- an open parenthesis that waits for a form: `(POP i `, `(POW i `, `(POW i p `
pub data Frame : Type 0 where
  in_pop : ℕ → Frame
  in_pow : ℕ → Frame
  in_rest : ℕ → Form ℤ → Frame

pub data Kind : Type 0 where
  pop_kind : Kind
  pow_kind : Kind

-- where the reading stands: before a form; within an integer or right behind it, w its bytes; behind `(` and the bytes w of `POP ` or
-- `POW `; behind `(POP ` or `(POW ` and the bytes w of i; right behind the `)` of a form
pub data Spot : Type 0 where
  before : Spot
  number : (w : List ℕ) → Spot
  head : (w : List ℕ) → Spot
  index : Kind → (w : List ℕ) → Spot
  behind : Form ℤ → Spot

pub data Next : Type 0 where
  on : Spot → List Frame → Next
  off : Next

-- an integer's text, or the `-` that one may begin with: what may stand at the front of an integer's text
abbrev pub int_begun : List ℕ → Bool
int_begun w = same w (bytes "-") || is_some (read_int w)

-- the byte b behind the whole form f
abbrev pub follow : Form ℤ → List Frame → ℕ → Next
follow f [] b = off
follow f (in_pop i ∷ fs) b = cond (eqb b 41) (on (behind (pop i f)) fs) off
follow f (in_pow i ∷ fs) b = cond (eqb b 32) (on before (in_rest i f ∷ fs)) off
follow f (in_rest i p ∷ fs) b = cond (eqb b 41) (on (behind (pow i p f)) fs) off

abbrev pub follow_int : Option ℤ → List Frame → ℕ → Next
follow_int none fs b = off
follow_int (some z) fs b = follow (int z) fs b

-- `P`, `PO`, `POP` or `POW`
abbrev pub head_begun : List ℕ → Bool
head_begun w = same w (bytes "P") || same w (bytes "PO") || same w (bytes "POP") || same w (bytes "POW")

abbrev pub head_word : List ℕ → List Frame → Next
head_word w fs =
    cond (same w (bytes "POP ")) (on (index pop_kind []) fs)
    (cond (same w (bytes "POW ")) (on (index pow_kind []) fs) (cond (head_begun w) (on (head w) fs) off))

abbrev pub indexed : Kind → Option ℕ → List Frame → Next
indexed k none fs = off
indexed pop_kind (some i) fs = on before (in_pop i ∷ fs)
indexed pow_kind (some i) fs = on before (in_pow i ∷ fs)

abbrev pub step : Spot → List Frame → ℕ → Next
step before fs b = elim (eqb b 40) [ true ↦ on (head []) fs | false ↦ cond (int_begun (b ∷ [])) (on (number (b ∷ [])) fs) off ]
step (number w) fs b = cond (int_begun (w ++ (b ∷ []))) (on (number (w ++ (b ∷ []))) fs) (follow_int (read_int w) fs b)
step (head w) fs b = head_word (w ++ (b ∷ [])) fs
step (index k w) fs b =
    elim (eqb b 32) [ true ↦ indexed k (read_nat w) fs | false ↦ cond (canonical (w ++ (b ∷ []))) (on (index k (w ++ (b ∷ []))) fs) off ]
step (behind f) fs b = follow f fs b

abbrev pub case_next : {B : Type 0} → Next → B → (Spot → List Frame → B) → B
case_next off e f = e
case_next (on s fs) e f = f s fs

-- what was read, where the text may end
abbrev pub int_form : Option ℤ → Option (Form ℤ)
int_form none = none
int_form (some z) = some (int z)

abbrev pub whole_form : Spot → List Frame → Option (Form ℤ)
whole_form before fs = none
whole_form (number w) [] = int_form (read_int w)
whole_form (number w) (f ∷ fs) = none
whole_form (head w) fs = none
whole_form (index k w) fs = none
whole_form (behind f) [] = some f
whole_form (behind f) (g ∷ fs) = none

abbrev pub whole_or : ℕ → Option (Form ℤ) → Reading (Form ℤ)
whole_or p none = refused_at 4 p
whole_or p (some f) = read f

-- over a test for the depths at which a parenthesis may still be opened
module _ (room : ℕ → Bool) where
  abbrev pub check : Spot → ℕ → ℕ → ℕ
  check before d b = elim (eqb b 40) [ true ↦ cond (room d) 0 6 | false ↦ 0 ]
  check (number w) d b = 0
  check (head w) d b = 0
  check (index k w) d b = 0
  check (behind f) d b = 0

  -- p is the place of the next byte. "In a form it is the first such byte."
  abbrev pub run : ℕ → Spot → List Frame → List ℕ → Reading (Form ℤ)
  run p s fs [] = whole_or p (whole_form s fs)
  run p s fs (b ∷ bs) =
      case_next (step s fs b) (refused_at 4 p) (λ s' fs'. fine (check s (length fs) b) p (λ u. run (suc p) s' fs' bs))

-- "form .. over 65,535" bytes; "Forms nest at most 256 deep."
unfoldable pub read_form : List ℕ → Reading (Form ℤ)
unfolding read_nat read_int
read_form s = elim (leb (length s) 65535) [ true ↦ run (λ d. ltb d 256) 0 before [] s | false ↦ refused_at 3 0 ]

-- ---- the normal ones within the limits
-- a node: the form that begins at the place, standing at the level
pub record Node : Type 0 where
  pub level : ℕ
  pub place : ℕ
  pub form : Form ℤ

-- The nodes of a form that stands at level l and place p, in order of finishing. "A form stands at a level, 0 at the outside. POP i puts p
-- at the level plus i; POW leaves p at its level and puts q one higher." A place is the length of what is written before.
abbrev pub nodes : ℕ → ℕ → Form ℤ → List Node
nodes l p (int z) = record { level = l; place = p; form = int z } ∷ []
nodes l p (pop i x) = nodes (l + i) (p + length (pop_head i)) x ++ (record { level = l; place = p; form = pop i x } ∷ [])
nodes l p (pow i x y) =
    nodes l (p + length (pow_head i)) x
    ++ (nodes (suc l) (p + length (pow_head i) + length (text x) + 1) y ++ (record { level = l; place = p; form = pow i x y } ∷ []))

-- "It is normal when each POP has i of at least 1 and a POW inside; each POW stands at a level below the row's length, has i of at least
-- 1, and its p is neither 0 nor `(POW j r 0)`." Over a row of m
abbrev pub stands : ℕ → ℕ → Form ℤ → Bool
stands m l (int z) = true
stands m l (pop i x) = leb 1 i && is_pow x
stands m l (pow i x y) = ltb l m && leb 1 i && leads ℤ_ring x

-- "For 7 .. the first offending node in order of finishing decides"
abbrev pub first_wrong : ℕ → Reading (Form ℤ) → List Node → Reading (Form ℤ)
first_wrong m r [] = r
first_wrong m r (k ∷ ks) = elim (stands m k.level k.form) [ true ↦ first_wrong m r ks | false ↦ refused_at 7 k.place ]

-- "A form's measures are those of the polynomial itself"; the same limits, place "0 for forms"
abbrev pub over_limit : ℕ → Form ℤ → ℕ
over_limit m f =
    elim (all (λ d. leb d 63) (degrees m f)) [
      | true ↦ elim (leb (weight f) 1073741823) [ true ↦ elim (leb (terms ℤ_ring f) 256) [ true ↦ 0 | false ↦ 10 ] | false ↦ 9 ]
      | false ↦ 8
    ]

abbrev pub form_measured : ℕ → Form ℤ → Reading (Form ℤ)
form_measured m f = fine (over_limit m f) 0 (λ u. read f)

abbrev pub form_judged : ℕ → Form ℤ → Reading (Form ℤ)
form_judged m f = onward (first_wrong m (read f) (nodes 0 0 f)) (form_measured m)

-- a form's text, with all its refusals, over a row of m: "then 3; then 4, 5, 6 at the earliest place; then 7; then 8, 9, 10"
unfoldable pub accept_form : ℕ → List ℕ → Reading (Form ℤ)
unfolding read_form
accept_form m s = onward (read_form s) (form_judged m)
