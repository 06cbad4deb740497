-- Judging the text of a form: what is seen of a form at a place, and what a node is judged by.
use Rattle.std.specs.Prelude.{Result, Ok, Err, Bool, true, false, cond, List, ◌≡◌, ℕ, ◌+◌, ◌-◌, eqb, ℤ, length}
use Rattle.horner.specs.definitions.Form.{Form, int, pop, pow, is_zero}
use Rattle.horner.specs.definitions.Rings.{ℤ_ring, is_zero_ℤ}
use Rattle.text.specs.definitions.Bytes.{Reading, read, refused}
use Rattle.text.specs.definitions.FormReading.{text}
use Rattle.text_laws.specs.laws.FormDescent.{judged_at}
use Rattle.text_laws.specs.laws.Picks.{pick}
use Rattle.form_head.specs.Heads.{Stands}
use Rattle.form_normal.specs.declared.Shape.{Shape}
use Rattle.form_normal.specs.declared.Shape.TheVariants.{Zero, Number, Pop, PowZero, Pow}
use Rattle.form_normal.specs.declared.Seen.{Seen}

-- what "normal" asks of a part; `(POW j r 0)` is told from another POW
abbrev pub shape_of : Form ℤ → Shape
shape_of (int z) = cond (is_zero_ℤ z) Zero Number
shape_of (pop i p) = Pop
shape_of (pow i p q) = cond (is_zero ℤ_ring q) PowZero Pow

abbrev pub is_zero_shape : Shape → Bool
is_zero_shape Zero = true
is_zero_shape Number = false
is_zero_shape Pop = false
is_zero_shape PowZero = false
is_zero_shape Pow = false

abbrev pub is_pow_zero : Shape → Bool
is_pow_zero Zero = false
is_pow_zero Number = false
is_pow_zero Pop = false
is_pow_zero PowZero = true
is_pow_zero Pow = false

-- neither an integer nor POP
abbrev pub is_pow_shape : Shape → Bool
is_pow_shape Zero = false
is_pow_shape Number = false
is_pow_shape Pop = false
is_pow_shape PowZero = true
is_pow_shape Pow = true

abbrev pub fine : Shape → ℕ → Result Seen ℕ
fine shape next = Ok (record { shape = shape; next = next })

-- "each POP has i of at least 1 and a POW inside"
abbrev pub pop_seen : (i : ℕ) (p : Shape) (at next : ℕ) → Result Seen ℕ
pop_seen i p at next = pick (eqb i 0) (Err at) (pick (is_pow_shape p) (fine Pop next) (Err at))

-- "each POW stands at a level below the row's length, has i of at least 1, and its p is neither 0 nor `(POW j r 0)`": left is the row's
-- length less the level
abbrev pub pow_seen : (left i : ℕ) (p q : Shape) (at next : ℕ) → Result Seen ℕ
pow_seen left i p q at next =
    pick (eqb left 0) (Err at)
    (pick (eqb i 0) (Err at)
    (pick (is_zero_shape p) (Err at) (pick (is_pow_zero p) (Err at) (fine (pick (is_zero_shape q) PowZero Pow) next))))

-- the place of the node that is refused, or the shape and the place behind
abbrev pub seen : Reading (Form ℤ) → Shape → ℕ → Result Seen ℕ
seen (read f) shape next = fine shape next
seen (refused bad) shape next = Err bad.place

-- of whatever form stands at the place, at a level of a row of which `left` variables are left
abbrev pub SeenAt : (left : ℕ) (s : List ℕ) (at : ℕ) → Result Seen ℕ → Type 0
SeenAt left s at r =
    (m l : ℕ) (g : Form ℤ) (rest : List ℕ) → m - l ≡ left → Stands s at g rest → r ≡ seen (judged_at m l at g) (shape_of g)
    (at + length (text g))
