-- What is found of a coded term: the measures of every subterm, as document 01's table has them, or the first subterm in order of
-- finishing that passes a limit.
use Rattle.std.specs.Prelude.{◌≡◌, Result, Ok, Err, List, ℕ, ◌-◌, ◌/◌, ◌%◌, eqb, ltb, length}
use Rattle.text.specs.definitions.Tree.{term_of, Tree}
use Rattle.text_laws.specs.laws.Picks.{pick}
use Rattle.measure.specs.declared.Measures.{Measures}
use Rattle.measure.specs.Made.{of}
use Rattle.measure.specs.Measure.{measures_of, Small, limit_m, add_m, mul_m, pow_m}
use Rattle.text.specs.definitions.Answer.{read, refused}
use Rattle.term_tree.specs.Shapes.{Codes}
use Rattle.text.specs.definitions.Limits.{measured}
use Rattle.refusal.specs.declared.Flaw.{Flaw}
use Rattle.term_tree.specs.declared.Operation.{Operation}
use Rattle.term_tree.specs.declared.Operation.TheVariants.{Add, Subtract, Multiply}

-- w is the code of some term
pub record Coded (w : List ℕ) : Type 0 where
  pub row : List ℕ
  pub tree : Tree
  pub codes : Codes row tree w

-- the magnitude of a coded integer, cut down above the limit of weights
abbrev pub weight_in : ℕ → ℕ
weight_in h = pick (eqb h 2147483647) 1073741824 (pick (ltb 1073741823 h) (2147483647 - h) h)

-- of a coded integer, and of a letter by its index in the row
abbrev pub integer_m : ℕ → Measures
integer_m h = of (weight_in h) 1 0 0 0 0

abbrev pub letter_m : ℕ → Measures
letter_m i = of 1 1 (pick (eqb i 0) 1 0) (pick (eqb i 1) 1 0) (pick (eqb i 2) 1 0) (pick (eqb i 3) 1 0)

-- of two subterms under an operator
abbrev pub joined_m : Operation → Measures → Measures → Measures
joined_m Add a b = add_m a b
joined_m Subtract a b = add_m a b
joined_m Multiply a b = mul_m a b

-- the limit with this number is passed by a subterm with this second word
abbrev pub flaw_in : ℕ → ℕ → Flaw
flaw_in n v = record { number = n; place = v % 65536; end = v / 65536 }

-- a subterm with these measures and this second word
abbrev pub judged : Measures → ℕ → Result Measures Flaw
judged m v = pick (eqb (limit_m m) 0) (Ok m) (Err (flaw_in (limit_m m) v))

-- a power with the exponent k, of a subterm with these measures: an exponent above its limit is refused before anything is worked out
abbrev pub judged_power : Measures → ℕ → ℕ → Result Measures Flaw
judged_power a k v = pick (ltb 63 k) (Err (flaw_in 8 v)) (judged (pow_m a k) v)

-- what an answer says of a term: it is within the limits and these are its measures, or this is its refusal
abbrev pub Finds : List ℕ → Tree → Result Measures Flaw → Type 0
Finds row t (Ok m) = (measured row t ≡ read t) × ((m ≡ measures_of (length row) (term_of row t)) × Small m)
Finds row t (Err f) = measured row t ≡ refused f.number f.place f.end

-- of whatever term w is the code
pub record MeasuredAs (w : List ℕ) (r : Result Measures Flaw) : Type 0 where
  pub finds : (row : List ℕ) (t : Tree) → Codes row t w → Finds row t r
