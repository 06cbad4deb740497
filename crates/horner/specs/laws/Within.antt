-- What the laws of proofs/laws/Within speak of.
use Rattle.std.specs.Prelude.{ℕ, ◌≤◌, ◌<◌}
use Rattle.horner.specs.definitions.Measures.{AllLe, weight_of, degrees_of}
use Rattle.horner.specs.definitions.Term.{Term, num, var, minus, plus, diff, times, expt}

-- a term over a row of n: each letter stands in the row
abbrev pub Over : ℕ → Term → Type 0
Over n (num z) = Unit {0}
Over n (var i) = i < n
Over n (minus s) = Over n s
Over n (plus s t) = Over n s × Over n t
Over n (diff s t) = Over n s × Over n t
Over n (times s t) = Over n s × Over n t
Over n (expt s k) = Over n s

-- what the laws ask of a term over a row of n: its letters, its degrees and its weight
pub record Within (n : ℕ) (t : Term) : Type 0 where
  pub over : Over n t
  pub degrees : AllLe 63 (degrees_of n t)
  pub weight : weight_of t ≤ 1073741823
