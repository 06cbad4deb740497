-- What the laws of proofs/laws/Answer speak of.
use Rattle.std.specs.Prelude.{List, ℕ, ◌-◌}
use Rattle.horner.specs.definitions.Form.{Form, sum, negate, nats}
use Rattle.horner.specs.definitions.Measures.{maxs, degrees}
use Rattle.horner.specs.definitions.Rings.{Res, red_ℤ, prime, prime-pos, p_ring}
use Rattle.horner.specs.definitions.Term.{Term, evalp, norm_p}

-- ---- over the remainders by P
-- the difference of two terms' forms, and in each variable the higher of their degrees
abbrev pub gap : Term → Term → Form (Res prime)
gap f g = sum p_ring (norm_p f) (negate p_ring (norm_p g))

abbrev pub sides : ℕ → Term → Term → List ℕ
sides n f g = maxs (degrees n (norm_p f)) (degrees n (norm_p g))

-- a term's value there, at a point of natural numbers: the remainder of its value
abbrev pub eval_p : Term → List ℕ → Res prime
eval_p t N = evalp p_ring (red_ℤ prime prime-pos) t (nats p_ring N)
