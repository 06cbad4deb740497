-- "A refusal returns its number, side and place."
use Rattle.std.specs.Prelude.{ℕ}
use Rattle.refusal.specs.declared.Fault.{Fault}
use Rattle.refusal.specs.declared.Flaw.{Flaw}
use Rattle.refusal.specs.declared.Refusal.{Refusal}
use Rattle.refusal.specs.declared.Side.{Side}
use Rattle.refusal.specs.declared.Side.TheVariants.{Neither}

-- what is wrong with a text: "Places count bytes from 0 in the refused text or body"
abbrev pub fault : (number place : ℕ) → Fault
fault e p = record { number = e; place = p }

-- the same, of a term's text, without its end
abbrev pub fault_of : Flaw → Fault
fault_of f = fault f.number f.place

-- "The refusal says left, right or neither: left for the text of a call with one text"
abbrev pub on_side : Side → Fault → Refusal
on_side s f = record { number = f.number; side = s; place = f.place }

-- "neither for 1, 2, 11 to 14, a book's own 3 and the measures of a result"
abbrev pub of_neither : (number : ℕ) → Refusal
of_neither e = record { number = e; side = Neither; place = 0 }
