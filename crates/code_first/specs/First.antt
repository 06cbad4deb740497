-- A number put for the first variable, in the ring of a width, under short names.
use Rattle.std.specs.Prelude.{ℕ, ◌-◌}
use Rattle.horner.specs.definitions.Form.{Form, lower}
use Rattle.horner.specs.laws.First.{at_first}
use Rattle.code.specs.Widths.{Leaf, ring_of, leaf}

-- what (POP i p) is without its first variable
unfoldable pub lower_of : (w : ℕ) → ℕ → Form (Leaf w) → Form (Leaf w)
lower_of w i p = lower (i - 1) p

unfoldable pub at_first_of : (w : ℕ) → Form (Leaf w) → ℕ → Form (Leaf w)
at_first_of w x a = at_first (ring_of w) x (leaf w a)
