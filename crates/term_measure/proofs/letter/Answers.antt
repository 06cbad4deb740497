-- `term_measure::letter` meets its contract: a test is 1 or 0.
use Rattle.std.specs.Prelude.{◌≡◌, Bool, true, false}
use Rattle.std.proofs.Common.{refl, ◌∙◌}
use mir.Val.{bool_byte}
use Rattle.text_laws.specs.laws.Picks.{pick}
use Rattle.measure.specs.Made.{of}
use Rattle.term_measure.proofs.letter.Goals as goal

one_by : (b : Bool) → bool_byte b ≡ pick b 1 0
unfolding pick
one_by true = refl
one_by false = refl

pub returns : goal.returns
returns c =
    λ i. of 1 1 ((c.from.ensures ∙ one_by _) i) ((c.from-2.ensures ∙ one_by _) i) ((c.from-3.ensures ∙ one_by _) i) ((c.from-4.ensures ∙ one_by _) i)
