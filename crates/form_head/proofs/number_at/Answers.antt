-- `form_head::number_at` meets its contract: the part it hands on is the digits.
use Rattle.std.proofs.Common.{ap, arith, length-drop, List, length, ℕ, ◌+◌, ◌-◌, ◌≤◌, min}
use Rattle.std.proofs.Math.Path.{◌≡◌, ◌∙◌}
use Rattle.std.specs.Prelude.{take, drop}
use Rattle.text.specs.definitions.Bytes.{all, digit, value_from}
use Rattle.form_head.specs.Heads.{digits}
use Rattle.form_head.specs.laws.Digits.{digits-short, digits-all, digits-take}
use Rattle.form_head.proofs.number_at.Goals as goal

-- the part from the place to the end of the digits
part-is : (s : List ℕ) (at e : ℕ) → e ≡ at + length (digits (drop at s)) → take (e - at) (drop at s) ≡ digits (drop at s)
part-is s at e q =
    ap (λ k. take k (drop at s)) (let z : e - at ≡ length (digits (drop at s)) = omega (arith, q) in z) ∙ digits-take (drop at s)

end-inside : (s : List ℕ) (at e : ℕ) → at ≤ length s → e ≡ at + length (digits (drop at s)) → e ≤ length s
end-inside s at e h q = omega (arith, q, digits-short (drop at s), length-drop at s)

pub slice_bounds-cut_value-end : goal.slice_bounds-cut_value-end
slice_bounds-cut_value-end c =
    omega (arith, end-inside c.args.s.now _ _ c.requires c.digits_end-next.ensures)

pub cut_value-value-requires : goal.cut_value-value-requires
cut_value-value-requires c =
    ap (all digit) (part-is _ _ _ c.digits_end-next.ensures) ∙ digits-all (drop c.args.at c.args.s.now)

pub returns : goal.returns
returns c =
    record { is-value = c.cut_value-value.ensures ∙ ap (λ w. min (value_from 0 w) c.args.limit) (part-is _ _ _ c.digits_end-next.ensures); is-next = c.digits_end-next.ensures }
