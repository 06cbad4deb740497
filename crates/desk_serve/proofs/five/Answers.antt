-- `desk_serve::five` meets its contract.
use Rattle.std.proofs.Common.{List, [], ◌∷◌, rules, ap}
use Rattle.std.proofs.Math.Path.{◌≡◌, ◌∙◌}
use Rattle.std.specs.Prelude.{ℤ}
use Rattle.std.specs.Int.{w32}
use mir.Val.{to_z, of_z}
use Rattle.desk_field.specs.Fields.{signed_of, coordinate_of}
use Rattle.desk_serve.proofs.five.Goals as goal

five-same :
    {a b c d e p q r s t : ℤ} → a ≡ p → b ≡ q → c ≡ r → d ≡ s → e ≡ t →
    ◌≡◌ {A = List ℤ} (a ∷ b ∷ c ∷ d ∷ e ∷ []) (p ∷ q ∷ r ∷ s ∷ t ∷ [])
five-same f g h i j = cc

pub returns : goal.returns
returns c =
    let x : to_z w32 (of_z w32 c.coordinate_in-x.result) ≡ c.coordinate_in-x.result = search rules in
    let y : to_z w32 (of_z w32 c.coordinate_in-y.result) ≡ c.coordinate_in-y.result = search rules in
    let z : to_z w32 (of_z w32 c.coordinate_in-z.result) ≡ c.coordinate_in-z.result = search rules in
    let u : to_z w32 (of_z w32 c.coordinate_in-u.result) ≡ c.coordinate_in-u.result = search rules in
    let v : to_z w32 (of_z w32 c.coordinate_in-v.result) ≡ c.coordinate_in-v.result = search rules in
    five-same
    (x ∙ c.coordinate_in-x.ensures ∙ ap (λ w. coordinate_of (signed_of w)) c.field.ensures)
    (y ∙ c.coordinate_in-y.ensures ∙ ap (λ w. coordinate_of (signed_of w)) c.field-2.ensures)
    (z ∙ c.coordinate_in-z.ensures ∙ ap (λ w. coordinate_of (signed_of w)) c.field-3.ensures)
    (u ∙ c.coordinate_in-u.ensures ∙ ap (λ w. coordinate_of (signed_of w)) c.field-4.ensures)
    (v ∙ c.coordinate_in-v.ensures ∙ ap (λ w. coordinate_of (signed_of w)) c.field-5.ensures)
