-- The result texts of `add` and `multiply` are within what was lent.
use Rattle.std.specs.Prelude.{List, ℕ, ℤ, length}
use Rattle.refusal.specs.declared.Side.TheVariants.{Left, Right}
use Rattle.horner.specs.definitions.Form.{Form, sum, prod}
use Rattle.horner.specs.definitions.Rings.{ℤ_ring}
use Rattle.text.specs.definitions.FormReading.{accept_form, text}
use Rattle.reply.specs.definitions.Calls.{Measured, of_sum, of_product, two_of, add_reply, multiply_reply}
use Rattle.desk_reply.specs.laws.Replies.{Within, within-read, within-fitted}
use Rattle.desk_serve.specs.Texts.{within-opened, within-limited}

module _ (tables row s t : List ℕ) where
  within-two : (measured : Form ℤ → Form ℤ → Measured) (op : Form ℤ → Form ℤ → Form ℤ) (n : ℕ) → Within n (two_of measured op row s t n)
  within-two measured op n =
      within-read n Left (accept_form (length row) s) _
      (λ x. within-read n Right (accept_form (length row) t) _
      (λ y. within-limited n (measured x y) _ (λ v. within-fitted n (text (op x y)))))

  pub within-add : (n : ℕ) → Within n (add_reply row tables s t n)
  unfolding add_reply
  within-add n = within-opened row tables n _ (λ u. within-two (of_sum (length row)) (sum ℤ_ring) n)

  pub within-multiply : (n : ℕ) → Within n (multiply_reply row tables s t n)
  unfolding multiply_reply
  within-multiply n = within-opened row tables n _ (λ u. within-two (of_product (length row)) (prod ℤ_ring) n)
