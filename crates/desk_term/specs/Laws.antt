-- The result text of `form` is within what was lent.
use Rattle.std.specs.Prelude.{List, ℕ}
use Rattle.refusal.specs.declared.Side.TheVariants.{Left}
use Rattle.horner.specs.definitions.Term.{norm_ℤ}
use Rattle.text.specs.definitions.FormReading.{text}
use Rattle.text.specs.definitions.Limits.{accept_term}
use Rattle.text.specs.definitions.Tree.{term_of}
use Rattle.reply.specs.definitions.Calls.{form_reply}
use Rattle.desk_reply.specs.laws.Replies.{Within, within-read, within-fitted}
use Rattle.desk_serve.specs.Texts.{within-opened}

pub within-form : (tables row s : List ℕ) (n : ℕ) → Within n (form_reply row tables s n)
unfolding form_reply
within-form tables row s n =
    within-opened row tables n _ (λ u. within-read n Left (accept_term row s) _ (λ t. within-fitted n (text (norm_ℤ (term_of row t)))))
