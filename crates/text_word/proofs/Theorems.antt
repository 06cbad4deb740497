-- What stands besides: theorems of this crate that no other proof leans on.
use Rattle.std.proofs.Common.{sym, ap, arith, true, false, length, List, ℕ, suc, ◌+◌, ◌≤◌, ◌<◌}
use Rattle.std.proofs.Math.Path.{◌≡◌, ◌∙◌}
use Rattle.std.specs.Prelude.{drop}
use Rattle.std.proofs.Math.ListN.{get_or, drop_of_length-le}
use borrow.Author.Tests.{eq-eqb, ne_eqb}
use Rattle.text.specs.definitions.Bytes.{index_in, value_from}
use Rattle.text_word.proofs.Walk.{one_on}

-- ---- the place of a letter
module _ (row : List ℕ) (b i : ℕ) where
  pub index_on : i < length row → (get_or row i 0 ≡ b → ⊥) → i + index_in (drop i row) b ≡ (i + 1) + index_in (drop (i + 1) row) b
  index_on h n =
      ap (λ l. i + index_in l b) (one_on row i h)
      ∙ ap (λ c. i + elim c [ true ↦ 0 | false ↦ suc (index_in (drop (i + 1) row) b) ]) (ne_eqb b (get_or row i 0) (λ e. n (sym e)))
      ∙ omega arith

  pub index-here : i < length row → get_or row i 0 ≡ b → i + index_in (drop i row) b ≡ i
  index-here h e =
      ap (λ l. i + index_in l b) (one_on row i h)
      ∙ ap (λ c. i + elim c [ true ↦ 0 | false ↦ suc (index_in (drop (i + 1) row) b) ]) (eq-eqb b (get_or row i 0) (sym e)) ∙ omega arith

  pub index-end : length row ≤ i → i + index_in (drop i row) b ≡ i
  index-end h = ap (λ l. i + index_in l b) (drop_of_length-le row {i = i} h) ∙ omega arith

-- no digit more
pub value-end : (w : List ℕ) (i a : ℕ) → length w ≤ i → value_from a (drop i w) ≡ a
value-end w i a h = ap (value_from a) (drop_of_length-le w {i = i} h)
