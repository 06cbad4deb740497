-- What stands besides: theorems of this crate that no other proof leans on.
use Rattle.std.proofs.Common.{sym, add-one, drop-cons, Bool, true, false, length, List, ℕ, suc, ◌+◌, ◌<◌, ◌≤◌, arith}
use Rattle.std.proofs.Math.Path.{◌≡◌, ap, ◌∙◌}
use Rattle.std.specs.Prelude.{drop}
use Rattle.std.proofs.Math.ListN.{get_or, drop_of_length-le}
use Rattle.term_token.specs.Steps.{more, lead}

-- `lead` at one place of a text, over any test
module _ (p : ℕ → Bool) (s : List ℕ) (i : ℕ) where
  opened : i < length s → lead p (drop i s) ≡ more (p (get_or s i 0)) (lead p (drop (suc i) s))
  unfolding lead
  opened h = ap (λ (l : List ℕ). lead p l) (drop-cons s i 0 h)

  pub lead-on : i < length s → p (get_or s i 0) ≡ true → i + lead p (drop i s) ≡ (i + 1) + lead p (drop (i + 1) s)
  lead-on h t =
      let e : lead p (drop i s) ≡ suc (lead p (drop (suc i) s)) = opened h ∙ ap (λ (b : Bool). more b (lead p (drop (suc i) s))) t in
      let f : lead p (drop (suc i) s) ≡ lead p (drop (i + 1) s) = ap (λ (k : ℕ). lead p (drop k s)) (sym (add-one i)) in
      omega arith

  pub lead-off : i < length s → p (get_or s i 0) ≡ false → i + lead p (drop i s) ≡ i
  lead-off h t =
      let e : lead p (drop i s) ≡ 0 = opened h ∙ ap (λ (b : Bool). more b (lead p (drop (suc i) s))) t in
      omega arith

  pub lead-end : length s ≤ i → i + lead p (drop i s) ≡ i
  unfolding lead
  lead-end h =
      let e : lead p (drop i s) ≡ 0 = ap (λ (l : List ℕ). lead p l) (drop_of_length-le s {i = i} h) in
      omega arith
