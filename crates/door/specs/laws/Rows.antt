-- The row's test, letter by letter.
use Rattle.std.specs.Prelude.{Bool, true, false, [], eqb, ◌&&◌, ◌||◌, List, ◌∷◌, ◌≡◌, refl, ℕ}
use Rattle.std.proofs.Common.{sym, ap, ◌∙◌, eq-eqb, ne_eqb}
use Rattle.std.proofs.lemmas.Bool.{eqb-true, eqb-false}
use Rattle.std.specs.List.{list_any}
use Rattle.text.specs.definitions.Bytes.{all, capital, is_in_row, distinct}

-- letters A to Z, each once
abbrev pub letters : List ℕ → Bool
letters xs = all capital xs && distinct xs

-- ---- looking for a letter
eqb-flip : (x b : ℕ) → eqb x b ≡ eqb b x
eqb-flip x b = go (eqb b x) refl
  where
    go : (t : Bool) → eqb b x ≡ t → eqb x b ≡ eqb b x
    go true e = eq-eqb x b (sym (eqb-true b x e)) ∙ sym e
    go false e = ne_eqb x b (λ h. eqb-false b x e (sym h)) ∙ sym e

pub in-any : (row : List ℕ) (b : ℕ) → list_any (λ x. eqb x b) row ≡ is_in_row row b
in-any [] b = refl
in-any (x ∷ xs) b = rw eqb-flip (ap (λ z. eqb b x || z) (in-any xs b))
