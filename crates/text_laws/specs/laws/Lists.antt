-- Two places in one list.
use mathlib.Core.List.{List, [], ◌∷◌, ◌++◌, head-eq_of_cons-eq, tail-eq_of_cons-eq}
use Rattle.std.specs.Prelude.{◌≡◌, refl}
use Rattle.std.proofs.Common.{sym, ap, ap₂}

-- k stands behind ks and j behind js: at one place, or one before the other
pub data Places {A : Type 0} (ks : List A) (k : A) (js : List A) (j : A) : Type 0 where
  same_place : ks ≡ js → k ≡ j → Places ks k js j
  earlier : (us : List A) → js ≡ ks ++ (k ∷ us) → Places ks k js j
  later : (us : List A) → ks ≡ js ++ (j ∷ us) → Places ks k js j

pub places : {A : Type 0} (ks : List A) (k : A) (zs js : List A) (j : A) (ys : List A) → ks ++ (k ∷ zs) ≡ js ++ (j ∷ ys) → Places ks k js j
places [] k zs [] j ys e = same_place refl (head-eq_of_cons-eq e)
places [] k zs (i ∷ js) j ys e = earlier js (ap (λ z. z ∷ js) (sym (head-eq_of_cons-eq e)))
places (i ∷ ks) k zs [] j ys e = later ks (ap (λ z. z ∷ ks) (head-eq_of_cons-eq e))
places (i ∷ ks) k zs (i' ∷ js) j ys e = go (places ks k zs js j ys (tail-eq_of_cons-eq e))
  where
    h : i ≡ i'
    h = head-eq_of_cons-eq e

    go : Places ks k js j → Places (i ∷ ks) k (i' ∷ js) j
    go (same_place a b) = same_place (ap₂ ◌∷◌ h a) b
    go (earlier us a) = earlier us (ap₂ ◌∷◌ (sym h) a)
    go (later us a) = later us (ap₂ ◌∷◌ h a)
