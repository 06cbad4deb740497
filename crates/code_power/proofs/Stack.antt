-- Two forms in one table, one behind the other.
-- Assumes nothing.
use Rattle.std.proofs.Common.{sym, ap, subst, arith, length-drop, length-take-le, List, [], ◌∷◌, ℕ, suc, ◌+◌, ◌-◌, ◌≤◌, ◌<◌, length}
use Rattle.std.proofs.Math.Path.{◌≡◌, ◌∙◌}
use Rattle.std.specs.Prelude.{take, drop, set}
use Rattle.std.proofs.lemmas.List.{take-set-le}
use Rattle.std.proofs.Math.Seq.{set_split, drop_at}
use borrow.Rule.Slice.PartMut.{put_mid, take_put}
use Rattle.horner.specs.definitions.Form.{Form}
use Rattle.code.specs.Coding.{enc, dec, Good, Codes, Coded, Begins, Made}
use Rattle.code.specs.Widths.{Leaf}
use Rattle.code.specs.laws.Codes.{dec-enc, coded, codes-length}
use Rattle.code.specs.laws.Widths.{leaf-number, modulus-big}
use Rattle.code.proofs.Lists.{begins-le, begins-as, begins-set}
use Rattle.code.proofs.Making.{made-codes}
use Rattle.code_room.specs.Fit.{prod_of}
use Rattle.code_room.specs.Tables.{Space}
use Rattle.code_room.proofs.laws.Fit.{fit-y}
use Rattle.code_room.proofs.laws.Tables.{space-at}
use Rattle.code_power.specs.Raise.{raise_of, Raising, Stacked}
use Rattle.code_power.specs.laws.Raise.{raise-more, raise-fit, raise-space}

-- the code of 1, which is the power by 0
one_code : (w : ℕ) (x : Form (Leaf w)) → 1 ∷ [] ≡ enc w (raise_of w x 0)
unfolding enc raise_of
one_code w x = ap (λ n. n ∷ []) (sym (leaf-number w 1 (modulus-big w)))

pub made_one : (w : ℕ) (x : Form (Leaf w)) (l : List ℕ) → 0 < length l → Made w (raise_of w x 0) 1 (set l 0 1)
made_one w x l h = begins-as (begins-set l 1 h) (one_code w x)

-- 1 behind the first n words
pub stacked-one :
    {w : ℕ} {x : Form (Leaf w)} (n : ℕ) (l : List ℕ) → Codes w x (take n l) → n < length l → Stacked w x (raise_of w x 0) n 1 (set l n 1)
stacked-one {w} {x} n l c h =
    record {
      below = record { size = sym (length-take-le n l (omega arith)) ∙ codes-length c; is = take-set-le n l n 1 (omega arith) ∙ c.is };
      above =
          record {
            size = ap length (one_code w x);
            is =
                ap (take 1)
                (ap (drop n) (set_split l n 1 h) ∙ drop_at (take n l) (1 ∷ drop (suc n) l) n (length-take-le n l (omega arith)))
                ∙ one_code w x;
          };
    }

-- a form that was made in the part from n on, behind the one that stands there
pub stacked :
    {w : ℕ} {x y : Form (Leaf w)} (n m : ℕ) (d e : List ℕ) → Codes w x (take n d) → n ≤ length d → Begins m (enc w y) e → Good w y →
    Stacked w x y n m (put_mid n (length d - n) d e)
stacked n m d e c l b g =
    record {
      below = record { size = sym (length-take-le n d l) ∙ codes-length c; is = take_put n (length d - n) d e l ∙ c.is };
      above = record { size = b.size; is = (made-codes n d e m l b g).is };
    }

pub stack-fits : {w n m : ℕ} {x y : Form (Leaf w)} {l : List ℕ} → Stacked w x y n m l → n + m ≤ length l
stack-fits {n = n} {l = l} s = omega (arith, begins-le s.below, begins-le s.above, length-drop n l)

-- A turn: l holds x and behind it its i-th power, where i is below k
module _ {w k n m i : ℕ} {x : Form (Leaf w)} {l : List ℕ} {s o t u : ℕ} (r : Raising w x k n s o t u) (g : Good w x)
    (h : Stacked w x (raise_of w x i) n m l) (b : i < k) where
  turn-x : Codes w x (take n l)
  turn-x = record { is = h.below.is; good = g }

  turn-y : Codes w (raise_of w x i) (take m (drop n l))
  turn-y = record { is = h.above.is; good = (fit-y (raise-fit r i b)).good }

  pub turn-codes : Coded w (take n l) × Coded w (take m (drop n l))
  turn-codes = (coded turn-x, coded turn-y)

  pub turn-space : {o' t' u' : ℕ} → o' ≡ o → t' ≡ t → u' ≡ u → Space w (dec w (take n l)) (dec w (take m (drop n l))) o' t' u'
  turn-space {o'} {t'} {u'} a c d =
      subst (λ z. Space w z (dec w (take m (drop n l))) o' t' u') (sym (dec-enc turn-x))
      (subst (λ z. Space w x z o' t' u') (sym (dec-enc turn-y)) (space-at (sym a) (sym c) (sym d) (raise-space r i b)))

  pub turn-product : prod_of w (dec w (take n l)) (dec w (take m (drop n l))) ≡ raise_of w x (i + 1)
  turn-product = ap (λ z. prod_of w z (dec w (take m (drop n l)))) (dec-enc turn-x) ∙ ap (prod_of w x) (dec-enc turn-y) ∙ raise-more w x i

  pub turn-next :
      {m' : ℕ} {l' : List ℕ} → Stacked w (dec w (take n l)) (prod_of w (dec w (take n l)) (dec w (take m (drop n l)))) n m' l' →
      Stacked w x (raise_of w x (i + 1)) n m' l'
  turn-next {m'} {l'} d =
      subst (λ z. Stacked w z (raise_of w x (i + 1)) n m' l') (dec-enc turn-x)
      (subst (λ z. Stacked w (dec w (take n l)) z n m' l') turn-product d)
