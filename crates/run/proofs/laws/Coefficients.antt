-- The coefficient of a run at a key, with variables in front and with powers of the first one.
use Rattle.std.specs.Prelude.{cond, List, [], ◌∷◌, ◌≡◌, refl, ℕ, zero, suc, ◌+◌, ◌≤◌, length}
use Rattle.std.proofs.Common.{sym, ◌∙◌, ap, arith}
use Rattle.std.proofs.Math.Nat as NatL
use Rattle.code_counters.specs.laws.Reading.{down_at, plain_at, plain-zero, spread}
use Rattle.code_counters.specs.laws.Spread.{ups, downs}
use Rattle.horner.specs.definitions.Measures.{zeros}
use Rattle.horner.specs.definitions.Rings.{Ring}
use Rattle.run.specs.Merging.{Order, over, level, under, is_level, cmpℕ, first, cmp_l, Each}
use Rattle.run.specs.Runs.{Run, Long, raise_key, total, coef_r}
use Rattle.run.specs.laws.Keys.{Some}
use Rattle.run.proofs.laws.Merging.{Linear, total-cong, total-nil}

module _ {A : Type 0} (R : Ring A) where
  open R use {◌⊞◌, nil, add-nil}

  -- the coefficient where the keys are the same, and 0 elsewhere
  abbrev pub hit : Order → A → A
  hit o c = cond (is_level o) c nil

  -- by the first exponents, and then by the others
  pub hit-first : (o p : Order) (c : A) → hit (first o p) c ≡ hit o (hit p c)
  hit-first over p c = refl
  hit-first level p c = refl
  hit-first under p c = refl

  hit-nil : (o : Order) → hit o nil ≡ nil
  hit-nil over = refl
  hit-nil level = refl
  hit-nil under = refl

  -- f, in the variables from the second on, times the k-th power of the first
  pub ups-at : (k j : ℕ) (ks : List ℕ) (f : List ℕ → A) → ups R (spread R) k (down_at R f) (j ∷ ks) ≡ hit (cmpℕ k j) (f ks)
  ups-at zero zero ks f = refl
  ups-at zero (suc j) ks f = refl
  ups-at (suc k) zero ks f = refl
  ups-at (suc k) (suc j) ks f = ups-at k j ks f

  pub down-zero : (j : ℕ) (ks : List ℕ) → down_at R (plain_at R nil) (j ∷ ks) ≡ nil
  down-zero zero ks = plain-zero R ks
  down-zero (suc j) ks = refl

  -- a number, as a coefficient at each key
  pub plain-at : (n : ℕ) (ks : List ℕ) (c : A) → Long n ks → hit (cmp_l (zeros n []) ks) c ≡ plain_at R c ks
  plain-at zero [] c l = refl
  plain-at zero (k ∷ ks) c l = absurd (omega arith)
  plain-at (suc n) [] c l = absurd (omega arith)
  plain-at (suc n) (zero ∷ ks) c l = plain-at n ks c (omega arith)
  plain-at (suc n) (suc k ∷ ks) c l = refl

  -- equal coefficients stay equal with variables in front, and with a power of the first
  pub downs-cong : (i n : ℕ) (f g : List ℕ → A) → ((ks : List ℕ) → Long n ks → f ks ≡ g ks)
      → (ks : List ℕ) → Long (i + n) ks → downs R (spread R) i f ks ≡ downs R (spread R) i g ks
  downs-cong zero n f g e ks l = e ks (omega arith)
  downs-cong (suc i) n f g e [] l = absurd (omega arith)
  downs-cong (suc i) n f g e (zero ∷ ks) l = downs-cong i n f g e ks (omega arith)
  downs-cong (suc i) n f g e (suc k ∷ ks) l = refl

  pub ups-cong : (i n : ℕ) (f g : List ℕ → A) → ((ks : List ℕ) → Long n ks → f ks ≡ g ks)
      → (ks : List ℕ) → Long n ks → ups R (spread R) i f ks ≡ ups R (spread R) i g ks
  ups-cong zero n f g e ks l = e ks l
  ups-cong (suc i) n f g e [] l = refl
  ups-cong (suc i) n f g e (zero ∷ ks) l = refl
  ups-cong (suc i) n f g e (suc k ∷ ks) l = ups-cong i n f g e (k ∷ ks) l

  -- the coefficients of a run with zeros in front of its keys, and with the first exponents raised
  pub zeros-at : (i : ℕ) (r : Run A) (ks : List ℕ) → i ≤ length ks
      → total R (λ k c. hit (cmp_l (zeros i k) ks) c) r ≡ downs R (spread R) i (λ l. coef_r R l r) ks
  zeros-at zero r ks h = refl
  zeros-at (suc i) r [] h = absurd (omega arith)
  zeros-at (suc i) r (zero ∷ ks) h = zeros-at i r ks (omega arith)
  zeros-at (suc i) r (suc k ∷ ks) h = total-nil R r

  pub raise-at : (i j : ℕ) (r : Run A) (ks : List ℕ) → Each Some r
      → total R (λ k c. hit (cmp_l (raise_key i k) (j ∷ ks)) c) r ≡ ups R (spread R) i (λ l. coef_r R l r) (j ∷ ks)
  raise-at zero j r ks h = total-cong R Some _ _ same r h
    where
      same : (k : List ℕ) (c : A) → Some k → hit (cmp_l (raise_key 0 k) (j ∷ ks)) c ≡ hit (cmp_l k (j ∷ ks)) c
      same [] c s = absurd s
      same (a ∷ k) c s = ap (λ z. hit (first (cmpℕ z j) (cmp_l k ks)) c) (NatL.zero-add a)
  raise-at (suc i) zero r ks h = total-cong R Some _ _ none r h ∙ total-nil R r
    where
      none : (k : List ℕ) (c : A) → Some k → hit (cmp_l (raise_key (suc i) k) (0 ∷ ks)) c ≡ nil
      none [] c s = absurd s
      none (a ∷ k) c s = ap (λ z. hit (first (cmpℕ z 0) (cmp_l k ks)) c) (NatL.suc-add i a)
  raise-at (suc i) (suc j) r ks h = total-cong R Some _ _ less r h ∙ raise-at i j r ks h
    where
      less : (k : List ℕ) (c : A) → Some k → hit (cmp_l (raise_key (suc i) k) (suc j ∷ ks)) c ≡ hit (cmp_l (raise_key i k) (j ∷ ks)) c
      less [] c s = absurd s
      less (a ∷ k) c s = ap (λ z. hit (first (cmpℕ z (suc j)) (cmp_l k ks)) c) (NatL.suc-add i a)

  -- a coefficient at a key keeps sums
  pub linear-hit : (ks : List ℕ) → Linear R (λ es c. hit (cmp_l es ks) c)
  linear-hit ks = record { of_nil = λ k. hit-nil (cmp_l k ks); of-add = λ k a b. adds (cmp_l k ks) a b }
    where
      adds : (o : Order) (a b : A) → hit o (a ⊞ b) ≡ hit o a ⊞ hit o b
      adds over a b = sym (add-nil nil)
      adds level a b = refl
      adds under a b = sym (add-nil nil)
