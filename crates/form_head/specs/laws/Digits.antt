-- The digits that a text begins with.
use Rattle.std.specs.Prelude.{Bool, true, false, cond, List, [], ◌∷◌, ◌++◌, ◌≡◌, refl, ℕ, zero, suc, ◌+◌, ◌≤◌, ◌<◌, length, take, drop, get_or}
use Rattle.std.specs.List.{prefix_len}
use Rattle.std.proofs.Common.{sym, ap, ◌∙◌, arith, add-one, drop_of_length-le, drop-cons}
use Rattle.text.specs.definitions.Bytes.{digit, all, decimal}
use Rattle.text_laws.specs.laws.Bytes.{and_l, and_r, and_i, digit-range}
use Rattle.text_laws.specs.laws.Numerals.{Leading, leading-decimal, decimal-short}
use Rattle.form_head.specs.Heads.{digits, NoDigit}

pub digits-of : (w rest : List ℕ) → all digit w ≡ true → NoDigit rest → digits (w ++ rest) ≡ w
digits-of [] [] h n = refl
digits-of [] (x ∷ rest) h n = rw (n, digits)
digits-of (x ∷ w) rest h n =
    rw (and_l (digit x) (all digit w) h, digits) (ap (λ l. x ∷ l) (digits-of w rest (and_r (digit x) (all digit w) h) n))

by_first : (x : ℕ) (l : List ℕ) (P : List ℕ → Type 0) → (digit x ≡ true → P (x ∷ digits l)) → (digit x ≡ false → P []) → P (digits (x ∷ l))
by_first x l P f g = go (digit x) refl
  where
    go : (b : Bool) → digit x ≡ b → P (elim b [ true ↦ x ∷ digits l | false ↦ [] ])
    go true e = f e
    go false e = g e

pub digits-short : (l : List ℕ) → length (digits l) ≤ length l
digits-short [] = omega arith
digits-short (x ∷ l) = by_first x l (λ d. length d ≤ suc (length l)) (λ e. omega (arith, digits-short l)) (λ e. omega arith)

pub digits-all : (l : List ℕ) → all digit (digits l) ≡ true
digits-all [] = refl
digits-all (x ∷ l) = by_first x l (λ d. all digit d ≡ true) (λ e. and_i e (digits-all l)) (λ e. refl)

pub digits-take : (l : List ℕ) → take (length (digits l)) l ≡ digits l
digits-take [] = refl
digits-take (x ∷ l) = by_first x l (λ d. take (length d) (x ∷ l) ≡ d) (λ e. ap (λ k. x ∷ k) (digits-take l)) (λ e. refl)

pub digits-count : (l : List ℕ) → prefix_len digit l ≡ length (digits l)
digits-count [] = refl
digits-count (x ∷ l) = go (digit x) (digits-count l)
  where
    go :
        (b : Bool) → prefix_len digit l ≡ length (digits l) →
        cond b (1 + prefix_len digit l) 0 ≡ length {A = ℕ} (elim b [ true ↦ x ∷ digits l | false ↦ [] ])
    go true e = omega arith
    go false e = refl

-- ---- from one place to the next
one_on : (s : List ℕ) (i : ℕ) → i < length s → drop i s ≡ get_or s i 0 ∷ drop (i + 1) s
one_on s i h = drop-cons s i 0 h ∙ ap (λ k. get_or s i 0 ∷ drop k s) (sym (add-one i))

module _ (s : List ℕ) (i : ℕ) where
  pub digits-on : i < length s → digit (get_or s i 0) ≡ true → i + length (digits (drop i s)) ≡ (i + 1) + length (digits (drop (i + 1) s))
  digits-on h e =
      ap (λ l. i + length (digits l)) (one_on s i h)
      ∙ ap (λ b. i + length {A = ℕ} (elim b [ true ↦ get_or s i 0 ∷ digits (drop (i + 1) s) | false ↦ [] ])) e ∙ omega arith

  pub digits-off : i < length s → digit (get_or s i 0) ≡ false → i + length (digits (drop i s)) ≡ i
  digits-off h e =
      ap (λ l. i + length (digits l)) (one_on s i h)
      ∙ ap (λ b. i + length {A = ℕ} (elim b [ true ↦ get_or s i 0 ∷ digits (drop (i + 1) s) | false ↦ [] ])) e ∙ omega arith

  pub digits-stop : length s ≤ i → i + length (digits (drop i s)) ≡ i
  digits-stop h = ap (λ l. i + length (digits l)) (drop_of_length-le s {i = i} h) ∙ omega arith

-- ---- decimal texts
pub record Digits (w : List ℕ) : Type 0 where
  pub some : 0 < length w
  pub first : 48 ≤ get_or w 0 0
  pub last : get_or w 0 0 ≤ 57
  pub digits : all digit w ≡ true

of-leading : (w : List ℕ) → Leading w → Digits w
of-leading [] l = absurd l
of-leading (x ∷ w) l =
    record { some = omega arith; first = (digit-range x l.1).0; last = (digit-range x l.1).1; digits = and_i l.1 l.2 }

of_zero : (w : List ℕ) → w ≡ 48 ∷ [] → Digits w
of_zero w e = rw e (record { some = omega arith; first = omega arith; last = omega arith; digits = refl })

pub decimal-digits : (n : ℕ) → Digits (decimal n)
decimal-digits zero = of_zero (decimal 0) (decimal-short 0 (omega arith))
decimal-digits (suc n) = of-leading (decimal (suc n)) (leading-decimal n)
