-- What the comparison of keys says.
use Rattle.std.specs.Prelude.{List, [], ◌∷◌, ◌≡◌, refl, ℕ, zero, suc, ◌+◌, ◌<◌, length}
use Rattle.std.proofs.Common.{sym, ◌∙◌, ap, ap₂, subst, arith}
use Rattle.std.proofs.Math.Nat as NatL
use Rattle.horner.specs.definitions.Measures.{sums}
use Rattle.run.specs.Merging.{Order, over, level, under, case_order, cmpℕ, first, cmp_l}
use Rattle.run.specs.laws.Orders.{Ordered}

-- what holds in each case holds of the case that is
pub order-cases : {B : Type 0} (o : Order) (P : B → Type 0) (f g h : Unit {0} → B)
    → (o ≡ over → P (f tt)) → (o ≡ level → P (g tt)) → (o ≡ under → P (h tt)) → P (case_order o f g h)
order-cases over P f g h a b c = a refl
order-cases level P f g h a b c = b refl
order-cases under P f g h a b c = c refl

abbrev IsOver : Order → Type 0
IsOver over = Unit {0}
IsOver level = ⊥
IsOver under = ⊥

-- the three orders differ
pub level-over : level ≡ over → ⊥
level-over e = subst IsOver (sym e) tt

pub under-over : under ≡ over → ⊥
under-over e = subst IsOver (sym e) tt

abbrev IsUnder : Order → Type 0
IsUnder over = ⊥
IsUnder level = ⊥
IsUnder under = Unit {0}

pub level-under : level ≡ under → ⊥
level-under e = subst IsUnder (sym e) tt

-- ---- numbers
selfℕ : (a : ℕ) → cmpℕ a a ≡ level
selfℕ zero = refl
selfℕ (suc a) = selfℕ a

pub sameℕ : (a b : ℕ) → cmpℕ a b ≡ level → a ≡ b
sameℕ zero zero e = refl
sameℕ zero (suc b) e = absurd (level-under (sym e))
sameℕ (suc a) zero e = absurd (level-over (sym e))
sameℕ (suc a) (suc b) e = ap suc (sameℕ a b e)

flipℕ : (a b : ℕ) → cmpℕ a b ≡ under → cmpℕ b a ≡ over
flipℕ zero zero e = absurd (level-under e)
flipℕ zero (suc b) e = refl
flipℕ (suc a) zero e = absurd (under-over (sym e))
flipℕ (suc a) (suc b) e = flipℕ a b e

-- what the order of two numbers says, and what says it
pub over-lt : (a b : ℕ) → cmpℕ a b ≡ over → b < a
over-lt zero zero e = absurd (level-over e)
over-lt zero (suc b) e = absurd (under-over e)
over-lt (suc a) zero e = omega arith
over-lt (suc a) (suc b) e = omega (arith, over-lt a b e)

pub lt-over : (a b : ℕ) → b < a → cmpℕ a b ≡ over
lt-over zero zero h = absurd (omega arith)
lt-over zero (suc b) h = absurd (omega arith)
lt-over (suc a) zero h = refl
lt-over (suc a) (suc b) h = lt-over a b (omega arith)

pub lt-under : (a b : ℕ) → a < b → cmpℕ a b ≡ under
lt-under zero zero h = absurd (omega arith)
lt-under zero (suc b) h = refl
lt-under (suc a) zero h = absurd (omega arith)
lt-under (suc a) (suc b) h = lt-under a b (omega arith)

pub eq-level : (a b : ℕ) → a ≡ b → cmpℕ a b ≡ level
eq-level a b e = subst (λ z. cmpℕ a z ≡ level) e (selfℕ a)

-- added to both, the order stays
pub cmp-add : (d a b : ℕ) → cmpℕ (d + a) (d + b) ≡ cmpℕ a b
cmp-add zero a b = ap₂ cmpℕ (NatL.zero-add a) (NatL.zero-add b)
cmp-add (suc d) a b = ap₂ cmpℕ (NatL.suc-add d a) (NatL.suc-add d b) ∙ cmp-add d a b

transℕ : (a b c : ℕ) → cmpℕ a b ≡ over → cmpℕ b c ≡ over → cmpℕ a c ≡ over
transℕ a b c e f = lt-over a c (omega (arith, over-lt a b e, over-lt b c f))

-- numbers are ordered so
pub orderedℕ : Ordered cmpℕ
orderedℕ = record { self = selfℕ; same = sameℕ; flip = flipℕ; trans = transℕ }

-- ---- lists
first-level : (o p : Order) → first o p ≡ level → (o ≡ level) × (p ≡ level)
first-level over p e = absurd (level-over (sym e))
first-level level p e = (refl, e)
first-level under p e = absurd (level-under (sym e))

self_l : (k : List ℕ) → cmp_l k k ≡ level
self_l [] = refl
self_l (a ∷ k) = ap₂ first (selfℕ a) (self_l k)

same_l : (k l : List ℕ) → cmp_l k l ≡ level → k ≡ l
same_l [] [] e = refl
same_l [] (b ∷ l) e = absurd (level-under (sym e))
same_l (a ∷ k) [] e = absurd (level-over (sym e))
same_l (a ∷ k) (b ∷ l) e = let h = first-level (cmpℕ a b) (cmp_l k l) e in ap₂ ◌∷◌ (sameℕ a b h.0) (same_l k l h.1)

flip_l : (k l : List ℕ) → cmp_l k l ≡ under → cmp_l l k ≡ over
flip_l [] [] e = absurd (level-under e)
flip_l [] (b ∷ l) e = refl
flip_l (a ∷ k) [] e = absurd (under-over (sym e))
flip_l (a ∷ k) (b ∷ l) e = go (cmpℕ a b) refl e (flip_l k l)
  where
    go : (o : Order) → cmpℕ a b ≡ o → first o (cmp_l k l) ≡ under → (cmp_l k l ≡ under → cmp_l l k ≡ over)
        → first (cmpℕ b a) (cmp_l l k) ≡ over
    go over h e r = absurd (under-over (sym e))
    go level h e r = ap₂ first (eq-level b a (sym (sameℕ a b h))) (r e)
    go under h e r = ap (λ o. first o (cmp_l l k)) (flipℕ a b h)

trans_l : (k l m : List ℕ) → cmp_l k l ≡ over → cmp_l l m ≡ over → cmp_l k m ≡ over
trans_l [] [] m e f = absurd (level-over e)
trans_l [] (b ∷ l) m e f = absurd (under-over e)
trans_l (a ∷ k) [] [] e f = refl
trans_l (a ∷ k) [] (c ∷ m) e f = absurd (under-over f)
trans_l (a ∷ k) (b ∷ l) [] e f = refl
trans_l (a ∷ k) (b ∷ l) (c ∷ m) e f = go (cmpℕ a b) (cmpℕ b c) refl refl e f (trans_l k l m)
  where
    go : (o p : Order) → cmpℕ a b ≡ o → cmpℕ b c ≡ p → first o (cmp_l k l) ≡ over → first p (cmp_l l m) ≡ over
        → (cmp_l k l ≡ over → cmp_l l m ≡ over → cmp_l k m ≡ over) → first (cmpℕ a c) (cmp_l k m) ≡ over
    go under p g h e f r = absurd (under-over e)
    go over under g h e f r = absurd (under-over f)
    go level under g h e f r = absurd (under-over f)
    go over over g h e f r = ap (λ o. first o (cmp_l k m)) (transℕ a b c g h)
    go over level g h e f r = ap (λ o. first o (cmp_l k m)) (ap (cmpℕ a) (sym (sameℕ b c h)) ∙ g)
    go level over g h e f r = ap (λ o. first o (cmp_l k m)) (ap (λ z. cmpℕ z c) (sameℕ a b g) ∙ h)
    go level level g h e f r = ap₂ first (eq-level a c (sameℕ a b g ∙ sameℕ b c h)) (r e f)

-- lists of numbers are ordered so
pub ordered_l : Ordered cmp_l
ordered_l = record { self = self_l; same = same_l; flip = flip_l; trans = trans_l }

-- added to both, the order stays
pub cmp-sums : (d k l : List ℕ) → length k ≡ length d → length l ≡ length d → cmp_l (sums d k) (sums d l) ≡ cmp_l k l
cmp-sums [] [] [] e f = self_l []
cmp-sums [] [] (b ∷ l) e f = absurd (omega arith)
cmp-sums [] (a ∷ k) l e f = absurd (omega arith)
cmp-sums (d ∷ ds) [] l e f = absurd (omega arith)
cmp-sums (d ∷ ds) (a ∷ k) [] e f = absurd (omega arith)
cmp-sums (d ∷ ds) (a ∷ k) (b ∷ l) e f = ap₂ first (cmp-add d a b) (cmp-sums ds k l (omega arith) (omega arith))
