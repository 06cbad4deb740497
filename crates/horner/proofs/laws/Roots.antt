-- One variable: a polynomial of n coefficients that vanishes at n numbers in a row has no coefficient but 0, where the numbers 1 to n - 1
-- divide no zero. By division: F(x) = F(b) + (x - b) Q(x), and Q vanishes at the numbers after b.
use Rattle.std.specs.Prelude.{List, [], ◌∷◌, ◌≡◌, refl, ℕ, zero, suc, ◌+◌, ◌≤◌, ◌<◌, length}
use Rattle.std.proofs.Common.{sym, ◌∙◌, ap, ap₂, subst, arith}
use Rattle.std.proofs.Math.Path.{◌≡⟨◌⟩◌, ◌∎}
use Rattle.horner.specs.definitions.Rings.{Ring, nat}
use Rattle.horner.proofs.laws.Ring.{nil-add, add_left_comm, mul_left_comm, add-mul, add-cancel, mul-nil, nat-add}

module _ {A : Type 0} (R : Ring A) where
  open R use {◌⊞◌, ◌·◌, nil, add_assoc, add_comm, add-nil, mul_assoc, mul_comm, mul-add}

  -- the value of a list of coefficients, lowest first
  abbrev pub horner : List A → A → A
  horner [] x = nil
  horner (c ∷ cs) x = c ⊞ x · horner cs x

  -- the values at b of all that a list ends in: of x F(x), the quotient by x - b
  abbrev pub quotient : A → List A → List A
  quotient b [] = []
  quotient b (c ∷ cs) = (c ⊞ b · horner cs b) ∷ quotient b cs

  abbrev pub AllNil : List A → Type 0
  AllNil [] = Unit {0}
  AllNil (c ∷ cs) = (c ≡ nil) × AllNil cs

  -- each of 1 .. K divides no zero
  abbrev pub Regular : ℕ → Type 0
  Regular K = (k : ℕ) → 1 ≤ k → k ≤ K → (r : A) → nat R k · r ≡ nil → r ≡ nil

  divide-step : (b m c g s : A)
      → (b ⊞ m) · (c ⊞ (b · g ⊞ m · s)) ≡ b · (c ⊞ b · g) ⊞ m · (c ⊞ b · g ⊞ (b ⊞ m) · s)
  divide-step b m c g s = simp (mul-add, add-mul R, mul_left_comm R, add_assoc, add_left_comm R)

  -- x F(x) = b F(b) + (x - b) Q(x), at x = b + m
  divide : (b m : A) (cs : List A)
      → (b ⊞ m) · horner cs (b ⊞ m) ≡ b · horner cs b ⊞ m · horner (quotient b cs) (b ⊞ m)
  divide b m [] = simp (mul-nil R, add-nil)
  divide b m (c ∷ cs) =
      ap (λ z. (b ⊞ m) · (c ⊞ z)) (divide b m cs) ∙ divide-step b m c (horner cs b) (horner (quotient b cs) (b ⊞ m))

  length-quotient : (b : A) (cs : List A) → length (quotient b cs) ≡ length cs
  length-quotient b [] = refl
  length-quotient b (c ∷ cs) = ap suc (length-quotient b cs)

  horner-nil : (cs : List A) (x : A) → AllNil cs → horner cs x ≡ nil
  horner-nil [] x h = refl
  horner-nil (c ∷ cs) x h = ap₂ (λ z w. z ⊞ x · w) h.0 (horner-nil cs x h.1) ∙ nil-add R (x · nil) ∙ mul-nil R x

  -- a first coefficient is 0 where the rest and the value are
  first-nil : (c : A) (cs : List A) (b : A) → AllNil cs → c ⊞ b · horner cs b ≡ nil → c ≡ nil
  first-nil c cs b h e = sym (add-nil c) ∙ ap (◌⊞◌ c) (sym (ap (◌·◌ b) (horner-nil cs b h) ∙ mul-nil R b)) ∙ e

  quotient-nil : (b : A) (cs : List A) → AllNil (quotient b cs) → AllNil cs
  quotient-nil b [] h = tt
  quotient-nil b (c ∷ cs) h = let t : AllNil cs = quotient-nil b cs h.1 in (first-nil c cs b t h.0, t)

  moved : (cs : List A) (m n : ℕ) → m ≡ n → horner cs (nat R m) ≡ nil → horner cs (nat R n) ≡ nil
  moved cs m n e h = subst (λ z. horner cs (nat R z) ≡ nil) e h

  module _ (K : ℕ) (regular : Regular K) where
    -- the quotient vanishes where c + x F(x) does, at b and at b + k
    quotient-root : (c : A) (cs : List A) (b k : ℕ) → 1 ≤ k → k ≤ K
        → c ⊞ nat R b · horner cs (nat R b) ≡ nil → c ⊞ nat R (b + k) · horner cs (nat R (b + k)) ≡ nil
        → horner (quotient (nat R b) cs) (nat R (b + k)) ≡ nil
    quotient-root c cs b k lo hi e f = regular k lo hi Q (add-cancel R (B · H) (nat R k · Q) nil cancelled)
      where
        B : A
        B = nat R b

        X : A
        X = nat R (b + k)

        H : A
        H = horner cs B

        Q : A
        Q = horner (quotient B cs) X

        split : X · horner cs X ≡ B · H ⊞ nat R k · Q
        split = rw (nat-add R b k) (divide B (nat R k) cs)

        cancelled : B · H ⊞ nat R k · Q ≡ B · H ⊞ nil
        cancelled =
            B · H ⊞ nat R k · Q ≡⟨ sym split ⟩
            X · horner cs X ≡⟨ add-cancel R c (X · horner cs X) (B · H) (f ∙ sym e) ⟩
            B · H ≡⟨ sym (add-nil (B · H)) ⟩
            B · H ⊞ nil ∎

    pub roots : (n : ℕ) (cs : List A) → length cs ≡ n → n ≤ suc K → (b : ℕ) → ((k : ℕ) → k < n → horner cs (nat R (b + k)) ≡ nil)
        → AllNil cs
    roots zero [] e h b v = tt
    roots zero (c ∷ cs) e h b v = absurd (omega arith)
    roots (suc n) [] e h b v = tt
    roots (suc n) (c ∷ cs) e h b v =
        let at_b : c ⊞ nat R b · horner cs (nat R b) ≡ nil = moved (c ∷ cs) (b + 0) b (omega arith) (v 0 (omega arith)) in
        let q : AllNil (quotient (nat R b) cs) =
        roots n (quotient (nat R b) cs) (length-quotient (nat R b) cs ∙ omega arith) (omega arith) (suc b)
        (λ k g. moved (quotient (nat R b) cs) (b + suc k) (suc b + k) (omega arith)
        (quotient-root c cs b (suc k) (omega arith) (omega arith) at_b (v (suc k) (omega arith)))) in
        let t : AllNil cs = quotient-nil (nat R b) cs q in
        (first-nil c cs (nat R b) t at_b, t)
