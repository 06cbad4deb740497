-- The first point, in the row's order, at which a form that is not 0 has a value that is not 0: theorem G with its point, and that no
-- earlier point serves.
use Rattle.std.specs.Prelude.{Bool, true, false, List, [], ◌∷◌, ◌⊎◌, ◌≡◌, refl, ℕ, zero, suc, ◌+◌, ◌-◌, ◌≤◌, ◌<◌, length}
use Rattle.std.proofs.Common.{true≢false, inl, inr, sym, ◌∙◌, ap, subst, arith}
use Rattle.std.proofs.Math.Path.{◌≡⟨◌⟩◌, ◌∎}
use Rattle.std.proofs.Math.Nat as NatL
use Rattle.horner.specs.definitions.Form.{Form, int, pop, pow, is_zero, sum, scale, Normal, nats}
use Rattle.horner.specs.laws.Degree.{Bounded}
use Rattle.horner.specs.definitions.Measures.{AllLe}
use Rattle.horner.specs.definitions.Points.{InBox, Before}
use Rattle.horner.specs.definitions.Rings.{Ring, power, nat}
use Rattle.horner.proofs.laws.Bounds.{bounded-sum, bounded-scale}
use Rattle.horner.proofs.laws.Grid.{bounded-lower, number-zero, Vanishes, grid}
use Rattle.horner.proofs.laws.Normal.{normal-lower, normal-sum, normal-scale}
use Rattle.horner.proofs.laws.Roots.{Regular}
use Rattle.horner.proofs.laws.Product.{val-scale}
use Rattle.horner.proofs.laws.Value.{val-lower, is_zero-val, val-sum, val}
use Rattle.horner.specs.laws.First.{least, at_first, first_point}
use Rattle.horner.specs.laws.First.{Least}

-- a test that passes at a and from a + 1 on passes from a on
pass-from : (t : ℕ → Bool) (a e : ℕ) → t a ≡ true → ((b : ℕ) → suc a ≤ b → b < e → t b ≡ true)
    → (b : ℕ) → a ≤ b → b < e → t b ≡ true
pass-from t a e h g b lo hi = by-case (NatL.eq-or-lt_of_le lo)
  where
    by-case : (a ≡ b) ⊎ (a < b) → t b ≡ true
    by-case (inl p) = subst (λ z. t z ≡ true) p h
    by-case (inr p) = g b p hi

abbrev Found : (ℕ → Bool) → ℕ → ℕ → ℕ → Type 0
Found t a e r = ((b : ℕ) → a ≤ b → b < e → t b ≡ true) ⊎ Least t a e r

least-is : (f : ℕ) (t : ℕ → Bool) (a : ℕ) → Found t a (a + f) (least f t a)
least-is zero t a = inl (λ b lo hi. absurd (omega arith))
least-is (suc f) t a = at (t a) refl (least-is f t (suc a))
  where
    at : (c : Bool) → t a ≡ c → Found t (suc a) (suc a + f) (least f t (suc a))
        → Found t a (a + suc f) (elim c [ true ↦ least f t (suc a) | false ↦ a ])
    at true e (inl all) = inl (pass-from t a (a + suc f) e (λ b lo hi. all b lo (omega arith)))
    at true e (inr r) =
        let before = pass-from t a (least f t (suc a)) e r.before in
        inr (record { low = omega (arith, r.low); high = omega (arith, r.high); fails = r.fails; before = before })
    at false e r = inr (record { low = omega arith; high = omega arith; fails = e; before = λ b lo hi. absurd (omega arith) })

-- ---- a number put for the first variable
module _ {A : Type 0} (R : Ring A) where
  open R use {◌⊞◌, ◌·◌, nil}

  pub val-at_first : (n : ℕ) (x : Form A) → Normal R n x → (a : A) (N : List A) → val R (at_first R x a) N ≡ val R x (a ∷ N)
  val-at_first n (int c) h a N = refl
  val-at_first n (pop zero p) h a N = absurd (omega (arith, h.0))
  val-at_first n (pop (suc i) p) h a N = val-lower R i p N
  val-at_first n (pow i p q) h a N =
      let u = power R a i in
      let p' = at_first R p a in
      let Q = val R q N in
      val R (sum R (scale R u p') q) N ≡⟨ val-sum R (scale R u p') q N ⟩
      val R (scale R u p') N ⊞ Q ≡⟨ ap (λ z. z ⊞ Q) (val-scale R u p' N) ⟩
      u · val R p' N ⊞ Q ≡⟨ ap (λ z. u · z ⊞ Q) (val-at_first n p h.2 a N) ⟩
      u · val R p (a ∷ N) ⊞ Q ∎

  pub normal-at_first : (n : ℕ) (x : Form A) → Normal R n x → (a : A) → Normal R (n - 1) (at_first R x a)
  normal-at_first n (int c) h a = tt
  normal-at_first n (pop zero p) h a = absurd (omega (arith, h.0))
  normal-at_first n (pop (suc i) p) h a = normal-lower R n i p h.1 h.2
  normal-at_first n (pow i p q) h a =
      let u = power R a i in
      let p' = at_first R p a in
      normal-sum R (n - 1) (scale R u p') q (normal-scale R (n - 1) u p' (normal-at_first n p h.2 a)) h.4

  pub bounded-at_first : (n d : ℕ) (ds : List ℕ) (x : Form A) → Normal R n x → Bounded (d ∷ ds) x → (a : A) → Bounded ds (at_first R x a)
  bounded-at_first n d ds (int c) h b a = tt
  bounded-at_first n d ds (pop zero p) h b a = absurd (omega (arith, h.0))
  bounded-at_first n d ds (pop (suc i) p) h b a = bounded-lower R i p ds b
  bounded-at_first n d ds (pow i p q) h b a =
      let u = power R a i in
      let p' = at_first R p a in
      bounded-sum R ds (scale R u p') q (bounded-scale R ds u p' (bounded-at_first n (d - i) ds p h.2 b.1 a)) b.2

  -- ---- the first point: in each variable the least number that leaves a form that is not 0
  -- N is the first point at which x is not 0, and lies within ds
  pub record IsFirst (ds : List ℕ) (x : Form A) (N : List ℕ) : Type 0 where
    pub inside : InBox ds N
    pub counts : val R x (nats R N) ≡ nil → ⊥
    pub earlier : (M : List ℕ) → Before M N → length M ≡ length ds → val R x (nats R M) ≡ nil

  module _ (K : ℕ) (regular : Regular R K) where
    -- one variable: r is what the search found
    first_step : (d : ℕ) (ds : List ℕ) → AllLe K (d ∷ ds) → (x : Form A) → Normal R (suc (length ds)) x → Bounded (d ∷ ds) x
        → is_zero R x ≡ false → (r : ℕ) → Found (λ b. is_zero R (at_first R x (nat R b))) 0 (0 + suc d) r
        → ((a : ℕ) → let y = at_first R x (nat R a) in is_zero R y ≡ false → IsFirst ds y (first_point R ds y))
        → IsFirst (d ∷ ds) x (r ∷ first_point R ds (at_first R x (nat R r)))
    first_step d ds le x hx bx nz r found ih = at found
      where
        -- at a number that leaves the form 0, every point has the value 0
        nothing : (b : ℕ) (M : List ℕ) → is_zero R (at_first R x (nat R b)) ≡ true → val R x (nats R (b ∷ M)) ≡ nil
        nothing b M z =
            val R x (nat R b ∷ nats R M) ≡⟨ sym (val-at_first (suc (length ds)) x hx (nat R b) (nats R M)) ⟩
            val R (at_first R x (nat R b)) (nats R M) ≡⟨ is_zero-val R (at_first R x (nat R b)) z (nats R M) ⟩
            nil ∎

        at : Found (λ b. is_zero R (at_first R x (nat R b))) 0 (0 + suc d) r
            → IsFirst (d ∷ ds) x (r ∷ first_point R ds (at_first R x (nat R r)))
        at (inl all) = absurd (true≢false (sym (grid R K regular (d ∷ ds) le x hx bx vanish) ∙ nz))
          where
            vanish : Vanishes R (d ∷ ds) x
            vanish [] m = absurd m
            vanish (b ∷ M) m = nothing b M (all b (omega arith) (omega (arith, m.0)))
        at (inr l) =
            record {
              inside = (omega (arith, l.high), rest.inside);
              counts = λ e. rest.counts (val-at_first (suc (length ds)) x hx (nat R r) (nats R (first_point R ds y)) ∙ e);
              earlier = earlier;
            }
          where
            y : Form A
            y = at_first R x (nat R r)

            rest : IsFirst ds y (first_point R ds y)
            rest = ih r l.fails

            earlier : (M : List ℕ) → Before M (r ∷ first_point R ds y) → length M ≡ suc (length ds) → val R x (nats R M) ≡ nil
            earlier [] b n = absurd b
            earlier (b ∷ M) (inl lt) n = nothing b M (l.before b (omega arith) lt)
            earlier (b ∷ M) (inr e) n =
                val R x (nat R b ∷ nats R M) ≡⟨ ap (λ z. val R x (nat R z ∷ nats R M)) e.0 ⟩
                val R x (nat R r ∷ nats R M) ≡⟨ sym (val-at_first (suc (length ds)) x hx (nat R r) (nats R M)) ⟩
                val R y (nats R M) ≡⟨ rest.earlier M e.1 (omega arith) ⟩
                nil ∎

    pub first-is : (ds : List ℕ) → AllLe K ds → (x : Form A) → Normal R (length ds) x → Bounded ds x
        → is_zero R x ≡ false → IsFirst ds x (first_point R ds x)
    first-is [] le x hx bx nz =
        record { inside = tt; counts = λ e. true≢false (sym (number-zero R x hx e) ∙ nz); earlier = λ M b l. none M b }
      where
        none : (M : List ℕ) → Before M [] → val R x (nats R M) ≡ nil
        none [] b = absurd b
        none (a ∷ M) b = absurd b
    first-is (d ∷ ds) le x hx bx nz =
        let n = suc (length ds) in
        let test : ℕ → Bool = λ b. is_zero R (at_first R x (nat R b)) in
        first_step d ds le x hx bx nz (least (suc d) test 0) (least-is (suc d) test 0)
        (λ a z. let y = at_first R x (nat R a) in
        let hy : Normal R (length ds) y = subst (λ m. Normal R m y) one_less (normal-at_first n x hx (nat R a)) in
        first-is ds le.1 y hy (bounded-at_first n d ds x hx bx (nat R a)) z)
      where
        one_less : suc (length ds) - 1 ≡ length ds
        one_less = omega arith
