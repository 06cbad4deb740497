-- Over a ring with no divisors of zero, such as the integers, a product of forms that are not 0 is not 0; so Definition 11 (4) may make
-- its POW without pow.
use Rattle.std.specs.Prelude.{Bool, true, false, cond, List, [], ◌∷◌, map, ◌⊎◌, ◌≡◌, refl, ℕ, zero, suc, ◌+◌, ◌-◌, ◌≤◌, ◌<◌, ◌*◌, ℤ, pos, negsuc, neg_ℤ, ◌*ℤ◌, nat_abs, length}
use Rattle.std.proofs.Common.{true≢false, inl, inr, sym, ◌∙◌, ap, ap₂, subst, arith}
use Rattle.std.proofs.Math.Path.{◌≡⟨◌⟩◌, ◌∎}
use Rattle.horner.specs.definitions.Measures.{coefs}
use Rattle.horner.specs.definitions.Form.{Form, int, pop, pow, mkpop, lower, is_zero, mkpow, scale, prod, Lead, Normal, nats}
use Rattle.horner.specs.definitions.Rings.{is_zero_ℤ, ℤ_ring, Ring, nat}
use Rattle.horner.proofs.laws.Canonical.{pos-mul-nil, ℤ-regular}
use Rattle.horner.proofs.laws.Compare.{cmp-cases}
use Rattle.horner.proofs.laws.Equations.{prod-pop-int, prod-pop-pop, prod-pop-pow}
use Rattle.horner.proofs.laws.Grid.{vals, val-coefs, normal-coefs, zero-coefs}
use Rattle.horner.specs.laws.Grid.{All}
use Rattle.horner.proofs.laws.Normal.{normal-lower, lead-not-zero, lower-not-zero}
use Rattle.horner.proofs.laws.Ring.{nil-add, add_left_comm, mul_left_comm, add-mul, mul-nil, nil-mul}
use Rattle.horner.proofs.laws.Roots.{horner, Regular, roots}
use Rattle.horner.proofs.laws.Tests.{cond_cases}
use Rattle.horner.proofs.laws.Product.{val-prod}
use Rattle.horner.proofs.laws.Value.{is_zero-val, Zero, val}

module _ {A : Type 0} (R : Ring A) where
  open R use {◌⊞◌, ◌·◌, nil, is_nil, add_assoc, add_comm, add-nil, mul_assoc, mul_comm, mul-add}

  -- ---- products of coefficient lists
  abbrev add_l : List A → List A → List A
  add_l [] ys = ys
  add_l (x ∷ xs) [] = x ∷ xs
  add_l (x ∷ xs) (y ∷ ys) = (x ⊞ y) ∷ add_l xs ys

  abbrev mul_l : List A → List A → List A
  mul_l [] gs = []
  mul_l (f ∷ fs) gs = add_l (map (◌·◌ f) gs) (nil ∷ mul_l fs gs)

  sum_step : (x y t a b : A) → x ⊞ y ⊞ t · (a ⊞ b) ≡ x ⊞ t · a ⊞ (y ⊞ t · b)
  sum_step x y t a b = simp (mul-add, add_assoc, add_left_comm R)

  horner-add_l : (xs ys : List A) (t : A) → horner R (add_l xs ys) t ≡ horner R xs t ⊞ horner R ys t
  horner-add_l [] ys t = sym (nil-add R (horner R ys t))
  horner-add_l (x ∷ xs) [] t = sym (add-nil (x ⊞ t · horner R xs t))
  horner-add_l (x ∷ xs) (y ∷ ys) t =
      let X = horner R xs t in
      let Y = horner R ys t in
      x ⊞ y ⊞ t · horner R (add_l xs ys) t ≡⟨ ap (λ z. x ⊞ y ⊞ t · z) (horner-add_l xs ys t) ⟩
      x ⊞ y ⊞ t · (X ⊞ Y) ≡⟨ sum_step x y t X Y ⟩
      x ⊞ t · X ⊞ (y ⊞ t · Y) ∎

  horner-scale : (f : A) (gs : List A) (t : A) → horner R (map (◌·◌ f) gs) t ≡ f · horner R gs t
  horner-scale f [] t = sym (mul-nil R f)
  horner-scale f (g ∷ gs) t =
      let G = horner R gs t in
      f · g ⊞ t · horner R (map (◌·◌ f) gs) t ≡⟨ ap (λ z. f · g ⊞ t · z) (horner-scale f gs t) ⟩
      f · g ⊞ t · (f · G) ≡⟨ ap (◌⊞◌ (f · g)) (mul_left_comm R t f G) ⟩
      f · g ⊞ f · (t · G) ≡⟨ sym (mul-add f g (t · G)) ⟩
      f · (g ⊞ t · G) ∎

  horner-mul_l : (fs gs : List A) (t : A) → horner R (mul_l fs gs) t ≡ horner R fs t · horner R gs t
  horner-mul_l [] gs t = sym (nil-mul R (horner R gs t))
  horner-mul_l (f ∷ fs) gs t =
      let F = horner R fs t in
      let G = horner R gs t in
      let H = horner R (mul_l fs gs) t in
      horner R (mul_l (f ∷ fs) gs) t ≡⟨ horner-add_l (map (◌·◌ f) gs) (nil ∷ mul_l fs gs) t ⟩
      horner R (map (◌·◌ f) gs) t ⊞ (nil ⊞ t · H) ≡⟨ ap₂ ◌⊞◌ (horner-scale f gs t) (nil-add R (t · H)) ⟩
      f · G ⊞ t · H ≡⟨ ap (λ z. f · G ⊞ t · z) (horner-mul_l fs gs t) ⟩
      f · G ⊞ t · (F · G) ≡⟨ ap (◌⊞◌ (f · G)) (sym (mul_assoc t F G)) ⟩
      f · G ⊞ t · F · G ≡⟨ sym (add-mul R f (t · F) G) ⟩
      (f ⊞ t · F) · G ∎

  -- ---- a product of forms that vanishes everywhere
  -- no divisors of zero, by the zero test
  abbrev pub Domain : Type 0
  Domain = (a b : A) → a · b ≡ nil → (is_nil a ≡ true) ⊎ (is_nil b ≡ true)

  abbrev Never : Form A → Form A → Type 0
  Never x y = (N : List ℕ) → val R x (nats R N) · val R y (nats R N) ≡ nil

  -- the same of two lists of coefficients, at the numbers from 1 up for the first variable
  abbrev NeverL : List (Form A) → List (Form A) → Type 0
  NeverL ps qs = (N : List ℕ) (k : ℕ) → 1 ≤ k
      → horner R (vals R ps (nats R N)) (nat R k) · horner R (vals R qs (nats R N)) (nat R k) ≡ nil

  module _ (domain : Domain) (regular : (K : ℕ) → Regular R K) where
    -- a first coefficient 0 goes
    first_out : (p : Form A) (ps qs : List (Form A)) → Zero R p → NeverL (p ∷ ps) qs → NeverL ps qs
    first_out p ps qs z h N k lo =
        let M = nats R N in
        let a = nat R k in
        let P = horner R (vals R ps M) a in
        let Q = horner R (vals R qs M) a in
        let vanish : a · (P · Q) ≡ nil =
        a · (P · Q) ≡⟨ sym (mul_assoc a P Q) ⟩
        a · P · Q ≡⟨ ap (λ w. w · Q) (sym (nil-add R (a · P))) ⟩
        (nil ⊞ a · P) · Q ≡⟨ ap (λ w. (w ⊞ a · P) · Q) (sym (is_zero-val R p z M)) ⟩
        (val R p M ⊞ a · P) · Q ≡⟨ h N k lo ⟩
        nil ∎ in
        regular k k lo (omega arith) (P · Q) vanish

    swap : (ps qs : List (Form A)) → NeverL ps qs → NeverL qs ps
    swap ps qs h N k lo = mul_comm _ _ ∙ h N k lo

    -- the first coefficients' product vanishes everywhere
    heads : (p : Form A) (ps : List (Form A)) (q : Form A) (qs : List (Form A)) → NeverL (p ∷ ps) (q ∷ qs) → Never p q
    heads p ps q qs h N =
        val R p M · val R q M ≡⟨ sym (add-nil (val R p M · val R q M)) ⟩
        val R p M · val R q M ⊞ nil ≡⟨ (roots R (length cs) (regular (length cs)) (length cs) cs refl (omega arith) 1 root).0 ⟩
        nil ∎
      where
        M : List A
        M = nats R N

        cs : List A
        cs = mul_l (vals R (p ∷ ps) M) (vals R (q ∷ qs) M)

        root : (k : ℕ) → k < length cs → horner R cs (nat R (1 + k)) ≡ nil
        root k g = horner-mul_l (vals R (p ∷ ps) M) (vals R (q ∷ qs) M) (nat R (1 + k)) ∙ h N (1 + k) (omega arith)

    abbrev One : ℕ → Type 0
    One n = (p q : Form A) → Normal R n p → Normal R n q → Never p q → Zero R p ⊎ Zero R q

    lists : (n : ℕ) → One n → (ps qs : List (Form A)) → All (Normal R n) ps → All (Normal R n) qs → NeverL ps qs
        → All (Zero R) ps ⊎ All (Zero R) qs
    lists n D [] qs hp hq h = inl tt
    lists n D (p ∷ ps) [] hp hq h = inr tt
    lists n D (p ∷ ps) (q ∷ qs) hp hq h =
        at (is_zero R p) refl (is_zero R q) refl
        (λ z. lists n D ps (q ∷ qs) hp.1 hq (first_out p ps (q ∷ qs) z h))
        (λ z. lists n D (p ∷ ps) qs hp hq.1 (swap qs (p ∷ ps) (first_out q qs (p ∷ ps) z (swap (p ∷ ps) (q ∷ qs) h))))
      where
        at : (a : Bool) → is_zero R p ≡ a → (b : Bool) → is_zero R q ≡ b
            → (Zero R p → All (Zero R) ps ⊎ All (Zero R) (q ∷ qs)) → (Zero R q → All (Zero R) (p ∷ ps) ⊎ All (Zero R) qs)
            → All (Zero R) (p ∷ ps) ⊎ All (Zero R) (q ∷ qs)
        at true e b f l r = left (l e)
          where
            left : All (Zero R) ps ⊎ All (Zero R) (q ∷ qs) → All (Zero R) (p ∷ ps) ⊎ All (Zero R) (q ∷ qs)
            left (inl z) = inl (e, z)
            left (inr z) = inr z
        at false e true f l r = right (r f)
          where
            right : All (Zero R) (p ∷ ps) ⊎ All (Zero R) qs → All (Zero R) (p ∷ ps) ⊎ All (Zero R) (q ∷ qs)
            right (inl z) = inl z
            right (inr z) = inr (f, z)
        at false e false f l r = neither (D p q hp.0 hq.0 (heads p ps q qs h))
          where
            neither : Zero R p ⊎ Zero R q → All (Zero R) (p ∷ ps) ⊎ All (Zero R) (q ∷ qs)
            neither (inl z) = absurd (true≢false (sym z ∙ e))
            neither (inr z) = absurd (true≢false (sym z ∙ f))

    numbers : (p q : Form A) → Normal R 0 p → Normal R 0 q → Never p q → Zero R p ⊎ Zero R q
    numbers (int a) (int b) hp hq h = domain a b (h [])
    numbers (int a) (pop i (int c)) hp hq h = absurd hq.1
    numbers (int a) (pop i (pop j p)) hp hq h = absurd hq.1
    numbers (int a) (pop i (pow j p q)) hp hq h = absurd (omega (arith, hq.2.1))
    numbers (int a) (pow j p q) hp hq h = absurd (omega (arith, hq.1))
    numbers (pop i (int c)) y hp hq h = absurd hp.1
    numbers (pop i (pop j p)) y hp hq h = absurd hp.1
    numbers (pop i (pow j p q)) y hp hq h = absurd (omega (arith, hp.2.1))
    numbers (pow j p q) y hp hq h = absurd (omega (arith, hp.1))

    pub never-zero : (n : ℕ) → One n
    never-zero zero p q hp hq h = numbers p q hp hq h
    never-zero (suc n) p q hp hq h =
        both (lists n (never-zero n) (coefs R p) (coefs R q) (down p hp) (down q hq)
        (λ N k lo. ap₂ ◌·◌ (sym (val-coefs R (suc n) p hp (nat R k ∷ nats R N))) (sym (val-coefs R (suc n) q hq (nat R k ∷ nats R N)))
        ∙ h (k ∷ N)))
      where
        one_less : suc n - 1 ≡ n
        one_less = omega arith

        down : (x : Form A) → Normal R (suc n) x → All (Normal R n) (coefs R x)
        down x hx = subst (λ z. All (Normal R z) (coefs R x)) one_less (normal-coefs R (suc n) x hx)

        both : All (Zero R) (coefs R p) ⊎ All (Zero R) (coefs R q) → Zero R p ⊎ Zero R q
        both (inl z) = inl (zero-coefs R (suc n) p hp z)
        both (inr z) = inr (zero-coefs R (suc n) q hq z)

    -- a product of normal forms is 0 only where a factor is
    pub prod-zero : (n : ℕ) (x y : Form A) → Normal R n x → Normal R n y → Zero R (prod R x y) → Zero R x ⊎ Zero R y
    prod-zero n x y hx hy z = never-zero n x y hx hy (λ N. sym (val-prod R x y (nats R N)) ∙ is_zero-val R (prod R x y) z (nats R N))

    pub prod-not-zero : (n : ℕ) (x y : Form A) → Normal R n x → Normal R n y → is_zero R x ≡ false → is_zero R y ≡ false
        → is_zero R (prod R x y) ≡ false
    prod-not-zero n x y hx hy ex ey = at (is_zero R (prod R x y)) refl
      where
        clash : Zero R x ⊎ Zero R y → ⊥
        clash (inl z) = true≢false (sym z ∙ ex)
        clash (inr z) = true≢false (sym z ∙ ey)

        at : (b : Bool) → is_zero R (prod R x y) ≡ b → b ≡ false
        at false e = refl
        at true e = absurd (clash (prod-zero n x y hx hy e))

    -- ---- Definition 11 (4)
    -- pow changes nothing at a p that leads
    mkpow-lead : (i : ℕ) (p q : Form A) → Lead R p → mkpow R i p q ≡ pow i p q
    mkpow-lead i (int c) q h = ap (λ b. cond b (mkpop 1 q) (pow i (int c) q)) h
    mkpow-lead i (pop j p) q h = refl
    mkpow-lead i (pow j r s) q h = ap (λ b. cond b (pow (i + j) r q) (pow i (pow j r s) q)) h

    lead-mkpow : (i : ℕ) (p q : Form A) → is_zero R p ≡ false → is_zero R q ≡ false → Lead R (mkpow R i p q)
    lead-mkpow i (int c) q hp hq = cond_cases (is_nil c) (Lead R) _ _ (λ e. absurd (true≢false (sym e ∙ hp))) (λ e. hq)
    lead-mkpow i (pop j p) q hp hq = hq
    lead-mkpow i (pow j r s) q hp hq = cond_cases (is_zero R s) (Lead R) _ _ (λ e. hq) (λ e. hq)

    lead-of-mkpop : (i : ℕ) (z : Form A) → is_zero R (mkpop (suc i) z) ≡ false → Lead R (mkpop (suc i) z)
    lead-of-mkpop i (int c) h = h
    lead-of-mkpop i (pop j p) h = tt
    lead-of-mkpop i (pow j p q) h = tt

    lead-prod : (n i : ℕ) (p q : Form A) → Normal R n (pop (suc i) p) → Normal R n q → Lead R q → Lead R (prod R (pop (suc i) p) q)
    lead-prod n i p (int c) hx hq l =
        subst (Lead R) (sym (prod-pop-int R (suc i) p c))
        (lead-of-mkpop i (scale R c p)
        (ap (is_zero R) (sym (prod-pop-int R (suc i) p c)) ∙ prod-not-zero n (pop (suc i) p) (int c) hx hq refl l))
    lead-prod n i p (pop zero q) hx hq l = absurd (omega (arith, hq.0))
    lead-prod n i p (pop (suc j) q) hx hq l =
        subst (Lead R) (sym (prod-pop-pop R (suc i) (suc j) p q))
        (cmp-cases (suc i) (suc j) (λ z. is_zero R z ≡ false → Lead R z) _ _ _
        (λ e. lead-of-mkpop i (prod R p q)) (λ d e. lead-of-mkpop j (prod R (pop (suc d) p) q))
        (λ d e. lead-of-mkpop i (prod R (pop (suc d) q) p))
        (ap (is_zero R) (sym (prod-pop-pop R (suc i) (suc j) p q)) ∙ prod-not-zero n (pop (suc i) p) (pop (suc j) q) hx hq refl refl))
    lead-prod n i p (pow j r s) hx hq l =
        subst (Lead R) (sym (prod-pop-pow R i j p r s))
        (lead-mkpow j (prod R (pop (suc i) p) r) (prod R (lower i p) s)
        (prod-not-zero n (pop (suc i) p) r hx hq.2 refl (lead-not-zero R r hq.3))
        (prod-not-zero (n - 1) (lower i p) s (normal-lower R n i p hx.1 hx.2) hq.4 (lower-not-zero R i p hx.1) l))

    -- (4) as the paper has it: (a) at i = 0 here, `lower 0 p` being p, (b) above
    pub prod-4 : (n i j : ℕ) (p q r : Form A) → Normal R n (pop (suc i) p) → Normal R n (pow j q r)
        → prod R (pop (suc i) p) (pow j q r) ≡ pow j (prod R (pop (suc i) p) q) (prod R (lower i p) r)
    prod-4 n i j p q r hx hy =
        prod-pop-pow R i j p q r ∙ mkpow-lead j (prod R (pop (suc i) p) q) (prod R (lower i p) r) (lead-prod n i p q hx hy.2 hy.3)

-- ---- the integers have no divisors of zero
pub ℤ-domain : Domain ℤ_ring
ℤ-domain (pos zero) b h = inl refl
ℤ-domain (pos (suc k)) b h = inr (ap is_zero_ℤ (pos-mul-nil (suc k) b (omega arith) h))
ℤ-domain (negsuc k) b h = inr (ap is_zero_ℤ (pos-mul-nil (suc k) b (omega arith) (turned b h)))
  where
    turned : (b : ℤ) → negsuc k *ℤ b ≡ pos 0 → pos (suc k) *ℤ b ≡ pos 0
    turned (pos n) e = ap pos (to_pos (suc k * n) (ap nat_abs e))
      where
        to_pos : (m : ℕ) → nat_abs (neg_ℤ (pos m)) ≡ 0 → m ≡ 0
        to_pos zero e = refl
        to_pos (suc m) e = e
    turned (negsuc n) e = ap neg_ℤ e

pub prod-4-ℤ : (n i j : ℕ) (p q r : Form ℤ) → Normal ℤ_ring n (pop (suc i) p) → Normal ℤ_ring n (pow j q r)
    → prod ℤ_ring (pop (suc i) p) (pow j q r) ≡ pow j (prod ℤ_ring (pop (suc i) p) q) (prod ℤ_ring (lower i p) r)
prod-4-ℤ = prod-4 ℤ_ring ℤ-domain ℤ-regular
