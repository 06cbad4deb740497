-- Theorem G: a normal form whose value is 0 at every point of a box of natural numbers, each side as long as the degree in that variable,
-- is the form 0; over a ring in which the numbers up to the degrees divide no zero.
use Rattle.std.proofs.Common.{true≢false, sym, ◌∙◌, ap, subst, arith}
use Rattle.std.specs.Prelude.{List, [], ◌∷◌, map, ◌≡◌, ℕ, zero, suc, ◌+◌, ◌-◌, ◌≤◌, ◌<◌, length}
use Rattle.std.proofs.Math.Path.{◌≡⟨◌⟩◌, ◌∎}
use Rattle.std.proofs.lemmas.List.{length-map}
use Rattle.horner.specs.definitions.Measures.{shift, coefs, AllLe}
use Rattle.horner.specs.definitions.Form.{Form, int, pop, pow, lower, zero_form, Normal, tl, after, hd, nats}
use Rattle.horner.specs.laws.Degree.{Bounded}
use Rattle.horner.specs.definitions.Points.{InBox}
use Rattle.horner.specs.definitions.Rings.{Ring, power, nat}
use Rattle.horner.proofs.laws.Normal.{normal-lower, lead-not-zero, lower-not-zero}
use Rattle.horner.proofs.laws.Ring.{nil-add, unit-mul, mul-nil}
use Rattle.horner.proofs.laws.Roots.{horner, AllNil, Regular, roots}
use Rattle.horner.proofs.laws.Value.{val-lower, Zero, val}
use Rattle.horner.specs.laws.Grid.{All}

module _ {A : Type 0} (R : Ring A) where
  open R use {◌⊞◌, ◌·◌, nil, is_nil, add_comm, add-nil, mul_assoc, is_nil-nil}

  -- ---- the coefficients in the first variable, lowest first: forms in the others

  abbrev pub vals : List (Form A) → List A → List A
  vals ps N = map (λ p. val R p N) ps

  horner-shift : (i : ℕ) (ps : List (Form A)) (N : List A) (x : A)
      → horner R (vals (shift R i ps) N) x ≡ power R x i · horner R (vals ps N) x
  horner-shift zero ps N x = sym (unit-mul R (horner R (vals ps N) x))
  horner-shift (suc i) ps N x =
      let u = power R x i in
      let H = horner R (vals ps N) x in
      let S = horner R (vals (shift R i ps) N) x in
      nil ⊞ x · S ≡⟨ nil-add R (x · S) ⟩
      x · S ≡⟨ ap (◌·◌ x) (horner-shift i ps N x) ⟩
      x · (u · H) ≡⟨ sym (mul_assoc x u H) ⟩
      x · u · H ∎

  -- a single coefficient
  horner-one : (c x : A) → c ≡ c ⊞ x · nil
  horner-one c x =
      c ≡⟨ sym (add-nil c) ⟩
      c ⊞ nil ≡⟨ ap (◌⊞◌ c) (sym (mul-nil R x)) ⟩
      c ⊞ x · nil ∎

  pub val-coefs : (n : ℕ) (x : Form A) → Normal R n x → (N : List A) → val R x N ≡ horner R (vals (coefs R x) (tl N)) (hd R N)
  val-coefs n (int c) h N = horner-one c (hd R N)
  val-coefs n (pop zero p) h N = absurd (omega (arith, h.0))
  val-coefs n (pop (suc i) p) h N =
      let P = val R (lower i p) (tl N) in
      val R (pop (suc i) p) N ≡⟨ sym (val-lower R i p (tl N)) ⟩
      P ≡⟨ horner-one P (hd R N) ⟩
      P ⊞ hd R N · nil ∎
  val-coefs n (pow zero p q) h N = absurd (omega (arith, h.0))
  val-coefs n (pow (suc i) p q) h N =
      let a = hd R N in
      let u = power R a i in
      let P = val R p N in
      let Q = val R q (tl N) in
      let ps = coefs R p in
      a · u · P ⊞ Q ≡⟨ add_comm (a · u · P) Q ⟩
      Q ⊞ a · u · P ≡⟨ ap (◌⊞◌ Q) (mul_assoc a u P) ⟩
      Q ⊞ a · (u · P) ≡⟨ ap (λ z. Q ⊞ a · (u · z)) (val-coefs n p h.2 N) ⟩
      Q ⊞ a · (u · horner R (vals ps (tl N)) a) ≡⟨ ap (λ z. Q ⊞ a · z) (sym (horner-shift i ps (tl N) a)) ⟩
      Q ⊞ a · horner R (vals (shift R i ps) (tl N)) a ∎

  -- ---- what holds of a normal form's coefficients
  All-shift : (P : Form A → Type 0) (i : ℕ) (ps : List (Form A)) → P (zero_form R) → All P ps → All P (shift R i ps)
  All-shift P zero ps z h = h
  All-shift P (suc i) ps z h = (z, All-shift P i ps z h)

  All-unshift : (P : Form A → Type 0) (i : ℕ) (ps : List (Form A)) → All P (shift R i ps) → All P ps
  All-unshift P zero ps h = h
  All-unshift P (suc i) ps h = All-unshift P i ps h.1

  length_shift : (i : ℕ) (ps : List (Form A)) → length (shift R i ps) ≡ i + length ps
  length_shift zero ps = omega arith
  length_shift (suc i) ps = ap suc (length_shift i ps) ∙ omega arith

  pub normal-coefs : (n : ℕ) (x : Form A) → Normal R n x → All (Normal R (n - 1)) (coefs R x)
  normal-coefs n (int c) h = (tt, tt)
  normal-coefs n (pop zero p) h = tt
  normal-coefs n (pop (suc i) p) h = (normal-lower R n i p h.1 h.2, tt)
  normal-coefs n (pow zero p q) h = tt
  normal-coefs n (pow (suc i) p q) h = (h.4, All-shift (Normal R (n - 1)) i (coefs R p) tt (normal-coefs n p h.2))

  pub bounded-lower : (i : ℕ) (p : Form A) (ds : List ℕ) → Bounded (after i ds) p → Bounded ds (lower i p)
  bounded-lower zero p ds h = h
  bounded-lower (suc i) p ds h = h

  pub bounded-coefs : (d : ℕ) (ds : List ℕ) (x : Form A) → Bounded (d ∷ ds) x → All (Bounded ds) (coefs R x)
  bounded-coefs d ds (int c) h = (tt, tt)
  bounded-coefs d ds (pop zero p) h = tt
  bounded-coefs d ds (pop (suc i) p) h = (bounded-lower i p ds h, tt)
  bounded-coefs d ds (pow zero p q) h = tt
  bounded-coefs d ds (pow (suc i) p q) h = (h.2, All-shift (Bounded ds) i (coefs R p) tt (bounded-coefs (d - suc i) ds p h.1))

  pub length-coefs : (d : ℕ) (ds : List ℕ) (x : Form A) → Bounded (d ∷ ds) x → length (coefs R x) ≤ suc d
  length-coefs d ds (int c) h = omega arith
  length-coefs d ds (pop zero p) h = omega arith
  length-coefs d ds (pop (suc i) p) h = omega arith
  length-coefs d ds (pow zero p q) h = omega arith
  length-coefs d ds (pow (suc i) p q) h = omega (arith, length_shift i (coefs R p), length-coefs (d - suc i) ds p h.1, h.0)

  -- no coefficient but 0: the form is 0
  pub zero-coefs : (n : ℕ) (x : Form A) → Normal R n x → All (Zero R) (coefs R x) → Zero R x
  zero-coefs n (int c) h z = z.0
  zero-coefs n (pop zero p) h z = absurd (omega (arith, h.0))
  zero-coefs n (pop (suc i) p) h z = absurd (true≢false (sym z.0 ∙ lower-not-zero R i p h.1))
  zero-coefs n (pow zero p q) h z = absurd (omega (arith, h.0))
  zero-coefs n (pow (suc i) p q) h z =
      let zp : Zero R p = zero-coefs n p h.2 (All-unshift (Zero R) i (coefs R p) z.1) in
      absurd (true≢false (sym zp ∙ lead-not-zero R p h.3))

  -- ---- the theorem
  -- with no variable left a normal form is a number
  pub number-zero : (x : Form A) → Normal R 0 x → val R x [] ≡ nil → Zero R x
  number-zero (int c) h e = ap is_nil e ∙ is_nil-nil
  number-zero (pop i (int c)) h e = absurd h.1
  number-zero (pop i (pop j p)) h e = absurd h.1
  number-zero (pop i (pow j p q)) h e = absurd (omega (arith, h.2.1))
  number-zero (pow i p q) h e = absurd (omega (arith, h.1))

  abbrev pub Vanishes : List ℕ → Form A → Type 0
  Vanishes ds x = (N : List ℕ) → InBox ds N → val R x (nats R N) ≡ nil

  -- the theorem for one variable less, at each of a list of forms
  each : (n : ℕ) (ds : List ℕ) → ((p : Form A) → Normal R n p → Bounded ds p → Vanishes ds p → Zero R p)
      → (ps : List (Form A)) → All (Normal R n) ps → All (Bounded ds) ps → ((N : List ℕ) → InBox ds N → AllNil R (vals ps (nats R N)))
      → All (Zero R) ps
  each n ds G [] hn hb v = tt
  each n ds G (p ∷ ps) hn hb v =
      (G p hn.0 hb.0 (λ N m. (v N m).0), each n ds G ps hn.1 hb.1 (λ N m. (v N m).1))

  module _ (K : ℕ) (regular : Regular R K) where
    -- a form that vanishes over the box has coefficients that vanish over the rest of it
    coefs-vanish : (d : ℕ) (ds : List ℕ) → d ≤ K → (x : Form A) → Normal R (suc (length ds)) x → Bounded (d ∷ ds) x → Vanishes (d ∷ ds) x
        → (N : List ℕ) → InBox ds N → AllNil R (vals (coefs R x) (nats R N))
    coefs-vanish d ds le x hx bx v N m =
        roots R K regular (length ps) (vals ps M) (length-map ps (λ p. val R p M)) (omega (arith, length-coefs d ds x bx)) 0 root
      where
        M : List A
        M = nats R N

        ps : List (Form A)
        ps = coefs R x

        root : (k : ℕ) → k < length ps → horner R (vals ps M) (nat R (0 + k)) ≡ nil
        root k g =
            horner R (vals ps M) (nat R (0 + k)) ≡⟨ sym (val-coefs (suc (length ds)) x hx (nat R (0 + k) ∷ M)) ⟩
            val R x (nats R ((0 + k) ∷ N)) ≡⟨ v ((0 + k) ∷ N) (omega (arith, length-coefs d ds x bx), m) ⟩
            nil ∎

    pub grid : (ds : List ℕ) → AllLe K ds → (x : Form A) → Normal R (length ds) x → Bounded ds x → Vanishes ds x → Zero R x
    grid [] le x hx bx v = number-zero x hx (v [] tt)
    grid (d ∷ ds) le x hx bx v =
        let n = length ds in
        let ps = coefs R x in
        let normal : All (Normal R n) ps = subst (λ z. All (Normal R z) ps) one_less (normal-coefs (suc n) x hx) in
        let bounded : All (Bounded ds) ps = bounded-coefs d ds x bx in
        let zeros : All (Zero R) ps = each n ds (grid ds le.1) ps normal bounded (coefs-vanish d ds le.0 x hx bx v) in
        zero-coefs (suc n) x hx zeros
      where
        one_less : suc (length ds) - 1 ≡ length ds
        one_less = omega arith
