-- Good forms: normal in four variables, of degree at most 63 in each. The parts of a good form are good, and the operations keep good
-- forms good.
use Rattle.std.specs.Prelude.{◌≡◌, ℕ, zero, suc, ◌-◌, ◌<◌, ◌≤◌, [], ◌∷◌, refl}
use Rattle.std.proofs.Common.{sym, ap, subst, ◌∙◌, arith}
use Rattle.horner.specs.definitions.Form.{Form, int, pop, pow, Normal, after}
use Rattle.horner.proofs.laws.Degree.{below-refl, bounded-mono}
use Rattle.horner.specs.laws.Degree.{Bounded, Below}
use Rattle.horner.specs.definitions.Rings.{Ring}
use Rattle.horner.proofs.laws.Bounds.{bounded-sum, bounded-negate, bounded-scale}
use Rattle.horner.proofs.laws.Normal.{pow-level, normal-sum, normal-negate, normal-scale}
use Rattle.code.specs.Coding.{limits, Good}
use Rattle.code.specs.Operations.{sum_of, negate_of, scale_of, zero_of}
use Rattle.code.specs.Widths.{Leaf, ring_of, leaf}

-- normal in fewer variables is normal in more
module _ {A : Type 0} (R : Ring A) where
  pub normal-more : (m n : ℕ) (x : Form A) → m ≤ n → Normal R m x → Normal R n x
  normal-more m n (int c) l h = tt
  normal-more m n (pop i p) l h = (h.0, h.1, normal-more (m - i) (n - i) p (omega arith) h.2)
  normal-more m n (pow i p q) l h =
      (h.0, omega (arith, h.1), normal-more m n p l h.2, h.3, normal-more (m - 1) (n - 1) q (omega arith) h.4)

after-nil : (i : ℕ) → after {A = ℕ} i [] ≡ []
after-nil zero = refl
after-nil (suc i) = after-nil i

pub after-limits : (i n : ℕ) → after i (limits n) ≡ limits (n - i)
after-limits zero n =
    let e : n ≡ n - 0 = omega arith in
    ap limits e
after-limits (suc i) zero =
    let e : 0 ≡ 0 - suc i = omega arith in
    after-nil i ∙ ap limits e
after-limits (suc i) (suc n) =
    let e : n - i ≡ suc n - suc i = omega arith in
    after-limits i n ∙ ap limits e

below-limits : (m n : ℕ) → m ≤ n → Below (limits m) (limits n)
below-limits zero n l = tt
below-limits (suc m) zero l = absurd (omega arith)
below-limits (suc m) (suc n) l = (omega arith, below-limits m n (omega arith))

pub bounded-more : {A : Type 0} (m n : ℕ) (x : Form A) → m ≤ n → Bounded (limits m) x → Bounded (limits n) x
bounded-more m n x l b = bounded-mono x (limits m) (limits n) (below-limits m n l) b

-- a bound below the first one's limit
bounded-first : {A : Type 0} (d n : ℕ) (x : Form A) → d ≤ 63 → Bounded (d ∷ limits n) x → Bounded (limits (suc n)) x
bounded-first d n x l b = bounded-mono x (d ∷ limits n) (limits (suc n)) (l, below-refl (limits n)) b

-- good with fewer variables is good
pub good-at : (w n : ℕ) (h : Form (Leaf w)) → n ≤ 4 → Normal (ring_of w) n h → Bounded (limits n) h → Good w h
good-at w n h l a b = record { normal = normal-more (ring_of w) n 4 h l a; bounded = bounded-more n 4 h l b }

pub good-int : (w : ℕ) (c : Leaf w) → Good w (int c)
good-int w c = record { normal = tt; bounded = tt }

pub good-zero : (w : ℕ) → Good w (zero_of w)
unfolding zero_of
good-zero w = good-int w (leaf w 0)

-- what a good node has
pub good-pop : {w i : ℕ} {p : Form (Leaf w)} → Good w (pop i p) → (0 < i) × ((i ≤ 3) × Good w p)
good-pop {w} {i} {p} g =
    let l : 1 ≤ 4 - i = pow-level (ring_of w) (4 - i) p g.normal.1 g.normal.2 in
    let b : Bounded (limits (4 - i)) p = subst (λ z. Bounded z p) (after-limits i 4) g.bounded in
    (g.normal.0, (omega arith, good-at w (4 - i) p (omega arith) g.normal.2 b))

pub good-pow : {w i : ℕ} {p q : Form (Leaf w)} → Good w (pow i p q) → (0 < i) × ((i ≤ 63) × (Good w p × Good w q))
good-pow {w} {i} {p} {q} g =
    let h : Good w p = record { normal = g.normal.2; bounded = bounded-first (63 - i) 3 p (omega arith) g.bounded.1 } in
    (g.normal.0, (g.bounded.0, (h, good-at w 3 q (omega arith) g.normal.4 g.bounded.2)))

-- a POP whose exponent is less, and a POW whose exponent is less, with 0 for its q
pub good-less-pop : {w i : ℕ} {p : Form (Leaf w)} (j : ℕ) → j < i → Good w (pop i p) → Good w (pop (i - j) p)
good-less-pop {w} {i} {p} j l g =
    let b : Bounded (limits (4 - i)) p = subst (λ z. Bounded z p) (after-limits i 4) g.bounded in
    record {
      normal = (omega arith, g.normal.1, normal-more (ring_of w) (4 - i) (4 - (i - j)) p (omega arith) g.normal.2);
      bounded = subst (λ z. Bounded z p) (sym (after-limits (i - j) 4)) (bounded-more (4 - i) (4 - (i - j)) p (omega arith) b);
    }

pub good-less-pow : {w i : ℕ} {p q : Form (Leaf w)} (j : ℕ) → j < i → Good w (pow i p q) → Good w (pow (i - j) p (zero_of w))
unfolding zero_of
good-less-pow {w} {i} {p} j l g =
    let b : Below ((63 - i) ∷ limits 3) ((63 - (i - j)) ∷ limits 3) = (omega arith, below-refl (limits 3)) in
    record {
      normal = (omega arith, g.normal.1, g.normal.2, g.normal.3, tt);
      bounded = (omega (arith, g.bounded.0), bounded-mono p ((63 - i) ∷ limits 3) ((63 - (i - j)) ∷ limits 3) b g.bounded.1, tt);
    }

-- the operations
pub sum-good : {w : ℕ} {x y : Form (Leaf w)} → Good w x → Good w y → Good w (sum_of w x y)
unfolding sum_of
sum-good {w} {x} {y} g h =
    record {
      normal = normal-sum (ring_of w) 4 x y g.normal h.normal;
      bounded = bounded-sum (ring_of w) (limits 4) x y g.bounded
          h.bounded;
    }

pub negate_good : {w : ℕ} {x : Form (Leaf w)} → Good w x → Good w (negate_of w x)
unfolding negate_of
negate_good {w} {x} g =
    record { normal = normal-negate (ring_of w) 4 x g.normal; bounded = bounded-negate (ring_of w) (limits 4) x g.bounded }

pub scale-good : {w : ℕ} {x : Form (Leaf w)} (a : ℕ) → Good w x → Good w (scale_of w a x)
unfolding scale_of
scale-good {w} {x} a g =
    record {
      normal = normal-scale (ring_of w) 4 (leaf w a) x g.normal;
      bounded = bounded-scale (ring_of w) (limits 4) (leaf w a) x
          g.bounded;
    }
