-- Terms within the limits: their forms are low and have at most 256 coefficients that are not 0, and products and powers take little room.
use Rattle.std.specs.Prelude.{true, List, [], ◌∷◌, ◌⊎◌, ◌≡◌, refl, ℕ, zero, suc, ◌*◌, ◌^◌, ◌-◌, ◌≤◌, ◌<◌, min, length}
use Rattle.std.proofs.Common.{inl, inr, arith, leb-true}
use Rattle.std.proofs.Math.Nat as NatL
use Rattle.horner.specs.definitions.Measures.{zeros, AllLe, box_of, degrees_of, terms_of, count}
use Rattle.horner.specs.definitions.Rings.{red_ℤ, prime, prime-pos, p_ring}
use Rattle.horner.specs.definitions.Term.{Term, num, var, minus, plus, diff, times, expt, norm_p}
use Rattle.horner.proofs.laws.Compare.{lt-or-ge}
use Rattle.horner.proofs.laws.Limits.{length-degrees_of, bounded-norm, terms_of-pos, count-norm}
use Rattle.horner.proofs.laws.Term.{normal-norm}
use Rattle.horner.specs.laws.Within.{Over}
use Rattle.run_form.specs.Forms.{Low}
use Rattle.run_form.proofs.laws.Powers.{all-zeros}
use Rattle.run_form.specs.laws.Powers.{in-box, in_count}
use Rattle.run_form.specs.laws.Powers.{FewPowers}
use Rattle.run_form.specs.laws.Products.{by-box, by_count}
use Rattle.run_form.specs.laws.Products.{Few}
use Rattle.dialect.specs.Dialects.{ordinary}
use Rattle.dialect.specs.declared.Dialect.{Dialect}
use Rattle.text.specs.definitions.Answer as A
use Rattle.text.specs.definitions.Bytes.{is_in_row, read}
use Rattle.text.specs.definitions.Limits.{accept, accept_term}
use Rattle.text.specs.definitions.Meaning.{Part, itself, in-neg, in_left, in_right, in-base, Fits}
use Rattle.text.specs.definitions.Tree.{Sign, add, sub, mul, Tree, num as number, letter, neg, two, power, letters, term_of, nesting}
use Rattle.text_laws.specs.laws.Accepted.{accepts}
use Rattle.text_laws.specs.laws.Bytes.{and_l, and_r}
use Rattle.text_laws.specs.laws.Ordinary.{accepted}
use Rattle.text_laws.specs.laws.Rows.{index_below}
use Rattle.term_build.specs.Terms.{Sized, AllSized}

-- a term within the limits has the letters of the row alone
pub over_sized : (n : ℕ) (t : Term) → AllSized n t → Over n t
over_sized n (num z) h = tt
over_sized n (var i) h = h
over_sized n (minus s) h = over_sized n s h
over_sized n (plus s t) h = (over_sized n s h.1.0, over_sized n t h.1.1)
over_sized n (diff s t) h = (over_sized n s h.1.0, over_sized n t h.1.1)
over_sized n (times s t) h = (over_sized n s h.1.0, over_sized n t h.1.1)
over_sized n (expt s k) h = over_sized n s h.1.1

-- the degrees of a letter
low-letter : (i n : ℕ) → AllLe 63 (zeros i (1 ∷ zeros n []))
low-letter zero n = (omega arith, all-zeros n)
low-letter (suc i) n = (omega arith, low-letter i n)

-- a term all of whose subterms are within the limits is
pub one-sized : (n : ℕ) (t : Term) → AllSized n t → Sized n t
one-sized n (num z) h = record { degrees = all-zeros n; terms = omega arith }
one-sized n (var i) h = record { degrees = low-letter i (n - suc i); terms = omega arith }
one-sized n (minus s) h = let g = one-sized n s h in record { degrees = g.degrees; terms = g.terms }
one-sized n (plus s t) h = h.0
one-sized n (diff s t) h = h.0
one-sized n (times s t) h = h.0
one-sized n (expt s k) h = h.0

module _ (n : ℕ) (t : Term) (h : AllSized n t) where
  -- its form is low
  pub sized-low : n ≤ 4 → Low n (degrees_of n t) (norm_p t)
  sized-low four = record {
    four = four;
    long = length-degrees_of n t (over_sized n t h);
    degrees = (one-sized n t h).degrees;
    normal = normal-norm p_ring (red_ℤ prime prime-pos) refl n t (over_sized n t h);
    bounded = bounded-norm p_ring (red_ℤ prime prime-pos) n t (over_sized n t h);
  }

  -- and has few coefficients
  pub sized-few : count p_ring (norm_p t) ≤ terms_of n t
  sized-few = count-norm p_ring (red_ℤ prime prime-pos) refl n t (over_sized n t h)

  -- at most 256
  pub sized-count : count p_ring (norm_p t) ≤ 256
  sized-count = omega (arith, sized-few, (one-sized n t h).terms)

-- the lesser of two is at most 256: one of them is
one_of : (a b : ℕ) → min a b ≤ 256 → (a ≤ 256) ⊎ (b ≤ 256)
one_of a b h = by (lt-or-ge 256 a)
  where
    by : (256 < a) ⊎ (a ≤ 256) → (a ≤ 256) ⊎ (b ≤ 256)
    by (inl g) = inr (omega arith)
    by (inr g) = inl g

-- the product of two has few monomials on the way, or a small box
pub few-times : (n : ℕ) (s t : Term) → AllSized n (times s t) → Few (degrees_of n s) (degrees_of n t) (norm_p s) (norm_p t)
few-times n s t h = by (one_of (terms_of n s * terms_of n t) (box_of n (times s t)) h.0.terms)
  where
    by : (terms_of n s * terms_of n t ≤ 256) ⊎ (box_of n (times s t) ≤ 256) → Few (degrees_of n s) (degrees_of n t) (norm_p s) (norm_p t)
    by (inl g) = by_count (omega (arith, g, NatL.mul-le-mul (sized-few n s h.1.0) (sized-few n t h.1.1)))
    by (inr g) = by-box g

-- so has a power
pub few-power : (n : ℕ) (s : Term) (k : ℕ) → AllSized n (expt s k) → FewPowers (degrees_of n s) (norm_p s) k
few-power n s k h = by (one_of (terms_of n s ^ k) (box_of n (expt s k)) h.0.terms)
  where
    by : (terms_of n s ^ k ≤ 256) ⊎ (box_of n (expt s k) ≤ 256) → FewPowers (degrees_of n s) (norm_p s) k
    by (inl g) = in_count (terms_of n s) (terms_of-pos n s) (sized-few n s h.1.1) g
    by (inr g) = in-box g

-- ---- of a tree every part of which is within the limits
module _ (row : List ℕ) where
  abbrev n : ℕ
  n = length row

  of-fits : (t : Tree) → Fits row t → Sized n (term_of row t)
  of-fits t f = record { degrees = f.degrees; terms = f.terms }

  sized-sign : (g : Sign) (p o c : ℕ) (x y : Tree) → Fits row (two p o c g x y) → AllSized n (term_of row x) → AllSized n (term_of row y)
      → AllSized n (term_of row (two p o c g x y))
  sized-sign add p o c x y f h k = (of-fits (two p o c add x y) f, (h, k))
  sized-sign sub p o c x y f h k = (of-fits (two p o c sub x y) f, (h, k))
  sized-sign mul p o c x y f h k = (of-fits (two p o c mul x y) f, (h, k))

  -- so is its term, with all of its subterms
  pub sized-tree : (t : Tree) → letters (is_in_row row) t ≡ true → ((y : Tree) → Part y t → Fits row y)
      → AllSized n (term_of row t)
  sized-tree (number p w z) l f = (f (number p w z) (itself refl)).weight
  sized-tree (letter p b) l f = index_below row b l
  sized-tree (neg p o c x) l f = sized-tree x l (λ y q. f y (in-neg p o c x q))
  sized-tree (two p o c g x y) l f =
      sized-sign g p o c x y (f (two p o c g x y) (itself refl))
      (sized-tree x (and_l _ (letters (is_in_row row) y) l) (λ z q. f z (in_left p o c g x y q)))
      (sized-tree y (and_r (letters (is_in_row row) x) _ l) (λ z q. f z (in_right p o c g x y q)))
  sized-tree (power p o c x q k) l f = (
    of-fits (power p o c x q k) (f (power p o c x q k) (itself refl)),
    (leb-true k 63 (f (power p o c x q k) (itself refl)).exponent, sized-tree x l (λ z r. f z (in-base p o c x q k r))),
  )

-- ---- of an accepted text
-- its term is within the limits
pub sized-dialect : (D : Dialect) (row s : List ℕ) (t : Tree) → accept D row s ≡ A.read t → AllSized (length row) (term_of row t)
sized-dialect D row s t e =
    let a = (accepts D row s t).0 e in
    sized-tree row t a.0.in_row a.1

-- and its tree is no deeper than the dialect has it
pub shallow-dialect : (D : Dialect) (row s : List ℕ) (t : Tree) → accept D row s ≡ A.read t → nesting t ≤ D.depth
shallow-dialect D row s t e = ((accepts D row s t).0 e).0.shallow

-- document 01's own
pub sized-accepted : (row s : List ℕ) (t : Tree) → accept_term row s ≡ read t → AllSized (length row) (term_of row t)
sized-accepted row s t e = sized-dialect ordinary row s t (accepted row s t e)
