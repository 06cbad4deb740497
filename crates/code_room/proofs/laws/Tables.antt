-- The tables that are enough for a product are enough for the products that it is made of: Definition 11, case by case.
use Rattle.std.specs.Prelude.{List, ◌≡◌, ℕ, ◌+◌, ◌-◌, ◌≤◌}
use Rattle.std.proofs.Common.{arith}
use Rattle.horner.specs.definitions.Form.{Form, pop, pow, lower}
use Rattle.horner.proofs.laws.Normal.{pow-level}
use Rattle.code.specs.Widths.{Leaf, ring_of}
use Rattle.code_room.specs.Fit.{Within}
use Rattle.code_room.specs.Tables.{words_for, Tables, Space, PopSpace, CrossSpace}
use Rattle.code_room.proofs.laws.Fit.{fit-sym, fit-exponent, fit-pow, fit-up, fit-rests, fit-pops, fit-lower}
use Rattle.code_room.proofs.laws.Summands.{cross-held}

-- the same lengths, written another way
module _ {w : ℕ} {x y : Form (Leaf w)} {o t u o' t' u' : ℕ} (a : o ≡ o') (b : t ≡ t') (c : u ≡ u') where
  pub space-at : Space w x y o t u → Space w x y o' t' u'
  space-at s = record { n = s.n; k = s.k; fit = s.fit; tables = omega (arith, s.tables) }

  pub pop-space-at : PopSpace w x y o t u → PopSpace w x y o' t' u'
  pop-space-at s = record { n = s.n; k = s.k; pos = s.pos; fit = s.fit; tables = omega (arith, s.tables) }

module _ {w : ℕ} {x y : Form (Leaf w)} {o t u : ℕ} where
  pub space-sym : Space w x y o t u → Space w y x o t u
  space-sym s = record { n = s.n; k = s.k; fit = fit-sym s.fit; tables = s.tables }

  pub pop-space-sym : PopSpace w x y o t u → PopSpace w y x o t u
  pop-space-sym s = record { n = s.n; k = s.k; pos = s.pos; fit = fit-sym s.fit; tables = s.tables }

-- 15,684 words in the first two tables are enough for every product within the limits
pub tables-for : {n k o t u : ℕ} → n ≤ 4 → k ≤ 63 → Tables 15684 15684 o t u → Tables (words_for n k) (words_for n k) o t u
tables-for a b h = omega (arith, h)

-- a POP and a POW stand below the row's length
pop-vars : {w n c : ℕ} {ds : List ℕ} (i : ℕ) (p : Form (Leaf w)) → Within w n c ds (pop i p) → 1 ≤ n
pop-vars {w} {n} i p h = omega (arith, pow-level (ring_of w) (n - i) p h.normal.1 h.normal.2)

-- where a factor is a POP, less is enough
pub pop-space :
    {w : ℕ} {y : Form (Leaf w)} {o t u : ℕ} (i : ℕ) (p : Form (Leaf w)) → Space w (pop i p) y o t u → PopSpace w (pop i p) y o t u
pop-space i p s =
    record {
      n = s.n;
      k = s.k;
      pos = pop-vars i p s.fit.of-x;
      fit = s.fit;
      tables = omega (
        arith,
        s.tables,
        pop-vars i p s.fit.of-x,
      );
    }

-- ---- (3)
module _ {w o t u : ℕ} (i j : ℕ) (p q : Form (Leaf w)) (s : PopSpace w (pop i p) (pop j q) o t u) where
  pub space-pops : j ≤ i → Space w (lower (i - j) p) q (o - 1) t u
  space-pops l =
      record
      { n = s.n - j; k = 63; fit = fit-pops i j p q l s.fit; tables = omega (arith, s.tables, s.pos, s.fit.of-y.normal.0) }

-- ---- (4): the p of the POW, and its q behind what that gives, of a words
module _ {w o t u : ℕ} (i j : ℕ) (p q r : Form (Leaf w)) (s : PopSpace w (pop i p) (pow j q r) o t u) where
  pub pop-space-pow : PopSpace w (pop i p) q (o - 1) t u
  pop-space-pow =
      let f = fit-sym s.fit in
      record {
        n = s.n;
        k = s.k - j;
        pos = s.pos;
        fit = fit-sym (fit-pow j q r f);
        tables = omega (arith, s.tables, s.fit.of-y.normal.0, fit-exponent j q r f);
      }

  pub space-lower : (a : ℕ) → a ≤ 3073 → Space w (lower (i - 1) p) r (o - (1 + a)) t u
  space-lower a l =
      record
      { n = s.n - 1; k = 63; fit = fit-lower i j p q r s.fit.of-x.normal.0 s.fit; tables = omega (arith, s.tables, s.pos) }

-- ---- (6)
module _ {w o t u : ℕ} (i j : ℕ) (p q r s : Form (Leaf w)) (h : Space w (pow i p q) (pow j r s) o t u) where
  -- p r, and q s behind it
  pub space-leads : Space w p r (o - 1) t u
  space-leads =
      let f = fit-pow i p q h.fit in
      record {
        n = h.n;
        k = h.k - i - j;
        fit = fit-sym (fit-pow j r s (fit-sym f));
        tables = omega (arith, h.tables, h.fit.of-x.normal.0, fit-exponent i p q h.fit);
      }

  pub space-rests : (a : ℕ) → a ≤ 3073 → Space w q s (o - (1 + a)) t u
  space-rests a l =
      record { n = h.n - 1; k = 63; fit = fit-rests i j p q r s h.fit; tables = omega (arith, h.tables, h.fit.of-x.normal.1) }

  -- the other summands are made in t, with the first table behind the first summand, of a words, for work
  pub space-cross : (a : ℕ) → a ≤ 3073 → CrossSpace w i p s t (o - a) u
  space-cross a l =
      record {
        n = h.n;
        k = h.k - i;
        pos = h.fit.of-x.normal.1;
        fit = fit-pow i p q (fit-sym (fit-up j r s (fit-sym h.fit)));
        pos-i = h.fit.of-x.normal.0;
        held = cross-held i j p q r s h.fit;
        tables = omega (arith, h.tables, h.fit.of-x.normal.0, h.fit.of-x.normal.1, fit-exponent i p q h.fit);
      }

pub cross_at :
    {w i o t u o' t' u' : ℕ} {p s : Form (Leaf w)} → o ≡ o' → t ≡ t' → u ≡ u' → CrossSpace w i p s o t u → CrossSpace w i p s o' t' u'
cross_at a b c h =
    record { n = h.n; k = h.k; pos = h.pos; fit = h.fit; pos-i = h.pos-i; held = h.held; tables = omega (arith, h.tables) }
