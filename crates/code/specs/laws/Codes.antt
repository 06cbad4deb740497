-- The decoder gives back what was coded, and what the head word of a code says of its form: a leaf, a POP or a POW, with its parts.
use Rattle.std.specs.Prelude.{◌≡◌, ℕ, zero, suc, ◌+◌, ◌-◌, ◌*◌, ◌/◌, ◌%◌, ◌<◌, ◌≤◌, List, ◌∷◌, ◌++◌, length, take, drop, ◌≢◌, slice_index, slice_index_or, refl}
use Rattle.std.proofs.Common.{sym, ◌∙◌, arith, length-drop, take_all}
use Rattle.std.proofs.Math.Path.{ap}
use Rattle.std.proofs.Math.ListN.{length-append}
use Rattle.std.proofs.Math.Seq.{take-append_seam, drop-append_seam}
use borrow.Author.Tests.{lt-ltb, le-ltb, eq-eqb, ne_eqb}
use Rattle.horner.specs.definitions.Form.{Form, int, pop, pow}
use Rattle.code.specs.Coding.{enc, Good, Codes, decn, dec, Coded}
use Rattle.code.specs.Operations.{sum_of}
use Rattle.code.specs.Widths.{modulus, Leaf, leaf}
use Rattle.code.specs.laws.Good.{good-pop, good-pow}
use Rattle.code.specs.laws.Sizes.{enc-pos, sum-length}
use Rattle.code.specs.laws.Widths.{modulus-small, leaf-of, leaf-below}

module _ (w : ℕ) where
  -- a leaf's word is no node's
  pub leaf-word : (c : Leaf w) → c.0 < 2147483647
  leaf-word c = omega (arith, leaf-below w c, modulus-small w)

  -- a decoder that has fuel enough gives the form back
  decn-enc : (h : Form (Leaf w)) (n : ℕ) → Good w h → length (enc w h) ≤ n → decn w n (enc w h) ≡ h
  unfolding enc decn
  decn-enc (int c) zero g l = absurd (omega arith)
  decn-enc (int c) (suc n) g l = rw (lt-ltb c.0 2147483648 (omega (arith, leaf-word c))) (ap int (leaf-of w c))
  decn-enc (pop i p) zero g l = absurd (omega arith)
  decn-enc (pop i p) (suc n) g l =
      let k = good-pop g in
      let e : (2147483648 + i) % 64 ≡ i = omega (arith, k.1.0) in
      let ih : decn w n (enc w p) ≡ p = decn-enc p n k.1.1 (omega arith) in
      rw (le-ltb (2147483648 + i) 2147483648 (omega arith), eq-eqb ((2147483648 + i - 2147483648) / 64) 0 (omega (arith, k.1.0)), e, ih)
  decn-enc (pow i p q) zero g l = absurd (omega arith)
  decn-enc (pow i p q) (suc n) g l =
      let k = good-pow g in
      let s : (2147483648 + 64 * length (enc w p) + i - 2147483648) / 64 ≡ length (enc w p) = omega (arith, k.1.0) in
      let e : (2147483648 + 64 * length (enc w p) + i) % 64 ≡ i = omega (arith, k.1.0) in
      let len : length (enc w p ++ enc w q) ≡ length (enc w p) + length (enc w q) = length-append (enc w p) (enc w q) in
      let ihp : decn w n (enc w p) ≡ p = decn-enc p n k.1.1.0 (omega arith) in
      let ihq : decn w n (enc w q) ≡ q = decn-enc q n k.1.1.1 (omega arith) in
      simp (
        le-ltb (2147483648 + 64 * length (enc w p) + i) 2147483648 (omega arith),
        s,
        ne_eqb (length (enc w p)) 0
            (omega (arith, enc-pos w p)),
        e,
        take-append_seam,
        drop-append_seam,
        ihp,
        ihq,
      )

pub dec-enc : {w : ℕ} {h : Form (Leaf w)} {l : List ℕ} → Codes w h l → dec w l ≡ h
unfolding dec
dec-enc {w} {h} {l} c = rw c.is (decn-enc w h (length (enc w h)) c.good (omega arith))

pub coded : {w : ℕ} {h : Form (Leaf w)} {l : List ℕ} → Codes w h l → Coded w l
coded {w} {h} {l} c = rw (dec-enc c) c

pub codes-length : {w : ℕ} {h : Form (Leaf w)} {l : List ℕ} → Codes w h l → length l ≡ length (enc w h)
codes-length c = ap length c.is

-- the sum of two coded forms is shorter than the two
pub sum-shorter :
    {w : ℕ} {x y : Form (Leaf w)} {l k : List ℕ} → Codes w x l → Codes w y k → length (enc w (sum_of w x y)) + 1 ≤ length l + length k
sum-shorter {w} {x} {y} c e = omega (arith, codes-length c, codes-length e, sum-length w x y)

-- two good forms with one code are one form
pub codes_same : {w : ℕ} {g h : Form (Leaf w)} {l : List ℕ} → Codes w g l → Codes w h l → g ≡ h
codes_same c e = sym (dec-enc c) ∙ dec-enc e

pub some : {w : ℕ} {h : Form (Leaf w)} {l : List ℕ} → Codes w h l → 0 < length l
some {w} {h} {l} c = rw c.is (enc-pos w h)

-- What the head word says.

pub record IsInt (w : ℕ) (h : Form (Leaf w)) (x : ℕ) : Type 0 where
  pub is : h ≡ int (leaf w x)
  pub below : x < modulus w

pub record IsPop (w : ℕ) (h : Form (Leaf w)) (l : List ℕ) : Type 0 where
  pub i : ℕ
  pub p : Form (Leaf w)
  pub is : h ≡ pop i p
  pub word : slice_index_or l 0 0 ≡ 2147483648 + i
  pub pos-i : 0 < i
  pub small : i ≤ 3
  pub good-node : Good w (pop i p)
  pub good : Good w p
  pub list : l ≡ (2147483648 + i) ∷ enc w p
  pub len : length l ≡ suc (length (enc w p))
  pub pos : 0 < length (enc w p)

pub record IsPow (w : ℕ) (h : Form (Leaf w)) (l : List ℕ) : Type 0 where
  pub i : ℕ
  pub p : Form (Leaf w)
  pub q : Form (Leaf w)
  pub is : h ≡ pow i p q
  pub word : slice_index_or l 0 0 ≡ 2147483648 + 64 * length (enc w p) + i
  pub size : (slice_index l 0 - 2147483648) / 64 ≡ length (enc w p)
  pub pos-i : 0 < i
  pub small : i ≤ 63
  pub good-node : Good w (pow i p q)
  pub good-p : Good w p
  pub good-q : Good w q
  pub list : l ≡ (2147483648 + 64 * length (enc w p) + i) ∷ (enc w p ++ enc w q)
  pub len : length l ≡ suc (length (enc w p) + length (enc w q))
  pub pos-p : 0 < length (enc w p)
  pub pos-q : 0 < length (enc w q)

module _ (w : ℕ) where
  int_of : (h : Form (Leaf w)) → Good w h → slice_index (enc w h) 0 < 2147483648 → IsInt w h (slice_index (enc w h) 0)
  unfolding enc
  int_of (int c) g l = record { is = ap int (sym (leaf-of w c)); below = leaf-below w c }
  int_of (pop i p) g l = absurd (omega arith)
  int_of (pow i p q) g l = absurd (omega arith)

  pop-of :
      (h : Form (Leaf w)) → Good w h → 2147483648 ≤ slice_index (enc w h) 0 → (slice_index (enc w h) 0 - 2147483648) / 64 ≡ 0 → IsPop w h (enc w h)
  unfolding enc
  pop-of (int c) g l e = absurd (omega (arith, leaf-word w c))
  pop-of (pop i p) g l e =
      let k = good-pop g in
      record {
        i = i;
        p = p;
        is = refl;
        word = refl;
        pos-i = k.0;
        small = k.1.0;
        good-node = g;
        good = k.1.1;
        list = refl;
        len = refl;
        pos = enc-pos w p;
      }
  pop-of (pow i p q) g l e = absurd (omega (arith, enc-pos w p))

  pow-of :
      (h : Form (Leaf w)) → Good w h → 2147483648 ≤ slice_index (enc w h) 0 → ((slice_index (enc w h) 0 - 2147483648) / 64 ≢ 0) →
      IsPow w h (enc w h)
  unfolding enc
  pow-of (int c) g l e = absurd (omega (arith, leaf-word w c))
  pow-of (pop i p) g l e = absurd (omega (arith, (good-pop g).1.0))
  pow-of (pow i p q) g l e =
      let k = good-pow g in
      record {
        i = i;
        p = p;
        q = q;
        is = refl;
        word = refl;
        size = omega (arith, k.1.0);
        pos-i = k.0;
        small = k.1.0;
        good-node = g;
        good-p = k.1.1.0;
        good-q = k.1.1.1;
        list = refl;
        len = ap suc (length-append (enc w p) (enc w q));
        pos-p = enc-pos w p;
        pos-q = enc-pos w q;
      }

module _ {w : ℕ} {h : Form (Leaf w)} {l : List ℕ} (c : Codes w h l) where
  pub int_view : slice_index_or l 0 0 < 2147483648 → IsInt w h (slice_index l 0)
  int_view = rw c.is (int_of w h c.good)

  pub pop-view : 2147483648 ≤ slice_index l 0 → (slice_index l 0 - 2147483648) / 64 ≡ 0 → IsPop w h l
  pop-view = rw c.is (pop-of w h c.good)

  pub pow-view : 2147483648 ≤ slice_index l 0 → ((slice_index l 0 - 2147483648) / 64 ≢ 0) → IsPow w h l
  pow-view = rw c.is (pow-of w h c.good)

-- The parts of a node, as `&x[1..]`, `&x[1..e]` and `&x[e..]` are written in a proof.

pub tail-part : (a : ℕ) (l : List ℕ) → take (length l - a) (drop a l) ≡ drop a l
tail-part a l = take_all (length l - a) (drop a l) (omega (arith, length-drop a l))

module _ {w : ℕ} {h : Form (Leaf w)} {l : List ℕ} (v : IsPop w h l) where
  pub pop-part : Codes w v.p (take (length l - 1) (drop 1 l))
  pop-part = record { is = tail-part 1 l ∙ ap (drop 1) v.list; good = v.good }

module _ {w : ℕ} {h : Form (Leaf w)} {l : List ℕ} (v : IsPow w h l) where
  pub pow_left : (k : ℕ) → k ≡ length (enc w v.p) → Codes w v.p (take k (drop 1 l))
  pow_left k e = record { is = rw (v.list, e, take-append_seam); good = v.good-p }

  pub pow_right : (a : ℕ) → a ≡ suc (length (enc w v.p)) → Codes w v.q (take (length l - a) (drop a l))
  pow_right a e = record { is = tail-part a l ∙ rw (v.list, e, drop-append_seam); good = v.good-q }
