-- Which node the words of a code begin with, and what they say of it.
use Rattle.std.specs.Prelude.{List, ◌++◌, ◌≡◌, refl, ℕ, ◌+◌, ◌*◌, ◌-◌, ◌≤◌, ◌<◌, min, ℤ, length, take, drop}
use Rattle.std.proofs.Common.{sym, ap, ◌∙◌, subst, arith, length-append, length-drop, drop-drop}
use Rattle.std.proofs.Math.Seq.{take-append_seam, drop-append_seam}
use Rattle.code.specs.laws.Codes.{tail-part}
use Rattle.text.specs.definitions.Bytes.{is_in_row, index_in}
use Rattle.text.specs.definitions.Tree.{Sign, add, sub, mul, Tree, num, letter, neg, two, power, letters}
use Rattle.text_laws.specs.laws.Bytes.{and_l, and_r}
use Rattle.term_tree.specs.Coding.{int_code, span_of, sign_code, enc}
use Rattle.term_tree.specs.Codes.{code_below, enc-pos}
use Rattle.term_tree.specs.Shapes.{Codes, long, head_of, span_in, tag_of, number_of, Operator, IsNum, IsLetter, IsNeg, IsPower, IsOne, OneTag, Pair, TwoTag, is-add, is-sub, is_mul, is-num, is-letter, is-neg, is-power, one-neg, one_power, tag-neg, tag-power}

-- what the head word of an operator says before a first operand of k words
record Signed (k : ℕ) (w : List ℕ) : Type 0 where
  node : 2147483648 ≤ head_of w
  from : 2 ≤ tag_of w
  to : tag_of w ≤ 4
  size : number_of w ≡ k

-- that of every operator
signed_by : (g : Sign) (k : ℕ) (w : List ℕ) → head_of w ≡ sign_code g + 8 * k → Signed k w
signed_by add k w e = record { node = omega (arith, e); from = omega (arith, e); to = omega (arith, e); size = omega (arith, e) }
signed_by sub k w e = record { node = omega (arith, e); from = omega (arith, e); to = omega (arith, e); size = omega (arith, e) }
signed_by mul k w e = record { node = omega (arith, e); from = omega (arith, e); to = omega (arith, e); size = omega (arith, e) }

-- the operator of a head word
operator-by : (g : Sign) (k : ℕ) (w : List ℕ) → head_of w ≡ sign_code g + 8 * k → Operator w g
operator-by add k w e = is-add (omega (arith, e))
operator-by sub k w e = is-sub (omega (arith, e))
operator-by mul k w e = is_mul (omega (arith, e))

-- ---- any node
-- t is the node that stands at the front of w
data Shape (row w : List ℕ) : Tree → Type 0 where
  a-num :
      (p : ℕ) (u : List ℕ) (z : ℤ) → head_of w ≡ int_code z → span_in w ≡ span_of p (p + length u) → head_of w < 2147483648 →
      Shape row w (num p u z)
  a-letter : (p b : ℕ) → head_of w ≡ 2147483648 + 8 * index_in row b → span_in w ≡ span_of p (p + 1) → Shape row w (letter p b)
  a-neg :
      (p o c : ℕ) (x : Tree) → head_of w ≡ 2147483649 → span_in w ≡ span_of p (c + 1) → drop 2 w ≡ enc row x → Shape row w (neg p o c x)
  a-two :
      (p o c : ℕ) (g : Sign) (x y : Tree) → Signed (length (enc row x)) w → Operator w g → span_in w ≡ span_of p (c + 1) →
      drop 2 w ≡ enc row x ++ enc row y → Shape row w (two p o c g x y)
  a-power :
      (p o c : ℕ) (x : Tree) (q n : ℕ) → head_of w ≡ 2147483653 + 8 * min n 64 → span_in w ≡ span_of p (c + 1) → drop 2 w ≡ enc row x →
      Shape row w (power p o c x q n)

-- every tree stands at the front of its words
shape-enc : (row : List ℕ) (t : Tree) → Shape row (enc row t) t
unfolding enc
shape-enc row (num p u z) = a-num p u z refl refl (code_below z)
shape-enc row (letter p b) = a-letter p b refl refl
shape-enc row (neg p o c x) = a-neg p o c x refl refl refl
shape-enc row (two p o c g x y) =
    let k = length (enc row x) in
    a-two p o c g x y (signed_by g k (enc row (two p o c g x y)) refl) (operator-by g k (enc row (two p o c g x y)) refl) refl refl
shape-enc row (power p o c x q n) = a-power p o c x q n refl refl refl

-- and of what is its code
shape : {row w : List ℕ} {t : Tree} → Codes row t w → Shape row w t
shape {row} {w} {t} C = subst (λ l. Shape row l t) (sym C.is) (shape-enc row t)

num-by : {row w : List ℕ} (t : Tree) → Shape row w t → head_of w < 2147483648 → IsNum w t
num-by t (a-num p u z a b c) l = is-num p u z a b
num-by t (a-letter p b a c) l = absurd (omega (arith, a))
num-by t (a-neg p o c x a b d) l = absurd (omega (arith, a))
num-by t (a-two p o c g x y s f b d) l = absurd (omega (arith, s.node))
num-by t (a-power p o c x q n a b d) l = absurd (omega (arith, a))

-- a head word below 2^31 is that of an integer
pub num_of : {row w : List ℕ} {t : Tree} → Codes row t w → head_of w < 2147483648 → IsNum w t
num_of {row} {w} {t} C l = num-by t (shape C) l

module _ {row w : List ℕ} (node : 2147483648 ≤ head_of w) where
  letter-by : (t : Tree) → Shape row w t → tag_of w ≡ 0 → IsLetter row w t
  letter-by t (a-num p u z a b c) e = absurd (omega (arith, c))
  letter-by t (a-letter p b a c) e = is-letter p b (omega (arith, a)) c
  letter-by t (a-neg p o c x a b d) e = absurd (omega (arith, a))
  letter-by t (a-two p o c g x y s f b d) e = absurd (omega (arith, s.from))
  letter-by t (a-power p o c x q n a b d) e = absurd (omega (arith, a))

  -- 0 is the tag of a letter
  pub letter-of : {t : Tree} → Codes row t w → tag_of w ≡ 0 → IsLetter row w t
  letter-of {t} C e = letter-by t (shape C) e

  neg-by : (t : Tree) → Codes row t w → Shape row w t → tag_of w ≡ 1 → IsNeg row w t
  neg-by t C (a-num p u z a b c) e = absurd (omega (arith, c))
  neg-by t C (a-letter p b a c) e = absurd (omega (arith, a))
  neg-by t C (a-neg p o c x a b d) e =
      is-neg p o c x b record { is = tail-part 2 w ∙ d; four = C.four; known = C.known; short = C.short.1 }
  neg-by t C (a-two p o c g x y s f b d) e = absurd (omega (arith, s.from))
  neg-by t C (a-power p o c x q n a b d) e = absurd (omega (arith, a))

  -- 1 that of `(- x)`
  pub neg_of : {t : Tree} → Codes row t w → tag_of w ≡ 1 → IsNeg row w t
  neg_of {t} C e = neg-by t C (shape C) e

  power-by : (t : Tree) → Codes row t w → Shape row w t → tag_of w ≡ 5 → IsPower row w t
  power-by t C (a-num p u z a b c) e = absurd (omega (arith, c))
  power-by t C (a-letter p b a c) e = absurd (omega (arith, a))
  power-by t C (a-neg p o c x a b d) e = absurd (omega (arith, a))
  power-by t C (a-two p o c g x y s f b d) e = absurd (omega (arith, s.to))
  power-by t C (a-power p o c x q n a b d) e =
      is-power p o c x q n (omega (arith, a)) b
      record { is = tail-part 2 w ∙ d; four = C.four; known = C.known; short = C.short.1 }

  -- 5 that of a power
  pub power-of : {t : Tree} → Codes row t w → tag_of w ≡ 5 → IsPower row w t
  power-of {t} C e = power-by t C (shape C) e

  -- either of the two
  pub one_of : (t : Tree) → Codes row t w → OneTag w → IsOne row w t
  one_of t C (tag-neg e) = by t (neg_of C e)
    where
      by : (t : Tree) → IsNeg row w t → IsOne row w t
      by t (is-neg p o c x b K) = one-neg p o c x K
  one_of t C (tag-power e) = by t (power-of C e)
    where
      by : (t : Tree) → IsPower row w t → IsOne row w t
      by t (is-power p o c x q n a b K) = one_power p o c x q n K

pair-by : (row w : List ℕ) (t : Tree) → TwoTag w → Codes row t w → Shape row w t → Pair row w t
pair-by row w t T C (a-num p u z a b c) = absurd (omega (arith, c, T.node))
pair-by row w t T C (a-letter p b a c) = absurd (T.no-letter (omega (arith, a)))
pair-by row w t T C (a-neg p o c x a b d) = absurd (T.no-neg (omega (arith, a)))
pair-by row w t T C (a-power p o c x q n a b d) = absurd (T.no_power (omega (arith, a)))
pair-by row w t T C (a-two p o c g x y s f b d) =
    let k : 2 + number_of w - 2 ≡ length (enc row x) = omega (arith, s.size) in
    let e : 2 + number_of w ≡ 2 + length (enc row x) = omega (arith, s.size) in
    let l : length w ≡ 2 + (length (enc row x) + length (enc row y)) =
    omega (arith, length-drop 2 w, ap length d, length-append (enc row x) (enc row y), long C) in
    record {
      p = p;
      o = o;
      c = c;
      g = g;
      x = x;
      y = y;
      is = refl;
      operator = f;
      span = b;
      inside = omega (arith, e, l, enc-pos row y);
      left =
          record {
            is = (λ i. take (k i) (d i)) ∙ take-append_seam (enc row x) (enc row y);
            four = C.four;
            known = and_l (letters (is_in_row row) x) (letters (is_in_row row) y) C.known;
            short = C.short.1.0;
          };
      right =
          record {
            is =
                tail-part (2 + number_of w) w ∙ ap (λ n. drop n w) e ∙ sym (drop-drop (length (enc row x)) 2 w)
                ∙ ap (drop (length (enc row x))) d ∙ drop-append_seam (enc row x) (enc row y);
            four = C.four;
            known = and_r (letters (is_in_row row) x) (letters (is_in_row row) y) C.known;
            short = C.short.1.1;
          };
    }

-- it is that of an operator before two operands
pub pair : {row w : List ℕ} {t : Tree} → TwoTag w → Codes row t w → Pair row w t
pair {row} {w} {t} T C = pair-by row w t T C (shape C)

power-tag-by : {row w : List ℕ} (t : Tree) → Shape row w t → 2147483648 ≤ head_of w → 5 ≤ tag_of w → tag_of w ≡ 5
power-tag-by t (a-num p u z a b c) n e = absurd (omega (arith, c, n))
power-tag-by t (a-letter p b a c) n e = absurd (omega (arith, a, e))
power-tag-by t (a-neg p o c x a b d) n e = absurd (omega (arith, a, e))
power-tag-by t (a-two p o c g x y s f b d) n e = absurd (omega (arith, s.to, e))
power-tag-by t (a-power p o c x q m a b d) n e = omega (arith, a)

-- no node has a tag above 5
pub power-tag : {row w : List ℕ} {t : Tree} → Codes row t w → 2147483648 ≤ head_of w → 5 ≤ tag_of w → tag_of w ≡ 5
power-tag {row} {w} {t} C n e = power-tag-by t (shape C) n e
