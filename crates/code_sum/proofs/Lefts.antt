-- The sum of two pows: what stands at 1 where the first parts were added, by how their exponents compare.
-- Assumes nothing.
use Rattle.std.proofs.Common.{◌≡◌, ℕ, ◌+◌, ◌-◌, ◌<◌, ◌≤◌, List, [], ◌∷◌, length, take, drop, ap, ◌∙◌, arith}
use borrow.Rule.Slice.PartMut.{put_mid}
use Rattle.horner.specs.definitions.Form.{Form, pow}
use Rattle.code.specs.Widths.{Leaf}
use Rattle.code.specs.Coding.{enc, dec, Good, Codes, Coded, Begins}
use Rattle.code.specs.Operations.{pow_of, sum_of, zero_of}
use Rattle.code.specs.laws.Codes.{dec-enc, coded, codes-length, sum-shorter}
use Rattle.code.specs.laws.Good.{sum-good, good-less-pow}
use Rattle.code.specs.laws.Sizes.{sum-length}
use Rattle.code.proofs.Lists.{begins-as}
use Rattle.code.proofs.Making.{made-codes, kept-codes, zero-codes, pow-asks, pow-gives}
use Rattle.code_sum.proofs.Equations.{pows-eq, pows-gt}
use Rattle.code_sum.proofs.Sums.{less-length}

-- the a words from 1 on in o are the sum of the first parts, which is the first part of the sum
pub record LeftSum (w i j : ℕ) (p q r s o : List ℕ) (a : ℕ) : Type 0 where
  pub form : Form (Leaf w)
  pub codes : Codes w form (take a (drop 1 o))
  pub short : a ≤ 1 + length p + length r
  pub is : sum_of w (pow i (dec w p) (dec w q)) (pow j (dec w r) (dec w s)) ≡ pow_of w j form (sum_of w (dec w q) (dec w s))

module _
    {w i j : ℕ} {p q r s : List ℕ} (d : List ℕ) (room : 1 ≤ length d) (c : (Coded w p × Coded w q) × (Coded w r × Coded w s))
    (g : Good w (pow i (dec w p) (dec w q)) × Good w (pow j (dec w r) (dec w s))) where
  pub left-eq :
      {o e : List ℕ} {a n : ℕ} → i ≡ j → o ≡ put_mid 1 (length d - 1) d e → a ≡ n → Begins n (enc w (sum_of w (dec w p) (dec w r))) e →
      LeftSum w i j p q r s o a
  left-eq e x y m =
      record {
        form = sum_of w (dec w p) (dec w r);
        codes = rw (x, y) (made-codes 1 d _ _ room m (sum-good c.0.0.good c.1.0.good));
        short = omega (arith, m.size, sum-shorter c.0.0 c.1.0);
        is = pows-eq g.0 g.1 e ∙ ap (λ k. pow_of w k (sum_of w (dec w p) (dec w r)) (sum_of w (dec w q) (dec w s))) e;
      }

  pub left-gt :
      {o e : List ℕ} {a n : ℕ} → j < i → o ≡ put_mid 1 (length d - 1) d e → a ≡ n →
      Begins n (enc w (sum_of w (pow (i - j) (dec w p) (dec w (0 ∷ []))) (dec w r))) e → LeftSum w i j p q r s o a
  left-gt l x y m =
      let k = begins-as m (ap (λ h. enc w (sum_of w (pow (i - j) (dec w p) h) (dec w r))) (dec-enc (zero-codes w))) in
      record {
        form = sum_of w (pow (i - j) (dec w p) (zero_of w)) (dec w r);
        codes = rw (x, y) (made-codes 1 d _ _ room k (sum-good (good-less-pow j l g.0) c.1.0.good));
        short = omega (
          arith,
          m.size,
          k.size,
          sum-length w (pow (i - j) (dec w p) (zero_of w)) (dec w r),
          less-length w (i - j) (dec w p),
          codes-length c.0.0,
          codes-length c.1.0,
        );
        is = pows-gt g.0 g.1 l;
      }

  -- What make_pow asks and gives, where the sum of the second parts stands behind that of the first

  module _
      {o e : List ℕ} {a b : ℕ} (l : LeftSum w i j p q r s o a) (k : 1 + a ≤ length o)
      (m : Begins b (enc w (sum_of w (dec w q) (dec w s))) e) where
    abbrev pub twice : List ℕ
    twice = put_mid (1 + a) (length o - (1 + a)) o e

    both : Codes w l.form (take a (drop 1 twice)) × Codes w (sum_of w (dec w q) (dec w s)) (take b (drop (1 + a) twice))
    both = (
      kept-codes 1 a (1 + a) (length o - (1 + a)) o e l.codes (omega arith) k,
      made-codes (1 + a) o e b k m (sum-good c.0.1.good c.1.1.good),
    )

    pub pows-coded : Coded w (take a (drop 1 twice)) × Coded w (take b (drop (1 + a) twice))
    pows-coded = (coded both.0, coded both.1)

    pub pows-ask : Good w (pow_of w j (dec w (take a (drop 1 twice))) (dec w (take b (drop (1 + a) twice))))
    pows-ask = pow-asks j both l.is (sum-good g.0 g.1)

    pub pows-give :
        {n : ℕ} {t : List ℕ} →
        Begins n (enc w (pow_of w j (dec w (take a (drop 1 twice))) (dec w (take b (drop (1 + a) twice))))) t →
        Begins n (enc w (sum_of w (pow i (dec w p) (dec w q)) (pow j (dec w r) (dec w s)))) t
    pows-give z = pow-gives j both l.is z
