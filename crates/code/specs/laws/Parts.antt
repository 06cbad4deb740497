-- The parts of a coded node as the slices that a function reaches: what the head word says of them.
use Rattle.std.specs.Prelude.{◌≡◌, ℕ, suc, ◌+◌, ◌-◌, ◌*◌, ◌/◌, ◌%◌, ◌<◌, ◌≤◌, List, [], ◌∷◌, ◌++◌, length, take, drop, ◌≢◌, slice_index, slice_index_or}
use Rattle.std.proofs.Common.{sym, ap, ap₂, subst, ◌∙◌, arith}
use Rattle.horner.specs.definitions.Form.{Form, pop, pow}
use Rattle.code.specs.Coding.{enc, dec, Good, Codes, Coded}
use Rattle.code.specs.Heads.{SaysLeaf, SaysPop, SaysPow}
use Rattle.code.specs.Widths.{Leaf}
use Rattle.code.specs.laws.Codes.{IsInt, IsPop, IsPow, codes-length, dec-enc, coded, int_view, pop-view, pow-view, pop-part, pow_left, pow_right}

-- `&x[1..]`, the p of a pop; `&x[1..1 + s]` and `&x[1 + s..]`, the p and the q of a pow whose p takes s words
abbrev pub inner : List ℕ → List ℕ
inner l = take (length l - 1) (drop 1 l)

abbrev pub left_of : ℕ → List ℕ → List ℕ
left_of s l = take (1 + s - 1) (drop 1 l)

abbrev pub right_of : ℕ → List ℕ → List ℕ
right_of s l = take (length l - (1 + s)) (drop (1 + s) l)

-- l is the code of (POP i p). (`head` is stated of lists, so that omega does not read it: it goes by the lengths.)
pub record PopOf (w : ℕ) (l : List ℕ) (i : ℕ) : Type 0 where
  pub is : dec w l ≡ pop i (dec w (inner l))
  pub head : slice_index_or l 0 0 ∷ [] ≡ (2147483648 + i) ∷ []
  pub node : Good w (pop i (dec w (inner l)))
  pub part : Coded w (inner l)
  pub len : length l ≡ suc (length (inner l))
  pub some : 0 < length (inner l)

-- l is the code of (POW i p q), and p takes s words
pub record PowOf (w : ℕ) (l : List ℕ) (i s : ℕ) : Type 0 where
  pub is : dec w l ≡ pow i (dec w (left_of s l)) (dec w (right_of s l))
  pub head : slice_index_or l 0 0 ∷ [] ≡ (2147483648 + 64 * length (left_of s l) + i) ∷ []
  pub size : s ≡ length (left_of s l)
  pub node : Good w (pow i (dec w (left_of s l)) (dec w (right_of s l)))
  pub left : Coded w (left_of s l)
  pub right : Coded w (right_of s l)
  pub len : length l ≡ suc (length (left_of s l) + length (right_of s l))
  pub some_left : 0 < length (left_of s l)
  pub some_right : 0 < length (right_of s l)

-- The same by the head word alone: i is its last 6 bits, and s the bits between them and the first.

-- how many words the p of a pow takes; 0 for a pop
abbrev pub span : List ℕ → ℕ
span l = (slice_index l 0 - 2147483648) / 64

abbrev pub first : List ℕ → List ℕ
first l = left_of (span l) l

abbrev pub rest : List ℕ → List ℕ
rest l = right_of (span l) l

abbrev pub PopAt : ℕ → List ℕ → Type 0
PopAt w l = PopOf w l (slice_index l 0 % 64)

abbrev pub PowAt : ℕ → List ℕ → Type 0
PowAt w l = PowOf w l (slice_index l 0 % 64) (span l)

module _ {w : ℕ} {l : List ℕ} (c : Coded w l) (n : 2147483648 ≤ slice_index l 0) where
  pub pop-at : span l ≡ 0 → PopAt w l
  pop-at s =
      let v : IsPop w (dec w l) l = pop-view c n s in
      let i : slice_index_or l 0 0 % 64 ≡ v.i = omega (arith, v) in
      let p : dec w (inner l) ≡ v.p = dec-enc (pop-part v) in
      let k : length (inner l) ≡ length (enc w v.p) = codes-length (pop-part v) in
      let word : slice_index_or l 0 0 ≡ 2147483648 + slice_index l 0 % 64 = omega (arith, v) in
      record {
        is = v.is ∙ sym (ap₂ pop i p);
        head = ap (λ x. x ∷ []) word;
        node = subst (Good w) (sym (ap₂ pop i p)) v.good-node;
        part = coded (pop-part v);
        len = omega (arith, v);
        some = omega (arith, v);
      }

  pub pow-at : (span l ≢ 0) → PowAt w l
  pow-at s =
      let v : IsPow w (dec w l) l = pow-view c n s in
      let i : slice_index_or l 0 0 % 64 ≡ v.i = omega (arith, v) in
      let cp : Codes w v.p (first l) = pow_left v (1 + span l - 1) (omega (arith, v)) in
      let cq : Codes w v.q (rest l) = pow_right v (1 + span l) (omega (arith, v)) in
      let e : pow (slice_index l 0 % 64) (dec w (first l)) (dec w (rest l)) ≡ pow v.i v.p v.q = λ t. pow (i t) (dec-enc cp t)
      (dec-enc cq t) in
      let kp : length (first l) ≡ length (enc w v.p) = codes-length cp in
      let kq : length (rest l) ≡ length (enc w v.q) = codes-length cq in
      let word : slice_index_or l 0 0 ≡ 2147483648 + 64 * length (first l) + slice_index l 0 % 64 = omega (arith, v) in
      record {
        is = v.is ∙ sym e;
        head = ap (λ x. x ∷ []) word;
        size = omega (arith, v);
        node = subst (Good w) (sym e) v.good-node;
        left = coded cp;
        right = coded cq;
        len = omega (arith, v);
        some_left = omega (arith, v);
        some_right = omega (arith, v);
      }

-- What a head word says of the list that it leads.
module _ {w : ℕ} {l : List ℕ} (c : Coded w l) where
  pub leaf-said : {a : ℕ} → SaysLeaf (slice_index l 0) a → IsInt w (dec w l) a
  leaf-said s = rw s.is (int_view c s.below)

  pub pop-said : {i : ℕ} → SaysPop (slice_index l 0) i → PopOf w l i
  pop-said s = rw s.exponent (pop-at c s.node s.none)

  pub pow-said : {i s : ℕ} → SaysPow (slice_index l 0) i s → PowOf w l i s
  pow-said s = rw (s.exponent, s.size) (pow-at c s.node (λ e. absurd (omega (arith, s.some, s.size))))

-- The code of a node that has the head word of another: the same exponent and, for a pow, a p as long as the other's.

pub pop-made : {w i : ℕ} {l : List ℕ} → PopOf w l i → (p : Form (Leaf w)) → (slice_index l 0 ∷ []) ++ enc w p ≡ enc w (pop i p)
unfolding enc
pop-made {w} v p = ap (λ k. k ++ enc w p) v.head

pub pow-made :
    {w i s : ℕ} {l : List ℕ} → PowOf w l i s → (p q : Form (Leaf w)) → length (enc w p) ≡ length (left_of s l) →
    ((slice_index l 0 ∷ []) ++ enc w p) ++ enc w q ≡ enc w (pow i p q)
unfolding enc
pow-made {w} {i} v p q k =
    ap (λ k. (k ++ enc w p) ++ enc w q) v.head ∙ ap (λ n. (2147483648 + 64 * n + i) ∷ (enc w p ++ enc w q)) (sym k)

-- the code of a pow whose p is at hand as a code
pub pow-put :
    {w : ℕ} (i : ℕ) {l : List ℕ} → Coded w l → (q : Form (Leaf w)) →
    ((2147483648 + 64 * length l + i) ∷ l) ++ enc w q ≡ enc w (pow i (dec w l) q)
unfolding enc
pow-put {w} i {l} c q = ap (λ k. ((2147483648 + 64 * length k + i) ∷ k) ++ enc w q) c.is
