-- The code of a product, from the codes of its parts: what the functions that multiply forms return.
-- Assumes nothing.
use Rattle.std.proofs.Common.{refl, sym, ap, subst, arith, length-take-le, List, ◌∷◌, ℕ, suc, ◌+◌, ◌-◌, ◌≤◌, ◌<◌, length}
use Rattle.std.proofs.Math.Path.{◌≡◌, ◌∙◌}
use Rattle.std.specs.Prelude.{take, drop, set}
use Rattle.std.proofs.Math.ListN.{get_or}
use Rattle.std.proofs.lemmas.List.{take-set-le, drop-drop}
use Rattle.std.proofs.Math.Seq.{set_split, drop_at}
use borrow.Rule.Slice.PartMut.{put_mid, take_put}
use Rattle.horner.specs.definitions.Form.{Form, pop, pow, mkpop}
use Rattle.code.specs.Coding.{enc, dec, Good, Coded, Codes, Begins, RoomUnder}
use Rattle.code.specs.Operations.{pop_of, pow_of, sum_of, scale_of, zero_of}
use Rattle.code.specs.Widths.{Leaf}
use Rattle.code.specs.Heads.{SaysLeaf, SaysPop, SaysPow}
use Rattle.code.specs.laws.Codes.{IsInt, int_view, coded, dec-enc, tail-part}
use Rattle.code.specs.laws.Good.{scale-good}
use Rattle.code.specs.laws.Parts.{span, inner, first, rest, PopAt, PowAt, pop-at, pow-at}
use Rattle.code.proofs.Lists.{begins-as, length-tail-part}
use Rattle.code.proofs.Making.{made-codes, front-codes, pow-gives, one-put, zero-codes}
use Rattle.code.proofs.Regions.{region-sub}
use Rattle.code_room.specs.Fit.{prod_of, cross_of, Held}
use Rattle.code_room.specs.Tables.{CrossSpace}
use Rattle.code_room.proofs.laws.Equations.{int-any, any-int}
use Rattle.code_room.proofs.laws.Fit.{fit-prod}

-- ---- what a head says of a code
pub leaf-of-head : {w a : ℕ} {l : List ℕ} → Coded w l → SaysLeaf (get_or l 0 0) a → IsInt w (dec w l) a
leaf-of-head {w} {a} {l} c h = subst (IsInt w (dec w l)) (sym h.is) (int_view c h.below)

-- l is the code of (POP i p), with the p in `&l[1..]`
pub record PopIn (w i : ℕ) (l : List ℕ) : Type 0 where
  pub is : dec w l ≡ pop i (dec w (inner l))
  pub node : Good w (pop i (dec w (inner l)))
  pub part : Coded w (inner l)
  pub len : length l ≡ suc (length (inner l))
  pub some : 0 < length (inner l)

pub pop-of-head : {w i : ℕ} {l : List ℕ} → Coded w l → SaysPop (get_or l 0 0) i → PopIn w i l
pop-of-head {w} {i} {l} c h =
    let v : PopAt w l = pop-at c h.node h.none in
    record {
      is = v.is ∙ ap (λ k. pop k (dec w (inner l))) (sym h.exponent);
      node = subst (λ k. Good w (pop k (dec w (inner l)))) (sym h.exponent) v.node;
      part = v.part;
      len = v.len;
      some = v.some;
    }

-- l is the code of (POW i p q), with the p in x and the q in y
pub record PowIn (w i : ℕ) (l x y : List ℕ) : Type 0 where
  pub is : dec w l ≡ pow i (dec w x) (dec w y)
  pub node : Good w (pow i (dec w x) (dec w y))
  pub left : Coded w x
  pub right : Coded w y
  pub len : length l ≡ suc (length x + length y)

module _ {w i n : ℕ} {l : List ℕ} (c : Coded w l) (h : SaysPow (get_or l 0 0) i n) where
  at-head : PowAt w l
  at-head = pow-at c h.node (λ e. omega (arith, h.some, h.size, e))

  pub pow-span : n ≤ length (inner l)
  pow-span = omega (arith, h.size, at-head.size, at-head.len, length-tail-part 1 l)

  by-first : PowIn w i l (first l) (rest l)
  by-first =
      let v : PowAt w l = at-head in
      record {
        is = v.is ∙ ap (λ k. pow k (dec w (first l)) (dec w (rest l))) (sym h.exponent);
        node = subst (λ k. Good w (pow k (dec w (first l)) (dec w (rest l)))) (sym h.exponent) v.node;
        left = v.left;
        right = v.right;
        len = v.len;
      }

  -- the parts as `l[1..].split_at(n)` gives them
  pub pow-of-head : {x y : List ℕ} → x ≡ take n (inner l) → y ≡ drop n (inner l) → PowIn w i l x y
  pow-of-head {x} {y} e f =
      let k : 1 + span l - 1 ≡ n = omega (arith, h.size) in
      let m : 1 + n ≡ 1 + span l = omega (arith, h.size) in
      let e' : x ≡ first l = e ∙ ap (take n) (tail-part 1 l) ∙ ap (λ z. take z (drop 1 l)) (sym k) in
      let f' : y ≡ rest l = f ∙ ap (drop n) (tail-part 1 l) ∙ drop-drop n 1 l ∙ ap (λ z. drop z l) m ∙ sym (tail-part (1 + span l) l) in
      subst (PowIn w i l x) (sym f') (subst (λ z. PowIn w i l z (rest l)) (sym e') by-first)

-- (1) and (2)
module _ {w : ℕ} {h : Form (Leaf w)} {x : ℕ} (v : IsInt w h x) (y : Form (Leaf w)) where
  pub int-times : enc w (scale_of w x y) ≡ enc w (prod_of w h y)
  int-times = ap (enc w) (sym (int-any w x y) ∙ ap (λ z. prod_of w z y) (sym v.is))

  pub times-int : enc w (scale_of w x y) ≡ enc w (prod_of w y h)
  times-int = ap (enc w) (sym (any-int w x y) ∙ ap (λ z. prod_of w y z) (sym v.is))

-- what stands before a part that is lent is kept
kept-codes :
    {w : ℕ} {h : Form (Leaf w)} (n : ℕ) (d e : List ℕ) (k : ℕ) → n ≤ length d → Codes w h (take n d) → Codes w h (take n (put_mid n k d e))
kept-codes n d e k l c = record { is = take_put n k d e l ∙ c.is; good = c.good }

-- pop(1, .), by the head word
pub up-int : {w : ℕ} {h : Form (Leaf w)} {x : ℕ} → IsInt w h x → pop_of w 1 h ≡ h
unfolding pop_of
up-int v = rw v.is

pub up-pop : {w i : ℕ} {l : List ℕ} → PopIn w i l → pop_of w 1 (dec w l) ≡ pop (1 + i) (dec w (inner l))
unfolding pop_of
up-pop v = ap (mkpop 1) v.is

pub up-pow : {w i : ℕ} {l x y : List ℕ} → PowIn w i l x y → pop_of w 1 (dec w l) ≡ pop 1 (dec w l)
unfolding pop_of
up-pow v = ap (mkpop 1) v.is ∙ ap (pop 1) (sym v.is)

-- a store after a form, and the leaf 0 that it makes

stored-before :
    {w : ℕ} {h : Form (Leaf w)} (a m f x : ℕ) (d : List ℕ) → a + m ≤ f → Codes w h (take m (drop a d)) →
    Codes w h (take m (drop a (set d f x)))
stored-before a m f x d l c =
    let z : 0 + a ≡ a = omega arith in
    record {
      is =
          ap (λ k. take m (drop k (set d f x))) (sym z)
          ∙ sym (region-sub 0 f a m (set d f x) l)
          ∙ ap (λ k. take m (drop a k)) (take-set-le f d f x (omega arith))
          ∙ region-sub 0 f a m d l
          ∙ ap (λ k. take m (drop k d)) z
          ∙ c.is;
      good = c.good;
    }

stored-zero : (w f : ℕ) (d : List ℕ) → f < length d → Codes w (zero_of w) (take 1 (drop f (set d f 0)))
stored-zero w f d l =
    record {
      is =
          ap (take 1) (ap (drop f) (set_split d f 0 l) ∙ drop_at (take f d) (0 ∷ drop (suc f) d) f (length-take-le f d (omega arith)))
          ∙ (zero-codes w).is;
      good = (zero-codes w).good;
    }

-- so that pow(i, x, 0) can be made of the x behind the first word
pub with-zero :
    {w : ℕ} {h : Form (Leaf w)} (n : ℕ) (d : List ℕ) → 2 + n ≤ length d → Codes w h (take n (drop 1 d)) →
    Codes w h (take n (drop 1 (set d (1 + n) 0))) × Codes w (zero_of w) (take 1 (drop (1 + n) (set d (1 + n) 0)))
with-zero {w} n d l c = (stored-before 1 n (1 + n) 0 d (omega arith) c, stored-zero w (1 + n) d (omega arith))

-- that pow(i, x, 0) in e, of b words
pub cross-made :
    {w b : ℕ} (i n : ℕ) (d : List ℕ) {e : List ℕ} → 2 + n ≤ length d → Coded w (take n (drop 1 d)) →
    Good w (pow_of w i (dec w (take n (drop 1 d))) (zero_of w)) →
    Begins b (enc w (pow_of w i (dec w (take n (drop 1 (set d (1 + n) 0)))) (dec w (take 1 (drop (1 + n) (set d (1 + n) 0)))))) e →
    Codes w (pow_of w i (dec w (take n (drop 1 d))) (zero_of w)) (take b e)
cross-made {w} {b} i n d {e} l c g m = front-codes {n = b} {d = e} (pow-gives i (with-zero n d l c) refl m) g

-- a leaf times p, made behind the first word of d
pub scale-made :
    {w n : ℕ} (a : ℕ) {p : Form (Leaf w)} (d : List ℕ) {e : List ℕ} → 1 ≤ length d → Begins n (enc w (scale_of w a p)) e → Good w p →
    Codes w (scale_of w a p) (take n (drop 1 (one-put d e)))
scale-made {w} {n} a d {e} l m g = made-codes 1 d e n l m (scale-good a g)

-- What sum_cross asks and gives, where the form at the front of o was kept, of a words, and where x is p pop(1, s), made in d behind its
-- first word
module _
    {w i n l : ℕ} {h p s : Form (Leaf w)} (a : ℕ) (o o' d d' : List ℕ)
    (c : Codes w h (take a o)) (m : Begins n (enc w (prod_of w p (pop_of w 1 s))) d') (f : CrossSpace w i p s (length d) (length o - a) l)
  where
    abbrev front : List ℕ
    front = take a (put_mid a (length o - a) o o')

    abbrev behind : List ℕ
    behind = take n (drop 1 (one-put d d'))

    kept : Codes w h front
    kept = kept-codes a o o' (length o - a) (omega (arith, f.tables)) c

    times-up : Codes w (prod_of w p (pop_of w 1 s)) behind
    times-up = made-codes 1 d d' n (omega (arith, f.tables)) m (fit-prod f.fit).good

    cross-is : pow_of w i (dec w behind) (zero_of w) ≡ cross_of w i p s
    cross-is = ap (λ x. pow_of w i x (zero_of w)) (dec-enc times-up)

    sum_is : sum_of w (dec w front) (pow_of w i (dec w behind) (zero_of w)) ≡ sum_of w h (cross_of w i p s)
    sum_is = rw (dec-enc kept) (ap (sum_of w h) cross-is)

    pub cross-asks :
        {u : List ℕ} → length (put_mid a (length o - a) o o') ≡ length o → length (one-put d d') ≡ length d → length u ≡ l →
        a ≤ 3073 → Held w (sum_of w h (cross_of w i p s)) →
        ((a ≤ length (put_mid a (length o - a) o o')) × Coded w front)
        × ((((2 + n ≤ length (one-put d d')) × (length (one-put d d') ≤ 33554432)) × Coded w behind)
        × ((0 < i) × (Good w (pow_of w i (dec w behind) (zero_of w))
        × ((length (enc w (sum_of w (dec w front) (pow_of w i (dec w behind) (zero_of w)))) ≤ length (put_mid a (length o - a) o o'))
        × RoomUnder (a + length (enc w (pow_of w i (dec w behind) (zero_of w)))) u))))
    cross-asks eo ed eu few held = (
      (omega (arith, f.tables), coded kept),
      (
        ((omega (arith, f.tables, f.pos, m.size, (fit-prod f.fit).words), omega (arith, f.tables)), coded times-up),
        (
          f.pos-i,
          (
            subst (Good w) (sym cross-is) f.held.good,
            (
              omega (arith, f.tables, ap (λ x. length (enc w x)) sum_is, held.words),
              record {
                fits = omega (arith, f.tables, ap (λ x. length (enc w x)) cross-is, f.held.words);
                small = omega (
                  arith,
                  f.tables,
                );
              },
            ),
          ),
        ),
      ),
    )

    pub cross-gives :
        {r : ℕ} {v : List ℕ} → Begins r (enc w (sum_of w (dec w front) (pow_of w i (dec w behind) (zero_of w)))) v → Begins r
        (enc w (sum_of w h (cross_of w i p s))) v
    cross-gives b = begins-as b (ap (enc w) sum_is)
