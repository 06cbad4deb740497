-- A form in a region of a slice, and what `make_pop` and `make_pow` make of it there.
-- Assumes nothing.
use Rattle.std.proofs.Common.{◌≡◌, ℕ, zero, suc, ◌+◌, ◌-◌, ◌*◌, ◌<◌, ◌≤◌, List, [], ◌∷◌, ◌++◌, length, get_or, take, drop, set}
use Rattle.std.proofs.Common.{sym, refl, ap, ◌∙◌, subst, arith, length-set, drop-drop, get_or-append-add, take-add, eq-eqb, ne_eqb}
use Rattle.std.proofs.Math.Seq.{take-length, take-append_seam}
use borrow.Rule.Slice.PartMut.{put_mid}
use Rattle.horner.specs.definitions.Form.{Form, int, pop, pow}
use Rattle.code.specs.Coding.{enc, Good, Codes, Begins}
use Rattle.code.specs.Heads.{SaysLeaf, SaysPop, SaysPow}
use Rattle.code.specs.Operations.{pop_of, pow_of}
use Rattle.code.specs.Widths.{Leaf, leaf}
use Rattle.code.specs.laws.Codes.{IsInt, IsPop, IsPow, codes-length, int_view, pop-view, pow-view}
use Rattle.code.specs.laws.Good.{good-pop, good-pow}
use Rattle.code.specs.laws.Sizes.{enc-pos}
use Rattle.code.specs.laws.Widths.{leaf-number, zero-leaf}
use Rattle.code.proofs.Making.{leaf-code, leaf-length}
use Rattle.code.proofs.Lists.{begins-as, begins-le, begins-set, begins-tail, length-tail-part}
use Rattle.code.proofs.Regions.{region-sub, region-set, region-head, region-put, region-at, length-region, begins-shift}
use Rattle.code.proofs.Regions.{begins-store}

-- A form at a in d, of n words
module _ {w : ℕ} {h : Form (Leaf w)} (a n : ℕ) (d : List ℕ) (room : a + n ≤ length d) (c : Codes w h (take n (drop a d))) where
  pub placed-size : n ≡ length (enc w h)
  placed-size = sym (length-region a n d room) ∙ codes-length c

  pub placed-head : get_or (take n (drop a d)) 0 0 ≡ get_or d a 0
  placed-head = region-head a n d (omega (arith, placed-size, enc-pos w h))

  pub placed-some : 0 < n
  placed-some = omega (arith, placed-size, enc-pos w h)

  pub placed-int : {x : ℕ} → SaysLeaf (get_or d a 0) x → IsInt w h x
  placed-int s = rw s.is (rw placed-head at (int_view c) s.below)

  pub placed-pop : {i : ℕ} → SaysPop (get_or d a 0) i → IsPop w h (take n (drop a d))
  placed-pop s = pop-view c (rw placed-head s.node) (rw placed-head s.none)

  -- the exponent that the head word says
  pub placed-pop-exponent : {i : ℕ} (s : SaysPop (get_or d a 0) i) → i ≡ (placed-pop s).i
  placed-pop-exponent s = let v = placed-pop s in omega (arith, s.exponent, placed-head, v.word, v.small)

  pub placed-pow : {i k : ℕ} → SaysPow (get_or d a 0) i k → IsPow w h (take n (drop a d))
  placed-pow s = pow-view c (rw placed-head s.node) (rw placed-head (λ e. absurd (omega (arith, s.size, s.some))))

  pub placed-exponent : {i k : ℕ} (s : SaysPow (get_or d a 0) i k) → i ≡ (placed-pow s).i
  placed-exponent s = let v = placed-pow s in omega (arith, s.exponent, placed-head, v.word, v.small)

  pub placed-span : {i k : ℕ} (s : SaysPow (get_or d a 0) i k) → k ≡ length (enc w (placed-pow s).p)
  placed-span s = let v = placed-pow s in omega (arith, s.size, placed-head, v.word, v.small)

  pub placed-parts : {i k : ℕ} (s : SaysPow (get_or d a 0) i k) → n ≡ suc (k + length (enc w (placed-pow s).q))
  placed-parts s = omega (arith, placed-span s, (placed-pow s).len, length-region a n d room)

-- The code of pop(i, h)

pub mkpop-int : {w : ℕ} {h : Form (Leaf w)} {x : ℕ} (i : ℕ) → 0 < i → IsInt w h x → x ∷ [] ≡ enc w (pop_of w i h)
unfolding pop_of
mkpop-int zero l v = absurd (omega arith)
mkpop-int {w} {h} {x} (suc i) l v = leaf-code v ∙ ap (enc w) (v.is ∙ rw v.is)

pub mkpop-pop :
    {w : ℕ} {h : Form (Leaf w)} {l : List ℕ} (i : ℕ) → 0 < i → (v : IsPop w h l) →
    (2147483648 + (i + v.i)) ∷ enc w v.p ≡ enc w (pop_of w i h)
unfolding enc pop_of
mkpop-pop zero z v = absurd (omega arith)
mkpop-pop (suc i) z v = rw v.is

pub mkpop-pow : {w : ℕ} {h : Form (Leaf w)} {l : List ℕ} (i : ℕ) → 0 < i → (v : IsPow w h l) → (2147483648 + i) ∷ l ≡ enc w (pop_of w i h)
unfolding enc pop_of
mkpop-pow zero z v = absurd (omega arith)
mkpop-pow (suc i) z v = rw v.is (ap (λ r. (2147483648 + suc i) ∷ r) v.list)

pub mkpop-pop-small : {w : ℕ} {h : Form (Leaf w)} {l : List ℕ} (i : ℕ) → 0 < i → (v : IsPop w h l) → Good w (pop_of w i h) → i + v.i ≤ 63
unfolding pop_of
mkpop-pop-small zero z v g = absurd (omega arith)
mkpop-pop-small {w} (suc i) z v g = let h : Good w (pop (suc i + v.i) v.p) = rw v.is at g in omega (arith, (good-pop h).1.0)

pub mkpop-pow-small : {w : ℕ} {h : Form (Leaf w)} {l : List ℕ} (i : ℕ) → 0 < i → IsPow w h l → Good w (pop_of w i h) → i ≤ 63
unfolding pop_of
mkpop-pow-small zero z v g = absurd (omega arith)
mkpop-pow-small {w} (suc i) z v g =
    let h : Good w (pop (suc i) (pow v.i v.p v.q)) = rw v.is at g in omega (arith, (good-pop h).1.0)

-- the words of a pop's form, moved down
pub popped :
    {w : ℕ} {h : Form (Leaf w)} (d e : List ℕ) (n x : ℕ) → 1 + n ≤ length d → (v : IsPop w h (take n (drop 1 d))) →
    e ≡ take (n - 1) (drop 1 (take (length (set d 0 x) - 1) (drop 1 (set d 0 x)))) ++ drop (n - 1)
    (take (length (set d 0 x) - 1) (drop 1 (set d 0 x))) →
    Begins (1 + (n - 1)) (x ∷ enc w v.p) (put_mid 1 (length (set d 0 x) - 1) (set d 0 x) e)
popped {w} d e n x room v q =
    let d' = set d 0 x in
    let l : length d' ≡ length d = length-set d 0 x in
    let len : n ≡ suc (length (enc w v.p)) = sym (length-region 1 n d room) ∙ v.len in
    let n-1 : n - 1 ≡ length (enc w v.p) = omega arith in
    let r : take (n - 1) (drop 1 (take (length d' - 1) (drop 1 d'))) ≡ enc w v.p =
    region-sub 1 (length d' - 1) 1 (n - 1) d' (omega arith)
    ∙ region-set 2 (n - 1) 0 d x (omega arith)
    ∙ sym (region-sub 1 n 1 (n - 1) d (omega arith))
    ∙ ap (λ z. take (n - 1) (drop 1 z)) v.list
    ∙ ap (λ k. take k (enc w v.p)) n-1
    ∙ take-length (enc w v.p) in
    begins-tail (begins-set d x (omega arith))
    (begins-as (begins-shift (take (length d' - 1) (drop 1 d')) e 1 (n - 1) (omega (arith, length-tail-part 1 d')) q) r)

-- What make_pop makes of a form h that stands at 1 in d
module _
    {w : ℕ} {h : Form (Leaf w)} (i n : ℕ) (d : List ℕ) (pos : 0 < i) (room : 1 + n ≤ length d) (c : Codes w h (take n (drop 1 d))) where
  pub pops-leaf : {x : ℕ} → SaysLeaf (get_or d 1 0) x → Begins 1 (enc w (pop_of w i h)) (set d 0 x)
  pops-leaf {x} s = begins-as (begins-set d x (omega arith)) (mkpop-int i pos (placed-int 1 n d room c s))

  pub pops-pop-small : {j : ℕ} → SaysPop (get_or d 1 0) j → Good w (pop_of w i h) → i + j ≤ 63
  pops-pop-small s g = omega (arith, placed-pop-exponent 1 n d room c s, mkpop-pop-small i pos (placed-pop 1 n d room c s) g)

  pub pops-pop :
      {j : ℕ} (e : List ℕ) → SaysPop (get_or d 1 0) j →
      let d' = set d 0 (2147483648 + (i + j)) in
      e ≡ take (n - 1) (drop 1 (take (length d' - 1) (drop 1 d'))) ++ drop (n - 1) (take (length d' - 1) (drop 1 d')) →
      Begins n (enc w (pop_of w i h)) (put_mid 1 (length d' - 1) d' e)
  pops-pop {j} e s q =
      let v = placed-pop 1 n d room c s in
      let k : 1 + (n - 1) ≡ n = omega (arith, placed-some 1 n d room c) in
      let x : 2147483648 + (i + j) ≡ 2147483648 + (i + v.i) = omega (arith, placed-pop-exponent 1 n d room c s) in
      rw (← k) (begins-as (popped d e n (2147483648 + (i + j)) room v q) (ap (λ z. z ∷ enc w v.p) x ∙ mkpop-pop i pos v))

  pub pops-pow-small : {j k : ℕ} → SaysPow (get_or d 1 0) j k → Good w (pop_of w i h) → i ≤ 63
  pops-pow-small s g = mkpop-pow-small i pos (placed-pow 1 n d room c s) g

  pub pops-pow : {j k : ℕ} → SaysPow (get_or d 1 0) j k → Begins (1 + n) (enc w (pop_of w i h)) (set d 0 (2147483648 + i))
  pops-pow s = begins-as (begins-store d n _ room) (mkpop-pow i pos (placed-pow 1 n d room c s))

-- The code of pow(i, h, q)

pub mkpow-zero : {w : ℕ} {h : Form (Leaf w)} (i : ℕ) (q : Form (Leaf w)) → IsInt w h 0 → pow_of w i h q ≡ pop_of w 1 q
unfolding pow_of pop_of
mkpow-zero {w} i q v = rw (v.is, eq-eqb (leaf w 0).0 0 (zero-leaf w))

pub mkpow-int : {w : ℕ} {h : Form (Leaf w)} {x : ℕ} (i : ℕ) (q : Form (Leaf w)) → IsInt w h x → (x ≡ 0 → ⊥) → pow_of w i h q ≡ pow i h q
unfolding pow_of
mkpow-int {w} {x = x} i q v n = rw (v.is, ne_eqb (leaf w x).0 0 (λ e. n (sym (leaf-number w x v.below) ∙ e)))

pub mkpow-pop : {w : ℕ} {h : Form (Leaf w)} {l : List ℕ} (i : ℕ) (q : Form (Leaf w)) → IsPop w h l → pow_of w i h q ≡ pow i h q
unfolding pow_of
mkpow-pop i q v = rw v.is

module _ (w i j : ℕ) (r : Form (Leaf w)) where
  pow-plain : (s q : Form (Leaf w)) → (get_or (enc w s) 0 0 ≡ 0 → ⊥) → pow_of w i (pow j r s) q ≡ pow i (pow j r s) q
  unfolding enc pow_of
  pow-plain (int c) q n = rw (ne_eqb c.0 0 n)
  pow-plain (pop k s) q n = refl
  pow-plain (pow k s s') q n = refl

  pow-merged : (s q : Form (Leaf w)) → get_or (enc w s) 0 0 ≡ 0 → pow_of w i (pow j r s) q ≡ pow (i + j) r q
  unfolding enc pow_of
  pow-merged (int c) q e = rw (eq-eqb c.0 0 e)
  pow-merged (pop k s) q e = absurd (omega arith)
  pow-merged (pow k s s') q e = absurd (omega arith)

module _ {w : ℕ} {h : Form (Leaf w)} {l : List ℕ} (i : ℕ) (q : Form (Leaf w)) (v : IsPow w h l) where
  pub mkpow-pow : (get_or (enc w v.q) 0 0 ≡ 0 → ⊥) → pow_of w i h q ≡ pow i h q
  mkpow-pow n = rw v.is (pow-plain w i v.i v.p v.q q n)

  pub mkpow-merged : get_or (enc w v.q) 0 0 ≡ 0 → pow_of w i h q ≡ pow (i + v.i) v.p q
  mkpow-merged e = rw v.is (pow-merged w i v.i v.p v.q q e)

pub zero-length : (w : ℕ) (s : Form (Leaf w)) → get_or (enc w s) 0 0 ≡ 0 → length (enc w s) ≡ 1
unfolding enc
zero-length w (int c) e = refl
zero-length w (pop k s) e = absurd (omega arith)
zero-length w (pow k s s') e = absurd (omega arith)

-- the head word of a pow's q, which stands at 1 + s in its code
pub right-head :
    {w : ℕ} {h : Form (Leaf w)} {l : List ℕ} (v : IsPow w h l) (k : ℕ) → k ≡ suc (length (enc w v.p)) → get_or l k 0 ≡ get_or
    (enc w v.q) 0 0
right-head {w} v k e =
    let z : length (enc w v.p) ≡ length (enc w v.p) + 0 = omega arith in
    rw (v.list, e) (ap (λ n. get_or (enc w v.p ++ enc w v.q) n 0) z ∙ get_or-append-add (enc w v.p) (enc w v.q) 0 0)

-- the code of a pow whose parts stand in regions
pub pow-code :
    {w : ℕ} (i a : ℕ) (x y : List ℕ) {p q : Form (Leaf w)} → Codes w p x → Codes w q y → a ≡ length (enc w p) →
    (2147483648 + 64 * a + i) ∷ (x ++ y) ≡ enc w (pow i p q)
unfolding enc
pow-code i a x y c e f = rw (c.is, e.is, f)

pub pow_small : {w i : ℕ} {p q h : Form (Leaf w)} → h ≡ pow i p q → Good w h → i ≤ 63
pow_small {w} e g = (good-pow (subst (Good w) e g)).1.0

-- A plain pow: a store before the two forms
pub stored :
    {w : ℕ} (d : List ℕ) (a b i : ℕ) {p q : Form (Leaf w)} → 1 + a + b ≤ length d → Codes w p (take a (drop 1 d)) → Codes w q
    (take b (drop (1 + a) d)) →
    Begins (1 + a + b) (enc w (pow i p q)) (set d 0 (2147483648 + 64 * a + i))
stored d a b i {p} {q} room c e =
    let x = 2147483648 + 64 * a + i in
    let s : 1 + (a + b) ≡ 1 + a + b = omega arith in
    let r : take (a + b) (drop 1 d) ≡ take a (drop 1 d) ++ take b (drop (1 + a) d) =
    take-add a b (drop 1 d) ∙ ap (λ l. take a (drop 1 d) ++ take b l) (drop-drop a 1 d) in
    rw (← s) (begins-as (begins-store d (a + b) x (omega arith))
    (ap (λ l. x ∷ l) r ∙ pow-code i a (take a (drop 1 d)) (take b (drop (1 + a) d)) c e (placed-size 1 a d (omega arith) c)))

-- pow(i, 0, q): the form that make_pop made at 1, moved to 0
pub lifted :
    {l : List ℕ} (d e f : List ℕ) (n : ℕ) → 1 ≤ length d → Begins n l e → length e ≡ length d - 1 →
    f ≡ take n (drop 1 (put_mid 1 (length d - 1) d e)) ++ drop n (put_mid 1 (length d - 1) d e) →
    length (put_mid 1 (length d - 1) d e) ≡ length d →
    Begins n l f
lifted d e f n pos m len q k =
    let le = begins-le m in
    begins-as (begins-shift (put_mid 1 (length d - 1) d e) f 1 n (omega arith) q)
    (region-put 1 0 n d e pos (omega arith) ∙ m.is)

-- pow(i, pow(j, r, 0), q): what join leaves
pub merged :
    {w : ℕ} {h q : Form (Leaf w)} (d e : List ℕ) (a b i : ℕ) (c : Codes w h (take a (drop 1 d))) (room : 1 + a + b ≤ length d)
    (v : IsPow w h (take a (drop 1 d)))
    (s x : ℕ) → s ≡ length (enc w v.p) → x ≡ 2147483648 + 64 * s + (i + v.i) → get_or (enc w v.q) 0 0 ≡ 0 → Codes w q
    (take b (drop (1 + a) d)) →
    Begins (1 + s + b) ((take 1 (set d 0 x) ++ take s (drop 2 (set d 0 x))) ++ take b (drop (3 + s) (set d 0 x))) e →
    Begins (1 + s + b) (enc w (pow (i + v.i) v.p q)) e
merged {w} {h} {q} d e a b i c room v s x es ex z cq m =
    let size : a ≡ suc (length (enc w v.p) + length (enc w v.q)) = sym (length-region 1 a d (omega arith)) ∙ v.len in
    let one : length (enc w v.q) ≡ 1 = zero-length w v.q z in
    let k : 3 + s ≡ 1 + a = omega arith in
    let l₁ : take 1 (set d 0 x) ≡ x ∷ [] = (begins-set d x (omega arith)).is in
    let l₂ : take s (drop 2 (set d 0 x)) ≡ enc w v.p =
    region-set 2 s 0 d x (omega arith)
    ∙ sym (region-sub 1 a 1 s d (omega arith))
    ∙ ap (λ z. take s (drop 1 z)) v.list
    ∙ ap (λ n. take n (enc w v.p ++ enc w v.q)) es
    ∙ take-append_seam (enc w v.p) (enc w v.q) in
    let l₃ : take b (drop (3 + s) (set d 0 x)) ≡ enc w q =
    region-set (3 + s) b 0 d x (omega arith) ∙ ap (λ n. take b (drop n d)) k ∙ cq.is in
    begins-as m (rw (l₁, l₂, l₃) (ap (λ n. n ∷ (enc w v.p ++ enc w q)) (rw (ex, es))
    ∙ pow-code (i + v.i) (length (enc w v.p)) (enc w v.p) (enc w q) (record { is = refl; good = v.good-p })
    (record { is = refl; good = cq.good }) refl))

-- What make_pow makes of a form h of a words that stands at 1 in d, and a form q of b words behind it
module _
    {w : ℕ} {h q : Form (Leaf w)} (i a b : ℕ) (d : List ℕ) (room : 1 + a + b ≤ length d)
    (c : Codes w h (take a (drop 1 d)) × Codes w q (take b (drop (1 + a) d))) where
  abbrev front : 1 + a ≤ length d
  front = omega arith

  pub pows-zero-form : SaysLeaf (get_or d 1 0) 0 → pow_of w i h q ≡ pop_of w 1 q
  pows-zero-form s = mkpow-zero i q (placed-int 1 a d front c.0 s)

  pub pows-zero-size : SaysLeaf (get_or d 1 0) 0 → a ≡ 1
  pows-zero-size s = placed-size 1 a d front c.0 ∙ leaf-length (placed-int 1 a d front c.0 s)

  -- q as it stands in the part from 1 on
  pub pows-zero-moved : SaysLeaf (get_or d 1 0) 0 → take b (drop 1 (take (length d - 1) (drop 1 d))) ≡ take b (drop (1 + a) d)
  pows-zero-moved s =
      let n : 2 ≡ 1 + a = omega (arith, pows-zero-size s) in
      region-sub 1 (length d - 1) 1 b d (omega arith) ∙ ap (λ k. take b (drop k d)) n

  module _ {j k : ℕ} (s : SaysPow (get_or d 1 0) j k) where
    abbrev shape : IsPow w h (take a (drop 1 d))
    shape = placed-pow 1 a d front c.0 s

    -- the head word of the q of the pow that stands at 1
    last : get_or d (2 + k) 0 ≡ get_or (enc w shape.q) 0 0
    last =
        let n : 1 + (1 + k) ≡ 2 + k = omega arith in
        ap (λ m. get_or d m 0) (sym n)
        ∙ sym (region-at 1 a (1 + k) d (omega (arith, placed-parts 1 a d front c.0 s, shape.pos-q)))
        ∙ right-head shape (1 + k) (omega (arith, placed-span 1 a d front c.0 s))

    pub pows-last : 2 + k < length d
    pows-last = omega (arith, placed-parts 1 a d front c.0 s, shape.pos-q)

    pub pows-plain-pow : (get_or d (2 + k) 0 ≡ 0 → ⊥) → pow_of w i h q ≡ pow i h q
    pows-plain-pow n = mkpow-pow i q shape (λ z. n (last ∙ z))

    module _ (z : get_or d (2 + k) 0 ≡ 0) where
      merges : pow_of w i h q ≡ pow (i + shape.i) shape.p q
      merges = mkpow-merged i q shape (sym last ∙ z)

      pub pows-merged-size : a ≡ 2 + k
      pows-merged-size = omega (arith, placed-parts 1 a d front c.0 s, zero-length w shape.q (sym last ∙ z))

      pub pows-merged-small : Good w (pow_of w i h q) → i + j ≤ 63
      pows-merged-small g = omega (arith, placed-exponent 1 a d front c.0 s, pow_small merges g)

      pub pows-merged :
          (f : List ℕ) →
          let d' = set d 0 (2147483648 + 64 * k + (i + j)) in
          Begins (1 + k + b) ((take 1 d' ++ take k (drop 2 d')) ++ take b (drop (3 + k) d')) f →
          Begins (1 + k + b) (enc w (pow_of w i h q)) f
      pows-merged f m =
          let x : 2147483648 + 64 * k + (i + j) ≡ 2147483648 + 64 * k + (i + shape.i) = omega (arith, placed-exponent 1 a d front c.0 s) in
          begins-as
          (merged d f a b i c.0 room shape k (2147483648 + 64 * k + (i + j)) (placed-span 1 a d front c.0 s) x (sym last ∙ z) c.1 m)
          (ap (enc w) (sym merges))

  pub pows-plain-leaf : {x : ℕ} → SaysLeaf (get_or d 1 0) x → (x ≡ 0 → ⊥) → pow_of w i h q ≡ pow i h q
  pows-plain-leaf s n = mkpow-int i q (placed-int 1 a d front c.0 s) n

  pub pows-plain-pop : {j : ℕ} → SaysPop (get_or d 1 0) j → pow_of w i h q ≡ pow i h q
  pows-plain-pop s = mkpow-pop i q (placed-pop 1 a d front c.0 s)
