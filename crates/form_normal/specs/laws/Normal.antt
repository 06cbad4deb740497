-- What is seen of a form, from what is seen of its parts.
use Rattle.std.specs.Prelude.{Result, Ok, Err, Bool, true, false, not, cond, ◌&&◌, List, ◌≡◌, refl, ℕ, zero, suc, ◌+◌, ◌-◌, ◌≤◌, min, eqb, ltb, leb, ℤ, pos, negsuc, length}
use Rattle.std.proofs.Common.{sym, ap, ◌∙◌, arith, eq-eqb, ne_eqb, ltb-true, ltb-false, le-leb}
use Rattle.std.proofs.lemmas.Bool.{lt-leb}
use Rattle.horner.specs.definitions.Form.{Form, int, pop, pow, is_zero, is_pow, leads}
use Rattle.horner.specs.definitions.Rings.{ℤ_ring, is_zero_ℤ}
use Rattle.text.specs.definitions.Bytes.{Reading, read, refused, refused_at}
use Rattle.text.specs.definitions.FormReading.{stands, text, pow_head}
use Rattle.text_laws.specs.laws.FormDescent.{and_then, judged_at, judged-pop, judged-pow}
use Rattle.text_laws.specs.laws.Picks.{pick}
use Rattle.form_head.specs.Heads.{Stands, Headed, Ends}
use Rattle.form_head.specs.laws.Parts.{pop-part, pow_left, pow_right, ends-pop, ends-pow}
use Rattle.form_head.specs.declared.Kind.{Kind}
use Rattle.form_head.specs.declared.Kind.TheVariants as K
use Rattle.form_normal.specs.declared.Shape.{Shape}
use Rattle.form_normal.specs.declared.Shape.TheVariants.{Zero, Number, Pop, PowZero, Pow}
use Rattle.form_normal.specs.declared.Seen.{Seen}
use Rattle.form_normal.specs.Normal.{shape_of, is_zero_shape, is_pow_zero, is_pow_shape, fine, pop_seen, pow_seen, seen, SeenAt}

-- ---- shapes
zero-shape : (q : Form ℤ) → is_zero_shape (shape_of q) ≡ is_zero ℤ_ring q
zero-shape (int z) = go (is_zero_ℤ z)
  where
    go : (b : Bool) → is_zero_shape (cond b Zero Number) ≡ b
    go true = refl
    go false = refl
zero-shape (pop i p) = refl
zero-shape (pow i p q) = go (is_zero ℤ_ring q)
  where
    go : (b : Bool) → is_zero_shape (cond b PowZero Pow) ≡ false
    go true = refl
    go false = refl

pow-shape : (p : Form ℤ) → is_pow_shape (shape_of p) ≡ is_pow p
pow-shape (int z) = go (is_zero_ℤ z)
  where
    go : (b : Bool) → is_pow_shape (cond b Zero Number) ≡ false
    go true = refl
    go false = refl
pow-shape (pop i p) = refl
pow-shape (pow i p q) = go (is_zero ℤ_ring q)
  where
    go : (b : Bool) → is_pow_shape (cond b PowZero Pow) ≡ true
    go true = refl
    go false = refl

lead-shape : (p : Form ℤ) → leads ℤ_ring p ≡ (not (is_zero_shape (shape_of p)) && not (is_pow_zero (shape_of p)))
lead-shape (int z) = go (is_zero_ℤ z)
  where
    go : (b : Bool) → not b ≡ (not (is_zero_shape (cond b Zero Number)) && not (is_pow_zero (cond b Zero Number)))
    go true = refl
    go false = refl
lead-shape (pop i p) = refl
lead-shape (pow i p q) = go (is_zero ℤ_ring q)
  where
    go : (b : Bool) → not b ≡ (not (is_zero_shape (cond b PowZero Pow)) && not (is_pow_zero (cond b PowZero Pow)))
    go true = refl
    go false = refl

-- ---- the tests on numbers
some-i : (i number : ℕ) → number ≡ min i 64 → eqb number 0 ≡ not (leb 1 i)
some-i zero number e = eq-eqb number 0 (omega (arith, e)) ∙ ap not (sym (lt-leb 1 0 (omega arith)))
some-i (suc i) number e = ne_eqb number 0 (λ f. omega (arith, e, f)) ∙ ap not (sym (le-leb 1 (suc i) (omega arith)))

some_left : (m l left : ℕ) → m - l ≡ left → eqb left 0 ≡ not (ltb l m)
some_left m l left e = go (ltb l m) refl
  where
    go : (b : Bool) → ltb l m ≡ b → eqb left 0 ≡ not b
    go true h = ne_eqb left 0 (λ f. omega (arith, e, f, ltb-true l m h))
    go false h = eq-eqb left 0 (omega (arith, e, ltb-false l m h))

-- ---- a node
abbrev by : Bool → Result Seen ℕ → Result Seen ℕ → Result Seen ℕ
by b x y = elim b [ true ↦ x | false ↦ y ]

seen_by :
    (b : Bool) (f : Form ℤ) (at : ℕ) (shape : Shape) (next : ℕ) →
    seen (elim b [ true ↦ read f | false ↦ refused_at 7 at ]) shape next ≡ by b (fine shape next) (Err at)
seen_by true f at shape next = refl
seen_by false f at shape next = refl

two-tests : (a b : Bool) (x y : Result Seen ℕ) → pick (not a) y (pick b x y) ≡ by (a && b) x y
unfolding pick
two-tests true true x y = refl
two-tests true false x y = refl
two-tests false b x y = refl

four-tests :
    (a b c d : Bool) (x y : Result Seen ℕ) →
    pick (not a) y (pick (not b) y (pick c y (pick d y x))) ≡ by ((a && b) && (not c && not d)) x y
unfolding pick
four-tests true true true d x y = refl
four-tests true true false true x y = refl
four-tests true true false false x y = refl
four-tests true false c d x y = refl
four-tests false b c d x y = refl

-- what the node itself says, behind its parts
abbrev own : (m l at : ℕ) → Form ℤ → Reading (Form ℤ)
own m l at f = elim (stands m l f) [ true ↦ read f | false ↦ refused_at 7 at ]

own-pop :
    (m l at i next number : ℕ) (p : Form ℤ) → number ≡ min i 64 →
    pop_seen number (shape_of p) at next ≡ seen (own m l at (pop i p)) Pop next
own-pop m l at i next number p e =
    ap (λ a. pick a (Err at) (pick (is_pow_shape (shape_of p)) (fine Pop next) (Err at))) (some-i i number e)
    ∙ ap (λ b. pick (not (leb 1 i)) (Err at) (pick b (fine Pop next) (Err at))) (pow-shape p)
    ∙ two-tests (leb 1 i) (is_pow p) (fine Pop next) (Err at) ∙ sym (seen_by (leb 1 i && is_pow p) (pop i p) at Pop next)

pick-cond : (b : Bool) (x y : Shape) → pick b x y ≡ cond b x y
unfolding pick
pick-cond true x y = refl
pick-cond false x y = refl

own-pow : (m l at i next number left : ℕ) (p q : Form ℤ) → number ≡ min i 64 → m - l ≡ left
    → pow_seen left number (shape_of p) (shape_of q) at next ≡ seen (own m l at (pow i p q)) (shape_of (pow i p q)) next
own-pow m l at i next number left p q e f =
    let c = is_zero_shape (shape_of p) in
    let d = is_pow_zero (shape_of p) in
    let x = fine (shape_of (pow i p q)) next in
    ap (λ z. pick (eqb left 0) (Err at) (pick (eqb number 0) (Err at) (pick c (Err at) (pick d (Err at) (fine z next)))))
    (ap (λ z. pick z PowZero Pow) (zero-shape q) ∙ pick-cond (is_zero ℤ_ring q) PowZero Pow)
    ∙ ap (λ z. pick z (Err at) (pick (eqb number 0) (Err at) (pick c (Err at) (pick d (Err at) x)))) (some_left m l left f)
    ∙ ap (λ z. pick (not (ltb l m)) (Err at) (pick z (Err at) (pick c (Err at) (pick d (Err at) x)))) (some-i i number e)
    ∙ four-tests (ltb l m) (leb 1 i) c d x (Err at)
    ∙ ap (λ z. by ((ltb l m && leb 1 i) && z) x (Err at)) (sym (lead-shape p))
    ∙ sym (seen_by (stands m l (pow i p q)) (pow i p q) at (shape_of (pow i p q)) next)

-- ---- a part that is wrong, and one that is not
seen-stop :
    (r k : Reading (Form ℤ)) (a : Shape) (b : ℕ) (c : Shape) (d w : ℕ) → Err w ≡ seen r a b → Err w ≡ seen (and_then r k) c d
seen-stop (read f) k a b c d w e = absurd (cc)
seen-stop (refused bad) k a b c d w e = e

seen-on : (r k : Reading (Form ℤ)) (a : Shape) (b : ℕ) (x : Seen) → Ok x ≡ seen r a b → (and_then r k ≡ k) × ((x.shape ≡ a) × (x.next ≡ b))
seen-on (read f) k a b x e = (refl, ((cc), (cc)))
seen-on (refused bad) k a b x e = absurd (cc)

pub seen-ends : {left : ℕ} {s : List ℕ} {at : ℕ} (x : Seen) → SeenAt left s at (Ok x) → Ends s at x.next
seen-ends {left} {s} {at} x X g rest h =
    (seen-on (judged_at left 0 at g) (read g) (shape_of g) (at + length (text g)) x
    (X left 0 g rest (let z : left - 0 ≡ left = omega arith in z) h)).1.1

-- ---- node by node
module _ {s : List ℕ} {at : ℕ} {kind : Kind} {number first : ℕ} (left : ℕ) (H : Headed s at kind number first) (few : left ≤ 4) where
  pop-judged :
      (m l i : ℕ) (p : Form ℤ) (rest : List ℕ) → Stands s at (pop i p) rest →
      judged_at m l at (pop i p) ≡ and_then (judged_at m (l + i) first p) (own m l at (pop i p))
  pop-judged m l i p rest h =
      judged-pop m l at i p ∙ ap (λ z. and_then (judged_at m (l + i) z p) (own m l at (pop i p))) (sym (H _ _ h).is-next)

  lower : (m l i : ℕ) → number ≡ min i 64 → m - l ≡ left → m - (l + i) ≡ left - number
  lower m l i e f = omega (arith, e, f, few)

  pub pop-stops : kind ≡ K.Pop → (w : ℕ) → SeenAt (left - number) s first (Err w) → SeenAt left s at (Err w)
  pop-stops k w X m l (int (pos n)) rest f h = absurd (cc (k, (H _ _ h).is-kind))
  pop-stops k w X m l (int (negsuc n)) rest f h = absurd (cc (k, (H _ _ h).is-kind))
  pop-stops k w X m l (pop i p) rest f h =
      seen-stop (judged_at m (l + i) first p) (own m l at (pop i p)) _ _ Pop (at + length (text (pop i p))) w
      (X m (l + i) p _ (lower m l i (H _ _ h).is_number f) (pop-part H h))
      ∙ ap (λ r. seen r Pop (at + length (text (pop i p)))) (sym (pop-judged m l i p rest h))
  pop-stops k w X m l (pow i p q) rest f h = absurd (cc (k, (H _ _ h).is-kind))

  pub pop-seen :
      kind ≡ K.Pop → (x : Seen) → SeenAt (left - number) s first (Ok x) → SeenAt left s at (pop_seen number x.shape at (x.next + 1))
  pop-seen k x X m l (int (pos n)) rest f h = absurd (cc (k, (H _ _ h).is-kind))
  pop-seen k x X m l (int (negsuc n)) rest f h = absurd (cc (k, (H _ _ h).is-kind))
  pop-seen k x X m l (pop i p) rest f h =
      let o = own m l at (pop i p) in
      let q = seen-on (judged_at m (l + i) first p) o (shape_of p) (first + length (text p)) x
      (X m (l + i) p _ (lower m l i (H _ _ h).is_number f) (pop-part H h)) in
      ap (λ z. pop_seen number z at (x.next + 1)) q.1.0
      ∙ own-pop m l at i (x.next + 1) number p (H _ _ h).is_number
      ∙ ap (seen o Pop) (ends-pop H x.next k (seen-ends x X) (pop i p) rest h)
      ∙ ap (λ r. seen r Pop (at + length (text (pop i p)))) (sym (pop-judged m l i p rest h ∙ q.0))
  pop-seen k x X m l (pow i p q) rest f h = absurd (cc (k, (H _ _ h).is-kind))

  module _ (k : kind ≡ K.Pow) where
    pub left-stops : (w : ℕ) → SeenAt left s first (Err w) → SeenAt left s at (Err w)
    left-stops w X m l (int (pos n)) rest f h = absurd (cc (k, (H _ _ h).is-kind))
    left-stops w X m l (int (negsuc n)) rest f h = absurd (cc (k, (H _ _ h).is-kind))
    left-stops w X m l (pop i p) rest f h = absurd (cc (k, (H _ _ h).is-kind))
    left-stops w X m l (pow i p q) rest f h =
        let n = (H _ _ h).is-next in
        let c = at + length (text (pow i p q)) in
        let K = and_then (judged_at m (suc l) (at + length (pow_head i) + length (text p) + 1) q) (own m l at (pow i p q)) in
        seen-stop (judged_at m l first p) K _ _ (shape_of (pow i p q)) c w (X m l p _ f (pow_left H h))
        ∙ ap (λ z. seen (and_then (judged_at m l z p) K) (shape_of (pow i p q)) c) n
        ∙ ap (λ r. seen r (shape_of (pow i p q)) c) (sym (judged-pow m l at i p q))

    module _ (x : Seen) (X : SeenAt left s first (Ok x)) where
      pow-judged : (m l i : ℕ) (p q : Form ℤ) (rest : List ℕ) → m - l ≡ left → Stands s at (pow i p q) rest
          → (judged_at m l at (pow i p q) ≡ and_then (judged_at m (suc l) (x.next + 1) q) (own m l at (pow i p q))) × (x.shape ≡ shape_of p)
      pow-judged m l i p q rest f h =
          let n = (H _ _ h).is-next in
          let K = and_then (judged_at m (suc l) (at + length (pow_head i) + length (text p) + 1) q) (own m l at (pow i p q)) in
          let r = seen-on (judged_at m l first p) K (shape_of p) (first + length (text p)) x (X m l p _ f (pow_left H h)) in
          let z : at + length (pow_head i) + length (text p) + 1 ≡ x.next + 1 = omega (arith, n, r.1.1) in (
            judged-pow m l at i p q ∙ ap (λ z. and_then (judged_at m l z p) K) (sym n) ∙ r.0
                ∙ ap (λ z. and_then (judged_at m (suc l) z q) (own m l at (pow i p q))) z,
            r.1.0,
          )

      next_level : (m l : ℕ) → m - l ≡ left → m - suc l ≡ left - 1
      next_level m l f = omega (arith, f)

      pub right-stops : (w : ℕ) → SeenAt (left - 1) s (x.next + 1) (Err w) → SeenAt left s at (Err w)
      right-stops w Y m l (int (pos n)) rest f h = absurd (cc (k, (H _ _ h).is-kind))
      right-stops w Y m l (int (negsuc n)) rest f h = absurd (cc (k, (H _ _ h).is-kind))
      right-stops w Y m l (pop i p) rest f h = absurd (cc (k, (H _ _ h).is-kind))
      right-stops w Y m l (pow i p q) rest f h =
          let c = at + length (text (pow i p q)) in
          seen-stop (judged_at m (suc l) (x.next + 1) q) (own m l at (pow i p q)) _ _ (shape_of (pow i p q)) c w
          (Y m (suc l) q _ (next_level m l f) (pow_right H x.next (seen-ends x X) h))
          ∙ ap (λ r. seen r (shape_of (pow i p q)) c) (sym (pow-judged m l i p q rest f h).0)

      pub pow-seen :
          (y : Seen) → SeenAt (left - 1) s (x.next + 1) (Ok y) →
          SeenAt left s at (pow_seen left number x.shape y.shape at (y.next + 1))
      pow-seen y Y m l (int (pos n)) rest f h = absurd (cc (k, (H _ _ h).is-kind))
      pow-seen y Y m l (int (negsuc n)) rest f h = absurd (cc (k, (H _ _ h).is-kind))
      pow-seen y Y m l (pop i p) rest f h = absurd (cc (k, (H _ _ h).is-kind))
      pow-seen y Y m l (pow i p q) rest f h =
          let o = own m l at (pow i p q) in
          let E = seen-ends x X in
          let j = pow-judged m l i p q rest f h in
          let r = seen-on (judged_at m (suc l) (x.next + 1) q) o (shape_of q) (x.next + 1 + length (text q)) y
          (Y m (suc l) q _ (next_level m l f) (pow_right H x.next E h)) in
          ap (λ z. pow_seen left number z y.shape at (y.next + 1)) j.1
          ∙ ap (λ z. pow_seen left number (shape_of p) z at (y.next + 1)) r.1.0
          ∙ own-pow m l at i (y.next + 1) number left p q (H _ _ h).is_number f
          ∙ ap (seen o (shape_of (pow i p q))) (ends-pow H x.next E y.next k (seen-ends y Y) (pow i p q) rest h)
          ∙ ap (λ r. seen r (shape_of (pow i p q)) (at + length (text (pow i p q)))) (sym (j.0 ∙ r.0))

-- the same by other names
pub seen_as : {n left : ℕ} {s : List ℕ} {at : ℕ} (x y : Result Seen ℕ) → n ≡ left → x ≡ y → SeenAt n s at x → SeenAt left s at y
seen_as x y e f X m l g rest h k = sym f ∙ X m l g rest (h ∙ sym e) k
