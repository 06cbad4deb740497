-- Forms that were made in regions of a slice, and what `make_pop` and `make_pow` ask and give there.
-- Assumes nothing.
use Rattle.std.proofs.Common.{◌≡◌, ℕ, ◌+◌, ◌-◌, ◌≤◌, List, [], ◌∷◌, length, take, drop}
use Rattle.std.proofs.Common.{sym, ap, ◌∙◌, subst, arith}
use borrow.Rule.Slice.PartMut.{put_mid}
use Rattle.horner.specs.definitions.Form.{Form}
use Rattle.code.specs.Coding.{enc, dec, Good, Codes, Begins}
use Rattle.code.specs.Operations.{pop_of, pow_of, zero_of}
use Rattle.code.specs.Widths.{Leaf}
use Rattle.code.specs.laws.Codes.{IsInt, dec-enc}
use Rattle.code.specs.laws.Good.{good-zero}
use Rattle.code.specs.laws.Widths.{leaf-number, zero-leaf}
use Rattle.code.proofs.Lists.{begins-as, begins-le}
use Rattle.code.proofs.Regions.{region-put, region-before}

-- The code of a leaf

pub leaf-code : {w : ℕ} {h : Form (Leaf w)} {x : ℕ} → IsInt w h x → x ∷ [] ≡ enc w h
unfolding enc
leaf-code {w} {h} {x} v = ap (λ n. n ∷ []) (sym (leaf-number w x v.below)) ∙ rw v.is

pub leaf-length : {w : ℕ} {h : Form (Leaf w)} {x : ℕ} → IsInt w h x → length (enc w h) ≡ 1
leaf-length v = sym (ap length (leaf-code v))

-- A form that was made at the front
pub front-codes : {w : ℕ} {h : Form (Leaf w)} {n : ℕ} {d : List ℕ} → Begins n (enc w h) d → Good w h → Codes w h (take n d)
front-codes m g = record { is = m.is; good = g }

-- A form that was made in the part from f on
pub made-codes :
    {w : ℕ} {h : Form (Leaf w)} (f : ℕ) (d e : List ℕ) (n : ℕ) → f ≤ length d → Begins n (enc w h) e → Good w h →
    Codes w h (take n (drop f (put_mid f (length d - f) d e)))
made-codes f d e n l m g =
    let z : f + 0 ≡ f = omega arith in
    let k = begins-le m in
    record {
      is = ap (λ i. take n (drop i (put_mid f (length d - f) d e))) (sym z) ∙ region-put f 0 n d e l (omega arith) ∙ m.is;
      good = g;
    }

-- one that stands before that part
pub kept-codes :
    {w : ℕ} {h : Form (Leaf w)} (a m f k : ℕ) (d e : List ℕ) → Codes w h (take m (drop a d)) → a + m ≤ f → f ≤ length d →
    Codes w h (take m (drop a (put_mid f k d e)))
kept-codes a m f k d e c l n = record { is = region-before a m f k d e l n ∙ c.is; good = c.good }

-- the leaf 0
pub zero-codes : (w : ℕ) → Codes w (zero_of w) (0 ∷ [])
unfolding enc zero_of
zero-codes w = record { is = ap (λ n. n ∷ []) (sym (zero-leaf w)); good = good-zero w }

-- two that were made, the second behind the first
abbrev pub one-put : (d e : List ℕ) → List ℕ
one-put d e = put_mid 1 (length d - 1) d e

abbrev pub two-put : (d e₁ e₂ : List ℕ) → ℕ → List ℕ
two-put d e₁ e₂ a = put_mid (1 + a) (length (one-put d e₁) - (1 + a)) (one-put d e₁) e₂

pub two_made :
    {w : ℕ} {p q : Form (Leaf w)} (d e₁ e₂ : List ℕ) (a b : ℕ) →
    1 ≤ length d → 1 + a ≤ length (one-put d e₁) → Begins a (enc w p) e₁ → Good w p → Begins b (enc w q) e₂ → Good w q →
    Codes w p (take a (drop 1 (two-put d e₁ e₂ a))) × Codes w q (take b (drop (1 + a) (two-put d e₁ e₂ a)))
two_made d e₁ e₂ a b l k m g n h =
    let o = one-put d e₁ in
    (kept-codes 1 a (1 + a) (length o - (1 + a)) o e₂ (made-codes 1 d e₁ a l m g) (omega arith) k, made-codes (1 + a) o e₂ b k n h)

-- What make_pop and make_pow ask and give, where h is pop(i, p) or pow(i, p, q) of the forms that stand in the regions

module _ {w : ℕ} (i : ℕ) {h p : Form (Leaf w)} {x : List ℕ} (c : Codes w p x) (e : h ≡ pop_of w i p) where
  pub pop-asks : Good w h → Good w (pop_of w i (dec w x))
  pop-asks g = rw (dec-enc c) (subst (Good w) e g)

  pub pop-gives : {r : ℕ} {o : List ℕ} → Begins r (enc w (pop_of w i (dec w x))) o → Begins r (enc w h) o
  pop-gives m = begins-as m (rw (dec-enc c) (ap (enc w) (sym e)))

module _ {w : ℕ} (i : ℕ) {h p q : Form (Leaf w)} {x y : List ℕ} (c : Codes w p x × Codes w q y) (e : h ≡ pow_of w i p q) where
  pub pow-asks : Good w h → Good w (pow_of w i (dec w x) (dec w y))
  pow-asks g = rw (dec-enc c.0, dec-enc c.1) (subst (Good w) e g)

  pub pow-gives : {r : ℕ} {o : List ℕ} → Begins r (enc w (pow_of w i (dec w x) (dec w y))) o → Begins r (enc w h) o
  pow-gives m = begins-as m (rw (dec-enc c.0, dec-enc c.1) (ap (enc w) (sym e)))
