-- What the functions of the cycle ask and give, of the forms and the tables alone.
-- Assumes nothing.
use Rattle.std.proofs.Common.{sym, ap, ap₂, subst, arith, length, ℕ, List, ◌+◌, ◌-◌, ◌≤◌}
use Rattle.std.proofs.Math.Path.{◌∙◌, ◌≡◌}
use Rattle.std.specs.Prelude.{take, drop}
use Rattle.horner.specs.definitions.Form.{Form, pop, pow, lower}
use Rattle.code.specs.Coding.{dec, enc, Codes, Begins}
use Rattle.code.specs.Operations.{sum_of}
use Rattle.code.specs.Widths.{Leaf}
use Rattle.code.specs.laws.Codes.{dec-enc}
use Rattle.code.proofs.Lists.{length-tail-part, begins-as}
use Rattle.code.proofs.Making.{one-put, two-put, two_made, made-codes, front-codes}
use Rattle.code_room.specs.Fit.{prod_of, lead_of, cross_of, Held}
use Rattle.code_room.specs.Tables.{PopSpace, Space, CrossSpace}
use Rattle.code_room.proofs.laws.Equations.{pows}
use Rattle.code_room.proofs.laws.Fit.{fit-prod}
use Rattle.code_room.proofs.laws.Summands.{lead-held, two-held}
use Rattle.code_room.proofs.laws.Tables.{pop-space-pow, space-at, space-lower, space-leads, space-rests, space-pops, space-cross, space-sym, cross_at}

-- the same of equal forms
module _ {w : ℕ} {x y x' y' : Form (Leaf w)} (e : x ≡ x') (f : y ≡ y') where
  pub space-as : {o t u : ℕ} → Space w x y o t u → Space w x' y' o t u
  space-as {o} {t} {u} h = subst (λ z. Space w x' z o t u) f (subst (λ z. Space w z y o t u) e h)

  pub pop-space-as : {o t u : ℕ} → PopSpace w x y o t u → PopSpace w x' y' o t u
  pop-space-as {o} {t} {u} h = subst (λ z. PopSpace w x' z o t u) f (subst (λ z. PopSpace w z y o t u) e h)

pub prod-as : (w : ℕ) {x y x' y' : Form (Leaf w)} → x ≡ x' → y ≡ y' → enc w (prod_of w x' y') ≡ enc w (prod_of w x y)
prod-as w e f = ap₂ (λ a b. enc w (prod_of w a b)) (sym e) (sym f)

-- what is left of a table behind a head word and a words
abbrev behind : ℕ → List ℕ → List ℕ → List ℕ
behind a d e = take (length (one-put d e) - (1 + a)) (drop (1 + a) (one-put d e))

behind-length : (a : ℕ) (d e : List ℕ) → length (one-put d e) ≡ length d → length d - (1 + a) ≡ length (behind a d e)
behind-length a d e l = omega (arith, length-tail-part (1 + a) (one-put d e), l)

-- ---- (3): the product of lower (i - j) p and q is made in e, behind a head word
module _ {w i j t u n : ℕ} {p q : Form (Leaf w)} (d : List ℕ) {e : List ℕ} (h : PopSpace w (pop i p) (pop j q) (length d) t u) (l : j ≤ i)
    (m : Begins n (enc w (prod_of w (lower (i - j) p) q)) e) where
  pub pops-made : Codes w (prod_of w (lower (i - j) p) q) (take n (drop 1 (one-put d e)))
  pops-made = made-codes 1 d e n (omega (arith, h.tables)) m (fit-prod (space-pops i j p q h l).fit).good

-- ---- (4): the product with r is made in e, behind a head word, and behind that the one with s
module _ {w i j t u a : ℕ} {p r s : Form (Leaf w)} (d : List ℕ) {e : List ℕ} (h : PopSpace w (pop i p) (pow j r s) (length d) t u)
    (m : Begins a (enc w (prod_of w (pop i p) r)) e) where
  pub pop-pow-few : a ≤ 3073
  pop-pow-few = omega (arith, m.size, (fit-prod (pop-space-pow i j p r s h).fit).words)

  module _ (l : length (one-put d e) ≡ length d) where
    pub pop-pow-rest : {t' u' : ℕ} → t' ≡ t → u' ≡ u → Space w (lower (i - 1) p) s (length (behind a d e)) t' u'
    pop-pow-rest k k' = space-at (behind-length a d e l) (sym k) (sym k') (space-lower i j p r s h a pop-pow-few)

    pub pop-pow-made : {b : ℕ} {e' : List ℕ} → Begins b (enc w (prod_of w (lower (i - 1) p) s)) e'
        → Codes w (prod_of w (pop i p) r) (take a (drop 1 (two-put d e e' a)))
        × Codes w (prod_of w (lower (i - 1) p) s) (take b (drop (1 + a) (two-put d e e' a)))
    pop-pow-made {b} {e'} m' =
        two_made d e e' a b (omega (arith, h.tables)) (omega (arith, h.tables, pop-pow-few, l)) m (fit-prod (pop-space-pow i j p r s h).fit).good
        m' (fit-prod (space-lower i j p r s h a pop-pow-few).fit).good

-- ---- (6): the first summand, of the products of the p's and of the q's
module _ {w i j t u a : ℕ} {p q r s : Form (Leaf w)} (d : List ℕ) {e : List ℕ} (h : Space w (pow i p q) (pow j r s) (length d) t u)
    (m : Begins a (enc w (prod_of w p r)) e) where
  pub lead-few : a ≤ 3073
  lead-few = omega (arith, m.size, (fit-prod (space-leads i j p q r s h).fit).words)

  module _ (l : length (one-put d e) ≡ length d) where
    pub lead-rest : {t' u' : ℕ} → t' ≡ t → u' ≡ u → Space w q s (length (behind a d e)) t' u'
    lead-rest k k' = space-at (behind-length a d e l) (sym k) (sym k') (space-rests i j p q r s h a lead-few)

    pub lead-made : {b : ℕ} {e' : List ℕ} → Begins b (enc w (prod_of w q s)) e'
        → Codes w (prod_of w p r) (take a (drop 1 (two-put d e e' a))) × Codes w (prod_of w q s) (take b (drop (1 + a) (two-put d e e' a)))
    lead-made {b} {e'} m' =
        two_made d e e' a b (omega (arith, h.tables)) (omega (arith, h.tables, lead-few, l)) m (fit-prod (space-leads i j p q r s h).fit).good
        m' (fit-prod (space-rests i j p q r s h a lead-few).fit).good

-- the first summand stands in d, of a words
module _ {w i j o t u a : ℕ} {p q r s : Form (Leaf w)} {d : List ℕ} (h : Space w (pow i p q) (pow j r s) o t u)
    (m : Begins a (enc w (lead_of w i j p q r s)) d) where
  pub one-few : a ≤ 3073
  one-few = omega (arith, m.size, (lead-held i j p q r s h.fit).words)

  pub one-codes : Codes w (lead_of w i j p q r s) (take a d)
  one-codes = front-codes {n = a} {d = d} m (lead-held i j p q r s h.fit).good

  pub one-cross : {t' o' u' : ℕ} → t' ≡ t → o' ≡ o → u' ≡ u → CrossSpace w i p s t' (o' - a) u'
  one-cross k k' k'' = cross_at (sym k) (ap (λ z. z - a) (sym k')) (sym k'') (space-cross i j p q r s h a one-few)

  pub one-held : Held w (sum_of w (dec w (take a d)) (cross_of w i p s))
  one-held = subst (λ z. Held w (sum_of w z (cross_of w i p s))) (sym (dec-enc one-codes)) (two-held i j p q r s h.fit)

  -- and the second one is added to it, which makes n words in e
  module _ {n : ℕ} {e : List ℕ} (m' : Begins n (enc w (sum_of w (dec w (take a d)) (cross_of w i p s))) e) where
    both : Begins n (enc w (sum_of w (lead_of w i j p q r s) (cross_of w i p s))) e
    both = begins-as m' (ap (λ z. enc w (sum_of w z (cross_of w i p s))) (dec-enc one-codes))

    pub both-few : n ≤ 3073
    both-few = omega (arith, both.size, (two-held i j p q r s h.fit).words)

    pub both-codes : Codes w (sum_of w (lead_of w i j p q r s) (cross_of w i p s)) (take n e)
    both-codes = front-codes {n = n} {d = e} both (two-held i j p q r s h.fit).good

    pub both-cross : {t' o' u' : ℕ} → t' ≡ t → o' ≡ o → u' ≡ u → CrossSpace w j r q t' (o' - n) u'
    both-cross k k' k'' = cross_at (sym k) (ap (λ z. z - n) (sym k')) (sym k'') (space-cross j i r s p q (space-sym h) n both-few)

    pub both-held : Held w (sum_of w (dec w (take n e)) (cross_of w j r q))
    both-held =
        subst (λ z. Held w (sum_of w z (cross_of w j r q))) (sym (dec-enc both-codes))
        (subst (Held w) (pows w i j p q r s) (fit-prod h.fit))

    pub both-is : enc w (sum_of w (dec w (take n e)) (cross_of w j r q)) ≡ enc w (prod_of w (pow i p q) (pow j r s))
    both-is = ap (λ z. enc w (sum_of w z (cross_of w j r q))) (dec-enc both-codes) ∙ ap (enc w) (sym (pows w i j p q r s))
