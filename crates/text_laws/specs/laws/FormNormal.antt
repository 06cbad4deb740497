-- Every node of a form stands exactly when the form is normal.
use Rattle.std.specs.Prelude.{true, ◌&&◌, not, List, [], ◌∷◌, ◌++◌, ◌≡◌, refl, ℕ, suc, ◌+◌, ◌-◌, ◌<◌, T, leb, ltb, ℤ, length}
use Rattle.std.proofs.Common.{true≢false, sym, ap, arith, ltb-true, lt-ltb, leb-true, le-leb}
use Rattle.std.proofs.lemmas.Bool.{not-true}
use Rattle.horner.specs.definitions.Form.{Form, int, pop, pow, is_zero, Normal, Lead, is_pow, leads}
use Rattle.horner.specs.definitions.Rings.{ℤ_ring, is_zero_ℤ}
use Rattle.text.specs.definitions.FormReading.{Node, nodes, text, pop_head, pow_head}
use Rattle.text.specs.definitions.FormMeaning.{AllStand}
use Rattle.text_laws.specs.laws.Bytes.{and_l, and_r, and_i}

pow-is : (x : Form ℤ) → is_pow x ≡ true → T (is_pow x)
pow-is (int z) e = absurd (true≢false (sym e))
pow-is (pop i x) e = absurd (true≢false (sym e))
pow-is (pow i x y) e = tt

is-pow : (x : Form ℤ) → T (is_pow x) → is_pow x ≡ true
is-pow (int z) h = absurd h
is-pow (pop i x) h = absurd h
is-pow (pow i x y) h = refl

lead_is : (x : Form ℤ) → leads ℤ_ring x ≡ true → Lead ℤ_ring x
lead_is (int z) e = not-true (is_zero_ℤ z) e
lead_is (pop i x) e = tt
lead_is (pow i x y) e = not-true (is_zero ℤ_ring y) e

is-lead : (x : Form ℤ) → Lead ℤ_ring x → leads ℤ_ring x ≡ true
is-lead (int z) h = ap not h
is-lead (pop i x) h = refl
is-lead (pow i x y) h = ap not h

module _ (m : ℕ) where
  all_append : (ks ls : List Node) → AllStand m ks → AllStand m ls → AllStand m (ks ++ ls)
  all_append [] ls h g = g
  all_append (k ∷ ks) ls h g = (h.0, all_append ks ls h.1 g)

  all_left : (ks ls : List Node) → AllStand m (ks ++ ls) → AllStand m ks
  all_left [] ls h = tt
  all_left (k ∷ ks) ls h = (h.0, all_left ks ls h.1)

  all_right : (ks ls : List Node) → AllStand m (ks ++ ls) → AllStand m ls
  all_right [] ls h = h
  all_right (k ∷ ks) ls h = all_right ks ls h.1

  level : (a b : ℕ) (f : Form ℤ) → a ≡ b → Normal ℤ_ring a f → Normal ℤ_ring b f
  level a b f e h = rw e at h

  pub stand-normal : (f : Form ℤ) (l p : ℕ) → AllStand m (nodes l p f) → Normal ℤ_ring (m - l) f
  stand-normal (int z) l p h = tt
  stand-normal (pop i x) l p h =
      let ks = nodes (l + i) (p + length (pop_head i)) x in
      let o = (all_right ks _ h).0 in (
        leb-true 1 i (and_l (leb 1 i) (is_pow x) o),
        pow-is x (and_r (leb 1 i) (is_pow x) o),
        level (m - (l + i)) (m - l - i) x
            (omega arith) (stand-normal x (l + i) (p + length (pop_head i)) (all_left ks _ h)),
      )
  stand-normal (pow i x y) l p h =
      let ks = nodes l (p + length (pow_head i)) x in
      let g = all_right ks _ h in
      let js = nodes (suc l) (p + length (pow_head i) + length (text x) + 1) y in
      let o = (all_right js _ g).0 in
      let o₁ = and_l (ltb l m && leb 1 i) (leads ℤ_ring x) o in
      let b : l < m = ltb-true l m (and_l (ltb l m) (leb 1 i) o₁) in (
        leb-true 1 i (and_r (ltb l m) (leb 1 i) o₁),
        omega arith,
        stand-normal x l (p + length (pow_head i)) (all_left ks _ h),
        lead_is x (and_r (ltb l m && leb 1 i) (leads ℤ_ring x) o),
        level (m - suc l) (m - l - 1) y (omega arith)
            (stand-normal y (suc l) (p + length (pow_head i) + length (text x) + 1) (all_left js _ g)),
      )

  pub normal-stand : (f : Form ℤ) (l p : ℕ) → Normal ℤ_ring (m - l) f → AllStand m (nodes l p f)
  normal-stand (int z) l p h = (refl, tt)
  normal-stand (pop i x) l p h =
      all_append (nodes (l + i) (p + length (pop_head i)) x) _
      (normal-stand x (l + i) (p + length (pop_head i)) (level (m - l - i) (m - (l + i)) x (omega arith) h.2))
      (and_i (le-leb 1 i h.0) (is-pow x h.1), tt)
  normal-stand (pow i x y) l p h =
      all_append (nodes l (p + length (pow_head i)) x) _ (normal-stand x l (p + length (pow_head i)) h.2)
      (all_append (nodes (suc l) (p + length (pow_head i) + length (text x) + 1) y) _
      (normal-stand y (suc l) (p + length (pow_head i) + length (text x) + 1) (level (m - l - 1) (m - suc l) y (omega arith) h.4))
      (and_i (and_i (lt-ltb l m (omega (arith, h.1))) (le-leb 1 i h.0)) (is-lead x h.3), tt))
