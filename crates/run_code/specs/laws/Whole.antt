-- The words of a sorted run: what `to_code` asks holds of them, and what it writes is the run's form.
use Rattle.std.specs.Prelude.{List, [], ◌∷◌, ◌≡◌, refl, ℕ, zero, suc, ◌+◌, ◌-◌, ◌*◌, ◌^◌, ◌/◌, ◌%◌, ◌≤◌, ◌<◌, length}
use Rattle.std.proofs.Common.{sym, ◌∙◌, ap, ap₂, subst, arith}
use Rattle.std.proofs.Math.Nat as NatL
use Rattle.code.specs.laws.Widths.{leaf-of}
use Rattle.horner.specs.definitions.Measures.{AllLe}
use Rattle.horner.specs.definitions.Rings.{Res, prime, p_ring}
use Rattle.run_merge.specs.Words.{key_of, code_of, pairs, flat, is_no, Fits}
use Rattle.run_merge.specs.laws.Coding.{Small, key_below, key-order, pairs-flat, fits-code}
use Rattle.run.specs.Merging.{over, cmpℕ, cmp_l, Each, Falls, Solid}
use Rattle.run.specs.Runs.{Run, Sorted, to_form}
use Rattle.run_code.specs.Decoding.{digits, run_at, form_at, Placed, Even}
use Rattle.run_code.specs.laws.Digits.{unit-pos}

-- the exponents come back from the key
digits-key : (n : ℕ) (ks : List ℕ) → length ks ≡ n → AllLe 63 ks → digits n (key_of ks) ≡ ks
digits-key zero [] l h = refl
digits-key zero (k ∷ ks) l h = absurd (omega arith)
digits-key (suc n) [] l h = absurd (omega arith)
digits-key (suc n) (k ∷ ks) l h =
    ap (digits (suc n)) turned ∙ ap₂ (λ a b. a ∷ digits n b) top low ∙ ap (λ z. k ∷ z) (digits-key n ks same h.1)
  where
    same : length ks ≡ n
    same = omega arith

    small : key_of ks < 64 ^ n
    small = subst (λ z. key_of ks < 64 ^ z) same (key_below ks h.1)

    turned : k * 64 ^ length ks + key_of ks ≡ key_of ks + k * 64 ^ n
    turned = ap (λ z. k * 64 ^ z + key_of ks) same ∙ NatL.add_comm (k * 64 ^ n) (key_of ks)

    top : (key_of ks + k * 64 ^ n) / 64 ^ n ≡ k
    top = NatL.add-mul-div_right (key_of ks) k (unit-pos n) ∙ ap (λ z. z + k) (NatL.div-eq_of_lt small) ∙ omega arith

    low : (key_of ks + k * 64 ^ n) % 64 ^ n ≡ key_of ks
    low = NatL.add-mul-mod_self_right (key_of ks) k (64 ^ n) ∙ NatL.mod-eq_of_lt small

run-code : (n : ℕ) (r : Run (Res prime)) → Each (Small n) r → run_at n 0 (code_of r) ≡ r
run-code n [] h = refl
run-code n (m ∷ r) h = λ t. (key t, leaf-of 0 m.1 t) ∷ run-code n r h.1 t
  where
    key : digits n (key_of m.0 - 0) ≡ m.0
    key =
        let z : key_of m.0 - 0 ≡ key_of m.0 = omega arith in
        ap (digits n) z ∙ digits-key n m.0 h.0.long h.0.each

-- the form that `to_code` writes
pub form-code : (n : ℕ) (r : Run (Res prime)) → Each (Small n) r → form_at n 0 (flat (code_of r)) ≡ to_form p_ring r
unfolding form_at
form-code n r h = ap (λ l. to_form p_ring (run_at n 0 l)) (pairs-flat (code_of r)) ∙ ap (to_form p_ring) (run-code n r h)

-- a run has an even number of words
pub even-code : (r : List (ℕ × ℕ)) → Even (length (flat r))
even-code [] = tt
even-code (m ∷ r) = even-code r

-- what it asks
falls-code : (n : ℕ) (r : Run (Res prime)) → Falls cmp_l r → Each (Small n) r → Falls cmpℕ (code_of r)
falls-code n [] f h = tt
falls-code n (m ∷ r) f h = (above r f.0 h.1, falls-code n r f.1 h.1)
  where
    above : (r : Run (Res prime)) → Each (λ l. cmp_l m.0 l ≡ over) r → Each (Small n) r
        → Each (λ k. cmpℕ (key_of m.0) k ≡ over) (code_of r)
    above [] a b = tt
    above (u ∷ r) a b = (key-order m.0 u.0 (h.0.long ∙ sym b.0.long) h.0.each b.0.each ∙ a.0, above r a.1 b.1)

solid-code : (r : Run (Res prime)) → Solid p_ring.is_nil r → Solid is_no (code_of r)
solid-code [] h = tt
solid-code (m ∷ r) h = (h.0, solid-code r h.1)

each-code : (n : ℕ) (P : ℕ → Type 0) → ((ks : List ℕ) → Small n ks → P (key_of ks)) → (r : Run (Res prime)) → Each (Small n) r
    → Each P (code_of r)
each-code n P f [] h = tt
each-code n P f (m ∷ r) h = (f m.0 h.0, each-code n P f r h.1)

-- what `to_code` asks holds of the words of a sorted run
pub placed-code : (n : ℕ) (r : Run (Res prime)) → n ≤ 4 → Sorted p_ring n r → Each (Small n) r → Placed n 0 (pairs (flat (code_of r)))
placed-code n r l s h = subst (Placed n 0) (sym (pairs-flat (code_of r))) (record {
  falls = falls-code n r s.falls h;
  solid = solid-code r s.solid;
  fits = subst (Fits 0) (pairs-flat (code_of r)) (fits-code n r l h);
  from = each-code n (λ k. 0 ≤ k) (λ ks g. omega arith) r h;
  to = each-code n (λ k. k < 0 + 64 ^ n) (λ ks g. omega (arith, subst (λ z. key_of ks < 64 ^ z) g.long (key_below ks g.each))) r h;
  small =
      each-code n (λ k. k < 16777216) (λ ks g. omega (arith, subst (λ z. key_of ks < 64 ^ z) g.long (key_below ks g.each), wide)) r h;
})
  where
    wide : 64 ^ n ≤ 16777216
    wide = NatL.pow-le-pow_right {n = 64} (omega arith) {i = n} {j = 4} l
