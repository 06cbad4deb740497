-- A node's own judgement, from measures that stand for its own.
use Rattle.std.specs.Prelude.{◌≡◌, refl, Bool, true, false, cond, ◌⊎◌, List, ℕ, zero, suc, ◌-◌, ◌/◌, ◌%◌, ◌≤◌, ◌<◌, min, eqb, ltb, ℤ, pos, negsuc, nat_abs, length}
use Rattle.std.proofs.Common.{sym, ap, ◌∙◌, subst, inl, inr, arith, ne_eqb, eqb-true, lt-ltb, le-ltb}
use Rattle.std.proofs.lemmas.Bool.{eqb-false}
use Rattle.horner.specs.definitions.Measures.{degrees_of}
use Rattle.horner.proofs.laws.Compare.{lt-or-ge}
use Rattle.horner.proofs.laws.Limits.{length-degrees_of}
use Rattle.text.specs.definitions.Limits.{exponent_fits, over_limit, measured}
use Rattle.text.specs.definitions.Tree.{letters, term_of, Tree, start_of, end_of}
use Rattle.text_laws.specs.laws.Picks.{pick_yes, pick_no}
use Rattle.text_laws.specs.laws.Rows.{letters-over}
use Rattle.measure.specs.declared.Measures.{Measures}
use Rattle.measure.specs.Limits.{Meets, is-small, same_number, is-exact}
use Rattle.measure.specs.Measure.{measures_of, limit_m}
use Rattle.text.specs.definitions.Answer.{Reading, read, refused, fine}
use Rattle.term_tree.specs.Coding.{int_code, remainder_of, span_of}
use Rattle.text_laws.specs.laws.Descent.{own}
use Rattle.term_measure.specs.Found.{weight_in, judged, Finds}
use Rattle.text.specs.definitions.Bytes.{is_in_row}

-- ---- integers
weight-pos : (n : ℕ) → n ≤ 1073741823 → weight_in n ≡ n
weight-pos n h = pick_no _ _ (ne_eqb n 2147483647 (λ e. omega arith)) ∙ pick_no _ _ (le-ltb 1073741823 n h)

weight-neg : (n : ℕ) → 1 ≤ n → n ≤ 1073741823 → weight_in (2147483647 - n) ≡ n
weight-neg n l h =
    pick_no _ _ (ne_eqb (2147483647 - n) 2147483647 (λ e. omega arith)) ∙ pick_yes _ _ (lt-ltb 1073741823 (2147483647 - n) (omega arith))
    ∙ omega arith

-- the weight of an integer, by its head word
pub code-weight : (z : ℤ) → weight_in (int_code z) ≡ min (nat_abs z) 1073741824
unfolding int_code
code-weight z = at (lt-or-ge 1073741823 (nat_abs z))
  where
    by : (y : ℤ) → nat_abs y ≤ 1073741823 → weight_in (remainder_of y) ≡ nat_abs y
    by (pos n) h = weight-pos n h
    by (negsuc n) h = weight-neg (suc n) (omega arith) h

    at : (1073741823 < nat_abs z) ⊎ (nat_abs z ≤ 1073741823) → weight_in (cond (ltb 1073741823 (nat_abs z)) 2147483647 (remainder_of z))
        ≡ min (nat_abs z) 1073741824
    at (inl h) = ap (λ b. weight_in (cond b 2147483647 (remainder_of z))) (lt-ltb 1073741823 (nat_abs z) h) ∙ pick_yes _ _ refl ∙ omega arith
    at (inr h) = ap (λ b. weight_in (cond b 2147483647 (remainder_of z))) (le-ltb 1073741823 (nat_abs z) h) ∙ by z h ∙ omega arith

-- ---- a node's own judgement
fine-zero : {A : Type 0} (n p e : ℕ) (r : Unit {0} → Reading A) → n ≡ 0 → fine n p e r ≡ r tt
fine-zero zero p e r z = refl
fine-zero (suc n) p e r z = absurd (omega arith)

fine-refused : {A : Type 0} (n p e : ℕ) (r : Unit {0} → Reading A) → (n ≡ 0 → ⊥) → fine n p e r ≡ refused n p e
fine-refused zero p e r k = absurd (k refl)
fine-refused (suc n) p e r k = refl

module _ (row : List ℕ) (four : length row ≤ 4) where
  -- there are at most four degrees
  pub few : (t : Tree) → letters (is_in_row row) t ≡ true → length (degrees_of (length row) (term_of row t)) ≤ 4
  few t l = subst (λ n. n ≤ 4) (sym (length-degrees_of (length row) (term_of row t) (letters-over row t l))) four

  module _ (t : Tree) (l : letters (is_in_row row) t ≡ true) (x : exponent_fits t ≡ true) (m : Measures)
      (M : Meets row t m)
      (v : ℕ) (s : v ≡ span_of (start_of t) (end_of t)) (low : start_of t < 65536) (f : measured row t ≡ own row t) where
    -- the node is judged as its measures are
    pub own-finds : Finds row t (judged m v)
    own-finds = by (eqb (limit_m m) 0) refl
      where
        z : over_limit row t ≡ limit_m m
        z = same_number row t (few t l) x m M

        by : (b : Bool) → eqb (limit_m m) 0 ≡ b → Finds row t (judged m v)
        by true e =
            let k : limit_m m ≡ 0 = eqb-true (limit_m m) 0 e in
            subst (Finds row t) (sym (pick_yes _ _ e)) (
              f ∙ fine-zero (over_limit row t) (start_of t) (end_of t) (λ u. read t) (z ∙ k),
              (is-exact row t (few t l) x m M k, is-small m k),
            )
        by false e =
            let p : start_of t ≡ v % 65536 = omega (arith, s, low) in
            let q : end_of t ≡ v / 65536 = omega (arith, s, low) in
            subst (Finds row t) (sym (pick_no _ _ e))
            (f ∙ fine-refused (over_limit row t) (start_of t) (end_of t) (λ u. read t) (λ h. eqb-false (limit_m m) 0 e (sym z ∙ h))
            ∙ (λ i. refused (z i) (p i) (q i)))

  -- its own measures stand for themselves
  pub meets-self : (t : Tree) (m : Measures) → m ≡ measures_of (length row) (term_of row t) → Meets row t m
  meets-self t m e =
      subst (Meets row t) (sym e) (record
      { at-0 = refl; at_1 = refl; at-2 = refl; at-3 = refl; of-weight = refl; of-terms = λ h. refl })
