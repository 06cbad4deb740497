-- Integers and 1 as runs.
use Rattle.std.specs.Prelude.{Bool, true, false, cond, List, [], ◌∷◌, ◌≡◌, refl, ℕ, suc, ◌-◌, ◌≤◌, ◌%◌, ℤ, pos, negsuc, nat_abs}
use Rattle.std.proofs.Common.{sym, ap, ◌∙◌, arith, le-ltb}
use Rattle.std.proofs.Math.Nat as NatL
use Rattle.code.specs.Coding.{Begins}
use Rattle.horner.specs.definitions.Form.{int}
use Rattle.horner.specs.definitions.Measures.{zeros}
use Rattle.horner.specs.definitions.Rings.{Res, red_ℤ, prime, prime-pos, p_ring}
use Rattle.run_merge.specs.Words.{code_of, flat, pushed, Wrote}
use Rattle.run_form.specs.Forms.{run_words}
use Rattle.run_form.proofs.laws.Sums.{key-zeros}
use Rattle.term_tree.specs.Coding.{int_code, remainder_of}

-- the run of a number: one monomial, or none
pub int-run : (n : ℕ) (c : Res prime) → pushed 0 c.0 ≡ run_words n (int c)
unfolding pushed run_words
int-run n c = by (p_ring.is_nil c)
  where
    by : (b : Bool) → flat (cond b [] ((0, c.0) ∷ [])) ≡ flat (code_of (cond b [] ((zeros n [], c) ∷ [])))
    by true = refl
    by false = ap (λ k. k ∷ c.0 ∷ []) (sym (key-zeros n))

-- the word of an integer within the limit is its residue
remainder_is : (z : ℤ) → nat_abs z ≤ 1073741823 → remainder_of z ≡ (red_ℤ prime prime-pos z).0
remainder_is (pos m) h = sym (NatL.mod-eq_of_lt (omega arith))
remainder_is (negsuc m) h =
    let e : suc m % prime ≡ suc m = NatL.mod-eq_of_lt (omega arith) in
    sym (ap (λ k. (prime - k) % prime) e ∙ NatL.mod-eq_of_lt (omega arith))

-- and so is its head word
pub code_is : (z : ℤ) → nat_abs z ≤ 1073741823 → int_code z ≡ (red_ℤ prime prime-pos z).0
unfolding int_code
code_is z h = ap (λ b. cond b 2147483647 (remainder_of z)) (le-ltb 1073741823 (nat_abs z) h) ∙ remainder_is z h

-- what `put` writes at the front of a table
pub wrote-begins : {l d e : List ℕ} {r : ℕ} → Wrote l d 0 r e → Begins r l e
wrote-begins {l} w = record { size = w.size ∙ omega arith; is = w.is }
