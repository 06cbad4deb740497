-- "no refusal but document 01's, each exactly when its line of the table says so": whatever the row, the tables, the texts and the numbers
-- are, a call's reply is the refusal r exactly where Order.antt says so. (Answers.antt: and so is what the call answers.)
use Rattle.std.specs.Prelude.{List, ◌↔◌, ◌≡◌, ℕ, ◌^◌, ℤ, length}
use Rattle.refusal.specs.declared.Refusal.{Refusal}
use Rattle.horner.specs.definitions.Form.{sum, negate, prod, raise, evalh}
use Rattle.horner.specs.definitions.Measures.{multiples_of}
use Rattle.horner.specs.definitions.Rings.{ℤ_ring}
use Rattle.horner.specs.definitions.Term.{norm_ℤ, eval_ℤ, diff}
use Rattle.text.specs.definitions.FormReading.{accept_form, text}
use Rattle.text.specs.definitions.Limits.{accept_term}
use Rattle.text.specs.definitions.Tree.{term_of}
use Rattle.reply.specs.definitions.Calls.{form_reply, remainder_reply, judge_reply, negate_reply, add_reply, multiply_reply, raise_reply}
use Rattle.reply.specs.definitions.Calls.{form_remainder_reply, compare_reply, counters_reply, verdict_of, remainder, bits}
use Rattle.reply.specs.definitions.Reply.{refuses}
use Rattle.demands.specs.Order.{FormRefuses, NegateRefuses, RaiseRefuses, AddRefuses, MultiplyRefuses, JudgeRefuses}
use Rattle.demands.specs.Order.{RemainderRefuses, FormRemainderRefuses, CompareRefuses, CountersRefuses}
use Rattle.demands.specs.laws.Exactly.{one-text, two-texts}
use Rattle.demands.specs.Texts.{term-reads, form-reads}

pub judge-refuses : (row s : List ℕ) (r : Refusal) → (judge_reply row s ≡ refuses r) ↔ JudgeRefuses row s r
unfolding judge_reply
judge-refuses row s r = one-text _ _ _ (accept_form (length row)) (form-reads (length row)) s r _ (λ x. tt)

module _ (row tables s : List ℕ) (r : Refusal) where
  pub form-refuses : (n : ℕ) → (form_reply row tables s n ≡ refuses r) ↔ FormRefuses row tables s n r
  unfolding form_reply
  form-refuses n = one-text _ _ _ (accept_term row) (term-reads row) s r _ (λ t. text (norm_ℤ (term_of row t)))

  pub remainder-refuses : (N : List ℤ) → (remainder_reply row tables s N ≡ refuses r) ↔ RemainderRefuses row tables s N r
  unfolding remainder_reply
  remainder-refuses N = one-text _ _ _ (accept_term row) (term-reads row) s r _ (λ t. remainder (eval_ℤ (term_of row t) N))

  pub negate-refuses : (n : ℕ) → (negate_reply row tables s n ≡ refuses r) ↔ NegateRefuses row tables s n r
  unfolding negate_reply
  negate-refuses n = one-text _ _ _ (accept_form (length row)) (form-reads (length row)) s r _ (λ x. text (negate ℤ_ring x))

  pub add-refuses : (t : List ℕ) (n : ℕ) → (add_reply row tables s t n ≡ refuses r) ↔ AddRefuses row tables s t n r
  unfolding add_reply
  add-refuses t n = two-texts _ _ _ (accept_form (length row)) (form-reads (length row)) s r t _ (λ x y. text (sum ℤ_ring x y))

  pub multiply-refuses : (t : List ℕ) (n : ℕ) → (multiply_reply row tables s t n ≡ refuses r) ↔ MultiplyRefuses row tables s t n r
  unfolding multiply_reply
  multiply-refuses t n = two-texts _ _ _ (accept_form (length row)) (form-reads (length row)) s r t _ (λ x y. text (prod ℤ_ring x y))

  pub raise-refuses : (k n : ℕ) → (raise_reply row tables s k n ≡ refuses r) ↔ RaiseRefuses row tables s k n r
  unfolding raise_reply
  raise-refuses k n = one-text _ _ _ (accept_form (length row)) (form-reads (length row)) s r _ (λ x. text (raise ℤ_ring x k))

  pub form-remainder-refuses : (N : List ℤ) → (form_remainder_reply row tables s N ≡ refuses r) ↔ FormRemainderRefuses row tables s N r
  unfolding form_remainder_reply
  form-remainder-refuses N =
      one-text _ _ _ (accept_form (length row)) (form-reads (length row)) s r _ (λ x. remainder (evalh ℤ_ring x N))

  pub compare-refuses : (k : ℕ) (t : List ℕ) → (compare_reply row tables k s t ≡ refuses r) ↔ CompareRefuses row tables k s t r
  unfolding compare_reply
  compare-refuses k t =
      two-texts _ _ _ (accept_term row) (term-reads row) s r t _ (λ f g. verdict_of (length row) (term_of row f) (term_of row g))

  pub counters-refuses : (w : ℕ) (t : List ℕ) → (counters_reply row tables w s t ≡ refuses r) ↔ CountersRefuses row tables w s t r
  unfolding counters_reply
  counters-refuses w t =
      two-texts _ _ _ (accept_term row) (term-reads row) s r t _
      (λ f g. multiples_of (2 ^ bits w) (norm_ℤ (diff (term_of row f) (term_of row g))))
