-- Demand 1: "Every call ends with an answer .. what every lent buffer holds afterwards is laid down." No public call has a `requires`;
-- each cites one record in its own `ensures`. No two distinct answers, nor buffers, meet that record: here for each public call, under its
-- name. b is the result or point buffer when the call begins, w the four work tables.
use Rattle.std.specs.Prelude.{List, ◌≡◌, ℕ, ℤ}
use Rattle.std.proofs.Common.{sym, ◌∙◌}
use Rattle.book.specs.definitions.Book.{PrintCall}
use Rattle.door_compare.specs.Compare.{is-compared}
use Rattle.call_counters.specs.Counters.{is-counted}
use Rattle.call_judge.specs.Judge.{is-judged}
use Rattle.door_point.specs.Point.{is-remainder}
use Rattle.door_result.specs.Result.{is-written}
use Rattle.panel.specs.Panel.{PanelCompareCall, PanelFormCall, PanelRemainderCall}
use Rattle.panel.specs.declared.PanelAnswer.{PanelAnswer}
use Rattle.reply.specs.definitions.Calls.{Compared, CompareCall, CountersCall, JudgeCall, NegateCall, AddCall, MultiplyCall, RaiseCall}
use Rattle.reply.specs.definitions.Calls.{FormRemainderCall, FormCall, RemainderCall}
use Rattle.reply.specs.definitions.Reply.{Counted, Judged, Remaindered, Written, Reply, Work, Writes, Remainders}

-- ---- a call with a result text
module _ {r q : Written} {b₁ b₂ : List ℕ} {w₁ w₂ : Work} where
  one-text : {x : Reply (List ℕ)} {b : List ℕ} {w : Work} → Writes x r b b₁ w w₁ → Writes x q b b₂ w w₂ → (r ≡ q) × ((b₁ ≡ b₂) × (w₁ ≡ w₂))
  one-text s t = (is-written s ∙ sym (is-written t), (s.result ∙ sym t.result, s.tables ∙ sym t.tables))

  module _ (row s t b : List ℕ) (k : ℕ) (w : Work) where
    pub one_form : FormCall row s r b b₁ w w₁ → FormCall row s q b b₂ w w₂ → (r ≡ q) × ((b₁ ≡ b₂) × (w₁ ≡ w₂))
    one_form x y = one-text x y

    pub one-negate : NegateCall row s r b b₁ w w₁ → NegateCall row s q b b₂ w w₂ → (r ≡ q) × ((b₁ ≡ b₂) × (w₁ ≡ w₂))
    one-negate x y = one-text x y

    pub one-add : AddCall row s t r b b₁ w w₁ → AddCall row s t q b b₂ w w₂ → (r ≡ q) × ((b₁ ≡ b₂) × (w₁ ≡ w₂))
    one-add x y = one-text x y

    pub one-multiply : MultiplyCall row s t r b b₁ w w₁ → MultiplyCall row s t q b b₂ w w₂ → (r ≡ q) × ((b₁ ≡ b₂) × (w₁ ≡ w₂))
    one-multiply x y = one-text x y

    pub one-raise : RaiseCall row s k r b b₁ w w₁ → RaiseCall row s k q b b₂ w w₂ → (r ≡ q) × ((b₁ ≡ b₂) × (w₁ ≡ w₂))
    one-raise x y = one-text x y

  pub one-print :
      (book b : List ℕ) (w : Work) → PrintCall book r b b₁ w w₁ → PrintCall book q b b₂ w w₂ → (r ≡ q) × ((b₁ ≡ b₂) × (w₁ ≡ w₂))
  one-print book b w x y = one-text x y

-- ---- a call that gives a remainder
module _ {r q : Remaindered} {w₁ w₂ : Work} where
  one_number : {x : Reply ℕ} {w : Work} → Remainders x r w w₁ → Remainders x q w w₂ → (r ≡ q) × (w₁ ≡ w₂)
  one_number s t = (is-remainder s ∙ sym (is-remainder t), s.tables ∙ sym t.tables)

  module _ (row s : List ℕ) (N : List ℤ) (w : Work) where
    pub one-remainder : RemainderCall row s N r w w₁ → RemainderCall row s N q w w₂ → (r ≡ q) × (w₁ ≡ w₂)
    one-remainder x y = one_number x y

    pub one-form-remainder : FormRemainderCall row s N r w w₁ → FormRemainderCall row s N q w w₂ → (r ≡ q) × (w₁ ≡ w₂)
    one-form-remainder x y = one_number x y

-- ---- the comparisons, and judging
module _ (row s t : List ℕ) (w : Work) {w₁ w₂ : Work} where
  pub one-compare :
      (p : List ℕ) {p₁ p₂ : List ℕ} {r q : Compared} → CompareCall row s t r p p₁ w w₁ → CompareCall row s t q p p₂ w w₂ →
      (r ≡ q) × ((p₁ ≡ p₂) × (w₁ ≡ w₂))
  one-compare p x y = (is-compared x ∙ sym (is-compared y), (x.point ∙ sym y.point, x.tables ∙ sym y.tables))

  pub one-counters :
      (width : ℕ) {r q : Counted} → CountersCall row width s t r w w₁ → CountersCall row width s t q w w₂ → (r ≡ q) × (w₁ ≡ w₂)
  one-counters width x y = (is-counted x ∙ sym (is-counted y), x.tables ∙ sym y.tables)

pub one-judge : (row s : List ℕ) {r q : Judged} → JudgeCall row s r → JudgeCall row s q → r ≡ q
one-judge row s x y = is-judged x ∙ sym (is-judged y)

-- ---- from C
module _ (row s t b : List ℕ) (w : Work) {r q : PanelAnswer} {w₁ w₂ : Work} where
  pub one-panel-compare :
      {b₁ b₂ : List ℕ} → PanelCompareCall row s t r b b₁ w w₁ → PanelCompareCall row s t q b b₂ w w₂ → (r ≡ q) × ((b₁ ≡ b₂) × (w₁ ≡ w₂))
  one-panel-compare x y = (x.answer ∙ sym y.answer, (x.point ∙ sym y.point, x.tables ∙ sym y.tables))

  pub one-panel-form :
      {b₁ b₂ : List ℕ} → PanelFormCall row s r b b₁ w w₁ → PanelFormCall row s q b b₂ w w₂ → (r ≡ q) × ((b₁ ≡ b₂) × (w₁ ≡ w₂))
  one-panel-form x y = (x.answer ∙ sym y.answer, (x.result ∙ sym y.result, x.tables ∙ sym y.tables))

  pub one-panel-remainder : (N : List ℤ) → PanelRemainderCall row s N r w w₁ → PanelRemainderCall row s N q w w₂ → (r ≡ q) × (w₁ ≡ w₂)
  one-panel-remainder N x y = (x.answer ∙ sym y.answer, x.tables ∙ sym y.tables)
