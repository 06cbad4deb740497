-- What a public call answers by its contract alone: the refusal r exactly where Order.antt says so; from C, too.
use Rattle.std.specs.Prelude.{Err, Bool, true, false, List, ◌↔◌, ◌≡◌, refl, ℕ, zero, suc, ℤ, length}
use Rattle.std.proofs.Common.{sym, ap, ◌∙◌, arith}
use Rattle.refusal.specs.declared.Refusal.{Refusal}
use Rattle.refusal.specs.declared.Side.{Side}
use Rattle.refusal.specs.declared.Side.TheVariants.{Left, Right, Neither}
use Rattle.reply.specs.definitions.Calls.{Compared, Verdict, equal, different, CompareCall, CountersCall, JudgeCall, NegateCall, AddCall}
use Rattle.reply.specs.definitions.Calls.{MultiplyCall, RaiseCall, FormRemainderCall, FormCall, RemainderCall}
use Rattle.reply.specs.definitions.Reply.{Counted, Judged, Remaindered, Written, Reply, gives, refuses, Work, lengths}
use Rattle.door_compare.specs.Compare.{compared_of, is-compared}
use Rattle.call_counters.specs.Counters.{counted_of, is-counted}
use Rattle.call_judge.specs.Judge.{judged_of, is-judged}
use Rattle.door_point.specs.Point.{remaindered_of, is-remainder}
use Rattle.door_result.specs.Result.{written_of, is-written}
use Rattle.panel.specs.Panel.{side_number, refusal_answer, compare_answer, form_answer, remainder_answer}
use Rattle.panel.specs.Panel.{PanelCompareCall, PanelFormCall, PanelRemainderCall}
use Rattle.panel.specs.declared.PanelAnswer.{PanelAnswer}
use Rattle.book.specs.definitions.Book.{PrintCall}
use Rattle.demands.specs.Books.{PrintRefused, print-refused}
use Rattle.demands.specs.Order.{FormRefuses, NegateRefuses, RaiseRefuses, AddRefuses, MultiplyRefuses, JudgeRefuses}
use Rattle.demands.specs.Order.{RemainderRefuses, FormRemainderRefuses, CompareRefuses, CountersRefuses}
use Rattle.demands.specs.Refusals.{form-refuses, negate-refuses, raise-refuses, add-refuses, multiply-refuses, judge-refuses}
use Rattle.demands.specs.Refusals.{remainder-refuses, form-remainder-refuses, compare-refuses, counters-refuses}

-- a kind of answer says a refusal as itself, and nothing else as one
record Says {A E : Type 0} (answer : Reply A → E) (Refused : Refusal → E) : Type 0 where
  same : (r : Refusal) → answer (refuses r) ≡ Refused r
  only : (x : Reply A) (r : Refusal) → answer x ≡ Refused r → x ≡ refuses r

said-exactly :
    {A E : Type 0} {answer : Reply A → E} {Refused : Refusal → E} {x : Reply A} {a : E} {Why : Refusal → Type 0} → Says answer Refused →
    a ≡ answer x → ((r : Refusal) → (x ≡ refuses r) ↔ Why r) → (r : Refusal) → (a ≡ Refused r) ↔ Why r
said-exactly {answer = answer} {x = x} m is exactly r =
    (λ h. (exactly r).0 (m.only x r (sym is ∙ h)), λ w. is ∙ ap answer ((exactly r).1 w) ∙ m.same r)

-- ---- a call with a result text
written-says : Says written_of Err
written-says = record { same = λ r. refl; only = only }
  where
    only : (x : Reply (List ℕ)) (r : Refusal) → written_of x ≡ Err r → x ≡ refuses r
    only (gives w) r h = absurd (let z : ◌≡◌ {A = ℕ} 0 1 = cc in omega arith)
    only (refuses q) r h = cc

module _ (row s b : List ℕ) (w : Work) {a : Written} {b' : List ℕ} {w' : Work} (r : Refusal) where
  pub call-form-refuses : FormCall row s a b b' w w' → (a ≡ Err r) ↔ FormRefuses row (lengths w) s (length b) r
  call-form-refuses c = said-exactly written-says (is-written c) (λ q. form-refuses row (lengths w) s q (length b)) r

  pub call-negate-refuses : NegateCall row s a b b' w w' → (a ≡ Err r) ↔ NegateRefuses row (lengths w) s (length b) r
  call-negate-refuses c = said-exactly written-says (is-written c) (λ q. negate-refuses row (lengths w) s q (length b)) r

  pub call-raise-refuses : (k : ℕ) → RaiseCall row s k a b b' w w' → (a ≡ Err r) ↔ RaiseRefuses row (lengths w) s k (length b) r
  call-raise-refuses k c = said-exactly written-says (is-written c) (λ q. raise-refuses row (lengths w) s q k (length b)) r

  pub call-add-refuses : (t : List ℕ) → AddCall row s t a b b' w w' → (a ≡ Err r) ↔ AddRefuses row (lengths w) s t (length b) r
  call-add-refuses t c = said-exactly written-says (is-written c) (λ q. add-refuses row (lengths w) s q t (length b)) r

  pub call-multiply-refuses :
      (t : List ℕ) → MultiplyCall row s t a b b' w w' → (a ≡ Err r) ↔ MultiplyRefuses row (lengths w) s t (length b) r
  call-multiply-refuses t c = said-exactly written-says (is-written c) (λ q. multiply-refuses row (lengths w) s q t (length b)) r

pub call-print-refuses :
    (book b : List ℕ) (w : Work) {a : Written} {b' : List ℕ} {w' : Work} (r : Refusal) → PrintCall book a b b' w w' →
    (a ≡ Err r) ↔ PrintRefused (lengths w) book (length b) r
call-print-refuses book b w r c = said-exactly written-says (is-written c) (print-refused (lengths w) book (length b)) r

-- ---- a call that gives a remainder
remaindered-says : Says remaindered_of Err
remaindered-says = record { same = λ r. refl; only = only }
  where
    only : (x : Reply ℕ) (r : Refusal) → remaindered_of x ≡ Err r → x ≡ refuses r
    only (gives n) r h = absurd (let z : ◌≡◌ {A = ℕ} 0 1 = cc in omega arith)
    only (refuses q) r h = cc

module _ (row s : List ℕ) (N : List ℤ) (w : Work) {a : Remaindered} {w' : Work} (r : Refusal) where
  pub call-remainder-refuses : RemainderCall row s N a w w' → (a ≡ Err r) ↔ RemainderRefuses row (lengths w) s N r
  call-remainder-refuses c = said-exactly remaindered-says (is-remainder c) (λ q. remainder-refuses row (lengths w) s q N) r

  pub call-form-remainder-refuses : FormRemainderCall row s N a w w' → (a ≡ Err r) ↔ FormRemainderRefuses row (lengths w) s N r
  call-form-remainder-refuses c = said-exactly remaindered-says (is-remainder c) (λ q. form-remainder-refuses row (lengths w) s q N) r

-- ---- the judging of a form, and the comparisons
judged-says : Says judged_of Err
judged-says = record { same = λ r. refl; only = only }
  where
    only : (x : Reply (Unit {0})) (r : Refusal) → judged_of x ≡ Err r → x ≡ refuses r
    only (gives u) r h = absurd (let z : ◌≡◌ {A = ℕ} 0 1 = cc in omega arith)
    only (refuses q) r h = cc

pub call-judge-refuses : (row s : List ℕ) {a : Judged} (r : Refusal) → JudgeCall row s a → (a ≡ Err r) ↔ JudgeRefuses row s r
call-judge-refuses row s r c = said-exactly judged-says (is-judged c) (judge-refuses row s) r

compared-says : Says compared_of Err
compared-says = record { same = λ r. refl; only = only }
  where
    only : (x : Reply Verdict) (r : Refusal) → compared_of x ≡ Err r → x ≡ refuses r
    only (gives equal) r h = absurd (let z : ◌≡◌ {A = ℕ} 0 1 = cc in omega arith)
    only (gives (different N m n)) r h = absurd (let z : ◌≡◌ {A = ℕ} 0 1 = cc in omega arith)
    only (refuses q) r h = cc

counted-says : Says counted_of Err
counted-says = record { same = λ r. refl; only = only }
  where
    only : (x : Reply Bool) (r : Refusal) → counted_of x ≡ Err r → x ≡ refuses r
    only (gives true) r h = absurd (let z : ◌≡◌ {A = ℕ} 0 1 = cc in omega arith)
    only (gives false) r h = absurd (let z : ◌≡◌ {A = ℕ} 0 1 = cc in omega arith)
    only (refuses q) r h = cc

module _ (row s t : List ℕ) (w : Work) {w' : Work} (r : Refusal) where
  pub call-compare-refuses :
      (p : List ℕ) {a : Compared} {p' : List ℕ} → CompareCall row s t a p p' w w' →
      (a ≡ Err r) ↔ CompareRefuses row (lengths w) (length p) s t r
  call-compare-refuses p c = said-exactly compared-says (is-compared c) (λ q. compare-refuses row (lengths w) s q (length p) t) r

  pub call-counters-refuses :
      (width : ℕ) {a : Counted} → CountersCall row width s t a w w' → (a ≡ Err r) ↔ CountersRefuses row (lengths w) width s t r
  call-counters-refuses width c = said-exactly counted-says (is-counted c) (λ q. counters-refuses row (lengths w) s q width t) r

-- ---- from C
abbrev side_of : ℕ → Side
side_of zero = Neither
side_of (suc zero) = Left
side_of (suc (suc n)) = Right

side-back : (s : Side) → side_of (side_number s) ≡ s
side-back Neither = refl
side-back Left = refl
side-back Right = refl

-- a struct is that of one refusal
one-refusal : (q r : Refusal) → refusal_answer q ≡ refusal_answer r → q ≡ r
one-refusal q r h =
    let number = ap (λ (a : PanelAnswer). a.number) h in
    let side = sym (side-back q.side) ∙ ap (λ (a : PanelAnswer). side_of a.side) h ∙ side-back r.side in
    let place = ap (λ (a : PanelAnswer). a.place) h in
    λ i. record { number = number i; side = side i; place = place i }

-- a refusal's struct, and no other, has the kind 2
record Crosses {A : Type 0} (answer : Reply A → PanelAnswer) : Type 0 where
  same : (r : Refusal) → answer (refuses r) ≡ refusal_answer r
  other : (v : A) → (answer (gives v)).kind ≡ 2 → ⊥

-- The struct says a refusal by its number, side and place: that which Order.antt gives a reason for; and the kind is 2 exactly where there
-- is one
pub record RefusesAs (a : PanelAnswer) (Why : Refusal → Type 0) : Type 0 where
  pub holds : (r : Refusal) → (a ≡ refusal_answer r) ↔ Why r
  pub kind_2 : (a.kind ≡ 2) ↔ ((r : Refusal) × Why r)

module _ {A : Type 0} {answer : Reply A → PanelAnswer} {x : Reply A} {a : PanelAnswer} {Why : Refusal → Type 0} (m : Crosses answer)
    (is : a ≡ answer x) (exactly : (r : Refusal) → (x ≡ refuses r) ↔ Why r) where
  only : (y : Reply A) (r : Refusal) → answer y ≡ refusal_answer r → y ≡ refuses r
  only (gives v) r h = absurd (m.other v (ap (λ (b : PanelAnswer). b.kind) h))
  only (refuses q) r h = ap refuses (one-refusal q r (sym (m.same q) ∙ h))

  held : (r : Refusal) → (a ≡ refusal_answer r) ↔ Why r
  held = said-exactly (record { same = m.same; only = only }) is exactly

  by_kind : (y : Reply A) → x ≡ y → a.kind ≡ 2 → (r : Refusal) × Why r
  by_kind (gives v) h i = absurd (m.other v (ap (λ (b : PanelAnswer). b.kind) (sym (is ∙ ap answer h)) ∙ i))
  by_kind (refuses q) h i = (q, (exactly q).0 h)

  crosses : RefusesAs a Why
  crosses = record {
    holds = held;
    kind_2 = (by_kind x refl, λ w. ap (λ (b : PanelAnswer). b.kind) ((held w.0).1 w.1));
  }

form-crosses : Crosses form_answer
form-crosses = record { same = λ r. refl; other = λ v h. omega (arith, h) }

remainder-crosses : Crosses remainder_answer
remainder-crosses = record { same = λ r. refl; other = λ v h. omega (arith, h) }

compare-crosses : Crosses compare_answer
compare-crosses = record { same = λ r. refl; other = other }
  where
    other : (v : Verdict) → (compare_answer (gives v)).kind ≡ 2 → ⊥
    other equal h = omega (arith, h)
    other (different N m n) h = omega (arith, h)

module _ (row s : List ℕ) (w : Work) {a : PanelAnswer} {w' : Work} where
  pub panel-form-refuses :
      (b : List ℕ) {b' : List ℕ} → PanelFormCall row s a b b' w w' → RefusesAs a (FormRefuses row (lengths w) s (length b))
  panel-form-refuses b c = crosses form-crosses c.answer (λ r. form-refuses row (lengths w) s r (length b))

  pub panel-remainder-refuses : (N : List ℤ) → PanelRemainderCall row s N a w w' → RefusesAs a (RemainderRefuses row (lengths w) s N)
  panel-remainder-refuses N c = crosses remainder-crosses c.answer (λ r. remainder-refuses row (lengths w) s r N)

  pub panel-compare-refuses :
      (t p : List ℕ) {p' : List ℕ} → PanelCompareCall row s t a p p' w w' → RefusesAs a (CompareRefuses row (lengths w) (length p) s t)
  panel-compare-refuses t p c = crosses compare-crosses c.answer (λ r. compare-refuses row (lengths w) s r (length p) t)
