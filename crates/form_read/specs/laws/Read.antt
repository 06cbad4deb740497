-- The passes over a form's text, one after the other.
use Rattle.std.specs.Prelude.{Result, Ok, Err, List, ◌++◌, refl, ℕ, ◌≤◌, ℤ, take}
use Rattle.std.proofs.Math.Path.{◌≡◌, ap}
use Rattle.std.proofs.Common.{sym, subst, ◌∙◌, arith}
use Rattle.std.proofs.lemmas.List.{take-append-le}
use Rattle.refusal.specs.declared.Fault.{Fault}
use Rattle.horner.specs.definitions.Form.{Form as HForm}
use Rattle.code.specs.Coding.{Made, Begins, Coded}
use Rattle.code.proofs.Lists.{begins-le}
use Rattle.text.specs.definitions.Bytes.{onward, Reading, read, refused}
use Rattle.text.specs.definitions.FormReading.{accept_form, form_judged, read_form}
use Rattle.measure.specs.declared.Measures.{Measures}
use Rattle.measure.specs.Measure.{Small}
use Rattle.form_syntax.specs.Answer.{form_syntax_of}
use Rattle.form_build.specs.Answer.{judged_of}
use Rattle.form_build.specs.Build.{over_p}
use Rattle.form_build.specs.laws.Accepted.{accepted-words, accepted-coded}
use Rattle.form_build.specs.laws.Answered.{form-accepted, form-refused, accepted-small}
use Rattle.form_read.specs.Read.{IsForm, FormRead, refusal, form}
use Rattle.form_read.specs.declared.FormCode.{FormCode}

-- ---- the syntax
module _ (m : ℕ) (s : List ℕ) where
  pub syntax_refused : (bad : Fault) → form_syntax_of (read_form s) ≡ Err bad → Err bad ≡ judged_of m (accept_form m s)
  unfolding accept_form
  syntax_refused bad = go (read_form s)
    where
      go : (x : Reading (HForm ℤ)) → form_syntax_of x ≡ Err bad → Err bad ≡ judged_of m (onward x (form_judged m))
      go (read f) h = absurd (let z : ◌≡◌ {A = ℕ} 0 1 = cc in omega arith)
      go (refused worse) h = let i : bad ≡ worse = cc in ap Err i

-- ---- the judging
module _ (m : ℕ) (s : List ℕ) where
  pub judged-refused : (bad : Fault) (l : List ℕ) → judged_of m (accept_form m s) ≡ Err bad → FormRead m s (Err bad) l
  judged-refused bad l h = refusal bad (form-refused m s bad (sym h)) refl

-- what stands at the front of a table stands there also where more follows
begins-front : {r : ℕ} {w : List ℕ} (l k : List ℕ) → Begins r w l → Begins r w (l ++ k)
begins-front {r} l k b = record { size = b.size; is = take-append-le r l k (begins-le b) ∙ b.is }

pub built : (m : ℕ) (s : List ℕ) (a : Measures) {n : ℕ} (l k : List ℕ) → judged_of m (accept_form m s) ≡ Ok a
    → ((f : HForm ℤ) → accept_form m s ≡ read f → Made 0 (over_p f) n l) → FormRead m s (Ok (record { measures = a; words = n })) (l ++ k)
built m s a {n} l k h b =
    let A = form-accepted m s a (sym h) in
    form a n (record { f = A.f; accepted = A.is; found = A.found; made = begins-front l k (b A.f A.is) }) refl

-- ---- what was read, by the enum
no-form :
    {P : Type 0} {a : Measures} {n : ℕ} {bad : Fault} →
    ◌≡◌ {A = Result FormCode Fault} (Ok (record { measures = a; words = n })) (Err bad) → P
no-form h = absurd (let z : ◌≡◌ {A = ℕ} 0 1 = cc in omega arith)

pub read-form :
    {m : ℕ} {s l : List ℕ} {a : Measures} {n : ℕ} {r : Result FormCode Fault} →
    r ≡ Ok (record { measures = a; words = n }) → FormRead m s r l →
    IsForm m s a n l
read-form h (refusal bad x i) = no-form (sym h ∙ i)
read-form {a = a} {n} h (form b k t i) =
    let q : ◌≡◌ {A = FormCode} (record { measures = b; words = k }) (record { measures = a; words = n }) = cc in
    let d : b ≡ a = ap (λ (c : FormCode). c.measures) q in
    let e : k ≡ n = ap (λ (c : FormCode). c.words) q in
    rw (d, e) at t

pub read-refusal :
    {m : ℕ} {s l : List ℕ} {bad : Fault} {r : Result FormCode Fault} → r ≡ Err bad → FormRead m s r l → accept_form m s ≡ refused bad
read-refusal h (form a n t i) = no-form (sym i ∙ h)
read-refusal {bad = bad} h (refusal worse a i) = let j : worse ≡ bad = cc in a ∙ ap refused j

-- ---- a form that was read: a code, in at most 3,073 words, and small measures
module _ {m : ℕ} {s l : List ℕ} {a : Measures} {n : ℕ} (few : m ≤ 4) (F : IsForm m s a n l) where
  pub form-words : n ≤ 3073
  form-words = omega (arith, F.made.size, accepted-words m s few F.f F.accepted)

  pub form-coded : Coded 0 (take n l)
  form-coded = accepted-coded m s few F.f F.accepted F.made

  pub form_small : Small a
  form_small = subst Small (sym F.found) (accepted-small m s F.f F.accepted)
