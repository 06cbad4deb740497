-- The demands, under their own words. A call's contract says that it answers the reply that is defined in crates/reply; here is what the
-- replies are worth.
use Rattle.std.specs.Prelude.{Bool, true, false, List, map, ◌↔◌, ◌≡◌, refl, ℕ, ◌≤◌, ◌%◌, ◌^◌, ℤ, pos, nat_abs, length}
use Rattle.std.proofs.Common.{sym, ◌∙◌, arith, le-leb, eq-eqb, pow_pos}
use Rattle.std.proofs.Math.Path.{ap}
use Rattle.std.proofs.lemmas.List.{length-map}
use Rattle.dialect.specs.Dialects.{ordinary}
use Rattle.refusal.specs.declared.Side.TheVariants.{Left, Right}
use Rattle.horner.specs.definitions.Measures.{coef_at, multiples_of}
use Rattle.horner.specs.definitions.Form.{Form, evalh}
use Rattle.horner.specs.definitions.Rings.{ℤ_ring, prime, remainder_by}
use Rattle.horner.specs.laws.Within.{Within}
use Rattle.horner.specs.definitions.Points.{IsPoint, point_of, leaves}
use Rattle.horner.specs.definitions.Term.{Term, diff, norm_ℤ, norm_p, eval_ℤ}
use Rattle.horner.proofs.laws.Answer.{same-iff, point-is}
use Rattle.horner.proofs.laws.Points.{point-found}
use Rattle.horner.proofs.laws.Term.{evalh-norm, normal-norm, theorem-1}
use Rattle.text.specs.definitions.Bytes.{Reading, read, refused, is_row}
use Rattle.text.specs.definitions.FormReading.{accept_form, text}
use Rattle.text.specs.definitions.FormMeaning.{IsForm}
use Rattle.text.specs.definitions.Limits.{accept_term}
use Rattle.text.specs.definitions.Meaning.{IsTerm, Part, Fits}
use Rattle.text.specs.definitions.Tree.{Tree, term_of}
use Rattle.text_laws.specs.laws.FormAccepted as Forms
use Rattle.text_laws.specs.laws.FormReading.{text-injective}
use Rattle.text_laws.specs.laws.Ordinary as Terms
use Rattle.text_laws.proofs.laws.Result.{result-form, result-accepted}
use Rattle.text_laws.specs.laws.Rows.{accepted-within}
use Rattle.reply.specs.definitions.Calls.{equal, different, verdict_of, compare_reply, counters_reply, is_width, bits}
use Rattle.reply.specs.definitions.Calls.{judge_reply, form_reply, remainder_reply}
use Rattle.reply.specs.definitions.Reply.{Reply, gives, asked, read_as, enough, opened, fitted}
use Rattle.code_walk.specs.Shapes.{Decides}
use Rattle.code_counters.specs.laws.Multiples.{multiples-coefs}
use Rattle.door_compare.specs.laws.Verdict.{verdict-same, verdict-bytes, verdict-apart, not-zero}

-- what is lent is proper: the row, and the lengths of the work tables
pub record Lent (row tables : List ℕ) : Type 0 where
  pub proper : is_row row ≡ true
  pub long : enough tables ≡ true

pub goes : {A : Type 0} {row tables : List ℕ} (r : Unit {0} → Reply A) → Lent row tables → opened row tables r ≡ r tt
goes r l = rw l.proper (rw l.long refl)

-- ---- demand 2
-- "Given a proper row and long enough buffers, a term inside the limits is never refused, and its form is exactly the sparse Horner normal
-- form of the polynomial it denotes." The longest form's text has 13,529 bytes (Longest).
module _ (row tables s : List ℕ) (l : Lent row tables) (t : Tree) (is : IsTerm ordinary row s t)
    (inside : (y : Tree) → Part y t → Fits row y) (n : ℕ) (long : 13529 ≤ n) where
  accepted : accept_term row s ≡ read t
  accepted = (Terms.accepts row s t).1 (is, inside)

  abbrev form : Form ℤ
  form = norm_ℤ (term_of row t)

  pub never-refused : form_reply row tables s n ≡ gives (text form)
  unfolding form_reply
  never-refused =
      let k = (result-form row s t l.proper accepted).0 in
      goes _ l ∙ ap (λ (x : Reading Tree). read_as Left x (λ t. fitted n (text (norm_ℤ (term_of row t))))) accepted
      ∙ ap (λ b. asked b 11 (λ u. gives (text form))) (le-leb (length (text form)) n (omega (arith, k)))

  -- its text is that of a normal form within the limits, and read back it is that form
  pub normal-form : IsForm (length row) (text form) form
  normal-form = (result-form row s t l.proper accepted).1

  pub read_back : accept_form (length row) (text form) ≡ read form
  read_back = result-accepted row s t l.proper accepted

  -- "Read back, the form has the term's value at every whole-number assignment."
  pub its-value : (N : List ℤ) → length N ≡ length row → evalh ℤ_ring form N ≡ eval_ℤ (term_of row t) N
  its-value N e = evalh-norm ℤ_ring (λ z. z) refl (length row) (term_of row t) N (accepted-within row s t accepted).over (omega (arith, e))

-- "A form text is accepted exactly when it is normal and within the limits."
pub record Form-text (m : ℕ) (s : List ℕ) : Type 0 where
  pub form : Form ℤ
  pub is : IsForm m s form

module _ (row s : List ℕ) (r : is_row row ≡ true) where
  abbrev judged : Reading (Form ℤ) → Reply (Unit {0})
  judged x = read_as Left x (λ f. gives tt)

  judge-is : judge_reply row s ≡ judged (accept_form (length row) s)
  unfolding judge_reply
  judge-is = ap (λ b. asked b 1 (λ u. judged (accept_form (length row) s))) r

  yes : (x : Reading (Form ℤ)) → accept_form (length row) s ≡ x → judged x ≡ gives tt → Form-text (length row) s
  yes (read f) h e = record { form = f; is = (Forms.accepts (length row) s f).0 h }
  yes (refused bad) h k = absurd (let z : ◌≡◌ {A = ℕ} 0 1 = cc in omega arith)

  pub judge-exactly : (judge_reply row s ≡ gives tt) ↔ Form-text (length row) s
  judge-exactly = (
    λ e. yes (accept_form (length row) s) refl (sym judge-is ∙ e),
    λ f. judge-is
        ∙ ap judged ((Forms.accepts (length row) s f.form).1 f.is),
  )

-- "gives the remainder of a term .. at a point": of its value there, which is Definition 3's
module _ (row tables s : List ℕ) (l : Lent row tables) (t : Tree) (is : accept_term row s ≡ read t) (N : List ℤ) where
  abbrev there : Tree → Reply ℕ
  there t = gives (remainder_by prime (eval_ℤ (term_of row t) N))

  pub remainder_is : length N ≡ length row → remainder_reply row tables s N ≡ gives (remainder_by prime (eval_ℤ (term_of row t) N))
  unfolding remainder_reply
  remainder_is e =
      goes _ l ∙ ap (λ b. asked b 12 (λ v. read_as Left (accept_term row s) there)) (eq-eqb (length N) (length row) e)
      ∙ ap (λ (x : Reading Tree). read_as Left x there) is

-- ---- demand 3
-- "For two accepted terms over a row of one to four variables: same bytes of form exactly when equal values at every assignment of whole
-- numbers."
module _ (row tables s t : List ℕ) (l : Lent row tables) (k : ℕ) (room : length row ≤ k) (u v : Tree)
    (left_is : accept_term row s ≡ read u) (right_is : accept_term row t ≡ read v) where
  abbrev n : ℕ
  n = length row

  abbrev f : Term
  f = term_of row u

  abbrev g : Term
  g = term_of row v

  F : Within n f
  F = accepted-within row s u left_is

  G : Within n g
  G = accepted-within row t v right_is

  pub compare-is : compare_reply row tables k s t ≡ gives (verdict_of n f g)
  unfolding compare_reply
  compare-is =
      goes _ l
      ∙ ap (λ b. asked b 2 (λ x. read_as Left (accept_term row s)
      (λ y. read_as Right (accept_term row t) (λ z. gives (verdict_of n (term_of row y) (term_of row z)))))) (le-leb n k room)
      ∙ ap (λ (x : Reading Tree). read_as Left x
      (λ y. read_as Right (accept_term row t) (λ z. gives (verdict_of n (term_of row y) (term_of row z))))) left_is
      ∙ ap (λ (x : Reading Tree). read_as Right x (λ z. gives (verdict_of n f (term_of row z)))) right_is

  pub same-bytes-values : (text (norm_ℤ f) ≡ text (norm_ℤ g)) ↔ ((N : List ℤ) → length N ≡ n → eval_ℤ f N ≡ eval_ℤ g N)
  same-bytes-values =
      let h = theorem-1 n f g F.over G.over in
      (λ e. h.0 (text-injective (norm_ℤ f) (norm_ℤ g) e), λ w. ap text (h.1 w))

  -- and then, and only then, the answer is 'same'
  pub same_answer : (text (norm_ℤ f) ≡ text (norm_ℤ g)) ↔ (compare_reply row tables k s t ≡ gives equal)
  same_answer = (
    λ e. compare-is
        ∙ ap gives (verdict-same n f g F G ((same-iff n f g F G).1 (same-bytes-values.0 e))),
    λ e. verdict-bytes n f g F G
        (given (sym compare-is ∙ e)),
  )
    where
      given : gives (verdict_of n f g) ≡ gives equal → verdict_of n f g ≡ equal
      given e = cc

  -- "Otherwise the point returned is the first, in row order, among all assignments of whole numbers from zero up where the values leave
  -- different remainders by 2,147,483,647; no coordinate exceeds that variable's highest power in the two forms": IsPoint says so, by the
  -- terms' values and the two forms over the integers. There is no other such point (only-point)
  abbrev N : List ℕ
  N = point_of prime n f g

  pub other-answer :
      (text (norm_ℤ f) ≡ text (norm_ℤ g) → ⊥) →
      (compare_reply row tables k s t ≡ gives (different N (leaves prime f N) (leaves prime g N))) × IsPoint prime n f g N
  other-answer h = (compare-is ∙ ap gives (verdict-apart n f g F G apart), point-is n f g F G (not-zero n f g F G apart))
    where
      apart : norm_p f ≡ norm_p g → ⊥
      apart e = h (verdict-bytes n f g F G (verdict-same n f g F G e))

  pub only-point : (M : List ℕ) → IsPoint prime n f g M → N ≡ M
  only-point M p = point-found prime n f g M p

  -- "with demand 3's point and the two terms' remainders there, left term first": those that `remainder` answers at that point
  pub remainders-there :
      (text (norm_ℤ f) ≡ text (norm_ℤ g) → ⊥) →
      (remainder_reply row tables s (map pos N) ≡ gives (leaves prime f N))
      × (remainder_reply row tables t (map pos N) ≡ gives (leaves prime g N))
  remainders-there h = (remainder_is row tables s l u left_is (map pos N) long, remainder_is row tables t l v right_is (map pos N) long)
    where
      long : length (map pos N) ≡ n
      long = length-map N pos ∙ (other-answer h).1.long

-- ---- counters
-- "It answers 'same' when each coefficient of the difference is a multiple of 2 to the width"
module _ (row tables s t : List ℕ) (l : Lent row tables) (w : ℕ) (width : is_width w ≡ true) (u v : Tree)
    (left_is : accept_term row s ≡ read u) (right_is : accept_term row t ≡ read v) where
  abbrev difference : Form ℤ
  difference = norm_ℤ (diff (term_of row u) (term_of row v))

  pub counters-is : counters_reply row tables w s t ≡ gives (multiples_of (2 ^ bits w) difference)
  unfolding counters_reply
  counters-is =
      goes _ l
      ∙ ap (λ b. asked b 14 (λ x. read_as Left (accept_term row s)
      (λ y. read_as Right (accept_term row t) (λ z. gives (multiples_of (2 ^ bits w) (norm_ℤ (diff (term_of row y) (term_of row z))))))))
      width
      ∙ ap (λ (x : Reading Tree). read_as Left x
      (λ y. read_as Right (accept_term row t) (λ z. gives (multiples_of (2 ^ bits w) (norm_ℤ (diff (term_of row y) (term_of row z)))))))
      left_is
      ∙ ap (λ (x : Reading Tree). read_as Right x (λ z. gives (multiples_of (2 ^ bits w) (norm_ℤ (diff (term_of row u) (term_of row z))))))
      right_is

  -- a coefficient for each list of powers of the row's variables
  abbrev EachMultiple : Type 0
  EachMultiple = (ks : List ℕ) → length ks ≡ length row → nat_abs (coef_at ℤ_ring ks difference) % 2 ^ bits w ≡ 0

  decided : Decides (multiples_of (2 ^ bits w) difference) EachMultiple
  decided =
      multiples-coefs (2 ^ bits w) (pow_pos (bits w)) (length row) difference
      (normal-norm ℤ_ring (λ z. z) refl (length row) (diff (term_of row u) (term_of row v))
      ((accepted-within row s u left_is).over, (accepted-within row t v right_is).over))

  pub counters-exactly : (counters_reply row tables w s t ≡ gives true) ↔ EachMultiple
  counters-exactly = (
    λ h. decided.yes (given (sym counters-is ∙ h)),
    λ h. counters-is ∙ ap gives (decided.no h),
  )
    where
      given : gives (multiples_of (2 ^ bits w) difference) ≡ gives true → multiples_of (2 ^ bits w) difference ≡ true
      given e = cc

  -- "else 'different', with no point"
  pub counters-else : (EachMultiple → ⊥) → counters_reply row tables w s t ≡ gives false
  counters-else h = counters-is ∙ ap gives (at (multiples_of (2 ^ bits w) difference) refl)
    where
      at : (b : Bool) → multiples_of (2 ^ bits w) difference ≡ b → b ≡ false
      at true e = absurd (h (decided.yes e))
      at false e = refl
