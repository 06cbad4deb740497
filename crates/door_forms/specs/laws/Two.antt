-- The reply of an operation on two forms, by what is read of them.
use Rattle.std.specs.Prelude.{Err, false, List, ◌≡◌, ℕ, min, leb, ℤ, length}
use Rattle.std.proofs.Common.{sym, ap, ◌∙◌, arith}
use Rattle.refusal.specs.Refusal.{of_neither}
use Rattle.horner.specs.definitions.Form.{Form as HForm}
use Rattle.horner.specs.definitions.Measures.{box}
use Rattle.text.specs.definitions.Bytes.{Reading, read, all}
use Rattle.text.specs.definitions.FormReading.{accept_form, text}
use Rattle.reply.specs.definitions.Calls.{Measured, limited, two_of}
use Rattle.reply.specs.definitions.Reply.{Written, Reply, read_as, asked, fitted, result_after, untouched}
use Rattle.measure.specs.declared.Measures.{Measures}
use Rattle.measure.specs.Measure.{limit_m}
use Rattle.refusal.specs.declared.Side.TheVariants.{Left, Right}
use Rattle.door.specs.laws.Ending.{read-clears, asked-clears, fitted-clears}
use Rattle.door.specs.laws.Numbers.{form-number}
use Rattle.door_result.specs.Result.{written_of}
use Rattle.door_forms.specs.Forms.{IsPair}
use Rattle.door_forms.specs.declared.FormPair.{FormPair}
use Rattle.door_forms.specs.laws.Limits.{Meets, passed, stopped}

-- the answer and the result buffer are as the reply says
abbrev pub Answers : Reply (List ℕ) → Written → List ℕ → List ℕ → Type 0
Answers x r b b' = (r ≡ written_of x) × (b' ≡ result_after x b)

pub answers : {x y : Reply (List ℕ)} (b : List ℕ) → x ≡ y → Answers x (written_of y) b (result_after y b)
answers b e = (ap written_of (sym e), ap (λ z. result_after z b) (sym e))

-- a result is limited by numbers above 2
pub limited-clears : {A : Type 0} (M : Measured) (r : Unit {0} → Reply A) → untouched (r tt) ≡ false → untouched (limited M r) ≡ false
limited-clears M r h =
    asked-clears (all (λ d. leb d 63) M.powers) 8
    (λ u. asked (leb M.heavy 1073741823) 9 (λ v. asked (leb (min M.many (box M.powers)) 256) 10 r)) (omega arith)
    (asked-clears (leb M.heavy 1073741823) 9 (λ v. asked (leb (min M.many (box M.powers)) 256) 10 r) (omega arith)
    (asked-clears (leb (min M.many (box M.powers)) 256) 10 r (omega arith) h))

module _ (measured : HForm ℤ → HForm ℤ → Measured) (op : HForm ℤ → HForm ℤ → HForm ℤ) (row s t : List ℕ) (n : ℕ) where
  -- both are accepted
  pub two-of : {f g : HForm ℤ} → accept_form (length row) s ≡ read f → accept_form (length row) t ≡ read g
      → two_of measured op row s t n ≡ limited (measured f g) (λ v. fitted n (text (op f g)))
  two-of {f} {g} i j =
      ap (λ (z : Reading (HForm ℤ)). read_as Left z
      (λ x. read_as Right (accept_form (length row) t) (λ y. limited (measured x y) (λ v. fitted n (text (op x y)))))) i
      ∙ ap (λ (z : Reading (HForm ℤ)). read_as Right z (λ y. limited (measured f y) (λ v. fitted n (text (op f y))))) j

  module _ {l : List ℕ} {p : FormPair} {a : Measures} (P : IsPair (length row) s t p l)
      (T : Meets (measured P.of_left.f P.of_right.f) a) where
    -- a limit is passed
    pub two-stopped :
        {e : ℕ} (b : List ℕ) → e ≡ limit_m a → (e ≡ 0 → ⊥) → Answers (two_of measured op row s t n) (Err (of_neither e)) b b
    two-stopped b h z =
        let i = two-of P.of_left.accepted P.of_right.accepted
        ∙ stopped T (λ v. fitted n (text (op P.of_left.f P.of_right.f))) (λ w. z (h ∙ w)) in
        (ap (λ e. Err (of_neither e)) h ∙ (answers b i).0, (answers b i).1)

    -- none is
    pub two-goes : limit_m a ≡ 0 → two_of measured op row s t n ≡ fitted n (text (op P.of_left.f P.of_right.f))
    two-goes z =
        two-of P.of_left.accepted P.of_right.accepted ∙ passed T (λ v. fitted n (text (op P.of_left.f P.of_right.f))) z

  pub two-clears : untouched (two_of measured op row s t n) ≡ false
  two-clears =
      read-clears Left (accept_form (length row) s)
      (λ x. read_as Right (accept_form (length row) t) (λ y. limited (measured x y) (λ v. fitted n (text (op x y)))))
      (form-number (length row) s)
      (λ x. read-clears Right (accept_form (length row) t) (λ y. limited (measured x y) (λ v. fitted n (text (op x y))))
      (form-number (length row) t)
      (λ y. limited-clears (measured x y) (λ v. fitted n (text (op x y))) (fitted-clears n (text (op x y)))))
