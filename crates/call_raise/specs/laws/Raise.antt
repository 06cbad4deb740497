-- What `raise` answers, by what is read of the form.
use Rattle.std.specs.Prelude.{Err, false, List, ◌≡◌, ℕ, ◌*◌, ◌≤◌, ◌<◌, leb, ℤ, length, take}
use Rattle.std.proofs.Common.{sym, subst, ◌∙◌, arith, le-leb}
use Rattle.std.proofs.Math.Path.{ap}
use Rattle.std.proofs.lemmas.List.{length-map}
use Rattle.refusal.specs.declared.Refusal.{Refusal}
use Rattle.refusal.specs.Refusal.{of_neither}
use Rattle.horner.specs.definitions.Form.{Form as HForm, raise}
use Rattle.horner.specs.definitions.Rings.{ℤ_ring}
use Rattle.horner.specs.definitions.Measures.{degrees, multiples, one_if, terms}
use Rattle.horner.proofs.laws.Bounds.{bounded-raise}
use Rattle.horner.proofs.laws.Carry.{carry-raise}
use Rattle.horner.proofs.laws.Count.{count-size, count-box, one-if-le}
use Rattle.horner.proofs.laws.Measure.{meas-raise}
use Rattle.horner.proofs.laws.Normal.{normal-raise}
use Rattle.horner.proofs.laws.Room.{words-3073}
use Rattle.horner.proofs.laws.Table.{raise-fits}
use Rattle.code.specs.Coding.{Codes, Made, enc, dec}
use Rattle.code.specs.Widths.{Leaf, ring_of}
use Rattle.code.specs.laws.Sizes.{size-enc}
use Rattle.code_room.specs.Tables.{Tables}
use Rattle.code_room.proofs.laws.Lists.{box-below}
use Rattle.code_room.proofs.laws.Tables.{tables-for}
use Rattle.code_power.specs.Raise as P
use Rattle.code_power.specs.laws.Raise.{below-multiples, power-mono}
use Rattle.text.specs.definitions.Bytes.{Reading, read}
use Rattle.text.specs.definitions.FormReading.{accept_form, text}
use Rattle.form_write.specs.Write.{text_of}
use Rattle.reply.specs.definitions.Reply.{untouched, refuses, read_as, asked, fitted}
use Rattle.reply.specs.definitions.Calls.{of_power, limited, raise_of, raise_reply}
use Rattle.measure.specs.declared.Measures.{Measures}
use Rattle.measure.specs.Measure.{pow_m, limit_m}
use Rattle.door.specs.Door.{ready_of}
use Rattle.refusal.specs.declared.Side.TheVariants.{Left}
use Rattle.door.specs.laws.Door.{Open, open-goes, not-open}
use Rattle.door.specs.laws.Ending.{read-clears, asked-clears, fitted-clears}
use Rattle.door.specs.laws.Numbers.{form-number}
use Rattle.form_build.specs.Build.{over_p}
use Rattle.form_read.specs.Read.{IsForm}
use Rattle.form_read.specs.laws.Read.{form-words}
use Rattle.door_forms.specs.laws.Limits.{Meets, power-meets, inside, passed, stopped}
use Rattle.door_forms.specs.laws.Results.{Within, operand, result, over-remainders, decoded, few_words, codes, words, result-text}
use Rattle.door_forms.specs.laws.Two.{Answers, answers, limited-clears}

-- ---- the reply, by what is read
module _ (row s : List ℕ) (k n : ℕ) where
  pub accepted : {f : HForm ℤ} → accept_form (length row) s ≡ read f
      → raise_of row s k n ≡ asked (leb k 63) 8 (λ v. limited (of_power (length row) f k) (λ w. fitted n (text (raise ℤ_ring f k))))
  accepted e =
      ap (λ (z : Reading (HForm ℤ)). read_as Left z
      (λ x. asked (leb k 63) 8 (λ v. limited (of_power (length row) x k) (λ w. fitted n (text (raise ℤ_ring x k)))))) e

  low :
      {f : HForm ℤ} → accept_form (length row) s ≡ read f → k ≤ 63 →
      raise_of row s k n ≡ limited (of_power (length row) f k) (λ w. fitted n (text (raise ℤ_ring f k)))
  low {f} e h =
      accepted e ∙ ap (λ t. asked t 8 (λ v. limited (of_power (length row) f k) (λ w. fitted n (text (raise ℤ_ring f k))))) (le-leb k 63 h)

  pub raise-clears : untouched (raise_of row s k n) ≡ false
  raise-clears =
      read-clears Left (accept_form (length row) s)
      (λ x. asked (leb k 63) 8 (λ v. limited (of_power (length row) x k) (λ w. fitted n (text (raise ℤ_ring x k)))))
      (form-number (length row) s)
      (λ x. asked-clears (leb k 63) 8 (λ v. limited (of_power (length row) x k) (λ w. fitted n (text (raise ℤ_ring x k)))) (omega arith)
      (limited-clears (of_power (length row) x k) (λ w. fitted n (text (raise ℤ_ring x k))) (fitted-clears n (text (raise ℤ_ring x k)))))

-- as much of the tables as is lent
pub lengths : {o u v : ℕ} → o ≡ 16384 → u ≡ 16384 → v ≡ 6146 → Tables 15684 15684 o u v
lengths h i j = omega (arith, h, i, j)

-- ---- the power
module _ {m : ℕ} {s l : List ℕ} {a : Measures} {n : ℕ} (few : m ≤ 4) (F : IsForm m s a n l) (k : ℕ) where
  wf : Within m (degrees m F.f) F.f
  wf = operand m s few F.f F.accepted

  pub meets : Meets (of_power m F.f k) (pow_m a k)
  meets = power-meets m few F.f wf.sized k F.found

  sized : length (multiples k (degrees m F.f)) ≡ m
  sized = length-map (degrees m F.f) (λ d. k * d) ∙ wf.sized

  module _ (z : limit_m (pow_m a k) ≡ 0) where
    within : Within m (multiples k (degrees m F.f)) (raise ℤ_ring F.f k)
    within =
        let I = inside meets z in
        result (normal-raise ℤ_ring m F.f k wf.normal) sized I.low I.light I.few (raise-fits m F.f wf.normal k)

    is-power : P.raise_of 0 (dec 0 (take n l)) k ≡ over_p (raise ℤ_ring F.f k)
    unfolding P.raise_of
    is-power =
        let I = inside meets z in
        ap (λ (h : HForm (Leaf 0)). P.raise_of 0 h k) (decoded few wf F.made)
        ∙ carry-raise m F.f wf.normal (degrees m F.f) k wf.sized I.low wf.bounded (omega (arith, wf.light))
        (omega (arith, I.light))

    -- a lower power takes no more words
    lower : (j : ℕ) → j < k → length (enc 0 (P.raise_of 0 (over_p F.f) j)) ≤ 3073
    unfolding P.raise_of
    lower j h =
        let I = inside meets z in
        let w = over-remainders few wf in
        let x = over_p F.f in
        let R = ring_of 0 in
        let N = normal-raise R m x j w.normal in
        let c = meas-raise R (one_if R) (count-size R) (one-if-le R R.unit) x (terms ℤ_ring F.f) w.few j in
        let d = count-box R m (multiples j (degrees m F.f)) (raise R x j) N (bounded-raise R (degrees m F.f) x w.bounded j) in
        let p = power-mono (terms ℤ_ring F.f) j k (omega arith) (omega arith) in
        let b = box-below (multiples j (degrees m F.f)) (multiples k (degrees m F.f))
        (below-multiples j k (degrees m F.f) (omega arith)) in
        omega (arith, size-enc 0 (raise R x j), words-3073 R m (raise R x j) few N (omega (arith, c, d, p, b, I.few)))

    pub raising : {q o u v : ℕ} → 16384 ≤ q → Tables 15684 15684 o u v → P.Raising 0 (dec 0 (take n l)) k n q o u v
    raising {q} {o} {u} {v} h T =
        let I = inside meets z in
        let S : P.Raising 0 (over_p F.f) k n q o u v =
        record {
          vars = m;
          ds = degrees m F.f;
          c = terms ℤ_ring F.f;
          few-vars = few;
          len = wf.sized;
          of-x = over-remainders few wf;
          pos = omega arith;
          degrees = I.low;
          few = I.few;
          held = 3073;
          lower = lower;
          fits = omega (arith, form-words few F, h);
          whole = omega (arith, h, whole);
          tables = tables-for few (omega arith) T;
        } in
        subst (λ (x : HForm (Leaf 0)). P.Raising 0 x k n q o u v) (sym (decoded few wf F.made)) S
      where
        whole : length (enc 0 (P.raise_of 0 (over_p F.f) k)) ≤ 3073
        whole =
            omega (
              arith,
              ap (λ (h : HForm (Leaf 0)). length (enc 0 h))
                  (sym (ap (λ (h : HForm (Leaf 0)). P.raise_of 0 h k) (decoded few wf F.made)) ∙ is-power),
              few_words few within,
            )

    module _ {r : ℕ} {d : List ℕ} (M : Made 0 (P.raise_of 0 (dec 0 (take n l)) k) r d) where
      pub power-codes : Codes 0 (over_p (raise ℤ_ring F.f k)) (take r d)
      power-codes = codes few within is-power M

      pub power-words : r ≤ 3073
      power-words = words few within is-power M

      pub power-text : text_of (dec 0 (take r d)) ≡ text (raise ℤ_ring F.f k)
      power-text = result-text few within power-codes

-- ---- the call, where the exponent is within its limit
module _ (row : List ℕ) {s l : List ℕ} {a : Measures} {w : ℕ} (few : length row ≤ 4) (F : IsForm (length row) s a w l) (k n : ℕ)
    (h : k ≤ 63) where
  pub raise-stopped : {e : ℕ} (b : List ℕ) → e ≡ limit_m (pow_m a k) → (e ≡ 0 → ⊥) → Answers (raise_of row s k n) (Err (of_neither e)) b b
  raise-stopped b i z =
      let q = low row s k n F.accepted h ∙ stopped (meets few F k) (λ v. fitted n (text (raise ℤ_ring F.f k))) (λ y. z (i ∙ y)) in
      (ap (λ e. Err (of_neither e)) i ∙ (answers b q).0, (answers b q).1)

  pub raise-is :
      limit_m (pow_m a k) ≡ 0 → {r : ℕ} {d : List ℕ} → Made 0 (P.raise_of 0 (dec 0 (take w l)) k) r d →
      fitted n (text_of (dec 0 (take r d))) ≡ raise_of row s k n
  raise-is z M =
      ap (fitted n) (power-text few F k z M)
      ∙ sym (low row s k n F.accepted h ∙ passed (meets few F k) (λ v. fitted n (text (raise ℤ_ring F.f k))) z)

-- ---- the whole call
module _ (row ts s : List ℕ) (k n : ℕ) where
  pub raise-open : Open row ts → raise_reply row ts s k n ≡ raise_of row s k n
  unfolding raise_reply
  raise-open o = open-goes row ts (λ u. raise_of row s k n) o

  pub raise-not-open : {bad : Refusal} → ready_of row ts ≡ Err bad → raise_reply row ts s k n ≡ refuses bad
  unfolding raise_reply
  raise-not-open h = not-open row ts (λ u. raise_of row s k n) h
