-- The whole call: refused at the door, one text refused, or answered; and the tables.
use Rattle.std.specs.Prelude.{Ok, Err, Bool, true, false, List, ◌≡◌, refl, ℕ, ◌+◌, ◌≤◌, ◌^◌, length, take, drop}
use Rattle.std.proofs.Common.{arith, sym, ap₂, ◌∙◌}
use Rattle.std.proofs.Math.Path.{ap}
use Rattle.refusal.specs.Refusal.{of_neither}
use Rattle.refusal.specs.declared.Side.TheVariants.{Left, Right}
use Rattle.horner.specs.definitions.Measures.{multiples_of}
use Rattle.horner.specs.definitions.Term.{diff, norm_ℤ}
use Rattle.text.specs.definitions.Bytes.{Reading, is_row}
use Rattle.text.specs.definitions.Limits.{accept_term}
use Rattle.text.specs.definitions.Tree.{Tree, term_of}
use Rattle.text_laws.specs.laws.Rows.{accepted-within}
use Rattle.reply.specs.definitions.Calls.{is_width, bits, counters_of, counters_reply, Counts}
use Rattle.reply.specs.definitions.Reply.{told, Counted, Reply, gives, refuses, asked, read_as, work, untouched}
use Rattle.code_counters.specs.Same.{same_of}
use Rattle.code_counters.specs.laws.Counters.{counters-same}
use Rattle.door.specs.Door.{ready_of}
use Rattle.refusal.specs.declared.Refusal.{Refusal}
use Rattle.door.specs.laws.Ending.{Zeros, tables-kept, tables-cleared, read-clears, asked-clears}
use Rattle.door.specs.laws.Numbers.{term-number}
use Rattle.door.specs.laws.Door.{Open, open-goes, not-open}
use Rattle.door_terms.specs.Terms.{IsPair}
use Rattle.door_terms.specs.laws.Forms.{left-form, right-form}
use Rattle.run_code.specs.Decoding.{form_at}
use Rattle.call_counters.specs.Counters.{counted_of, tells-counted, width_of, inner}
use Rattle.call_counters.specs.laws.Widths.{modulus-bits}

-- what both texts stand for
abbrev pub verdict : List ℕ → ℕ → Tree → Tree → Reply Bool
verdict row w f g = gives (multiples_of (2 ^ bits w) (norm_ℤ (diff (term_of row f) (term_of row g))))

-- both are read
pub pair-counted : {row s t d : List ℕ} {k m : ℕ} (w : ℕ) (r : is_row row ≡ true) → IsPair row s t k m d
    → Ok (same_of (bits w) (form_at (length row) 0 (take k (take (k + m) d))) (form_at (length row) 0 (drop k (take (k + m) d))))
    ≡ counted_of (counters_of row w s t)
pair-counted {row} {s} {t} w r Q =
    let f = term_of row Q.f in
    let g = term_of row Q.g in
    let e = ap₂ (same_of (bits w)) (left-form r Q) (right-form r Q)
    ∙ counters-same (length row) (bits w) f g (accepted-within row s Q.f Q.left-accepted)
    (accepted-within row t Q.g Q.right-accepted)
    ∙ ap (λ m. multiples_of m (norm_ℤ (diff f g))) (modulus-bits w) in
    let z = ap (λ (x : Reading Tree). read_as Left x (λ u. read_as Right (accept_term row t) (verdict row w u))) Q.left-accepted
    ∙ ap (λ (x : Reading Tree). read_as Right x (verdict row w Q.f)) Q.right-accepted in
    ap Ok e ∙ ap counted_of (sym z)

-- the width is looked at first
width-granted : (w : ℕ) {b : ℕ} → width_of w ≡ Ok b → (b ≡ bits w) × (is_width w ≡ true)
width-granted w {b} = go (is_width w) refl
  where
    go : (x : Bool) → is_width w ≡ x → width_of w ≡ Ok b → (b ≡ bits w) × (is_width w ≡ true)
    go true e h =
        let k : Ok (bits w) ≡ Ok b = sym (rw e refl) ∙ h in
        let same : bits w ≡ b = cc in
        (sym same, e)
    go false e h =
        let k : Err (of_neither 14) ≡ Ok b = sym (rw e refl) ∙ h in
        absurd (let z : ◌≡◌ {A = ℕ} 0 1 = cc in omega arith)

pub pair-inner : {row s t d : List ℕ} {k m b : ℕ} (w : ℕ) (r : is_row row ≡ true) → width_of w ≡ Ok b → IsPair row s t k m d
    → Ok (same_of b (form_at (length row) 0 (take k (take (k + m) d))) (form_at (length row) 0 (drop k (take (k + m) d))))
    ≡ counted_of (inner row w s t)
pair-inner {row} {s} {t} {d} {k} {m} w r h Q =
    let g = width-granted w h in
    ap (λ x. Ok (same_of x (form_at (length row) 0 (take k (take (k + m) d))) (form_at (length row) 0 (drop k (take (k + m) d))))) g.0
    ∙ pair-counted w r Q ∙ ap (λ z. counted_of (asked z 14 (λ v. counters_of row w s t))) (sym g.1)

-- ---- the door
module _ (row ts : List ℕ) (w : ℕ) (s t : List ℕ) where
  pub counters-inner : Open row ts → counters_reply row ts w s t ≡ inner row w s t
  unfolding counters_reply
  counters-inner o = open-goes row ts (λ u. inner row w s t) o

  pub counters-not-open : {bad : Refusal} → ready_of row ts ≡ Err bad → counters_reply row ts w s t ≡ refuses bad
  unfolding counters_reply
  counters-not-open h = not-open row ts (λ u. inner row w s t) h

  pub counters-clears : untouched (counters_of row w s t) ≡ false
  counters-clears =
      read-clears Left (accept_term row s) (λ f. read_as Right (accept_term row t) (verdict row w f)) (term-number row s)
      (λ f. read-clears Right (accept_term row t) (verdict row w f) (term-number row t) (λ g. refl))

  pub inner-clears : untouched (inner row w s t) ≡ false
  inner-clears = asked-clears (is_width w) 14 (λ v. counters_of row w s t) (omega arith) counters-clears

-- ---- the answer and the tables
pub refused-whole :
    (x : Reply Bool) {bad : Refusal} (a b c d : List ℕ) → bad.number ≤ 2 → x ≡ refuses bad →
    Counts x (Err bad) (work a b c d) (work a b c d)
refused-whole x a b c d l k = record { answer = sym k; tables = tables-kept x (work a b c d) k l }

pub answered-whole :
    (x y : Reply Bool) {r : Counted} (a b c d : List ℕ) {a' b' c' d' : List ℕ} → x ≡ y → untouched y ≡ false → r ≡ counted_of y
    → Zeros a b c d a' b' c' d' → Counts x r (work a b c d) (work a' b' c' d')
answered-whole x y a b c d h u i z =
    record { answer = ap told i ∙ tells-counted y ∙ sym h; tables = tables-cleared x a b c d (ap untouched h ∙ u) z }
