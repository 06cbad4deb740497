-- A program that keeps the kinds alone refuses as the reading of a form does: the other states, and a whole text.
use Rattle.std.specs.Prelude.{Bool, true, false, ◌||◌, cond, List, [], ◌∷◌, ◌++◌, ◌≡◌, refl, ℕ, zero, suc, eqb, leb, ltb, ℤ, length}
use Rattle.std.proofs.Common.{true≢false, sym, ap, ap₂, ◌∙◌, eqb-true}
use Rattle.std.proofs.Math.Option.{Option, none, some}
use Rattle.std.proofs.lemmas.List.{length-map}
use Rattle.horner.specs.definitions.Form.{Form}
use Rattle.text.specs.definitions.Bytes.{Reading, refused_at, fine, bytes, same, digit, canonical, read_nat, read_int, is_some, value_from}
use Rattle.text.specs.program.FormKinds.{Stand, start, sign, zero_int, digits, open0, open_p, open_po, open_pop, open_pow, zero-i, digits-i}
use Rattle.text.specs.program.FormKinds.{Wait, number_stand, head_stand, index_stand, stand_of, wait_of, Move, moved, pushed, move, is_whole}
use Rattle.text.specs.program.FormKinds.{case_move, check as checkStand, ended, walk, verdict, syntax}
use Rattle.text.specs.definitions.FormReading.{Frame, Kind, pop_kind, pow_kind, Spot, before, number, head, index, behind, Next, on, off}
use Rattle.text.specs.definitions.FormReading.{head_begun, indexed, step, case_next, int_form, whole_form, whole_or, check, run, read_form}
use Rattle.text_laws.specs.laws.Bytes.{and_l, either, same-eq}
use Rattle.text_laws.specs.laws.FormKinds.{waits, move_of, follow-move, Natural, is-zero, is_leading, natural, Begun, is-sign}
use Rattle.text_laws.specs.laws.FormKinds.{is-natural, is_negative, begun, number_step, before-step, leading-some, leading-stand}
use Rattle.text_laws.specs.laws.FormSofar.{SpotOk, StackOk, Held, held-step}
use Rattle.text_laws.specs.laws.Numerals.{Leading, leading-more, leading-canonical}
use Rattle.text_laws.specs.laws.Prefixes.{canonical-digits, all_back, begun-leading}

-- ---- behind `(`
abbrev Moves : Spot → List Frame → ℕ → Type 0
Moves s fs b = move_of (step s fs b) ≡ move (stand_of s) (waits fs) b

-- one byte is asked for
one_byte :
    (w : List ℕ) (x : ℕ) (fs : List Frame) (b : ℕ) → (x ≡ b → Moves (head w) fs b) → (eqb b x ≡ false → Moves (head w) fs b) →
    Moves (head w) fs b
one_byte w x fs b f g = go (eqb b x) refl
  where
    go : (c : Bool) → eqb b x ≡ c → Moves (head w) fs b
    go true k = f (sym (eqb-true b x k))
    go false k = g k

head-0 : (fs : List Frame) (b : ℕ) → Moves (head []) fs b
head-0 fs b = one_byte [] 80 fs b (λ e. rw (sym e) refl) (λ k. rw k refl)

head-P : (fs : List Frame) (b : ℕ) → Moves (head (bytes "P")) fs b
head-P fs b = one_byte (bytes "P") 79 fs b (λ e. rw (sym e) refl) (λ k. rw k refl)

head-PO : (fs : List Frame) (b : ℕ) → Moves (head (bytes "PO")) fs b
head-PO fs b =
    one_byte (bytes "PO") 80 fs b (λ e. rw (sym e) refl) (λ k. one_byte (bytes "PO") 87 fs b (λ e. rw (sym e) refl) (λ j. rw (k, j) refl))

head-POP : (fs : List Frame) (b : ℕ) → Moves (head (bytes "POP")) fs b
head-POP fs b = one_byte (bytes "POP") 32 fs b (λ e. rw (sym e) refl) (λ k. rw k refl)

head-POW : (fs : List Frame) (b : ℕ) → Moves (head (bytes "POW")) fs b
head-POW fs b = one_byte (bytes "POW") 32 fs b (λ e. rw (sym e) refl) (λ k. rw k refl)

head_step : (w : List ℕ) (fs : List Frame) (b : ℕ) → head_begun w ≡ true → Moves (head w) fs b
head_step w fs b h =
    either (same w (bytes "P") || same w (bytes "PO") || same w (bytes "POP")) (same w (bytes "POW")) (Moves (head w) fs b) h
    (λ g. either (same w (bytes "P") || same w (bytes "PO")) (same w (bytes "POP")) (Moves (head w) fs b) g
    (λ k. either (same w (bytes "P")) (same w (bytes "PO")) (Moves (head w) fs b) k
    (λ i. at (bytes "P") (same-eq w (bytes "P") i) (head-P fs b))
    λ i. at (bytes "PO") (same-eq w (bytes "PO") i) (head-PO fs b))
    λ i. at (bytes "POP") (same-eq w (bytes "POP") i) (head-POP fs b))
    λ i. at (bytes "POW") (same-eq w (bytes "POW") i) (head-POW fs b)
  where
    at : (v : List ℕ) → w ≡ v → Moves (head v) fs b → Moves (head w) fs b
    at v e m = ap (λ (z : List ℕ). move_of (step (head z) fs b)) e ∙ m ∙ ap (λ (z : List ℕ). move (head_stand z) (waits fs) b) (sym e)

-- ---- behind `(POP ` and `(POW `
indexed-move : (k : Kind) (i : ℕ) (fs : List Frame) → move_of (indexed k (some i) fs) ≡ moved start (pushed k (waits fs))
indexed-move pop_kind i fs = refl
indexed-move pow_kind i fs = refl

index-empty : (k : Kind) (fs : List Frame) (b : ℕ) → Moves (index k []) fs b
unfolding read_nat
index-empty k fs b = go₁ (eqb b 32) refl
  where
    go₃ : (d : Bool) → digit b ≡ d → eqb b 32 ≡ false → eqb b 48 ≡ false → Moves (index k []) fs b
    go₃ true d s z = rw (s, step) (rw (z, canonical) (rw d (rw z refl)))
    go₃ false d s z = rw (s, step) (rw (z, canonical) (rw d refl))

    go₂ : (z : Bool) → eqb b 48 ≡ z → eqb b 32 ≡ false → Moves (index k []) fs b
    go₂ true z s = rw (eqb-true b 48 z) refl
    go₂ false z s = go₃ (digit b) refl s z

    go₁ : (s : Bool) → eqb b 32 ≡ s → Moves (index k []) fs b
    go₁ true s = rw (eqb-true b 32 s) refl
    go₁ false s = go₂ (eqb b 48) refl s

index-zero : (k : Kind) (fs : List Frame) (b : ℕ) → Moves (index k (48 ∷ [])) fs b
unfolding read_nat
index-zero k fs b = go (eqb b 32) refl
  where
    go : (s : Bool) → eqb b 32 ≡ s → Moves (index k (48 ∷ [])) fs b
    go true s = rw (s, step) (indexed-move k 0 fs)
    go false s = rw (s, step) refl

leading-index : (k : Kind) (w : List ℕ) → Leading w → index_stand k w ≡ digits-i k
leading-index k [] l = absurd l
leading-index k (x ∷ []) l = rw l.0
leading-index k (x ∷ y ∷ w) l = refl

longer-index : (k : Kind) (w : List ℕ) (b : ℕ) → Leading w → index_stand k (w ++ (b ∷ [])) ≡ digits-i k
longer-index k [] b l = absurd l
longer-index k (x ∷ []) b l = refl
longer-index k (x ∷ y ∷ w) b l = refl

not-canonical : (w : List ℕ) (b : ℕ) → digit b ≡ false → canonical (w ++ (b ∷ [])) ≡ false
not-canonical w b d = go (canonical (w ++ (b ∷ []))) refl
  where
    go : (c : Bool) → canonical (w ++ (b ∷ [])) ≡ c → canonical (w ++ (b ∷ [])) ≡ false
    go true c = absurd (true≢false (sym (and_l (digit b) true (all_back digit w (b ∷ []) (canonical-digits (w ++ (b ∷ [])) c))) ∙ d))
    go false c = c

index-leading : (k : Kind) (w : List ℕ) (fs : List Frame) (b : ℕ) → Leading w → Moves (index k w) fs b
unfolding read_nat
index-leading k w fs b l = go (eqb b 32) refl (digit b) refl ∙ ap (λ (z : Stand). move z (waits fs) b) (sym (leading-index k w l))
  where
    go : (s : Bool) → eqb b 32 ≡ s → (d : Bool) → digit b ≡ d → move_of (step (index k w) fs b) ≡ move (digits-i k) (waits fs) b
    go true s d e = rw (s, step) (rw (leading-canonical w l) (indexed-move k (value_from 0 w) fs))
    go false s true e =
        rw (s, step) (rw (e, leading-canonical (w ++ (b ∷ [])) (leading-more w b l e))
        (ap (λ (z : Stand). moved z (waits fs)) (longer-index k w b l)))
    go false s false e = rw (s, step) (rw (e, not-canonical w b e) refl)

index-step : (k : Kind) (w : List ℕ) (fs : List Frame) (b : ℕ) → Natural w → Moves (index k w) fs b
index-step k w fs b (is-zero e) = rw e (index-zero k fs b)
index-step k w fs b (is_leading l) = index-leading k w fs b l

-- ---- every state
step-moves : (room : ℕ → Bool) (s : Spot) (d : ℕ) (fs : List Frame) (b : ℕ) → SpotOk room d s → Moves s fs b
step-moves room before d fs b a = before-step fs b
step-moves room (number w) d fs b a = number_step w fs b (begun w a)
step-moves room (head []) d fs b a = head-0 fs b
step-moves room (head (x ∷ w)) d fs b a = head_step (x ∷ w) fs b a.1
step-moves room (index k []) d fs b a = index-empty k fs b
step-moves room (index k (x ∷ w)) d fs b a = index-step k (x ∷ w) fs b (natural (x ∷ w) a.1)
step-moves room (behind f) d fs b a = follow-move f fs b

-- ---- a whole text
check-stand : (room : ℕ → Bool) (s : Spot) (d c : ℕ) (b : ℕ) → SpotOk room c s → check room s d b ≡ checkStand room (stand_of s) d b
check-stand room before d c b a = go (eqb b 40) refl
  where
    go : (o : Bool) → eqb b 40 ≡ o → check room before d b ≡ checkStand room start d b
    go true k = rw (k, check) refl
    go false k = rw (k, check) refl
check-stand room (number w) d c b a = sym (number-check w (begun w a))
  where
    leading-check : (w : List ℕ) → Leading w → checkStand room (number_stand w) d b ≡ 0
    leading-check w l = ap (λ (z : Stand). checkStand room z d b) (leading-stand w l)

    number-check : (w : List ℕ) → Begun w → checkStand room (number_stand w) d b ≡ 0
    number-check w (is-sign e) = rw e refl
    number-check w (is-natural (is-zero e)) = rw e refl
    number-check w (is-natural (is_leading l)) = leading-check w l
    number-check w (is_negative [] e l) = absurd l
    number-check w (is_negative (y ∷ v) e l) = rw e refl
check-stand room (head w) d c b a = sym (go (same w (bytes "P")) (same w (bytes "PO")) (same w (bytes "POP")) (same w (bytes "POW")))
  where
    go : (x y z u : Bool) → checkStand room (cond x open_p (cond y open_po (cond z open_pop (cond u open_pow open0)))) d b ≡ 0
    go true y z u = refl
    go false true z u = refl
    go false false true u = refl
    go false false false true = refl
    go false false false false = refl
check-stand room (index k []) d c b a = refl
check-stand room (index k (x ∷ [])) d c b a = sym (go (eqb x 48))
  where
    go : (z : Bool) → checkStand room (cond z (zero-i k) (digits-i k)) d b ≡ 0
    go true = refl
    go false = refl
check-stand room (index k (x ∷ y ∷ w)) d c b a = refl
check-stand room (behind f) d c b a = refl

some-form : (r : Option ℤ) → is_some (int_form r) ≡ is_some r
some-form none = refl
some-form (some z) = refl

number-whole : (w : List ℕ) → Begun w → is_some (read_int w) ≡ is_whole (number_stand w) []
unfolding read_int read_nat
number-whole w (is-sign e) = rw e refl
number-whole w (is-natural (is-zero e)) = rw e refl
number-whole w (is-natural (is_leading l)) = leading-some w l ∙ sym (ap (λ (z : Stand). is_whole z []) (leading-stand w l))
number-whole w (is_negative [] e l) = absurd l
number-whole w (is_negative (y ∷ v) e l) = rw e (begun-leading (y ∷ v) l)

not-whole : (w : List ℕ) (f : Wait) (ws : List Wait) → is_whole (number_stand w) (f ∷ ws) ≡ false
not-whole [] f ws = refl
not-whole (x ∷ []) f ws = go (eqb x 45) (eqb x 48)
  where
    go : (a b : Bool) → is_whole (cond a sign (cond b zero_int digits)) (f ∷ ws) ≡ false
    go true b = refl
    go false true = refl
    go false false = refl
not-whole (x ∷ y ∷ w) f ws = refl

whole-stand :
    (room : ℕ → Bool) (s : Spot) (d : ℕ) (fs : List Frame) → SpotOk room d s → is_some (whole_form s fs) ≡ is_whole (stand_of s) (waits fs)
whole-stand room before d fs a = refl
whole-stand room (number w) d [] a = some-form (read_int w) ∙ number-whole w (begun w a)
whole-stand room (number w) d (f ∷ fs) a = sym (not-whole w (wait_of f) (waits fs))
whole-stand room (head w) d fs a = sym (go (same w (bytes "P")) (same w (bytes "PO")) (same w (bytes "POP")) (same w (bytes "POW")))
  where
    go : (x y z u : Bool) → is_whole (cond x open_p (cond y open_po (cond z open_pop (cond u open_pow open0)))) (waits fs) ≡ false
    go true y z u = refl
    go false true z u = refl
    go false false true u = refl
    go false false false true = refl
    go false false false false = refl
whole-stand room (index k []) d fs a = refl
whole-stand room (index k (x ∷ [])) d fs a = sym (go (eqb x 48))
  where
    go : (z : Bool) → is_whole (cond z (zero-i k) (digits-i k)) (waits fs) ≡ false
    go true = refl
    go false = refl
whole-stand room (index k (x ∷ y ∷ w)) d fs a = refl
whole-stand room (behind f) d [] a = refl
whole-stand room (behind f) d (g ∷ fs) a = refl

module _ (room : ℕ → Bool) where
  whole-verdict : (r : Option (Form ℤ)) (p : ℕ) → verdict (whole_or p r) ≡ ended room (is_some r) p
  whole-verdict none p = refl
  whole-verdict (some f) p = refl

  fine-verdict :
      (c p : ℕ) (r : Unit {0} → Reading (Form ℤ)) (r' : Unit {0} → Reading (Unit {0})) → (c ≡ 0 → verdict (r tt) ≡ r' tt) →
      verdict (fine c p r) ≡ fine c p r'
  fine-verdict zero p r r' e = e refl
  fine-verdict (suc c) p r r' e = refl

  next-verdict : (x : Next) (c p b : ℕ) (bs cs : List ℕ) → (c ≡ 0 → Held room x cs)
      → ((s : Spot) (fs : List Frame) → SpotOk room (length fs) s → StackOk room fs → verdict (run room (suc p) s fs bs) ≡ walk room
      (suc p) (stand_of s) (waits fs) bs)
      → verdict (case_next x (refused_at 4 p) (λ s' fs'. fine c p (λ u. run room (suc p) s' fs' bs))) ≡ case_move (move_of x)
      (refused_at 4 p) (λ s' ws'. fine c p (λ u. walk room (suc p) s' ws' bs))
  next-verdict off c p b bs cs h ih = refl
  next-verdict (on s fs) c p b bs cs h ih =
      fine-verdict c p (λ u. run room (suc p) s fs bs) (λ u. walk room (suc p) (stand_of s) (waits fs) bs)
      (λ e. let g = h e in ih s fs g.1.0 g.1.1)

  pub walk-verdict :
      (bs : List ℕ) (p : ℕ) (s : Spot) (fs : List Frame) → SpotOk room (length fs) s → StackOk room fs →
      verdict (run room p s fs bs) ≡ walk room p (stand_of s) (waits fs) bs
  walk-verdict [] p s fs a h = whole-verdict (whole_form s fs) p ∙ ap (λ (b : Bool). ended room b p) (whole-stand room s (length fs) fs a)
  walk-verdict (b ∷ bs) p s fs a h =
      next-verdict (step s fs b) (check room s (length fs) b) p b bs _ (held-step room s fs b a h) (walk-verdict bs (suc p))
      ∙ ap₂ (λ (x : Move) (c : ℕ). case_move x (refused_at 4 p) (λ s' ws'. fine c p (λ u. walk room (suc p) s' ws' bs)))
      (step-moves room s (length fs) fs b a)
      (check-stand room s (length fs) (length fs) b a ∙ ap (λ (d : ℕ). checkStand room (stand_of s) d b) (sym (length-map fs wait_of)))

pub syntax-verdict : (s : List ℕ) → verdict (read_form s) ≡ syntax s
unfolding read_form syntax
syntax-verdict s = go (leb (length s) 65535) refl
  where
    go : (b : Bool) → leb (length s) 65535 ≡ b → verdict (read_form s) ≡ syntax s
    go true k = rw (k, read_form) (rw (k, syntax) (walk-verdict (λ d. ltb d 256) s 0 before [] tt tt))
    go false k = rw (k, read_form) (rw (k, syntax) refl)
