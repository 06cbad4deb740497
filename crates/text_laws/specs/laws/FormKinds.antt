-- A program that keeps the kinds alone refuses as the reading of a form does.
use Rattle.std.specs.Prelude.{Bool, true, false, ◌&&◌, cond, not, ◌≡◌, refl, ℕ, eqb, ℤ}
use Rattle.std.proofs.Common.{true≢false, sym, ap, ap₂, ◌∙◌, arith, eqb-true, ne_eqb}
use mathlib.Core.List.{List, [], ◌∷◌, ◌++◌, map, head-eq_of_cons-eq}
use Rattle.std.proofs.Math.Option.{Option, none, some}
use Rattle.std.proofs.lemmas.Bool.{eqb-false}
use Rattle.horner.specs.definitions.Form.{Form, int}
use Rattle.text.specs.definitions.Bytes.{bytes, same, digit, all, canonical, read_nat, read_int, is_some, below0, from0}
use Rattle.text.specs.program.FormKinds.{Stand, start, sign, zero_int, digits, Wait, number_stand, stand_of, wait_of, Move, moved, stuck}
use Rattle.text.specs.program.FormKinds.{leave, first, move}
use Rattle.text.specs.definitions.FormReading.{Frame, in_pop, in_pow, in_rest, before, number, Next, on, off, int_begun, follow, follow_int}
use Rattle.text.specs.definitions.FormReading.{step}
use Rattle.text_laws.specs.laws.Bytes.{and_l, and_r, and_i, either, same-eq, digit-range}
use Rattle.text_laws.specs.laws.Numerals.{Leading, leading-more, leading-canonical, read-unsigned}
use Rattle.text_laws.specs.laws.Prefixes.{begun-stop, begun-canonical, begun-leading}

abbrev pub waits : List Frame → List Wait
waits fs = map wait_of fs

abbrev pub move_of : Next → Move
move_of off = stuck
move_of (on s fs) = moved (stand_of s) (waits fs)

pub cond-move : (b : Bool) (x y : Next) (m n : Move) → move_of x ≡ m → move_of y ≡ n → move_of (cond b x y) ≡ cond b m n
cond-move true x y m n e f = e
cond-move false x y m n e f = f

pub follow-move : (f : Form ℤ) (fs : List Frame) (b : ℕ) → move_of (follow f fs b) ≡ leave (waits fs) b
follow-move f [] b = refl
follow-move f (in_pop i ∷ fs) b = cond-move (eqb b 41) _ _ _ _ refl refl
follow-move f (in_pow i ∷ fs) b = cond-move (eqb b 32) _ _ _ _ refl refl
follow-move f (in_rest i p ∷ fs) b = cond-move (eqb b 41) _ _ _ _ refl refl

-- ---- what stands of an integer
pub data Natural (w : List ℕ) : Type 0 where
  is-zero : w ≡ 48 ∷ [] → Natural w
  is_leading : Leading w → Natural w

pub natural : (w : List ℕ) → canonical w ≡ true → Natural w
natural [] c = absurd (true≢false (sym c))
natural (x ∷ w) c = go (eqb x 48) refl w c
  where
    go : (b : Bool) → eqb x 48 ≡ b → (w : List ℕ) → canonical (x ∷ w) ≡ true → Natural (x ∷ w)
    go true k [] c = is-zero (ap (λ (z : ℕ). z ∷ []) (eqb-true x 48 k))
    go true k (y ∷ w) c = absurd (true≢false (sym (rw (k, canonical) at c)))
    go false k w c =
        let d : (digit x && all digit w) ≡ true = rw (k, canonical) at c in
        is_leading (k, and_l (digit x) (all digit w) d, and_r (digit x) (all digit w) d)

pub data Begun (w : List ℕ) : Type 0 where
  is-sign : w ≡ 45 ∷ [] → Begun w
  is-natural : Natural w → Begun w
  is_negative : (v : List ℕ) → w ≡ 45 ∷ v → Leading v → Begun w

negative : (x : ℕ) (v : List ℕ) → x ≡ 45 → is_some (below0 (read_nat v)) ≡ true → Begun (x ∷ v)
unfolding read_nat
negative x v e h = go (canonical v) refl
  where
    leads : (n : Natural v) → is_some (below0 (read_nat v)) ≡ true → Begun (x ∷ v)
    leads (is-zero i) g = absurd (true≢false (sym (rw i at g)))
    leads (is_leading l) g = is_negative v (ap (λ (z : ℕ). z ∷ v) e) l

    go : (b : Bool) → canonical v ≡ b → Begun (x ∷ v)
    go true k = leads (natural v k) h
    go false k = absurd (true≢false (sym (rw k at h)))

unsigned : (x : ℕ) (v : List ℕ) → is_some (from0 (read_nat (x ∷ v))) ≡ true → Begun (x ∷ v)
unfolding read_nat
unsigned x v h = go (canonical (x ∷ v)) refl
  where
    go : (b : Bool) → canonical (x ∷ v) ≡ b → Begun (x ∷ v)
    go true k = is-natural (natural (x ∷ v) k)
    go false k = absurd (true≢false (sym (rw k at h)))

pub begun : (w : List ℕ) → int_begun w ≡ true → Begun w
unfolding read_int
begun [] h = absurd (true≢false (sym h))
begun (x ∷ v) h =
    either (same (x ∷ v) (bytes "-")) (is_some (read_int (x ∷ v))) (Begun (x ∷ v)) h (λ e. is-sign (same-eq (x ∷ v) (bytes "-") e))
    (λ e. go (eqb x 45) refl e)
  where
    go : (b : Bool) → eqb x 45 ≡ b → is_some (read_int (x ∷ v)) ≡ true → Begun (x ∷ v)
    go true k e = negative x v (eqb-true x 45 k) (rw (k, read_int) at e)
    go false k e = unsigned x v (rw (k, read_int) at e)

-- ---- one more byte
pub leading-stand : (w : List ℕ) → Leading w → number_stand w ≡ digits
leading-stand [] l = absurd l
leading-stand (x ∷ []) l = let r = digit-range x l.1 in rw (ne_eqb x 45 (omega arith), l.0)
leading-stand (x ∷ y ∷ w) l = refl

longer-stand : (x : ℕ) (w : List ℕ) (b : ℕ) → number_stand (x ∷ w ++ (b ∷ [])) ≡ digits
longer-stand x [] b = refl
longer-stand x (y ∷ w) b = refl

some-follow : (r : Option ℤ) (fs : List Frame) (b : ℕ) → is_some r ≡ true → move_of (follow_int r fs b) ≡ leave (waits fs) b
some-follow none fs b h = absurd (true≢false (sym h))
some-follow (some z) fs b h = follow-move (int z) fs b

-- the number goes on with a digit, and else ends
number-goes :
    (x : ℕ) (v : List ℕ) (fs : List Frame) (b : ℕ) → (digit b ≡ true → int_begun (x ∷ v ++ (b ∷ [])) ≡ true) →
    is_some (read_int (x ∷ v)) ≡ true
    → move_of (step (number (x ∷ v)) fs b) ≡ cond (digit b) (moved digits (waits fs)) (leave (waits fs) b)
number-goes x v fs b grows h = go (digit b) refl
  where
    go : (d : Bool) → digit b ≡ d → move_of (step (number (x ∷ v)) fs b) ≡ cond (digit b) (moved digits (waits fs)) (leave (waits fs) b)
    go true k = rw (grows k) (rw k (ap (λ (z : Stand). moved z (waits fs)) (longer-stand x v b)))
    go false k = rw (begun-stop x v b k) (rw k (some-follow (read_int (x ∷ v)) fs b h))

pub leading-some : (w : List ℕ) → Leading w → is_some (read_int w) ≡ true
unfolding read_nat
leading-some w l = let c = leading-canonical w l in rw (read-unsigned w c, c)

sign-more : (b : ℕ) → int_begun (45 ∷ b ∷ []) ≡ (digit b && not (eqb b 48))
unfolding read_int read_nat
sign-more b = go (digit b) refl (eqb b 48) refl
  where
    go : (d : Bool) → digit b ≡ d → (z : Bool) → eqb b 48 ≡ z → int_begun (45 ∷ b ∷ []) ≡ (digit b && not (eqb b 48))
    go false k z j = begun-stop 45 [] b k ∙ sym (ap (λ (x : Bool). x && not (eqb b 48)) k)
    go true k true j = rw (eqb-true b 48 j) refl
    go true k false j = begun-leading (b ∷ []) (j, k, refl) ∙ sym (ap₂ (λ (x y : Bool). x && not y) k j)

sign-step : (fs : List Frame) (b : ℕ) → move_of (step (number (45 ∷ [])) fs b) ≡ move sign (waits fs) b
unfolding read_int read_nat
sign-step fs b = rw (sign-more b) (cond-move (digit b && not (eqb b 48)) _ _ _ _ refl refl)

zero-step : (fs : List Frame) (b : ℕ) → move_of (step (number (48 ∷ [])) fs b) ≡ move zero_int (waits fs) b
unfolding read_int read_nat
zero-step fs b = follow-move _ fs b

leading_step : (w : List ℕ) (fs : List Frame) (b : ℕ) → Leading w → move_of (step (number w) fs b) ≡ move (number_stand w) (waits fs) b
leading_step [] fs b l = absurd l
leading_step (x ∷ v) fs b l =
    number-goes x v fs b (λ d. begun-canonical (x ∷ v ++ (b ∷ [])) (leading-canonical (x ∷ v ++ (b ∷ [])) (leading-more (x ∷ v) b l d)))
    (leading-some (x ∷ v) l)
    ∙ ap (λ (z : Stand). move z (waits fs) b) (sym (leading-stand (x ∷ v) l))

negative-step :
    (v : List ℕ) (fs : List Frame) (b : ℕ) → Leading v → move_of (step (number (45 ∷ v)) fs b) ≡ move (number_stand (45 ∷ v)) (waits fs) b
unfolding read_int
negative-step [] fs b l = absurd l
negative-step (y ∷ v) fs b l =
    number-goes 45 (y ∷ v) fs b (λ d. begun-leading (y ∷ v ++ (b ∷ [])) (leading-more (y ∷ v) b l d)) (begun-leading (y ∷ v) l)

pub number_step : (w : List ℕ) (fs : List Frame) (b : ℕ) → Begun w → move_of (step (number w) fs b) ≡ move (number_stand w) (waits fs) b
number_step w fs b (is-sign e) = rw e (sign-step fs b)
number_step w fs b (is-natural (is-zero e)) = rw e (zero-step fs b)
number_step w fs b (is-natural (is_leading l)) = leading_step w fs b l
number_step w fs b (is_negative v e l) = rw e (negative-step v fs b l)

-- ---- before a form
none-begun : (b : ℕ) → eqb b 45 ≡ false → eqb b 48 ≡ false → digit b ≡ false → int_begun (b ∷ []) ≡ false
none-begun b m z d = go (int_begun (b ∷ [])) refl
  where
    no : Begun (b ∷ []) → ⊥
    no (is-sign e) = eqb-false b 45 m (head-eq_of_cons-eq e)
    no (is-natural (is-zero e)) = eqb-false b 48 z (head-eq_of_cons-eq e)
    no (is-natural (is_leading l)) = true≢false (sym l.1 ∙ d)
    no (is_negative v e l) = eqb-false b 45 m (head-eq_of_cons-eq e)

    go : (c : Bool) → int_begun (b ∷ []) ≡ c → int_begun (b ∷ []) ≡ false
    go true k = absurd (no (begun (b ∷ []) k))
    go false k = k

first-move : (fs : List Frame) (b : ℕ) → move_of (cond (int_begun (b ∷ [])) (on (number (b ∷ [])) fs) off) ≡ first (waits fs) b
unfolding read_int read_nat
first-move fs b = go₁ (eqb b 45) refl
  where
    go₃ :
        (d : Bool) → digit b ≡ d → eqb b 45 ≡ false → eqb b 48 ≡ false →
        move_of (cond (int_begun (b ∷ [])) (on (number (b ∷ [])) fs) off) ≡ first (waits fs) b
    go₃ true d m z =
        let c : canonical (b ∷ []) ≡ true = rw (z, canonical) (and_i d refl) in
        rw (begun-canonical (b ∷ []) c) (rw (m, z, d) refl)
    go₃ false d m z = rw (none-begun b m z d) (rw (m, z, d) refl)

    go₂ :
        (z : Bool) → eqb b 48 ≡ z → eqb b 45 ≡ false →
        move_of (cond (int_begun (b ∷ [])) (on (number (b ∷ [])) fs) off) ≡ first (waits fs) b
    go₂ true z m = rw (eqb-true b 48 z) refl
    go₂ false z m = go₃ (digit b) refl m z

    go₁ : (m : Bool) → eqb b 45 ≡ m → move_of (cond (int_begun (b ∷ [])) (on (number (b ∷ [])) fs) off) ≡ first (waits fs) b
    go₁ true m = rw (eqb-true b 45 m) refl
    go₁ false m = go₂ (eqb b 48) refl m

pub before-step : (fs : List Frame) (b : ℕ) → move_of (step before fs b) ≡ move start (waits fs) b
before-step fs b = go (eqb b 40) refl
  where
    go : (o : Bool) → eqb b 40 ≡ o → move_of (step before fs b) ≡ move start (waits fs) b
    go true k = rw (k, step) refl
    go false k = rw (k, step) (first-move fs b)
