-- Digits, and integers without a sign.
use Rattle.std.specs.Prelude.{Result, Ok, Err, ◌≡◌, refl, ◌⊎◌, Bool, true, false, cond, not, ◌&&◌, List, [], ◌∷◌, ℕ, zero, suc, ◌+◌, ◌-◌, ◌≤◌, ◌<◌, eqb, length, get_or, drop}
use Rattle.std.proofs.Common.{sym, ap, ap₂, subst, ◌∙◌, inl, inr, arith, eq-eqb, ne_eqb}
use Rattle.refusal.specs.Refusal.{fault}
use Rattle.horner.proofs.laws.Compare.{lt-or-ge}
use Rattle.refusal.specs.declared.Fault.{Fault}
use Rattle.text.specs.definitions.Bytes.{digit}
use Rattle.text.specs.definitions.FormReading.{Kind}
use Rattle.text.specs.program.FormKinds.{start, sign, zero_int, digits, open0, before-i, zero-i, digits-i, done, Wait, moved, stuck}
use Rattle.text.specs.program.FormKinds.{pushed, leave, first, move, is_whole, check}
use Rattle.text_laws.specs.laws.Bytes.{digit-range, not-both}
use Rattle.form_head.specs.Heads.{digits as leading}
use Rattle.form_head.specs.laws.Digits.{digits-on, digits-off, digits-stop}
use Rattle.form_syntax.specs.Found.{room, from, is_at, DigitsAt, NaturalAt, IntAt}
use Rattle.form_syntax.specs.laws.Steps.{at-inside, at_byte, is_byte, within-from, step, stops, ends, step-at, alike, alike_end}

digit-no-space : (x : ℕ) → digit x ≡ true → eqb x 32 ≡ false
digit-no-space x d = let r = digit-range x d in ne_eqb x 32 (λ e. omega arith)

-- ---- a run of digits
-- all bytes from a place up to i are digits
pub record Running (s : List ℕ) (at i : ℕ) : Type 0 where
  pub more : at ≤ i
  pub inside : i ≤ length s
  pub number : (ws : List Wait) → from s at digits ws ≡ from s i digits ws
  pub index : (k : Kind) (ws : List Wait) → from s at (digits-i k) ws ≡ from s i (digits-i k) ws

pub running-start : (s : List ℕ) (at : ℕ) → at ≤ length s → Running s at at
running-start s at h = record { more = omega arith; inside = h; number = λ ws. refl; index = λ k ws. refl }

module _ (s : List ℕ) (at i : ℕ) (r : Running s at i) where
  pub running-on : i < length s → digit (get_or s i 0) ≡ true → Running s at (i + 1)
  running-on h d = record {
    more = omega (arith, r.more);
    inside = omega arith;
    number = λ ws. r.number ws ∙ step s i digits ws h (ap (λ (b : Bool). cond b (moved digits ws) (leave ws (get_or s i 0))) d) refl;
    index = λ k ws. r.index k ws ∙ step s i (digits-i k) ws h (goes k ws) refl;
  }
    where
      goes : (k : Kind) (ws : List Wait) → move (digits-i k) ws (get_or s i 0) ≡ moved (digits-i k) ws
      goes k ws =
          ap (λ (b : Bool). cond b (moved start (pushed k ws)) (cond (digit (get_or s i 0)) (moved (digits-i k) ws) stuck))
          (digit-no-space (get_or s i 0) d)
          ∙ ap (λ (b : Bool). cond b (moved (digits-i k) ws) stuck) d

  pub running-off : i < length s → digit (get_or s i 0) ≡ false → DigitsAt s at i
  running-off h d = record {
    more = r.more;
    inside = r.inside;
    number = λ ws. r.number ws ∙ alike s i digits done ws h (ap (λ (b : Bool). cond b (moved digits ws) (leave ws (get_or s i 0))) d) refl;
    index =
        λ k ws. r.index k ws
        ∙ alike s i (digits-i k) (zero-i k) ws h
        (ap (λ (b : Bool). cond (eqb (get_or s i 0) 32) (moved start (pushed k ws)) (cond b (moved (digits-i k) ws) stuck)) d) refl;
  }

  pub running-end : length s ≤ i → DigitsAt s at i
  running-end h = record {
    more = r.more;
    inside = r.inside;
    number = λ ws. r.number ws ∙ alike_end s i digits done ws h (whole ws);
    index = λ k ws. r.index k ws ∙ alike_end s i (digits-i k) (zero-i k) ws h refl;
  }
    where
      whole : (ws : List Wait) → is_whole digits ws ≡ is_whole done ws
      whole [] = refl
      whole (w ∷ ws) = refl

-- the digits that stand at a place
pub digits-found : (s : List ℕ) (at : ℕ) → at ≤ length s → DigitsAt s at (at + length (leading (drop at s)))
digits-found s at h = go (length s - at) at (running-start s at h) refl
  where
    go : (n i : ℕ) → Running s at i → length s - i ≡ n → DigitsAt s at (i + length (leading (drop i s)))
    go zero i r e = subst (DigitsAt s at) (sym (digits-stop s i (omega arith))) (running-end s at i r (omega arith))
    go (suc n) i r e = by (digit (get_or s i 0)) refl (go n (i + 1))
      where
        inside : i < length s
        inside = omega arith

        by :
            (b : Bool) → digit (get_or s i 0) ≡ b →
            (Running s at (i + 1) → length s - (i + 1) ≡ n → DigitsAt s at (i + 1 + length (leading (drop (i + 1) s)))) →
            DigitsAt s at (i + length (leading (drop i s)))
        by true d f = subst (DigitsAt s at) (sym (digits-on s i inside d)) (f (running-on s at i r inside d) (omega arith))
        by false d f = subst (DigitsAt s at) (sym (digits-off s i inside d)) (running-off s at i r inside d)

-- ---- an integer without a sign
whole-zero : (ws : List Wait) → is_whole zero_int ws ≡ is_whole done ws
whole-zero [] = refl
whole-zero (w ∷ ws) = refl

zero-done : (s : List ℕ) (p : ℕ) (ws : List Wait) → from s p zero_int ws ≡ from s p done ws
zero-done s p ws = by (lt-or-ge p (length s))
  where
    by : (p < length s) ⊎ (length s ≤ p) → from s p zero_int ws ≡ from s p done ws
    by (inl h) = alike s p zero_int done ws h refl refl
    by (inr h) = alike_end s p zero_int done ws h (whole-zero ws)

-- the first byte, where it is neither `(` nor `-`
start_move :
    (x : ℕ) (ws : List Wait) → eqb x 40 ≡ false → eqb x 45 ≡ false →
    move start ws x ≡ cond (eqb x 48) (moved zero_int ws) (cond (digit x) (moved digits ws) stuck)
start_move x ws o m =
    ap (λ (b : Bool). cond b (moved open0 ws) (first ws x)) o
    ∙ ap (λ (b : Bool). cond b (moved sign ws) (cond (eqb x 48) (moved zero_int ws) (cond (digit x) (moved digits ws) stuck))) m

start-check : (x d : ℕ) → eqb x 40 ≡ false → check room start d x ≡ 0
start-check x d o = ap (λ (b : Bool). cond b (cond (room d) 0 6) 0) o

sign-move : (x : ℕ) (ws : List Wait) (d : Bool) → eqb x 48 ≡ false → digit x ≡ d → move sign ws x ≡ cond d (moved digits ws) stuck
sign-move x ws true z e = ap₂ (λ (a b : Bool). cond (a && not b) (moved digits ws) stuck) e z
sign-move x ws false z e = ap₂ (λ (a b : Bool). cond (a && not b) (moved digits ws) stuck) e z

module _ (s : List ℕ) (at : ℕ) where
  pub natural-end : length s ≤ at → NaturalAt s at (Err (fault 4 at))
  natural-end h = record {
    within = tt;
    index = λ k ws. record { leads = ends s at (before-i k) ws h refl };
    number = λ o m ws. record { leads = ends s at start ws h refl };
    signed = λ z ws. record { leads = ends s at sign ws h refl };
  }

  pub natural-zero : at < length s → get_or s at 0 ≡ 48 → NaturalAt s at (Ok (at + 1))
  natural-zero h e = record {
    within = (omega arith, omega arith);
    index = λ k ws. record { leads = step s at (before-i k) ws h (ap (move (before-i k) ws) e) refl };
    number =
        λ o m ws. record
        { leads = step s at start ws h (ap (move start ws) e) (ap (check room start (length ws)) e) ∙ zero-done s (at + 1) ws };
    signed = λ z ws. absurd (not-both (is_byte s at 48 h ∙ eq-eqb (get_or s at 0) 48 e) z);
  }

  module _ (h : at < length s) (n : get_or s at 0 ≡ 48 → ⊥) where
    none-48 : eqb (get_or s at 0) 48 ≡ false
    none-48 = ne_eqb (get_or s at 0) 48 n

    none : (x : ℕ) → is_at s at x ≡ false → eqb (get_or s at 0) x ≡ false
    none x f = sym (is_byte s at x h) ∙ f

    -- the first byte is a digit, or none
    index_goes :
        (k : Kind) (ws : List Wait) {d : Bool} → digit (get_or s at 0) ≡ d →
        move (before-i k) ws (get_or s at 0) ≡ cond d (moved (digits-i k) ws) stuck
    index_goes k ws e = ap₂ (λ (x y : Bool). cond x (moved (zero-i k) ws) (cond y (moved (digits-i k) ws) stuck)) none-48 e

    start-goes :
        is_at s at 40 ≡ false → is_at s at 45 ≡ false → (ws : List Wait) {d : Bool} → digit (get_or s at 0) ≡ d →
        move start ws (get_or s at 0) ≡ cond d (moved digits ws) stuck
    start-goes o m ws e =
        start_move (get_or s at 0) ws (none 40 o) (none 45 m)
        ∙ ap₂ (λ (x y : Bool). cond x (moved zero_int ws) (cond y (moved digits ws) stuck)) none-48 e

    pub natural-none : digit (get_or s at 0) ≡ false → NaturalAt s at (Err (fault 4 at))
    natural-none d = record {
      within = tt;
      index = λ k ws. record { leads = stops s at (before-i k) ws h (index_goes k ws d) };
      number = λ o m ws. record { leads = stops s at start ws h (start-goes o m ws d) };
      signed = λ z ws. record { leads = stops s at sign ws h (sign-move (get_or s at 0) ws false none-48 d) };
    }

    pub natural-more : (e : ℕ) → digit (get_or s at 0) ≡ true → DigitsAt s (at + 1) e → NaturalAt s at (Ok e)
    natural-more e d r = record {
      within = (omega (arith, r.more), r.inside);
      index = λ k ws. record { leads = step s at (before-i k) ws h (index_goes k ws d) refl ∙ r.index k ws };
      number =
          λ o m ws. record
          { leads = step s at start ws h (start-goes o m ws d) (start-check (get_or s at 0) (length ws) (none 40 o)) ∙ r.number ws };
      signed = λ z ws. record { leads = step s at sign ws h (sign-move (get_or s at 0) ws true none-48 d) refl ∙ r.number ws };
    }

-- ---- an integer
module _ (s : List ℕ) (at : ℕ) where
  module _ (h : is_at s at 45 ≡ true) where
    minus : (ws : List Wait) → from s at start ws ≡ from s (at + 1) sign ws
    minus ws = step-at s at start ws 45 h refl refl

    pub int-zero : is_at s (at + 1) 48 ≡ true → IntAt s at (Err (fault 4 (at + 1)))
    int-zero z = record {
      within = tt;
      takes =
          λ ws. record
          { leads = minus ws ∙ stops s (at + 1) sign ws (at-inside s (at + 1) 48 z) (ap (move sign ws) (at_byte s (at + 1) 48 z)) };
    }

    pub int-signed : (r : Result ℕ Fault) → is_at s (at + 1) 48 ≡ false → NaturalAt s (at + 1) r → IntAt s at r
    int-signed r z n = record {
      within = within-from s at (at + 1) r (omega arith) n.within;
      takes = λ ws. record { leads = minus ws ∙ (n.signed z ws).leads };
    }
