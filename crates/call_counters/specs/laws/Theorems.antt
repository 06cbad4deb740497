-- What stands besides: theorems of this crate that no other proof leans on.
use Rattle.std.specs.Prelude.{Result, Err, Bool, true, false, List, ◌≡◌, refl, ℕ}
use Rattle.std.proofs.Common.{sym, ◌∙◌}
use Rattle.std.proofs.Math.Path.{ap}
use Rattle.refusal.specs.Refusal.{of_neither}
use Rattle.reply.specs.definitions.Calls.{is_width, bits, counters_of, counters_reply, Counts}
use Rattle.reply.specs.definitions.Reply.{Reply, refuses, asked, work}
use Rattle.refusal.specs.declared.Refusal.{Refusal}
use Rattle.door.specs.laws.Ending.{Zeros}
use Rattle.door.specs.laws.Door.{Open}
use Rattle.door_terms.specs.Terms.{PairRead}
use Rattle.door_terms.specs.declared.Sizes.{Sizes}
use Rattle.door_terms.specs.laws.Terms.{pair-refused}
use Rattle.call_counters.specs.Counters.{counted_of}
use Rattle.call_counters.specs.laws.Whole.{verdict, counters-inner, answered-whole}
use Rattle.std.specs.Prelude.{eqb}
use Rattle.std.proofs.Common.{eq-eqb, ne_eqb}

-- one text is refused
pub text-refused :
    {row s t l : List ℕ} {q : Result Sizes Refusal} {bad : Refusal} (w : ℕ) → q ≡ Err bad → PairRead row s t q l →
    Err bad ≡ counted_of (counters_of row w s t)
text-refused {row} w h R = ap counted_of (sym (pair-refused (verdict row w) h R))

module _ (row ts : List ℕ) (w : ℕ) (s t : List ℕ) where
  pub counters-open : Open row ts → is_width w ≡ true → counters_reply row ts w s t ≡ counters_of row w s t
  counters-open o h = counters-inner row ts w s t o ∙ ap (λ b. asked b 14 (λ v. counters_of row w s t)) h

  pub counters-width : Open row ts → is_width w ≡ false → counters_reply row ts w s t ≡ refuses (of_neither 14)
  counters-width o h = counters-inner row ts w s t o ∙ ap (λ b. asked b 14 (λ v. counters_of row w s t)) h

-- 14 is refused, and the tables are cleared
pub width-whole : (x : Reply Bool) (a b c d : List ℕ) {a' b' c' d' : List ℕ} → x ≡ refuses (of_neither 14) → Zeros a b c d a' b' c' d'
    → Counts x (Err (of_neither 14)) (work a b c d) (work a' b' c' d')
width-whole x a b c d h z = answered-whole x (refuses (of_neither 14)) a b c d h refl refl z

pub width-0 : (w : ℕ) → w ≡ 0 → true ≡ is_width w
width-0 w h = sym (rw (eq-eqb w 0 h) refl)

pub width-8 : (w : ℕ) → (w ≡ 0 → ⊥) → w ≡ 8 → true ≡ is_width w
width-8 w n h = sym (rw (ne_eqb w 0 n, eq-eqb w 8 h) refl)

pub width-16 : (w : ℕ) → (w ≡ 0 → ⊥) → (w ≡ 8 → ⊥) → eqb w 16 ≡ is_width w
width-16 w n m = sym (rw (ne_eqb w 0 n, ne_eqb w 8 m) refl)

pub bits-8 : (w : ℕ) → w ≡ 8 → 8 ≡ bits w
bits-8 w h = sym (rw (eq-eqb w 8 h, bits) refl)

pub bits-16 : (w : ℕ) → (w ≡ 8 → ⊥) → 16 ≡ bits w
bits-16 w n = sym (rw (ne_eqb w 8 n, bits) refl)
