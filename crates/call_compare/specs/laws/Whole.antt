-- The whole call: refused at the door, one text refused, or answered; and the buffers.
use Rattle.std.specs.Prelude.{Err, false, List, ◌≡◌, refl, ℕ, ◌≤◌, ◌<◌, leb, length}
use Rattle.std.proofs.Common.{sym, ◌∙◌, le-leb}
use Rattle.std.proofs.Math.Path.{ap}
use Rattle.std.proofs.lemmas.Bool.{lt-leb}
use Rattle.refusal.specs.Refusal.{of_neither}
use Rattle.refusal.specs.declared.Side.TheVariants.{Left, Right}
use Rattle.text.specs.definitions.Limits.{accept_term}
use Rattle.text.specs.definitions.Tree.{term_of}
use Rattle.reply.specs.definitions.Calls.{Compared, Verdict, verdict_of, compare_of, compare_reply, point_after, remainders, told_compared, Compares}
use Rattle.reply.specs.definitions.Reply.{Reply, gives, refuses, said, asked, read_as, work, untouched}
use Rattle.door.specs.Door.{ready_of}
use Rattle.refusal.specs.declared.Refusal.{Refusal}
use Rattle.door.specs.laws.Ending.{Zeros, tables-kept, tables-cleared, read-clears}
use Rattle.door.specs.laws.Numbers.{term-number}
use Rattle.door.specs.laws.Door.{Open, open-goes, not-open}
use Rattle.door_compare.specs.Compare.{compared_of, tells-compared}

-- ---- the door
module _ (row ts : List ℕ) (k : ℕ) (s t : List ℕ) where
  pub compare-open : Open row ts → length row ≤ k → compare_reply row ts k s t ≡ compare_of row s t
  unfolding compare_reply
  compare-open o l =
      open-goes row ts (λ u. asked (leb (length row) k) 2 (λ v. compare_of row s t)) o
      ∙ ap (λ b. asked b 2 (λ v. compare_of row s t)) (le-leb (length row) k l)

  pub compare-not-open : {bad : Refusal} → ready_of row ts ≡ Err bad → compare_reply row ts k s t ≡ refuses bad
  unfolding compare_reply
  compare-not-open h = not-open row ts (λ u. asked (leb (length row) k) 2 (λ v. compare_of row s t)) h

  pub compare-short : Open row ts → k < length row → compare_reply row ts k s t ≡ refuses (of_neither 2)
  unfolding compare_reply
  compare-short o l =
      open-goes row ts (λ u. asked (leb (length row) k) 2 (λ v. compare_of row s t)) o
      ∙ ap (λ b. asked b 2 (λ v. compare_of row s t)) (lt-leb (length row) k l)

pub compare-clears : (row s t : List ℕ) → untouched (compare_of row s t) ≡ false
compare-clears row s t =
    read-clears Left (accept_term row s)
    (λ f. read_as Right (accept_term row t) (λ g. gives (verdict_of (length row) (term_of row f) (term_of row g)))) (term-number row s)
    (λ f. read-clears Right (accept_term row t) (λ g. gives (verdict_of (length row) (term_of row f) (term_of row g))) (term-number row t)
    (λ g. refl))

-- ---- the answer, the point buffer and the tables
pub refused-whole :
    (x : Reply Verdict) {bad : Refusal} (p a b c d : List ℕ) → bad.number ≤ 2 → x ≡ refuses bad →
    Compares x (Err bad) p p (work a b c d) (work a b c d)
refused-whole x p a b c d l k =
    record { answer = ap (said remainders) (sym k); point = ap (λ z. point_after z p) (sym k); tables = tables-kept x (work a b c d) k l }

pub answered-whole : (x y : Reply Verdict) {r : Compared} (p a b c d : List ℕ) {p' a' b' c' d' : List ℕ} → x ≡ y → untouched y ≡ false
    → (r ≡ compared_of y) × (p' ≡ point_after y p) → Zeros a b c d a' b' c' d' → Compares x r p p' (work a b c d) (work a' b' c' d')
answered-whole x y p a b c d h u i z =
    record {
      answer = ap told_compared i.0 ∙ tells-compared y ∙ ap (said remainders) (sym h);
      point = i.1 ∙ ap (λ k. point_after k p) (sym h);
      tables = tables-cleared x a b c d (ap untouched h ∙ u) z;
    }
