-- The tables at the end of a call: as they were where 1 or 2 is refused, else cleared.
use Rattle.std.specs.Prelude.{Bool, true, false, cond, List, ◌≡◌, refl, ℕ, ◌≤◌, ◌<◌, leb, length, replicate}
use Rattle.std.proofs.Common.{sym, ap, ◌∙◌, arith, le-leb}
use Rattle.std.proofs.lemmas.Bool.{lt-leb}
use Rattle.refusal.specs.declared.Fault.{Fault}
use Rattle.refusal.specs.declared.Refusal.{Refusal}
use Rattle.refusal.specs.declared.Side.{Side}
use Rattle.text.specs.definitions.Bytes.{Reading, read, refused}
use Rattle.reply.specs.definitions.Reply.{Reply, gives, refuses, asked, read_as, fitted, Work, work, zeros, cleared, untouched, work_after}

pub tables-kept : {A : Type 0} (x : Reply A) {bad : Refusal} (w : Work) → x ≡ refuses bad → bad.number ≤ 2 → w ≡ work_after x w
tables-kept x {bad} w h l = sym (ap (λ b. cond b w (cleared w)) (ap untouched h ∙ le-leb bad.number 2 l))

-- the four tables are zeros
pub record Zeros (a b c d a' b' c' d' : List ℕ) : Type 0 where
  pub first : a' ≡ zeros a
  pub second : b' ≡ zeros b
  pub third : c' ≡ zeros c
  pub fourth : d' ≡ zeros d

pub tables-cleared : {A : Type 0} (x : Reply A) (a b c d : List ℕ) {a' b' c' d' : List ℕ} → untouched x ≡ false → Zeros a b c d a' b' c' d'
    → work a' b' c' d' ≡ work_after x (work a b c d)
tables-cleared x a b c d h z =
    (λ i. work (z.first i) (z.second i) (z.third i) (z.fourth i)) ∙ sym (ap (λ e. cond e (work a b c d) (cleared (work a b c d))) h)

-- ---- which replies clear the tables
pub read-clears :
    {A B : Type 0} (s : Side) (y : Reading A) (k : A → Reply B) → ((bad : Fault) → y ≡ refused bad → 2 < bad.number) →
    ((a : A) → untouched (k a) ≡ false) → untouched (read_as s y k) ≡ false
read-clears s (read a) k h f = f a
read-clears s (refused bad) k h f = lt-leb bad.number 2 (h bad refl)

pub asked-clears :
    {A : Type 0} (b : Bool) (e : ℕ) (r : Unit {0} → Reply A) → 2 < e → untouched (r tt) ≡ false → untouched (asked b e r) ≡ false
asked-clears true e r l h = h
asked-clears false e r l h = lt-leb e 2 l

pub fitted-clears : (n : ℕ) (w : List ℕ) → untouched (fitted n w) ≡ false
fitted-clears n w = asked-clears (leb (length w) n) 11 (λ u. gives w) (omega arith) refl

-- cleared after work that kept their lengths
pub zeros_of : {a b c d a' b' c' d' : List ℕ} {k l m n : ℕ} → k ≡ length a → l ≡ length b → m ≡ length c → n ≡ length d
    → (a' ≡ replicate k 0) × ((b' ≡ replicate l 0) × ((c' ≡ replicate m 0) × (d' ≡ replicate n 0))) → Zeros a b c d a' b' c' d'
zeros_of i j k l z = record {
  first = z.0 ∙ ap (λ n. replicate n 0) i;
  second = z.1.0 ∙ ap (λ n. replicate n 0) j;
  third = z.1.1.0 ∙ ap (λ n. replicate n 0) k;
  fourth = z.1.1.1 ∙ ap (λ n. replicate n 0) l;
}
