-- What the test of the row and the tables tells.
use Rattle.std.specs.Prelude.{Result, Ok, Err, Bool, true, false, ◌&&◌, List, [], ◌∷◌, ◌≡◌, refl, ℕ, ◌≤◌, ◌<◌, leb}
use Rattle.std.proofs.Common.{sym, ap, ◌∙◌, arith, le-leb, leb-true}
use Rattle.std.proofs.lemmas.Bool.{lt-leb}
use Rattle.refusal.specs.Refusal.{of_neither}
use Rattle.text.specs.definitions.Bytes.{is_row}
use Rattle.refusal.specs.declared.Refusal.{Refusal}
use Rattle.reply.specs.definitions.Reply.{Reply, refuses, enough, opened}
use Rattle.text_laws.specs.laws.Bytes.{and_l, and_r}
use Rattle.code.specs.Lengths.{table, Full}
use Rattle.door.specs.Door.{ready_of}

-- ---- the test
short-second : (a : Bool) → (a && false) ≡ false
short-second true = refl
short-second false = refl

pub not-row : (row ts : List ℕ) → is_row row ≡ false → Err (of_neither 1) ≡ ready_of row ts
not-row row ts h = rw h refl

pub tables-short : (row : List ℕ) (ts : List ℕ) → is_row row ≡ true → enough ts ≡ false → Err (of_neither 2) ≡ ready_of row ts
tables-short row ts h k = rw (h, k) refl

pub all-ready : (row : List ℕ) (ts : List ℕ) → is_row row ≡ true → enough ts ≡ true → Ok tt ≡ ready_of row ts
all-ready row ts h k = rw (h, k) refl

no-grant : {P : Type 0} {bad : Refusal} → ◌≡◌ {A = Result (Unit {0}) Refusal} (Ok tt) (Err bad) → P
no-grant h = absurd (let z : ◌≡◌ {A = ℕ} 0 1 = cc in omega arith)

-- where it is ready, the call goes on; else it replies the refusal
pub record Open (row ts : List ℕ) : Type 0 where
  pub proper : is_row row ≡ true
  pub long : enough ts ≡ true

pub ready-open : (row ts : List ℕ) → ready_of row ts ≡ Ok tt → Open row ts
ready-open row ts = go (is_row row) (enough ts) refl refl
  where
    go : (a b : Bool) → is_row row ≡ a → enough ts ≡ b → ready_of row ts ≡ Ok tt → Open row ts
    go true true h k e = record { proper = h; long = k }
    go true false h k e = no-grant (sym (tables-short row ts h k ∙ e))
    go false b h k e = no-grant (sym (not-row row ts h ∙ e))

pub open-goes : {A : Type 0} (row ts : List ℕ) (r : Unit {0} → Reply A) → Open row ts → opened row ts r ≡ r tt
open-goes row ts r o = rw o.proper (rw o.long refl)

pub not-open :
    {A : Type 0} (row ts : List ℕ) (r : Unit {0} → Reply A) {bad : Refusal} → ready_of row ts ≡ Err bad → opened row ts r ≡ refuses bad
not-open row ts r {bad} = go (is_row row) (enough ts) refl refl
  where
    go : (a b : Bool) → is_row row ≡ a → enough ts ≡ b → ready_of row ts ≡ Err bad → opened row ts r ≡ refuses bad
    go true true h k e = no-grant (all-ready row ts h k ∙ e)
    go true false h k e =
        let short : Err (of_neither 2) ≡ Err bad = tables-short row ts h k ∙ e in
        let same : of_neither 2 ≡ bad = cc in
        rw h (rw k (ap refuses same))
    go false b h k e =
        let low : Err (of_neither 1) ≡ Err bad = not-row row ts h ∙ e in
        let same : of_neither 1 ≡ bad = cc in
        rw h (ap refuses same)

-- it is 1 or 2: "1 and 2 touch nothing"
pub ready-small : (row ts : List ℕ) {bad : Refusal} → ready_of row ts ≡ Err bad → bad.number ≤ 2
ready-small row ts {bad} = go (is_row row) (enough ts) refl refl
  where
    number : {e : ℕ} → ◌≡◌ {A = Result (Unit {0}) Refusal} (Err (of_neither e)) (Err bad) → e ≤ 2 → bad.number ≤ 2
    number {e} h l = let same : of_neither e ≡ bad = cc in omega (arith, ap (λ (r : Refusal). r.number) same)

    go : (a b : Bool) → is_row row ≡ a → enough ts ≡ b → ready_of row ts ≡ Err bad → bad.number ≤ 2
    go true true h k e = no-grant (all-ready row ts h k ∙ e)
    go true false h k e = number (tables-short row ts h k ∙ e) (omega arith)
    go false b h k e = number (not-row row ts h ∙ e) (omega arith)

-- four lengths
module _ (a b c d : ℕ) where
  pub enough-four : table ≤ a → table ≤ b → table ≤ c → table ≤ d → enough (a ∷ b ∷ c ∷ d ∷ []) ≡ true
  enough-four i j k l = rw (le-leb table a i, le-leb table b j, le-leb table c k, le-leb table d l) refl

  pub first_short : a < table → enough (a ∷ b ∷ c ∷ d ∷ []) ≡ false
  first_short h = rw (lt-leb table a h) refl

  pub second_short : b < table → enough (a ∷ b ∷ c ∷ d ∷ []) ≡ false
  second_short h = rw (lt-leb table b h) (short-second (leb table a))

  pub third-short : c < table → enough (a ∷ b ∷ c ∷ d ∷ []) ≡ false
  third-short h = rw (lt-leb table c h) (drop-two (leb table a) (leb table b))
    where
      drop-two : (x y : Bool) → (x && (y && false)) ≡ false
      drop-two true y = short-second y
      drop-two false y = refl

  pub fourth-short : d < table → enough (a ∷ b ∷ c ∷ d ∷ []) ≡ false
  fourth-short h = rw (lt-leb table d h) (drop-three (leb table a) (leb table b) (leb table c))
    where
      drop-three : (x y z : Bool) → (x && (y && (z && false))) ≡ false
      drop-three true true z = short-second z
      drop-three true false z = refl
      drop-three false y z = refl

  pub four-full : enough (a ∷ b ∷ c ∷ d ∷ []) ≡ true → Full a b c d
  four-full h =
      let i = and_r (leb table a) (enough (b ∷ c ∷ d ∷ [])) h in
      let j = and_r (leb table b) (enough (c ∷ d ∷ [])) i in
      let k = and_r (leb table c) (enough (d ∷ [])) j in
      record {
        first = leb-true table a (and_l (leb table a) (enough (b ∷ c ∷ d ∷ [])) h);
        second = leb-true table b (and_l (leb table b) (enough (c ∷ d ∷ [])) i);
        third = leb-true table c (and_l (leb table c) (enough (d ∷ [])) j);
        fourth = leb-true table d (and_l (leb table d) (enough []) k);
      }
