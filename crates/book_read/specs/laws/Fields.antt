-- A field that is whole or cut, right or wrong.
use Rattle.std.specs.Prelude.{Bool, true, false, List, ◌≡◌, refl, ℕ, ◌+◌, ◌<◌, ◌≤◌, length}
use Rattle.std.proofs.Common.{ap, arith, le-leb}
use Rattle.std.proofs.lemmas.Bool.{lt-leb}
use Rattle.refusal.specs.declared.Fault.{Fault}
use Rattle.text.specs.definitions.Bytes.{Reading, read, refused, refused_at}
use Rattle.book.specs.definitions.Book.{must, whole}

pub no_read : {A : Type 0} {P : Type 0} {bad : Fault} {x : A} → ◌≡◌ {A = Reading A} (refused bad) (read x) → P
no_read h = let z : ◌≡◌ {A = ℕ} 0 1 = cc in absurd (omega arith)

module _ {A : Type 0} (r : Unit {0} → Reading A) where
  pub is-must : {b : Bool} (p : ℕ) → b ≡ true → must b p r ≡ r tt
  is-must p e = ap (λ b. must b p r) e

  pub is-wrong : {b : Bool} (p : ℕ) → b ≡ false → must b p r ≡ refused_at 13 p
  is-wrong p e = ap (λ b. must b p r) e

  pub is_whole : (book : List ℕ) (p k : ℕ) → p + k ≤ length book → whole book p k r ≡ r tt
  is_whole book p k h = is-must (length book) (le-leb (p + k) (length book) h)

  pub is_cut : (book : List ℕ) (p k : ℕ) → length book < p + k → whole book p k r ≡ refused_at 13 (length book)
  is_cut book p k h = is-wrong (length book) (lt-leb (p + k) (length book) h)

  -- where something was read behind a field, the field is right
  pub right-read : (b : Bool) (p : ℕ) {x : A} → must b p r ≡ read x → (b ≡ true) × (r tt ≡ read x)
  right-read true p e = (refl, e)
  right-read false p e = no_read e
