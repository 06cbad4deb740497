-- Tests on bytes and texts, as facts; and what two refusals have in common.
use Rattle.std.specs.Prelude.{Bool, true, false, ◌&&◌, ◌||◌, List, [], ◌∷◌, ◌++◌, ◌≡◌, refl, ℕ, ◌≤◌, eqb, leb}
use Rattle.std.proofs.Common.{true≢false, sym, ap, ap₂, ◌∙◌, arith, eqb-true, leb-true, eq-eqb, le-leb}
use Rattle.horner.specs.definitions.Measures.{AllLe}
use Rattle.refusal.specs.Refusal.{fault}
use Rattle.refusal.specs.declared.Fault.{Fault}
use Rattle.text.specs.definitions.Bytes.{same, all, digit, Reading, read, refused_at}

-- ---- Booleans
pub not-both : {b : Bool} → b ≡ true → b ≡ false → ⊥
not-both e f = true≢false (sym e ∙ f)

pub and_l : (a b : Bool) → (a && b) ≡ true → a ≡ true
and_l true b e = refl
and_l false b e = e

pub and_r : (a b : Bool) → (a && b) ≡ true → b ≡ true
and_r true b e = e
and_r false b e = absurd (true≢false (sym e))

pub and_i : {a b : Bool} → a ≡ true → b ≡ true → (a && b) ≡ true
and_i {a} {b} e f = rw (e, f)

pub either : (a b : Bool) (P : Type 0) → (a || b) ≡ true → (a ≡ true → P) → (b ≡ true → P) → P
either true b P e f g = f refl
either false b P e f g = g e

-- ---- texts
pub same-eq : (v w : List ℕ) → same v w ≡ true → v ≡ w
same-eq [] [] e = refl
same-eq [] (y ∷ w) e = absurd (true≢false (sym e))
same-eq (x ∷ v) [] e = absurd (true≢false (sym e))
same-eq (x ∷ v) (y ∷ w) e = ap₂ ◌∷◌ (eqb-true x y (and_l (eqb x y) (same v w) e)) (same-eq v w (and_r (eqb x y) (same v w) e))

pub same_refl : (v : List ℕ) → same v v ≡ true
same_refl [] = refl
same_refl (x ∷ v) = and_i (eq-eqb x x refl) (same_refl v)

-- ---- digits
pub digit-range : (x : ℕ) → digit x ≡ true → (48 ≤ x) × (x ≤ 57)
digit-range x e = (leb-true 48 x (and_l (leb 48 x) (leb x 57) e), leb-true x 57 (and_r (leb 48 x) (leb x 57) e))

pub range-digit : (x : ℕ) → 48 ≤ x → x ≤ 57 → digit x ≡ true
range-digit x h k = and_i (le-leb 48 x h) (le-leb x 57 k)

pub all_append : (p : ℕ → Bool) (v w : List ℕ) → all p v ≡ true → all p w ≡ true → all p (v ++ w) ≡ true
all_append p [] w e f = f
all_append p (x ∷ v) w e f = and_i (and_l (p x) (all p v) e) (all_append p v w (and_r (p x) (all p v) e) f)

-- ---- degrees
pub all-le : (ds : List ℕ) → all (λ d. leb d 63) ds ≡ true → AllLe 63 ds
all-le [] e = tt
all-le (d ∷ ds) e = (leb-true d 63 (and_l (leb d 63) (all (λ d. leb d 63) ds) e), all-le ds (and_r (leb d 63) (all (λ d. leb d 63) ds) e))

pub le-all : (ds : List ℕ) → AllLe 63 ds → all (λ d. leb d 63) ds ≡ true
le-all [] h = refl
le-all (d ∷ ds) h = and_i (le-leb d 63 h.0) (le-all ds h.1)

-- ---- answers
pub no-refusal : {A : Type 0} {e p : ℕ} {a : A} {P : Type 0} → refused_at e p ≡ read a → P
no-refusal h = let z : ◌≡◌ {A = ℕ} 0 1 = cc in absurd (omega arith)

pub refusal-parts : {A : Type 0} (e p e' p' : ℕ) → ◌≡◌ {A = Reading A} (refused_at e p) (refused_at e' p') → (e' ≡ e) × (p' ≡ p)
refusal-parts e p e' p' h =
    let same : fault e' p' ≡ fault e p = cc in
    (ap (λ (f : Fault). f.number) same, ap (λ (f : Fault). f.place) same)
