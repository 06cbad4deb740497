-- The refusals of texts have numbers above 2, so that the tables are cleared after them.
use Rattle.std.specs.Prelude.{Bool, true, false, List, ◌≡◌, refl, ℕ, suc, ◌<◌, ℤ}
use Rattle.std.proofs.Common.{sym, ap, ◌∙◌, arith}
use Rattle.horner.specs.definitions.Form.{Form}
use Rattle.dialect.specs.Dialects.{ordinary}
use Rattle.refusal.specs.declared.Fault.{Fault}
use Rattle.text.specs.definitions.Bytes.{Reading, refused}
use Rattle.text.specs.definitions.FormReading.{accept_form}
use Rattle.text.specs.definitions.FormMeaning as F
use Rattle.text.specs.definitions.Limits.{accept_term, over_limit, powers_fit, weight_fits, terms_fit}
use Rattle.text.specs.definitions.Meaning.{RefusedAs, too_long, no-term-so, ended, unknown-letter, too-deep, TermRefused, no-term}
use Rattle.text.specs.definitions.Meaning.{over-limit}
use Rattle.text.specs.definitions.Tree.{Tree}
use Rattle.text_laws.specs.laws.Bytes.{no-refusal}
use Rattle.text_laws.specs.laws.FormAccepted as A
use Rattle.text_laws.specs.laws.FormRefused as FR
use Rattle.text_laws.specs.laws.Ordinary.{refuses}

same_number : {X : Type 0} {bad worse : Fault} → ◌≡◌ {A = Reading X} (refused bad) (refused worse) → bad.number ≡ worse.number
same_number {bad = bad} {worse} h = let same : bad ≡ worse = cc in ap (λ (f : Fault). f.number) same

-- ---- terms
syntax-number : {row s : List ℕ} {c p e : ℕ} → RefusedAs ordinary row s c p e → 2 < c
syntax-number (too_long i j k l) = omega arith
syntax-number (no-term-so i j k) = omega arith
syntax-number (ended i j k l m) = omega arith
syntax-number (unknown-letter i j k) = omega arith
syntax-number (too-deep i j k) = omega arith

over-number : (row : List ℕ) (t : Tree) → (over_limit row t ≡ 0 → ⊥) → 2 < over_limit row t
over-number row t = go (powers_fit row t) (weight_fits row t) (terms_fit row t) refl refl refl
  where
    go : (a b c : Bool) → powers_fit row t ≡ a → weight_fits row t ≡ b → terms_fit row t ≡ c → (over_limit row t ≡ 0 → ⊥) → 2 < over_limit row t
    go false b c h k l n = omega (arith, let i : over_limit row t ≡ 8 = rw (h, over_limit) refl in i)
    go true false c h k l n = omega (arith, let i : over_limit row t ≡ 9 = rw (h, over_limit) (rw k refl) in i)
    go true true false h k l n = omega (arith, let i : over_limit row t ≡ 10 = rw (h, over_limit) (rw (k, l) refl) in i)
    go true true true h k l n = absurd (n (rw (h, over_limit) (rw (k, l) refl)))

refusal-number : {row s : List ℕ} {c p e : ℕ} → TermRefused ordinary row s c p e → 2 < c
refusal-number (no-term w) = syntax-number w
refusal-number {row = row} (over-limit t i f) = omega (arith, over-number row f.node (λ z. f.over (sym f.number ∙ z)), f.number)

pub term-number : (row s : List ℕ) (bad : Fault) → accept_term row s ≡ refused bad → 2 < bad.number
term-number row s bad h = refusal-number ((refuses row s bad.number bad.place).0 h).why

-- ---- forms
form-syntax-number : {s : List ℕ} {e p : ℕ} → F.RefusedAs s e p → 2 < e
form-syntax-number (F.too_long i j k) = omega arith
form-syntax-number (F.no-form-so i j k) = omega arith
form-syntax-number (F.ended i j k l) = omega arith
form-syntax-number (F.too-deep i j k) = omega arith

measure-number : {m e : ℕ} {f : Form ℤ} → A.Measure m f (suc e) → 2 < suc e
measure-number (A.within i h) = absurd (omega arith)
measure-number (A.degree i h) = omega arith
measure-number (A.heavy i h k) = omega arith
measure-number (A.many i h k l) = omega arith

pub form-number : (m : ℕ) (s : List ℕ) (bad : Fault) → accept_form m s ≡ refused bad → 2 < bad.number
form-number m s bad h = go (A.outcome m s)
  where
    go : A.Outcome m s (accept_form m s) → 2 < bad.number
    go (A.not-text e' p' i j) = omega (arith, form-syntax-number (FR.why s e' p' i), same_number (sym j ∙ h))
    go (A.not-normal f p' t w j) = omega (arith, same_number (sym j ∙ h))
    go (A.too-big f e' t n k j) = omega (arith, measure-number k, same_number (sym j ∙ h))
    go (A.stands-as f i j) = no-refusal (sym h ∙ j)
