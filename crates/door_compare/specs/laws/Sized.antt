-- A first point has a number for each variable.
use Rattle.std.specs.Prelude.{Bool, true, false, List, ◌≡◌, refl, ℕ, length}
use Rattle.std.proofs.Common.{true≢false, sym, ◌∙◌}
use Rattle.refusal.specs.declared.Side.TheVariants.{Left, Right}
use Rattle.refusal.specs.declared.Refusal.{Refusal}
use Rattle.horner.specs.laws.Within.{Within}
use Rattle.horner.specs.definitions.Term.{Term, norm_ℤ}
use Rattle.horner.proofs.laws.Answer.{point-is}
use Rattle.text.specs.definitions.Bytes.{Reading, read, refused, same}
use Rattle.text.specs.definitions.FormReading.{text}
use Rattle.text.specs.definitions.Limits.{accept_term}
use Rattle.text.specs.definitions.Tree.{Tree, term_of}
use Rattle.text_laws.specs.laws.Rows.{accepted-within}
use Rattle.reply.specs.definitions.Calls.{Verdict, equal, different, verdict_of, compare_of}
use Rattle.reply.specs.definitions.Reply.{Reply, gives, refuses, read_as}
use Rattle.door_compare.specs.laws.Verdict.{bytes_same, not-zero}

pub data Sized (n : ℕ) : Reply Verdict → Type 0 where
  alike : Sized n (gives equal)
  apart : {N : List ℕ} {l r : ℕ} → length N ≡ n → Sized n (gives (different N l r))
  refusal : {bad : Refusal} → Sized n (refuses bad)

verdict-sized : (n : ℕ) (f g : Term) → Within n f → Within n g → Sized n (gives (verdict_of n f g))
verdict-sized n f g F G = go (same (text (norm_ℤ f)) (text (norm_ℤ g))) refl
  where
    go : (b : Bool) → same (text (norm_ℤ f)) (text (norm_ℤ g)) ≡ b → Sized n (gives (verdict_of n f g))
    go true e = rw (e, verdict_of) alike
    go false e = rw (e, verdict_of) (apart (point-is n f g F G (not-zero n f g F G (λ h. differ (bytes_same n f g F G h)))).long)
      where
        differ : same (text (norm_ℤ f)) (text (norm_ℤ g)) ≡ true → ⊥
        differ h = true≢false (sym h ∙ e)

pub compare-sized : (row s t : List ℕ) → Sized (length row) (compare_of row s t)
compare-sized row s t = first (accept_term row s) refl
  where
    second : (f : Tree) → Within (length row) (term_of row f) → (x : Reading Tree) → accept_term row t ≡ x →
        Sized (length row) (read_as Right x (λ g. gives (verdict_of (length row) (term_of row f) (term_of row g))))
    second f F (read g) e = verdict-sized (length row) (term_of row f) (term_of row g) F (accepted-within row t g e)
    second f F (refused bad) h = refusal

    first : (x : Reading Tree) → accept_term row s ≡ x →
        Sized (length row)
        (read_as Left x (λ f. read_as Right (accept_term row t) (λ g. gives (verdict_of (length row) (term_of row f) (term_of row g)))))
    first (read f) e = second f (accepted-within row s f e) (accept_term row t) refl
    first (refused bad) h = refusal
