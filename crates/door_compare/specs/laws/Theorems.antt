-- What stands besides: theorems of this crate that no other proof leans on.
use Rattle.reply.specs.declared.Comparison.TheVariants.{Same}
use Rattle.std.specs.Prelude.{Result, Ok, Err, Bool, true, false, List, ◌≡◌, refl, ℕ, length, take, drop}
use Rattle.std.proofs.Common.{true≢false, sym, ap, ◌∙◌, subst}
use Rattle.refusal.specs.declared.Refusal.{Refusal}
use Rattle.run_code.specs.Decoding.{form_at}
use Rattle.text.specs.definitions.Bytes.{same}
use Rattle.text.specs.definitions.Tree.{term_of}
use Rattle.reply.specs.definitions.Reply.{gives}
use Rattle.reply.specs.definitions.Calls.{Compared, verdict_of, compare_of, point_after}
use Rattle.door_terms.specs.Terms.{PairRead}
use Rattle.door_terms.specs.declared.Sizes.{Sizes}
use Rattle.door_terms.specs.laws.Terms.{pair-refused}
use Rattle.door_compare.specs.Compare.{compared_of, Parted, Told}
use Rattle.door_compare.specs.laws.Pairs.{f, g, l}
use Rattle.std.specs.Prelude.{◌-◌}
use Rattle.code.specs.laws.Codes.{tail-part}
use Rattle.code_walk.specs.Shapes.{Decides}

-- one text is refused
pub text-refused : {row s t l : List ℕ} {q : Result Sizes Refusal} {bad : Refusal} (b : List ℕ) → q ≡ Err bad → PairRead row s t q l
    → (Err bad ≡ compared_of (compare_of row s t)) × (b ≡ point_after (compare_of row s t) b)
text-refused {row} b h R =
    let k = pair-refused (λ f g. gives (verdict_of (length row) (term_of row f) (term_of row g))) h R in
    (ap compared_of (sym k), ap (λ x. point_after x b) (sym k))

pub alike-told : {r : Bool} (k : ℕ) (l : List ℕ) → Decides r (take k l ≡ take (length l - k) (drop k l)) → Decides r (take k l ≡ drop k l)
alike-told {r} k l h = subst (λ z. Decides r (take k l ≡ z)) (tail-part k l) h

module _ (n k e : ℕ) (d : List ℕ) {b : Bool} (t : Decides b (take k (take e d) ≡ drop k (take e d))) where
  pub same-told : (p : List ℕ) → b ≡ true → Told n k e d (Ok Same) p p
  same-told p h = record { same = λ i. (refl, refl); parted = λ i. absurd (i (t.yes h)) }

  -- the words differ
  pub runs-differ : b ≡ false → take k (take e d) ≡ drop k (take e d) → ⊥
  runs-differ h i = true≢false (sym (t.no i) ∙ h)

  pub apart-told : {r : Compared} {p p' : List ℕ} → b ≡ false
      → Parted n (form_at n 0 (take k (take e d))) (form_at n 0 (drop k (take e d))) r p p' → Told n k e d r p p'
  apart-told h q = record { same = λ i. absurd (runs-differ h i); parted = λ i. q }
