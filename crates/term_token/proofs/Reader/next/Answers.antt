-- `term_token::Reader::next` meets its contract: each answer is what stands at the first place that has no blank.
use Rattle.std.proofs.Common.{refl, List, length, sym, ap, subst, ℕ, ◌+◌, ◌≤◌, ◌<◌}
use Rattle.std.proofs.Math.Path.{◌≡◌, ◌∙◌}
use Rattle.std.specs.Prelude.{drop}
use Rattle.std.proofs.Math.ListN.{get_or}
use Rattle.text.specs.definitions.Bytes.{blank, in_word}
use Rattle.term_token.specs.declared.Step.TheVariants.{Open, Close, Word, End}
use Rattle.term_token.specs.Steps.{lead, step_of}
use Rattle.term_token.specs.Views.{from, begin, width, says-end, says-open, says-close, says-word, step-open, step-close, step-word}
use Rattle.term_token.specs.Views.{step_end}
use Rattle.term_token.proofs.Reader.next.Goals as goal

-- b is where the code found no blank any more
module _ (s : List ℕ) (at b : ℕ) (found : b ≡ begin s at) (l : at ≤ length s) where
  at-end : length s ≤ b → End ≡ step_of (from s at)
  at-end = subst (λ z. length s ≤ z → End ≡ step_of (from s at)) (sym found) (λ h. sym (step_end s at (says-end s at l h)))

  at_open : b < length s → get_or s b 0 ≡ 40 → Open b (record { at = b + 1 }) ≡ step_of (from s at)
  at_open =
      subst (λ z. z < length s → get_or s z 0 ≡ 40 → Open z (record { at = z + 1 }) ≡ step_of (from s at)) (sym found)
      (λ h e. sym (step-open s at (begin s at) (record { at = begin s at + 1 }) (says-open s at l h e) refl))

  at-close : b < length s → get_or s b 0 ≡ 41 → Close b (record { at = b + 1 }) ≡ step_of (from s at)
  at-close =
      subst (λ z. z < length s → get_or s z 0 ≡ 41 → Close z (record { at = z + 1 }) ≡ step_of (from s at)) (sym found)
      (λ h e. sym (step-close s at (begin s at) (record { at = begin s at + 1 }) (says-close s at l h e) refl))

  at-word : (e : ℕ) → e ≡ b + lead in_word (drop b s) → b < length s → (get_or s b 0 ≡ 40 → ⊥) → (get_or s b 0 ≡ 41 → ⊥)
      → Word b (record { at = e }) ≡ step_of (from s at)
  at-word =
      subst (λ z. (e : ℕ) → e ≡ z + lead in_word (drop z s) → z < length s → (get_or s z 0 ≡ 40 → ⊥) → (get_or s z 0 ≡ 41 → ⊥) → Word z
      (record { at = e }) ≡ step_of (from s at))
      (sym found)
      (λ e f h n m. ap (λ q. Word (begin s at) (record { at = q })) f
      ∙ sym (step-word s at (begin s at) (record { at = begin s at + width s at l }) (says-word s at l h n m)))

pub returns-in-None : goal.returns-in-None
returns-in-None c =
    at-end c.args.s.now _ _ (c.run_end-from.ensures.value blank (λ x r p. p)) c.requires c.in-None.ensures.lookup.3

pub returns-in-Some-eq40 : goal.returns-in-Some-eq40
returns-in-Some-eq40 c =
    let here = c.in-Some-eq40.ensures.lookup.3 in
    at_open c.args.s.now _ _ (c.run_end-from.ensures.value blank (λ x r p. p)) c.requires here.0
    (sym (here.1 0) ∙ c.in-Some-eq40.field-0-test)

pub returns-in-Some-eq41 : goal.returns-in-Some-eq41
returns-in-Some-eq41 c =
    let here = c.in-Some-eq41.ensures.lookup.3 in
    at-close c.args.s.now _ _ (c.run_end-from.ensures.value blank (λ x r p. p)) c.requires here.0
    (sym (here.1 0) ∙ c.in-Some-eq41.field-0-test)

pub returns-in-Some : goal.returns-in-Some
returns-in-Some c =
    let here = c.in-Some.ensures.lookup.3 in
    at-word c.args.s.now _ _ (c.run_end-from.ensures.value blank (λ x r p. p)) c.requires _
    (c.run_end.ensures.value in_word (λ x r p. p)) here.0
    (λ e. c.in-Some.field-0-test.0.1 (here.1 0 ∙ e)) (λ e. c.in-Some.field-0-test.1 (here.1 0 ∙ e))
