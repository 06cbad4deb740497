-- What stands besides: theorems of this crate that no other proof leans on.
use Rattle.std.specs.Prelude.{Ok, Err, List, ◌++◌, ◌≡◌, refl, ℕ, ◌≤◌, ◌<◌, length, drop}
use Rattle.std.proofs.Common.{sym, ap, ◌∙◌, arith, le-leb}
use Rattle.std.proofs.lemmas.Bool.{lt-leb}
use Rattle.refusal.specs.Refusal.{of_neither}
use Rattle.reply.specs.definitions.Reply.{gives, refuses, fitted, result_after}
use Rattle.form_write.specs.Write.{Wrote}
use Rattle.door_result.specs.Result.{written_of}

pub too_short : (n : ℕ) (w : List ℕ) → n < length w → fitted n w ≡ refuses (of_neither 11)
too_short n w h = rw (lt-leb (length w) n h) refl

pub long-enough : (n : ℕ) (w : List ℕ) → length w ≤ n → fitted n w ≡ gives w
long-enough n w h = rw (le-leb (length w) n h) refl

pub answered-short :
    (n : ℕ) (w b : List ℕ) → n < length w → (Err (of_neither 11) ≡ written_of (fitted n w)) × (b ≡ result_after (fitted n w) b)
answered-short n w b h = (ap written_of (sym (too_short n w h)), ap (λ r. result_after r b) (sym (too_short n w h)))

pub answered :
    {r : ℕ} {w old new : List ℕ} → Wrote r w old new →
    (Ok r ≡ written_of (fitted (length old) w)) × (new ≡ result_after (fitted (length old) w) old)
answered {r} {w} {old} k =
    let e = long-enough (length old) w (omega (arith, k.size, k.fits)) in (
      ap Ok k.size ∙ ap written_of (sym e),
      k.is ∙ ap (λ n. w ++ drop n old) k.size ∙ ap (λ x. result_after x old) (sym e),
    )
