-- Terms put for letters, and terms all of whose subterms are within the limits.
use Rattle.std.specs.Prelude.{◌≡◌, refl, ℕ, ◌≤◌, ◌<◌, nat_abs}
use Rattle.std.proofs.Common.{ap, ap₂}
use Rattle.horner.specs.definitions.Measures.{AllLe, degrees_of, terms_of}
use Rattle.horner.specs.definitions.Term.{Term, num, var, minus, plus, diff, times, expt}

-- the term with τ i in the place of its i-th letter
abbrev pub put : (ℕ → Term) → Term → Term
put τ (num z) = num z
put τ (var i) = τ i
put τ (minus s) = minus (put τ s)
put τ (plus s t) = plus (put τ s) (put τ t)
put τ (diff s t) = diff (put τ s) (put τ t)
put τ (times s t) = times (put τ s) (put τ t)
put τ (expt s k) = expt (put τ s) k

-- each letter in its own place changes nothing
pub put_self : (t : Term) → put var t ≡ t
put_self (num z) = refl
put_self (var i) = refl
put_self (minus s) = ap minus (put_self s)
put_self (plus s t) = ap₂ plus (put_self s) (put_self t)
put_self (diff s t) = ap₂ diff (put_self s) (put_self t)
put_self (times s t) = ap₂ times (put_self s) (put_self t)
put_self (expt s k) = ap (λ z. expt z k) (put_self s)

-- within the limits of degree and terms, over a row of n
pub record Sized (n : ℕ) (t : Term) : Type 0 where
  pub degrees : AllLe 63 (degrees_of n t)
  pub terms : terms_of n t ≤ 256

-- every subterm is
abbrev pub AllSized : ℕ → Term → Type 0
AllSized n (num z) = nat_abs z ≤ 1073741823
AllSized n (var i) = i < n
AllSized n (minus s) = AllSized n s
AllSized n (plus s t) = Sized n (plus s t) × (AllSized n s × AllSized n t)
AllSized n (diff s t) = Sized n (diff s t) × (AllSized n s × AllSized n t)
AllSized n (times s t) = Sized n (times s t) × (AllSized n s × AllSized n t)
AllSized n (expt s k) = Sized n (expt s k) × ((k ≤ 63) × AllSized n s)
