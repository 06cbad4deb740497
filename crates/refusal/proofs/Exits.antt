-- What `map_err` was given, from what it gave; and what leaves by `?`, where no error is turned into another.
use Rattle.std.specs.Prelude.{◌≡◌, Result, Ok, Err}
use Rattle.std.specs.Result.{MatchResult, IsErrAnd}
use Rattle.std.proofs.Common.{refl, sym, subst, ap, ◌∙◌}
use Rattle.std.proofs.lemmas.Result.{err_from_is_err_and}

pub mapped_ok :
    {T E D : Type 0} (x : Result T E) {y : Result T D} {v : T} (Q : E → D → Type 0) →
    MatchResult x (λ w. y ≡ Ok w) (λ e. IsErrAnd y (Q e)) → y ≡ Ok v → x ≡ Ok v
mapped_ok (Ok w) Q h q = cc
mapped_ok (Err e) Q h q = absurd (subst (λ z. IsErrAnd z (Q e)) q h)

pub mapped_err :
    {T E D : Type 0} (x : Result T E) {y : Result T D} {bad : D} (Q : E → D → Type 0) →
    MatchResult x (λ w. y ≡ Ok w) (λ e. IsErrAnd y (Q e)) → y ≡ Err bad → (e : E) × (x ≡ Err e) × Q e bad
mapped_err (Ok w) Q h q = absurd (cc)
mapped_err (Err e) Q h q = (e, refl, subst (λ z. IsErrAnd z (Q e)) q h)

pub exits : {T E : Type 0} {r : Result T E} {bad : E} → IsErrAnd r (λ e. e ≡ bad) → r ≡ Err bad
exits {T} {E} {r} h = let p = err_from_is_err_and r h in p.1 ∙ ap Err p.2

-- it is what came
pub handed_on : {T E : Type 0} {x r : Result T E} {bad : E} → x ≡ Err bad → IsErrAnd r (λ e. e ≡ bad) → r ≡ x
handed_on q h = exits h ∙ sym q
