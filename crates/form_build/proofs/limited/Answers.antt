-- `form_build::limited` meets its contract.
use Rattle.std.proofs.Common.{◌≡◌, rules}
use Rattle.refusal.specs.Refusal.{fault}
use Rattle.refusal.proofs.Exits.{exits, mapped_ok, mapped_err}
use Rattle.form_build.specs.laws.Answer.{limited-ok, limited-err}
use Rattle.form_build.proofs.limited.Goals as goal

pub returns-in_err-map_err : goal.returns-in_err-map_err
returns-in_err-map_err c =
    let m = mapped_err _ _ c.map_err.ensures.cases c.in_err-map_err.was in
    let q : c.in_err-map_err.field-0.0 ≡ fault m.0 0 = search (rules, m.2) in
    rw (exits c.from_residual.ensures.1, q) (limited-err _ _ c.within.ensures m.1)

pub returns : goal.returns
returns c =
    limited-ok _ _ c.within.ensures (mapped_ok _ _ c.map_err.ensures.cases c.in_ok-map_err.was)
