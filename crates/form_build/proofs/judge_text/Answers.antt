-- `form_build::judge_text` meets its contract: the form stands at the beginning of its text; what is wrong in it, or its measures, give
-- the answer.
use Rattle.std.proofs.Common.{◌≡◌, refl, rules}
use Rattle.std.proofs.Math.Path.{◌∙◌}
use Rattle.refusal.specs.Refusal.{fault}
use Rattle.refusal.proofs.Exits.{exits, mapped_ok, mapped_err}
use Rattle.form_normal.specs.laws.Normal.{seen_as}
use Rattle.form_build.specs.laws.Answer.{read-standing, answer-wrong, answer-fine}
use Rattle.form_build.proofs.judge_text.Goals as goal

pub judge_at-requires : goal.judge_at-requires
judge_at-requires c =
    (c.requires.m_bound, read-standing _ c.requires.m_bound _ c.requires.read)

pub returns-in_err-map_err : goal.returns-in_err-map_err
returns-in_err-map_err c =
    let m = mapped_err _ _ c.map_err.ensures.cases c.in_err-map_err.was in
    let q : c.in_err-map_err.field-0.0 ≡ fault 7 m.0 = search (rules, m.2) in
    rw (exits c.from_residual.ensures.1, q)
    (answer-wrong _ c.requires.m_bound c.args.s.now c.requires.read _ (seen_as _ _ refl m.1 c.judge_at.ensures))

pub measure_at-measured-requires : goal.measure_at-measured-requires
measure_at-measured-requires c =
    read-standing _ c.requires.m_bound _ c.requires.read

pub returns : goal.returns
returns c =
    c.limited.ensures
    ∙ answer-fine _ c.requires.m_bound c.args.s.now c.requires.read _
    (seen_as _ _ refl (mapped_ok _ _ c.map_err.ensures.cases c.in_ok-map_err.was) c.judge_at.ensures) c.measure_at-measured.ensures
    c.at_least_one.ensures
