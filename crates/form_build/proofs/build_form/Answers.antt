-- `form_build::build_form` meets its contract: the form stands at the beginning of its text.
use Rattle.form_build.specs.laws.Accepted.{accepted-stands, accepted-fit, accepted-ready}
use Rattle.form_build.proofs.build_form.Goals as goal

pub build_at-requires : goal.build_at-requires
build_at-requires c =
    accepted-ready _ c.requires.m_bound.0 c.requires.m_bound.1 c.requires.in_bounds.0 c.requires.in_bounds.1

pub returns : goal.returns
returns c =
    λ f e. c.build_at.ensures.made f _ (accepted-stands _ _ c.requires.m_bound.0 f e)
    (accepted-fit _ _ c.requires.m_bound.0 f e)
