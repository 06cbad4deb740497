-- `term_build::build_term` meets its contract: the environment's runs are the letters' own.
use Rattle.term_build.specs.laws.Plain.{plain-few, plain-given, plain-built}
use Rattle.term_build.proofs.build_term.Goals as goal

pub build-requires : goal.build-requires
build-requires c =
    plain-given _ c.of_row.ensures c.requires

pub returns : goal.returns
returns c =
    plain-built _ c.of_row.ensures (plain-few c.requires) c.build.ensures
