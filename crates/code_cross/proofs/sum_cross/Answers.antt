-- `code_cross::sum_cross` meets its contract: `code::make_pow` behind a 0 that is stored, and then `sum_back`.
-- Assumes nothing.
use Rattle.std.proofs.Common.{ap, refl}
use Rattle.std.specs.Prelude.{take}
use Rattle.code.specs.Coding.{dec, enc}
use Rattle.code.specs.Operations.{sum_of}
use Rattle.code.specs.laws.Codes.{coded, codes-length, dec-enc}
use Rattle.code.proofs.Lists.{begins-as}
use Rattle.code.proofs.Making.{pow-asks}
use Rattle.code_cross.proofs.Products.{with-zero, cross-made}
use Rattle.code_cross.proofs.sum_cross.Goals as goal

pub make_pow-b-requires-clause-coded : goal.make_pow-b-requires-clause-coded
make_pow-b-requires-clause-coded c =
    let parts = with-zero c.args.n c.args.t.now c.requires.n_in_bounds.0.0 c.requires.n_in_bounds.1 in
    (coded parts.0, coded parts.1)

pub make_pow-b-requires-clause-good : goal.make_pow-b-requires-clause-good
make_pow-b-requires-clause-good c =
    pow-asks c.args.i (with-zero c.args.n c.args.t.now c.requires.n_in_bounds.0.0 c.requires.n_in_bounds.1) refl c.requires.good

pub sum_back-requires-clause-coded : goal.sum_back-requires-clause-coded
sum_back-requires-clause-coded c = (
  c.requires.a_in_bounds.1,
  coded (cross-made c.args.i c.args.n c.args.t.now c.requires.n_in_bounds.0.0 c.requires.n_in_bounds.1 c.requires.good c.make_pow-b.ensures),
)

pub sum_back-requires-clause-y_in_bounds : goal.sum_back-requires-clause-y_in_bounds
sum_back-requires-clause-y_in_bounds c =
    rw (dec-enc (cross-made c.args.i c.args.n c.args.t.now c.requires.n_in_bounds.0.0 c.requires.n_in_bounds.1 c.requires.good c.make_pow-b.ensures))
    c.requires.width_in_bounds

pub sum_back-requires-clause-room_under : goal.sum_back-requires-clause-room_under
sum_back-requires-clause-room_under c =
    rw (codes-length (cross-made c.args.i c.args.n c.args.t.now c.requires.n_in_bounds.0.0 c.requires.n_in_bounds.1 c.requires.good c.make_pow-b.ensures))
    c.requires.room_under

pub returns : goal.returns
returns c =
    begins-as c.sum_back.ensures
    (ap (λ h. enc c.args.width (sum_of c.args.width (dec c.args.width (take c.args.a c.args.out.now)) h))
    (dec-enc (cross-made c.args.i c.args.n c.args.t.now c.requires.n_in_bounds.0.0 c.requires.n_in_bounds.1 c.requires.good c.make_pow-b.ensures)))
