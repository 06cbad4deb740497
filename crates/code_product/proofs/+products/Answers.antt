-- The answers of each function of the cycle: each meets its contract, if the calls that it makes do.
-- Assumes nothing.
use Rattle.std.proofs.Common.{sym, ap, arith, refl, ◌+◌}
use Rattle.std.proofs.Math.Path.{◌∙◌}
use Rattle.horner.specs.definitions.Form.{pop}
use Rattle.code.specs.Coding.{dec, enc}
use Rattle.code.specs.laws.Codes.{some, codes-length, coded}
use Rattle.code.specs.laws.Good.{good-pop}
use Rattle.code.proofs.Lists.{length-tail-part, begins-as}
use Rattle.code.proofs.Making.{pow-asks, pow-gives, pop-asks, pop-gives}
use Rattle.code_room.proofs.laws.Equations.{pop-pow, pow-pop, pops-swap, pops-ge}
use Rattle.code_room.proofs.laws.Fit.{fit-sym, fit-y, fit-pop-words, fit-x, fit-prod}
use Rattle.code_room.proofs.laws.Summands.{lead-held}
use Rattle.code_room.proofs.laws.Tables.{pop-space-at, pop-space-sym, space-at, space-leads, pop-space, pop-space-pow, space-pops, space-sym}
use Rattle.code_cross.proofs.Products.{leaf-of-head, pop-of-head, pow-span, pow-of-head, up-int, up-pop, up-pow}
use Rattle.code_cross.proofs.Products.{cross-asks, cross-gives, int-times, times-int}
use Rattle.code_product.proofs.Parts.{space-as, pop-space-as, prod-as, pops-made, pop-pow-rest, pop-pow-made, lead-rest, lead-made}
use Rattle.code_product.proofs.Parts.{one-few, one-codes, one-cross, one-held, both-few, both-codes, both-cross, both-held, both-is}
use Rattle.code_product.proofs.+products.Goals as goal

-- ---- product

pub product-bounds-x-0 : goal.product-bounds-x-0
product-bounds-x-0 t c = omega (arith, some c.requires.coded.0)

pub product-scale-requires : goal.product-scale-requires
product-scale-requires t c =
    record {
      a_bound = (leaf-of-head c.requires.coded.0 c.in-Leaf.ensures).below;
      coded = c.requires.coded.1;
      room_under = omega (arith, c.requires.space.tables, codes-length c.requires.coded.1, (fit-y c.requires.space.fit).words);
    }

pub product-returns-in-Leaf : goal.product-returns-in-Leaf
product-returns-in-Leaf t c =
    begins-as c.scale.ensures (int-times (leaf-of-head c.requires.coded.0 c.in-Leaf.ensures) (dec c.args.width c.args.y.now))

pub product-mul_pop-requires : goal.product-mul_pop-requires
product-mul_pop-requires t c =
    let v = pop-of-head c.requires.coded.0 c.in-Pop.ensures in (
      omega (arith, v.len, v.some, c.decreases),
      ((v.part, c.requires.coded.1), pop-space _ _ (space-as v.is refl c.requires.space)),
    )

pub product-returns-in-Pop : goal.product-returns-in-Pop
product-returns-in-Pop t c =
    begins-as c.mul_pop.ensures (prod-as c.args.width (pop-of-head c.requires.coded.0 c.in-Pop.ensures).is refl)

-- product, where x is a POW

pub product-split_at-requires : goal.product-split_at-requires
product-split_at-requires t c = pow-span c.requires.coded.0 c.in-Pow.ensures

pub product-bounds-y-0 : goal.product-bounds-y-0
product-bounds-y-0 t c = omega (arith, some c.requires.coded.1)

pub product-scale-requires-in-Leaf-head_of : goal.product-scale-requires-in-Leaf-head_of
product-scale-requires-in-Leaf-head_of t c =
    record {
      a_bound = (leaf-of-head c.requires.coded.1 c.in-Leaf-head_of.ensures).below;
      coded = c.requires.coded.0;
      room_under = omega (arith, c.requires.space.tables, codes-length c.requires.coded.0, (fit-x c.requires.space.fit).words);
    }

pub product-returns-in-Leaf-head_of : goal.product-returns-in-Leaf-head_of
product-returns-in-Leaf-head_of t c =
    begins-as c.scale-in-Leaf-head_of.ensures
    (times-int (leaf-of-head c.requires.coded.1 c.in-Leaf-head_of.ensures) (dec c.args.width c.args.x.now))

pub product-mul_pop_pow-requires : goal.product-mul_pop_pow-requires
product-mul_pop_pow-requires t c =
    let v = pow-of-head c.requires.coded.0 c.in-Pow.ensures c.split_at.ensures.front c.split_at.ensures.back in
    let k = pop-of-head c.requires.coded.1 c.in-Pop-head_of.ensures in (
      omega (arith, v.len, k.len, k.some, c.decreases),
      ((k.part, (v.left, v.right)), pop-space _ _ (space-as k.is v.is (space-sym c.requires.space))),
    )

pub product-returns-in-Pop-head_of : goal.product-returns-in-Pop-head_of
product-returns-in-Pop-head_of t c =
    let v = pow-of-head c.requires.coded.0 c.in-Pow.ensures c.split_at.ensures.front c.split_at.ensures.back in
    let k = pop-of-head c.requires.coded.1 c.in-Pop-head_of.ensures in
    begins-as c.mul_pop_pow.ensures
    (ap (enc c.args.width) (sym (pow-pop c.args.width c.in-Pop-head_of.j c.in-Pow.i _ (dec c.args.width c.split_at.result.0.now)
    (dec c.args.width c.split_at.result.1.now) (good-pop k.node).0)) ∙ prod-as c.args.width v.is k.is)

pub product-split_at-requires-in-Pow-head_of : goal.product-split_at-requires-in-Pow-head_of
product-split_at-requires-in-Pow-head_of t c = pow-span c.requires.coded.1 c.in-Pow-head_of.ensures

pub product-mul_pows-requires : goal.product-mul_pows-requires
product-mul_pows-requires t c =
    let v = pow-of-head c.requires.coded.0 c.in-Pow.ensures c.split_at.ensures.front c.split_at.ensures.back in
    let k = pow-of-head c.requires.coded.1 c.in-Pow-head_of.ensures c.split_at-in-Pow-head_of.ensures.front
    c.split_at-in-Pow-head_of.ensures.back in (
      omega (arith, v.len, k.len, c.decreases),
      (((v.left, v.right), (k.left, k.right)), space-as v.is k.is c.requires.space),
    )

pub product-returns-in-Pow-head_of : goal.product-returns-in-Pow-head_of
product-returns-in-Pow-head_of t c =
    let v = pow-of-head c.requires.coded.0 c.in-Pow.ensures c.split_at.ensures.front c.split_at.ensures.back in
    let k = pow-of-head c.requires.coded.1 c.in-Pow-head_of.ensures c.split_at-in-Pow-head_of.ensures.front
    c.split_at-in-Pow-head_of.ensures.back in
    begins-as c.mul_pows.ensures (prod-as c.args.width v.is k.is)

-- ---- mul_pop

pub mul_pop-bounds-y-0 : goal.mul_pop-bounds-y-0
mul_pop-bounds-y-0 t c = omega (arith, some c.requires.coded.1)

pub mul_pop-scale_pop-requires : goal.mul_pop-scale_pop-requires
mul_pop-scale_pop-requires t c =
    record {
      a_bound = (leaf-of-head c.requires.coded.1 c.in-Leaf.ensures).below;
      coded = c.requires.coded.0;
      good = (fit-x c.requires.pop_space.fit).good;
      room_under = omega (
        arith,
        c.requires.pop_space.tables,
        codes-length c.requires.coded.0,
        fit-pop-words c.args.i (dec c.args.width c.args.p.now) c.requires.pop_space.fit,
      );
    }

pub mul_pop-returns-in-Leaf : goal.mul_pop-returns-in-Leaf
mul_pop-returns-in-Leaf t c =
    begins-as c.scale_pop.ensures
    (times-int (leaf-of-head c.requires.coded.1 c.in-Leaf.ensures) (pop c.args.i (dec c.args.width c.args.p.now)))

pub mul_pop-mul_pops-requires : goal.mul_pop-mul_pops-requires
mul_pop-mul_pops-requires t c =
    let v = pop-of-head c.requires.coded.1 c.in-Pop.ensures in (
      omega (arith, v.len, v.some, c.decreases),
      ((c.requires.coded.0, v.part), pop-space-as refl v.is c.requires.pop_space),
    )

pub mul_pop-returns-in-Pop : goal.mul_pop-returns-in-Pop
mul_pop-returns-in-Pop t c =
    begins-as c.mul_pops.ensures (prod-as c.args.width refl (pop-of-head c.requires.coded.1 c.in-Pop.ensures).is)

pub mul_pop-split_at-requires : goal.mul_pop-split_at-requires
mul_pop-split_at-requires t c = pow-span c.requires.coded.1 c.in-Pow.ensures

pub mul_pop-mul_pop_pow-requires : goal.mul_pop-mul_pop_pow-requires
mul_pop-mul_pop_pow-requires t c =
    let v = pow-of-head c.requires.coded.1 c.in-Pow.ensures c.split_at.ensures.front c.split_at.ensures.back in (
      omega (arith, v.len, c.decreases),
      ((c.requires.coded.0, (v.left, v.right)), pop-space-as refl v.is c.requires.pop_space),
    )

pub mul_pop-returns-in-Pow : goal.mul_pop-returns-in-Pow
mul_pop-returns-in-Pow t c =
    let v = pow-of-head c.requires.coded.1 c.in-Pow.ensures c.split_at.ensures.front c.split_at.ensures.back in
    begins-as c.mul_pop_pow.ensures (prod-as c.args.width refl v.is)

-- ---- mul_any_pop

pub mul_any_pop-bounds-x-0 : goal.mul_any_pop-bounds-x-0
mul_any_pop-bounds-x-0 t c = omega (arith, some c.requires.coded.0)

pub mul_any_pop-scale_pop-requires : goal.mul_any_pop-scale_pop-requires
mul_any_pop-scale_pop-requires t c =
    record {
      a_bound = (leaf-of-head c.requires.coded.0 c.in-Leaf.ensures).below;
      coded = c.requires.coded.1;
      good = (fit-y c.requires.pop_space.fit).good;
      room_under = omega (
        arith,
        c.requires.pop_space.tables,
        codes-length c.requires.coded.1,
        fit-pop-words c.args.i (dec c.args.width c.args.p.now) (fit-sym c.requires.pop_space.fit),
      );
    }

pub mul_any_pop-returns-in-Leaf : goal.mul_any_pop-returns-in-Leaf
mul_any_pop-returns-in-Leaf t c =
    begins-as c.scale_pop.ensures
    (int-times (leaf-of-head c.requires.coded.0 c.in-Leaf.ensures) (pop c.args.i (dec c.args.width c.args.p.now)))

pub mul_any_pop-mul_pops-requires : goal.mul_any_pop-mul_pops-requires
mul_any_pop-mul_pops-requires t c =
    let v = pop-of-head c.requires.coded.0 c.in-Pop.ensures in (
      omega (arith, v.len, v.some, c.decreases),
      ((v.part, c.requires.coded.1), pop-space-as v.is refl c.requires.pop_space),
    )

pub mul_any_pop-returns-in-Pop : goal.mul_any_pop-returns-in-Pop
mul_any_pop-returns-in-Pop t c =
    begins-as c.mul_pops.ensures (prod-as c.args.width (pop-of-head c.requires.coded.0 c.in-Pop.ensures).is refl)

pub mul_any_pop-split_at-requires : goal.mul_any_pop-split_at-requires
mul_any_pop-split_at-requires t c = pow-span c.requires.coded.0 c.in-Pow.ensures

pub mul_any_pop-mul_pop_pow-requires : goal.mul_any_pop-mul_pop_pow-requires
mul_any_pop-mul_pop_pow-requires t c =
    let v = pow-of-head c.requires.coded.0 c.in-Pow.ensures c.split_at.ensures.front c.split_at.ensures.back in (
      omega (arith, v.len, c.decreases),
      ((c.requires.coded.1, (v.left, v.right)), pop-space-as refl v.is (pop-space-sym c.requires.pop_space)),
    )

pub mul_any_pop-returns-in-Pow : goal.mul_any_pop-returns-in-Pow
mul_any_pop-returns-in-Pow t c =
    let v = pow-of-head c.requires.coded.0 c.in-Pow.ensures c.split_at.ensures.front c.split_at.ensures.back in
    begins-as c.mul_pop_pow.ensures
    (ap (enc c.args.width) (sym (pow-pop c.args.width c.args.i c.in-Pow.j (dec c.args.width c.args.p.now)
    (dec c.args.width c.split_at.result.0.now) (dec c.args.width c.split_at.result.1.now)
    (good-pop (fit-y c.requires.pop_space.fit).good).0)) ∙ prod-as c.args.width v.is refl)

-- ---- mul_pops

pub mul_pops-mul_pops_ge-requires-else-j-i : goal.mul_pops-mul_pops_ge-requires-else-j-i
mul_pops-mul_pops_ge-requires-else-j-i t c =
    (omega (arith, c.decreases), ((c.requires.coded.1, c.requires.coded.0), (pop-space-sym c.requires.pop_space, omega (arith, c.if-j-i.false))))

pub mul_pops-returns-else-j-i : goal.mul_pops-returns-else-j-i
mul_pops-returns-else-j-i t c =
    begins-as c.mul_pops_ge-else-j-i.ensures
    (ap (enc c.args.width) (pops-swap c.args.width c.args.i c.args.j (dec c.args.width c.args.p.now)
    (dec c.args.width c.args.q.now) (omega (arith, c.if-j-i.false))))

-- ---- mul_pops_ge

pub mul_pops_ge-mul_lower-n-requires : goal.mul_pops_ge-mul_lower-n-requires
mul_pops_ge-mul_lower-n-requires t c = (
  omega (arith, c.decreases),
  (
    c.requires.coded,
    space-at (sym (length-tail-part 1 c.args.out.now)) refl refl (space-pops c.args.i c.args.j
        (dec c.args.width c.args.p.now) (dec c.args.width c.args.q.now) c.requires.pop_space c.requires.j_le_i),
  ),
)

pub mul_pops_ge-make_pop-requires-clause-coded : goal.mul_pops_ge-make_pop-requires-clause-coded
mul_pops_ge-make_pop-requires-clause-coded t c =
    coded (pops-made c.args.out.now c.requires.pop_space c.requires.j_le_i c.mul_lower-n.ensures)

pub mul_pops_ge-make_pop-requires-clause-good : goal.mul_pops_ge-make_pop-requires-clause-good
mul_pops_ge-make_pop-requires-clause-good t c =
    pop-asks c.args.j (pops-made c.args.out.now c.requires.pop_space c.requires.j_le_i c.mul_lower-n.ensures)
    (pops-ge c.args.width c.args.i c.args.j (dec c.args.width c.args.p.now) (dec c.args.width c.args.q.now) c.requires.j_le_i)
    (fit-prod c.requires.pop_space.fit).good

pub mul_pops_ge-returns : goal.mul_pops_ge-returns
mul_pops_ge-returns t c =
    pop-gives c.args.j (pops-made c.args.out.now c.requires.pop_space c.requires.j_le_i c.mul_lower-n.ensures)
    (pops-ge c.args.width c.args.i c.args.j (dec c.args.width c.args.p.now) (dec c.args.width c.args.q.now) c.requires.j_le_i)
    c.make_pop.ensures

-- ---- mul_pop_pow

pub mul_pop_pow-mul_pop-a-requires : goal.mul_pop_pow-mul_pop-a-requires
mul_pop_pow-mul_pop-a-requires t c = (
  omega (arith, c.decreases),
  (
    (c.requires.coded.0, c.requires.coded.1.0),
    pop-space-at (sym (length-tail-part 1 c.args.out.now)) refl refl (pop-space-pow c.args.i c.args.j
        (dec c.args.width c.args.p.now) (dec c.args.width c.args.r.now) (dec c.args.width c.args.s.now) c.requires.pop_space),
  ),
)

pub mul_pop_pow-mul_lower-b-requires : goal.mul_pop_pow-mul_lower-b-requires
mul_pop_pow-mul_lower-b-requires t c = (
  omega (arith, c.decreases),
  (
    (c.requires.coded.0, c.requires.coded.1.1),
    pop-pow-rest c.args.out.now c.requires.pop_space c.mul_pop-a.ensures (omega arith) c.mul_pop-a.auto.t c.mul_pop-a.auto.u,
  ),
)

pub mul_pop_pow-make_pow-requires-clause-coded : goal.mul_pop_pow-make_pow-requires-clause-coded
mul_pop_pow-make_pow-requires-clause-coded t c =
    let made = pop-pow-made c.args.out.now c.requires.pop_space c.mul_pop-a.ensures (omega arith) c.mul_lower-b.ensures in
    (coded made.0, coded made.1)

pub mul_pop_pow-make_pow-requires-clause-good : goal.mul_pop_pow-make_pow-requires-clause-good
mul_pop_pow-make_pow-requires-clause-good t c =
    pow-asks c.args.j (pop-pow-made c.args.out.now c.requires.pop_space c.mul_pop-a.ensures (omega arith) c.mul_lower-b.ensures)
    (pop-pow c.args.width c.args.i c.args.j (dec c.args.width c.args.p.now) (dec c.args.width c.args.r.now)
    (dec c.args.width c.args.s.now) (good-pop (fit-x c.requires.pop_space.fit).good).0) (fit-prod c.requires.pop_space.fit).good

pub mul_pop_pow-returns : goal.mul_pop_pow-returns
mul_pop_pow-returns t c =
    pow-gives c.args.j (pop-pow-made c.args.out.now c.requires.pop_space c.mul_pop-a.ensures (omega arith) c.mul_lower-b.ensures)
    (pop-pow c.args.width c.args.i c.args.j (dec c.args.width c.args.p.now) (dec c.args.width c.args.r.now)
    (dec c.args.width c.args.s.now) (good-pop (fit-x c.requires.pop_space.fit).good).0) c.make_pow.ensures

-- ---- mul_pows

pub mul_pows-add_cross-n-requires : goal.mul_pows-add_cross-n-requires
mul_pows-add_cross-n-requires t c = (
  omega (arith, c.decreases, some c.requires.coded.0.1, some c.requires.coded.1.0),
  (
    (c.requires.coded.0.0, c.requires.coded.1.1),
    (
      (one-few c.requires.space c.mul_lead-a.ensures, coded (one-codes c.requires.space c.mul_lead-a.ensures)),
      (
        one-cross c.requires.space c.mul_lead-a.ensures c.mul_lead-a.auto.t c.mul_lead-a.auto.out c.mul_lead-a.auto.u,
        one-held c.requires.space c.mul_lead-a.ensures,
      ),
    ),
  ),
)

pub mul_pows-add_cross-requires : goal.mul_pows-add_cross-requires
mul_pows-add_cross-requires t c = (
  omega (arith, c.decreases, some c.requires.coded.0.0, some c.requires.coded.1.1),
  (
    (c.requires.coded.1.0, c.requires.coded.0.1),
    (
      (
        both-few c.requires.space c.mul_lead-a.ensures c.add_cross-n.ensures,
        coded (both-codes c.requires.space c.mul_lead-a.ensures c.add_cross-n.ensures),
      ),
      (
        both-cross c.requires.space c.mul_lead-a.ensures c.add_cross-n.ensures (c.add_cross-n.auto.t ∙ c.mul_lead-a.auto.t)
            (c.add_cross-n.auto.out ∙ c.mul_lead-a.auto.out) (c.add_cross-n.auto.u ∙ c.mul_lead-a.auto.u),
        both-held c.requires.space c.mul_lead-a.ensures c.add_cross-n.ensures,
      ),
    ),
  ),
)

pub mul_pows-returns : goal.mul_pows-returns
mul_pows-returns t c =
    begins-as c.add_cross.ensures (both-is c.requires.space c.mul_lead-a.ensures c.add_cross-n.ensures)

-- ---- mul_lead

pub mul_lead-product-a-requires : goal.mul_lead-product-a-requires
mul_lead-product-a-requires t c = (
  omega (arith, c.decreases),
  (
    (c.requires.coded.0.0, c.requires.coded.1.0),
    space-at (sym (length-tail-part 1 c.args.out.now)) refl refl (space-leads c.args.i c.args.j
        (dec c.args.width c.args.p.now) (dec c.args.width c.args.q.now) (dec c.args.width c.args.r.now)
        (dec c.args.width c.args.s.now) c.requires.space),
  ),
)

pub mul_lead-product-b-requires : goal.mul_lead-product-b-requires
mul_lead-product-b-requires t c = (
  omega (arith, c.decreases),
  (
    (c.requires.coded.0.1, c.requires.coded.1.1),
    lead-rest c.args.out.now c.requires.space c.product-a.ensures (omega arith) c.product-a.auto.t c.product-a.auto.u,
  ),
)

pub mul_lead-make_pow-requires-clause-coded : goal.mul_lead-make_pow-requires-clause-coded
mul_lead-make_pow-requires-clause-coded t c =
    let made = lead-made c.args.out.now c.requires.space c.product-a.ensures (omega arith) c.product-b.ensures in
    (coded made.0, coded made.1)

pub mul_lead-make_pow-requires-clause-good : goal.mul_lead-make_pow-requires-clause-good
mul_lead-make_pow-requires-clause-good t c =
    pow-asks (c.args.i + c.args.j) (lead-made c.args.out.now c.requires.space c.product-a.ensures (omega arith) c.product-b.ensures) refl
    (lead-held c.args.i c.args.j (dec c.args.width c.args.p.now) (dec c.args.width c.args.q.now) (dec c.args.width c.args.r.now)
    (dec c.args.width c.args.s.now) c.requires.space.fit).good

pub mul_lead-returns : goal.mul_lead-returns
mul_lead-returns t c =
    pow-gives (c.args.i + c.args.j) (lead-made c.args.out.now c.requires.space c.product-a.ensures (omega arith) c.product-b.ensures) refl
    c.make_pow.ensures

-- ---- add_cross

pub add_cross-sum_cross-requires : goal.add_cross-sum_cross-requires
add_cross-sum_cross-requires t c =
    let asks = cross-asks c.args.a c.args.out.now c.mul_by_pop-n.new.t c.args.t.now c.mul_by_pop-n.new.out c.requires.a_bound.1
    c.mul_by_pop-n.ensures c.requires.cross_space (omega arith) (omega arith) c.mul_by_pop-n.auto.u c.requires.a_bound.0
    c.requires.held in
    record {
      a_in_bounds = asks.0;
      n_in_bounds = asks.1.0;
      i_nonzero = asks.1.1.0;
      good = asks.1.1.1.0;
      width_in_bounds = asks.1.1.1.1.0;
      room_under = asks.1.1.1.1.1;
    }

pub add_cross-returns : goal.add_cross-returns
add_cross-returns t c =
    cross-gives c.args.a c.args.out.now c.mul_by_pop-n.new.t c.args.t.now c.mul_by_pop-n.new.out c.requires.a_bound.1
    c.mul_by_pop-n.ensures c.requires.cross_space c.sum_cross.ensures

-- ---- mul_by_pop

pub mul_by_pop-bounds-s-0 : goal.mul_by_pop-bounds-s-0
mul_by_pop-bounds-s-0 t c = omega (arith, some c.requires.coded.1)

pub mul_by_pop-scale-requires : goal.mul_by_pop-scale-requires
mul_by_pop-scale-requires t c =
    record {
      a_bound = (leaf-of-head c.requires.coded.1 c.in-Leaf.ensures).below;
      coded = c.requires.coded.0;
      room_under = omega (arith, c.requires.pop_space.tables, codes-length c.requires.coded.0, (fit-x c.requires.pop_space.fit).words);
    }

pub mul_by_pop-returns-in-Leaf : goal.mul_by_pop-returns-in-Leaf
mul_by_pop-returns-in-Leaf t c =
    let v = leaf-of-head c.requires.coded.1 c.in-Leaf.ensures in
    begins-as c.scale.ensures (times-int v (dec c.args.width c.args.p.now) ∙ prod-as c.args.width refl (up-int v))

pub mul_by_pop-mul_any_pop-requires : goal.mul_by_pop-mul_any_pop-requires
mul_by_pop-mul_any_pop-requires t c =
    let v = pop-of-head c.requires.coded.1 c.in-Pop.ensures in (
      omega (arith, v.len, v.some, c.decreases),
      ((c.requires.coded.0, v.part), pop-space-as refl (up-pop v) c.requires.pop_space),
    )

pub mul_by_pop-returns-in-Pop : goal.mul_by_pop-returns-in-Pop
mul_by_pop-returns-in-Pop t c =
    begins-as c.mul_any_pop.ensures (prod-as c.args.width refl (up-pop (pop-of-head c.requires.coded.1 c.in-Pop.ensures)))

pub mul_by_pop-mul_any_pop-requires-in-Pow : goal.mul_by_pop-mul_any_pop-requires-in-Pow
mul_by_pop-mul_any_pop-requires-in-Pow t c = (
  omega (arith, c.decreases),
  (c.requires.coded, pop-space-as refl (up-pow (pow-of-head c.requires.coded.1 c.in-Pow.ensures refl refl)) c.requires.pop_space),
)

pub mul_by_pop-returns-in-Pow : goal.mul_by_pop-returns-in-Pow
mul_by_pop-returns-in-Pow t c =
    begins-as c.mul_any_pop-in-Pow.ensures (prod-as c.args.width refl (up-pow (pow-of-head c.requires.coded.1 c.in-Pow.ensures refl refl)))
