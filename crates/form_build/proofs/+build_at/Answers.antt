-- The proof of the cycle of calls {build_at}. The measure is what is left of the text. The head says what stands there; the code is put
-- together part by part.
use Rattle.std.proofs.Common.{List, length, ap, arith, length-set, ℕ, ◌+◌, ◌*◌, ◌-◌}
use Rattle.std.specs.Prelude.{set}
use Rattle.std.proofs.Math.Path.{◌≡◌, ◌∙◌}
use borrow.Rule.Slice.PartMut.{put_mid}
use Rattle.code.proofs.Lists.{length-tail-part}
use Rattle.form_head.specs.Heads.{is_node}
use Rattle.form_head.specs.laws.Heads.{standing-some}
use Rattle.form_head.specs.laws.Parts.{leaf-kind, first-standing, head-later, part-inside, ends-pow, ends-inside}
use Rattle.form_build.specs.laws.Build.{ready-standing, ready-room, ready-first, node-fits, ready-second}
use Rattle.form_build.specs.laws.Build.{pow-count, pop-made, pow-made}
use Rattle.form_build.proofs.Fronts.{put_front, put_both, leaf-built}
use Rattle.form_build.proofs.+build_at.Goals as goal

pub bounds-out-0 : goal.bounds-out-0
bounds-out-0 t c =
    omega (arith, ready-room c.requires)

pub returns-in-Integer : goal.returns-in-Integer
returns-in-Integer t c =
    leaf-built c.head_at-head.ensures (leaf-kind c.in-Integer.is) c.args.out.now (ready-room c.requires) _ c.leaf_word.ensures

-- ---- POP
pub slice_bounds-build_at-count : goal.slice_bounds-build_at-count
slice_bounds-build_at-count t c =
    omega (arith, ready-room c.requires)

pub slice_bounds-build_at-start : goal.slice_bounds-build_at-start
slice_bounds-build_at-start t c =
    omega (arith, ready-room c.requires)

pub build_at-p-requires : goal.build_at-p-requires
build_at-p-requires t c =
    let k = ap is_node c.in-Pop.is in
    let r = ready-standing c.requires in (
      omega (arith, c.decreases, head-later c.head_at-head.ensures k r, standing-some r),
      ready-first c.head_at-head.ensures k _ (length-tail-part 1 c.args.out.now) c.requires,
    )

pub bounds-out-0-in-Pop : goal.bounds-out-0-in-Pop
bounds-out-0-in-Pop t c =
    omega (arith, ready-room c.requires)

pub overflow_add-result : goal.overflow_add-result
overflow_add-result t c =
    omega (arith, node-fits c.head_at-head.ensures c.build_at-p.ensures (ap is_node c.in-Pop.is) c.requires)

pub overflow_add-result-in-Pop : goal.overflow_add-result-in-Pop
overflow_add-result-in-Pop t c =
    omega (
      arith,
      part-inside c.head_at-head.ensures (ap is_node c.in-Pop.is) (ready-standing c.requires) _ c.build_at-p.ensures.ends,
    )

pub returns-in-Pop : goal.returns-in-Pop
returns-in-Pop t c =
    let fits = node-fits c.head_at-head.ensures c.build_at-p.ensures (ap is_node c.in-Pop.is) c.requires in
    pop-made c.head_at-head.ensures c.build_at-p.ensures c.in-Pop.is (put_front c.args.out.now _ _ _ fits.count c.out-1.given.1)

-- ---- POW
pub slice_bounds-build_at-count-in-Pow : goal.slice_bounds-build_at-count-in-Pow
slice_bounds-build_at-count-in-Pow t c =
    omega (arith, ready-room c.requires)

pub slice_bounds-build_at-start-in-Pow : goal.slice_bounds-build_at-start-in-Pow
slice_bounds-build_at-start-in-Pow t c =
    omega (arith, ready-room c.requires)

pub build_at-p-requires-in-Pow : goal.build_at-p-requires-in-Pow
build_at-p-requires-in-Pow t c =
    let k = ap is_node c.in-Pow.is in
    let r = ready-standing c.requires in (
      omega (arith, c.decreases, head-later c.head_at-head.ensures k r, standing-some r),
      ready-first c.head_at-head.ensures k _ (length-tail-part 1 c.args.out.now) c.requires,
    )

pub overflow_cast-out : goal.overflow_cast-out
overflow_cast-out t c =
    omega (arith, node-fits c.head_at-head.ensures c.build_at-p-in-Pow.ensures (ap is_node c.in-Pow.is) c.requires)

pub overflow_mul-out : goal.overflow_mul-out
overflow_mul-out t c =
    omega (arith, node-fits c.head_at-head.ensures c.build_at-p-in-Pow.ensures (ap is_node c.in-Pow.is) c.requires)

pub overflow_add-out-in-Pow : goal.overflow_add-out-in-Pow
overflow_add-out-in-Pow t c =
    omega (arith, node-fits c.head_at-head.ensures c.build_at-p-in-Pow.ensures (ap is_node c.in-Pow.is) c.requires)

pub overflow_add-out-in-Pow-2 : goal.overflow_add-out-in-Pow-2
overflow_add-out-in-Pow-2 t c =
    omega (arith, node-fits c.head_at-head.ensures c.build_at-p-in-Pow.ensures (ap is_node c.in-Pow.is) c.requires)

pub bounds-out-0-in-Pow : goal.bounds-out-0-in-Pow
bounds-out-0-in-Pow t c =
    omega (arith, ready-room c.requires)

pub overflow_add-f : goal.overflow_add-f
overflow_add-f t c =
    omega (arith, node-fits c.head_at-head.ensures c.build_at-p-in-Pow.ensures (ap is_node c.in-Pow.is) c.requires)

pub overflow_add-p : goal.overflow_add-p
overflow_add-p t c =
    omega (
      arith,
      part-inside c.head_at-head.ensures (ap is_node c.in-Pow.is) (ready-standing c.requires) _ c.build_at-p-in-Pow.ensures.ends,
    )

pub offset_bounds-out-f : goal.offset_bounds-out-f
offset_bounds-out-f t c =
    omega (arith, node-fits c.head_at-head.ensures c.build_at-p-in-Pow.ensures (ap is_node c.in-Pow.is) c.requires)

pub slice_bounds-build_at-count-in-Pow-2 : goal.slice_bounds-build_at-count-in-Pow-2
slice_bounds-build_at-count-in-Pow-2 t c =
    let fits = node-fits c.head_at-head.ensures c.build_at-p-in-Pow.ensures (ap is_node c.in-Pow.is) c.requires in
    simp length-set (omega (arith, fits))

pub slice_bounds-build_at-start-in-Pow-2 : goal.slice_bounds-build_at-start-in-Pow-2
slice_bounds-build_at-start-in-Pow-2 t c =
    let fits = node-fits c.head_at-head.ensures c.build_at-p-in-Pow.ensures (ap is_node c.in-Pow.is) c.requires in
    simp length-set (omega (arith, fits))

pub build_at-q-requires : goal.build_at-q-requires
build_at-q-requires t c =
    let k = ap is_node c.in-Pow.is in
    let r = ready-standing c.requires in
    let n = 1 + c.build_at-p-in-Pow.result.words in
    let table : List ℕ =
    set (put_mid 1 (length c.args.out.now - 1) c.args.out.now c.build_at-p-in-Pow.new.out) 0
    (2147483648 + 64 * c.build_at-p-in-Pow.result.words + c.head_at-head.result.number) in
    let table-length : length table ≡ length c.args.out.now = simp length-set c.out-in-Pow-1.given.1 in (
      omega (
        arith,
        c.decreases,
        head-later c.head_at-head.ensures k r,
        standing-some r,
        ends-inside _ c.build_at-p-in-Pow.ensures.ends (first-standing c.head_at-head.ensures k r),
      ),
      ready-second c.head_at-head.ensures c.build_at-p-in-Pow.ensures c.in-Pow.is _
          (length-tail-part n table ∙ ap (λ k. k - n) table-length) c.requires,
    )

pub overflow_add-result-in-Pow : goal.overflow_add-result-in-Pow
overflow_add-result-in-Pow t c =
    omega (
      arith,
      c.requires.small,
      pow-count c.head_at-head.ensures c.build_at-p-in-Pow.ensures c.in-Pow.is _ _ _ c.build_at-q.ensures c.requires,
    )

pub overflow_add-result-in-Pow-2 : goal.overflow_add-result-in-Pow-2
overflow_add-result-in-Pow-2 t c =
    omega (
      arith,
      ends-inside _
          (ends-pow c.head_at-head.ensures _ c.build_at-p-in-Pow.ensures.ends _ c.in-Pow.is c.build_at-q.ensures.ends)
          (ready-standing c.requires),
    )

pub returns-in-Pow : goal.returns-in-Pow
returns-in-Pow t c =
    let fits = node-fits c.head_at-head.ensures c.build_at-p-in-Pow.ensures (ap is_node c.in-Pow.is) c.requires in
    pow-made c.head_at-head.ensures c.build_at-p-in-Pow.ensures c.in-Pow.is _ _ _ _ c.build_at-q.ensures
    (put_both c.args.out.now _ _ _ _ _ fits.count c.out-in-Pow-1.given.1)
