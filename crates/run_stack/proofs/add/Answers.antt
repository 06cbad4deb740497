-- `run_stack::add` meets its contract: `run_merge::add_times` into out, and `code::copy` back.
-- Assumes nothing.
use Rattle.std.proofs.Common.{sym, ap₂, subst, arith, length-take, ◌∙◌, ◌+◌, length}
use Rattle.std.specs.Prelude.{drop, take}
use Rattle.code.proofs.Lists.{begins-as, copied-front, front_of, behind}
use Rattle.run_merge.specs.Words.{pairs, summed, Fits}
use Rattle.run_merge.specs.laws.Room.{length-summed}
use Rattle.run_stack.proofs.add.Goals as goal

pub add_times-r-requires-clause-c_lt_prime : goal.add_times-r-requires-clause-c_lt_prime
add_times-r-requires-clause-c_lt_prime c =
    (c.requires.c_lt_prime.0, subst (λ l. Fits 0 (pairs l)) (sym (c.split_at.ensures.back ∙ behind c.args.a c.args.b c.args.stack.now)) c.requires.c_lt_prime.2)

pub copy-requires : goal.copy-requires
copy-requires c =
    omega (
      arith,
      c.add_times-r.ensures.size,
      length-summed 0 c.args.c c.split_at.result.0.now c.split_at.result.1.now,
      length-take c.add_times-r.result c.add_times-r.new.out,
      length-take (c.args.a + c.args.b) c.args.stack.now,
    )

pub returns : goal.returns
returns c =
    copied-front (drop (length (take c.add_times-r.result c.add_times-r.new.out)) c.args.stack.now)
    (begins-as c.add_times-r.ensures (ap₂ (summed 0 c.args.c) (c.split_at.ensures.front ∙ front_of c.args.a c.args.b c.args.stack.now)
    (c.split_at.ensures.back ∙ behind c.args.a c.args.b c.args.stack.now))) c.copy.ensures
