-- `call_multiply::multiply` meets its contract, which is that of `operate`.
use Rattle.reply.specs.definitions.Calls.{multiply_reply}
use Rattle.call_multiply.proofs.multiply.Goals as goal

pub returns : goal.returns
unfolding multiply_reply
returns c =
    c.operate.ensures
