-- `call_add::add` meets its contract, which is that of `operate`.
use Rattle.reply.specs.definitions.Calls.{add_reply}
use Rattle.call_add.proofs.add.Goals as goal

pub returns : goal.returns
unfolding add_reply
returns c =
    c.operate.ensures
