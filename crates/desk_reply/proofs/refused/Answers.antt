-- `desk_reply::refused` meets its contract: the word and a number, the side and a number, each behind the one before.
use Rattle.std.proofs.Common.{◌≡◌, ◌++◌, ◌∙◌, sym, ap₂, rules, append_assoc}
use Rattle.text.specs.definitions.Bytes.{bytes, decimal}
use Rattle.form_write.specs.laws.Wrote.{wrote_as, wrote_on}
use Rattle.desk_reply.specs.Reply.{side_text}
use Rattle.desk_reply.proofs.refused.Goals.{in-Left, in-Right, in-Neither}
use Rattle.desk_reply.proofs.refused.Goals as goal

pub returns : goal.returns
returns c =
    let side : c.match-bad.side.now ≡ side_text c.args.bad.side =
    elim c.match-bad.branch [ in-Left w ↦ search rules | in-Right w ↦ search rules | in-Neither w ↦ search rules ] in
    wrote_as (wrote_on c.put_numbered-at.ensures.wrote c.put_numbered.ensures.wrote)
    (ap₂ (λ n v. (bytes "REFUSED " ++ decimal n) ++ (v ++ decimal c.args.bad.place)) c.from.ensures side
    ∙ sym (append_assoc (bytes "REFUSED " ++ decimal c.args.bad.number) (side_text c.args.bad.side) (decimal c.args.bad.place)))
