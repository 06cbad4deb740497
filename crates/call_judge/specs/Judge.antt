-- The enum that `judge` answers, for each reply.
use Rattle.std.specs.Prelude.{Ok, Err, List, ◌≡◌, refl, ℕ}
use Rattle.std.proofs.Common.{ap, ◌∙◌}
use Rattle.reply.specs.definitions.Calls.{judge_reply, JudgeCall}
use Rattle.reply.specs.definitions.Reply.{told, Judged, Reply, gives, refuses}

abbrev pub judged_of : Reply (Unit {0}) → Judged
judged_of (gives u) = Ok tt
judged_of (refuses bad) = Err bad

enum_told : (r : Judged) → r ≡ judged_of (told r)
enum_told (Ok tt) = refl
enum_told (Err bad) = refl

-- it is the one that tells the reply
one-judged : {r : Judged} {x : Reply (Unit {0})} → told r ≡ x → r ≡ judged_of x
one-judged {r} e = enum_told r ∙ ap judged_of e

pub is-judged : {row s : List ℕ} {r : Judged} → JudgeCall row s r → r ≡ judged_of (judge_reply row s)
is-judged h = one-judged h.answer
