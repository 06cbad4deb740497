-- The enum that a call with a result text answers, for each reply.
use Rattle.std.specs.Prelude.{Ok, Err, List, ◌≡◌, refl, ℕ, length}
use Rattle.std.proofs.Common.{ap, ◌∙◌}
use Rattle.reply.specs.definitions.Reply.{Written, Reply, gives, refuses, said, Work, told, Writes}

abbrev pub written_of : Reply (List ℕ) → Written
written_of (gives w) = Ok (length w)
written_of (refuses bad) = Err bad

-- it is the one that tells the reply
pub tells-written : (x : Reply (List ℕ)) → told (written_of x) ≡ said length x
tells-written (gives w) = refl
tells-written (refuses bad) = refl

abbrev enum_of : Reply ℕ → Written
enum_of (gives n) = Ok n
enum_of (refuses bad) = Err bad

enum_told : (r : Written) → r ≡ enum_of (told r)
enum_told (Ok n) = refl
enum_told (Err bad) = refl

enum-said : (x : Reply (List ℕ)) → enum_of (said length x) ≡ written_of x
enum-said (gives w) = refl
enum-said (refuses bad) = refl

one_written : {r : Written} (x : Reply (List ℕ)) → told r ≡ said length x → r ≡ written_of x
one_written {r} x e = enum_told r ∙ ap enum_of e ∙ enum-said x

pub is-written : {x : Reply (List ℕ)} {r : Written} {b b' : List ℕ} {w w' : Work} → Writes x r b b' w w' → r ≡ written_of x
is-written {x} h = one_written x h.answer
