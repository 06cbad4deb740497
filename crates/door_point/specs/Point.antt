-- What a call at a point answers for each reply, and the remainders of a point's coordinates.
use Rattle.std.specs.Prelude.{Ok, Err, List, map, ◌≡◌, refl, ℕ, ℤ}
use Rattle.std.proofs.Common.{ap, ◌∙◌}
use Rattle.reply.specs.definitions.Reply.{Remaindered, Reply, gives, refuses, Work, told, Remainders}
use Rattle.reply.specs.definitions.Calls.{remainder}

abbrev pub remaindered_of : Reply ℕ → Remaindered
remaindered_of (gives n) = Ok n
remaindered_of (refuses bad) = Err bad

-- it is the one that tells the reply
pub tells-remainder : (x : Reply ℕ) → told (remaindered_of x) ≡ x
tells-remainder (gives n) = refl
tells-remainder (refuses bad) = refl

enum_told : (r : Remaindered) → r ≡ remaindered_of (told r)
enum_told (Ok n) = refl
enum_told (Err bad) = refl

one-remainder : {r : Remaindered} {x : Reply ℕ} → told r ≡ x → r ≡ remaindered_of x
one-remainder {r} e = enum_told r ∙ ap remaindered_of e

pub is-remainder : {x : Reply ℕ} {r : Remaindered} {w w' : Work} → Remainders x r w w' → r ≡ remaindered_of x
is-remainder h = one-remainder h.answer

-- the remainders of the coordinates
unfoldable pub residues_of : List ℤ → List ℕ
residues_of N = map remainder N
