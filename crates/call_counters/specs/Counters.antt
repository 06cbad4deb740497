-- What `counters` answers for each reply, and what it makes of a width.
use Rattle.std.specs.Prelude.{Result, Ok, Err, Bool, cond, List, ◌≡◌, refl, ℕ}
use Rattle.std.proofs.Common.{ap, ◌∙◌}
use Rattle.refusal.specs.Refusal.{of_neither}
use Rattle.refusal.specs.declared.Refusal.{Refusal}
use Rattle.reply.specs.definitions.Calls.{Counts, is_width, bits, counters_of}
use Rattle.reply.specs.definitions.Reply.{told, Counted, Reply, gives, refuses, asked, Work}

abbrev pub counted_of : Reply Bool → Counted
counted_of (gives b) = Ok b
counted_of (refuses bad) = Err bad

-- it is the one that tells the reply
pub tells-counted : (x : Reply Bool) → told (counted_of x) ≡ x
tells-counted (gives b) = refl
tells-counted (refuses bad) = refl

enum_told : (r : Counted) → r ≡ counted_of (told r)
enum_told (Ok b) = refl
enum_told (Err bad) = refl

one-counted : {r : Counted} {x : Reply Bool} → told r ≡ x → r ≡ counted_of x
one-counted {r} e = enum_told r ∙ ap counted_of e

pub is-counted : {x : Reply Bool} {r : Counted} {w w' : Work} → Counts x r w w' → r ≡ counted_of x
is-counted h = one-counted h.answer

-- how many bits a width stands for, or 14
abbrev pub width_of : ℕ → Result ℕ Refusal
width_of w = cond (is_width w) (Ok (bits w)) (Err (of_neither 14))

-- what the call replies where the row and the tables are not refused
abbrev pub inner : (row : List ℕ) (w : ℕ) (s t : List ℕ) → Reply Bool
inner row w s t = asked (is_width w) 14 (λ v. counters_of row w s t)
