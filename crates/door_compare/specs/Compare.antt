-- What `compare` answers for each reply, and two runs and two forms side by side.
use Rattle.reply.specs.declared.Comparison.TheVariants.{Same, Different}
use Rattle.std.specs.Prelude.{Ok, Err, List, ◌++◌, ◌≡◌, refl, ℕ, ◌≤◌, length, take, drop}
use Rattle.std.proofs.Math.Option.{Option, none, some}
use Rattle.std.proofs.Common.{ap, ◌∙◌}
use Rattle.code.specs.Lengths.{table}
use Rattle.horner.specs.definitions.Form.{Form}
use Rattle.code.specs.Coding.{Coded, dec}
use Rattle.code.specs.Operations.{sum_of, negate_of, value_of}
use Rattle.code.specs.Widths.{Leaf}
use Rattle.door_terms.specs.Terms.{Paired}
use Rattle.run_code.specs.Decoding.{form_at}
use Rattle.code_point.specs.Points.{point_of, Ready}
use Rattle.reply.specs.definitions.Calls.{Compared, Verdict, equal, different, remainders, told_compared, Compares}
use Rattle.reply.specs.definitions.Reply.{Reply, gives, refuses, said, Work}

abbrev pub verdict_as : Verdict → Compared
verdict_as equal = Ok Same
verdict_as (different N l r) = Ok (Different l r)

abbrev pub compared_of : Reply Verdict → Compared
compared_of (gives v) = verdict_as v
compared_of (refuses bad) = Err bad

-- it is the one that tells the reply
pub tells-compared : (x : Reply Verdict) → told_compared (compared_of x) ≡ said remainders x
tells-compared (gives equal) = refl
tells-compared (gives (different N l r)) = refl
tells-compared (refuses bad) = refl

abbrev enum_of : Reply (Option (ℕ × ℕ)) → Compared
enum_of (gives none) = Ok Same
enum_of (gives (some p)) = Ok (Different p.0 p.1)
enum_of (refuses bad) = Err bad

enum_told : (r : Compared) → r ≡ enum_of (told_compared r)
enum_told (Ok Same) = refl
enum_told (Ok (Different l r)) = refl
enum_told (Err bad) = refl

enum-said : (x : Reply Verdict) → enum_of (said remainders x) ≡ compared_of x
enum-said (gives equal) = refl
enum-said (gives (different N l r)) = refl
enum-said (refuses bad) = refl

one-compared : {r : Compared} (x : Reply Verdict) → told_compared r ≡ said remainders x → r ≡ compared_of x
one-compared {r} x e = enum_told r ∙ ap enum_of e ∙ enum-said x

pub is-compared : {x : Reply Verdict} {r : Compared} {p p' : List ℕ} {w w' : Work} → Compares x r p p' w w' → r ≡ compared_of x
is-compared {x} h = one-compared x h.answer

-- two codes side by side: one in the first k words of l, the other behind it
pub record Sides (k : ℕ) (l : List ℕ) : Type 0 where
  pub inside : k ≤ length l
  pub left : Coded 0 (take k l)
  pub right : Coded 0 (drop k l)

-- the difference of the two forms
unfoldable pub gap_of : ℕ → List ℕ → Form (Leaf 0)
gap_of k l = sum_of 0 (dec 0 (take k l)) (negate_of 0 (dec 0 (drop k l)))

-- two tables with room for n words each, where a node's word can say so much
pub record Rooms (n b c : ℕ) : Type 0 where
  pub first : n ≤ b
  pub second : n ≤ c
  pub first_small : b ≤ 33554432
  pub second-small : c ≤ 33554432

-- two forms of at most 3,073 words each, and three tables of the fixed length or more
pub record Wide (n a b c : ℕ) : Type 0 where
  pub forms : n ≤ 6146
  pub first : table ≤ a
  pub second : table ≤ b
  pub third : table ≤ c

-- two runs side by side in the first e words of d, one in the first k: the difference of their forms has a first point in n variables
pub record Parting (n k e : ℕ) (d : List ℕ) : Type 0 where
  pub runs : Paired n k e d
  pub ready : Ready n (sum_of 0 (form_at n 0 (take k (take e d))) (negate_of 0 (form_at n 0 (drop k (take e d)))))

-- the answer and the point buffer, of the forms x and y over n variables, which are not the same
pub record Parted (n : ℕ) (x y : Form (Leaf 0)) (r : Compared) (p p' : List ℕ) : Type 0 where
  pub answer : let N = point_of n (sum_of 0 x (negate_of 0 y)) in r ≡ Ok (Different (value_of 0 x N) (value_of 0 y N))
  pub point : p' ≡ point_of n (sum_of 0 x (negate_of 0 y)) ++ drop n p

-- ---- two runs side by side in the first e words of d, one in the first k
-- they are one word list, or they part
pub record Beside (n k e : ℕ) (d : List ℕ) : Type 0 where
  pub left : k ≤ e
  pub inside : e ≤ length d
  pub parting : (take k (take e d) ≡ drop k (take e d) → ⊥) → Parting n k e d

pub record Told (n k e : ℕ) (d : List ℕ) (r : Compared) (p p' : List ℕ) : Type 0 where
  pub same : take k (take e d) ≡ drop k (take e d) → (r ≡ Ok Same) × (p' ≡ p)
  pub parted :
      (take k (take e d) ≡ drop k (take e d) → ⊥) → Parted n (form_at n 0 (take k (take e d))) (form_at n 0 (drop k (take e d))) r p p'
