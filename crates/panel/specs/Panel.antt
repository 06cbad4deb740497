-- What crosses to C: the struct of numbers for each reply, and the contracts of the three calls. An enum cannot cross.
use Rattle.std.specs.Prelude.{List, ◌≡◌, ℕ, ℤ, length}
use Rattle.refusal.specs.declared.Refusal.{Refusal}
use Rattle.refusal.specs.declared.Side.{Side}
use Rattle.refusal.specs.declared.Side.TheVariants.{Left, Right, Neither}
use Rattle.reply.specs.definitions.Calls.{Verdict, equal, different, compare_reply, point_after, form_reply, remainder_reply}
use Rattle.reply.specs.definitions.Reply.{Reply, gives, refuses, Work, lengths, result_after, work_after}
use Rattle.panel.specs.declared.PanelAnswer.{PanelAnswer}

-- "The refusal says left, right or neither"
abbrev pub side_number : Side → ℕ
side_number Left = 1
side_number Right = 2
side_number Neither = 0

abbrev pub refusal_answer : Refusal → PanelAnswer
refusal_answer bad = record { kind = 2; number = bad.number; side = side_number bad.side; left = 0; right = 0; place = bad.place }

abbrev pub compare_answer : Reply Verdict → PanelAnswer
compare_answer (gives equal) = record { kind = 0; number = 0; side = 0; left = 0; right = 0; place = 0 }
compare_answer (gives (different N l r)) = record { kind = 1; number = 0; side = 0; left = l; right = r; place = 0 }
compare_answer (refuses bad) = refusal_answer bad

abbrev pub form_answer : Reply (List ℕ) → PanelAnswer
form_answer (gives w) = record { kind = 0; number = 0; side = 0; left = 0; right = 0; place = length w }
form_answer (refuses bad) = refusal_answer bad

abbrev pub remainder_answer : Reply ℕ → PanelAnswer
remainder_answer (gives n) = record { kind = 0; number = 0; side = 0; left = n; right = 0; place = 0 }
remainder_answer (refuses bad) = refusal_answer bad

-- ---- the contracts: the answer, and what every lent buffer then holds
pub record PanelCompares (x : Reply Verdict) (r : PanelAnswer) (p p' : List ℕ) (w w' : Work) : Type 0 where
  pub answer : r ≡ compare_answer x
  pub point : p' ≡ point_after x p
  pub tables : w' ≡ work_after x w

abbrev pub PanelCompareCall : (row s t : List ℕ) (r : PanelAnswer) (p p' : List ℕ) (w w' : Work) → Type 0
PanelCompareCall row s t r p p' w w' = PanelCompares (compare_reply row (lengths w) (length p) s t) r p p' w w'

pub record PanelWrites (x : Reply (List ℕ)) (r : PanelAnswer) (b b' : List ℕ) (w w' : Work) : Type 0 where
  pub answer : r ≡ form_answer x
  pub result : b' ≡ result_after x b
  pub tables : w' ≡ work_after x w

abbrev pub PanelFormCall : (row s : List ℕ) (r : PanelAnswer) (b b' : List ℕ) (w w' : Work) → Type 0
PanelFormCall row s r b b' w w' = PanelWrites (form_reply row (lengths w) s (length b)) r b b' w w'

pub record PanelRemainders (x : Reply ℕ) (r : PanelAnswer) (w w' : Work) : Type 0 where
  pub answer : r ≡ remainder_answer x
  pub tables : w' ≡ work_after x w

abbrev pub PanelRemainderCall : (row s : List ℕ) (N : List ℤ) (r : PanelAnswer) (w w' : Work) → Type 0
PanelRemainderCall row s N r w w' = PanelRemainders (remainder_reply row (lengths w) s N) r w w'
