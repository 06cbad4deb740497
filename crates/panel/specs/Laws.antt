-- The struct of what a call answers is that of its reply.
use Rattle.reply.specs.declared.Comparison.TheVariants.{Same, Different}
use Rattle.std.specs.Prelude.{Ok, Err, List, ◌≡◌, refl, ℕ}
use Rattle.std.proofs.Common.{ap, ◌∙◌}
use Rattle.door_compare.specs.Compare.{compared_of, is-compared}
use Rattle.door_point.specs.Point.{remaindered_of, is-remainder}
use Rattle.door_result.specs.Result.{written_of, is-written}
use Rattle.reply.specs.definitions.Calls.{Compared, Verdict, equal, different, Compares}
use Rattle.reply.specs.definitions.Reply.{Remaindered, Written, Reply, gives, refuses, Work, Writes, Remainders}
use Rattle.panel.specs.Panel.{refusal_answer, compare_answer, form_answer, remainder_answer}
use Rattle.panel.specs.declared.PanelAnswer.{PanelAnswer}

abbrev pub of_compared : Compared → PanelAnswer
of_compared (Ok Same) = record { kind = 0; number = 0; side = 0; left = 0; right = 0; place = 0 }
of_compared (Ok (Different l r)) = record { kind = 1; number = 0; side = 0; left = l; right = r; place = 0 }
of_compared (Err bad) = refusal_answer bad

compared-answer : (x : Reply Verdict) → of_compared (compared_of x) ≡ compare_answer x
compared-answer (gives equal) = refl
compared-answer (gives (different N l r)) = refl
compared-answer (refuses bad) = refl

pub compared_is :
    {x : Reply Verdict} {r : Compared} {p p' : List ℕ} {w w' : Work} → Compares x r p p' w w' → of_compared r ≡ compare_answer x
compared_is {x} h = ap of_compared (is-compared h) ∙ compared-answer x

abbrev pub of_written : Written → PanelAnswer
of_written (Ok n) = record { kind = 0; number = 0; side = 0; left = 0; right = 0; place = n }
of_written (Err bad) = refusal_answer bad

written-answer : (x : Reply (List ℕ)) → of_written (written_of x) ≡ form_answer x
written-answer (gives w) = refl
written-answer (refuses bad) = refl

pub written_is : {x : Reply (List ℕ)} {r : Written} {b b' : List ℕ} {w w' : Work} → Writes x r b b' w w' → of_written r ≡ form_answer x
written_is {x} h = ap of_written (is-written h) ∙ written-answer x

abbrev pub of_remaindered : Remaindered → PanelAnswer
of_remaindered (Ok n) = record { kind = 0; number = 0; side = 0; left = n; right = 0; place = 0 }
of_remaindered (Err bad) = refusal_answer bad

remaindered-answer : (x : Reply ℕ) → of_remaindered (remaindered_of x) ≡ remainder_answer x
remaindered-answer (gives n) = refl
remaindered-answer (refuses bad) = refl

pub remaindered-is : {x : Reply ℕ} {r : Remaindered} {w w' : Work} → Remainders x r w w' → of_remaindered r ≡ remainder_answer x
remaindered-is {x} h = ap of_remaindered (is-remainder h) ∙ remaindered-answer x
