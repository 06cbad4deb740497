-- The whole of a call with a result text: refused 1 or 2 at the door, or answered and the tables cleared.
use Rattle.std.specs.Prelude.{Err, false, List, ◌≡◌, ℕ, ◌≤◌, length}
use Rattle.std.proofs.Common.{sym, ap, ◌∙◌}
use Rattle.refusal.specs.declared.Refusal.{Refusal}
use Rattle.reply.specs.definitions.Reply.{Written, Reply, refuses, said, work, result_after, untouched, told, Writes}
use Rattle.door.specs.laws.Ending.{tables-kept, Zeros, tables-cleared}
use Rattle.door_result.specs.Result.{written_of, tells-written}

pub refused-whole : (x : Reply (List ℕ)) {bad : Refusal} (res a b c d : List ℕ) → bad.number ≤ 2 → x ≡ refuses bad
    → Writes x (Err bad) res res (work a b c d) (work a b c d)
refused-whole x res a b c d l k =
    record { answer = ap (said length) (sym k); result = ap (λ z. result_after z res) (sym k); tables = tables-kept x (work a b c d) k l }

pub answered-whole :
    (x y : Reply (List ℕ)) {r : Written} (res a b c d : List ℕ) {res' a' b' c' d' : List ℕ} → x ≡ y → untouched y ≡ false →
    r ≡ written_of y
    → res' ≡ result_after y res → Zeros a b c d a' b' c' d' → Writes x r res res' (work a b c d) (work a' b' c' d')
answered-whole x y res a b c d h u i j z =
    record {
      answer = ap told i ∙ tells-written y ∙ ap (said length) (sym h);
      result = j ∙ ap (λ k. result_after k res) (sym h);
      tables = tables-cleared x a b c d (ap untouched h ∙ u) z;
    }
