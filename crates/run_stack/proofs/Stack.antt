-- A run that is copied behind another one.
-- Assumes nothing.
use Rattle.std.proofs.Common.{refl, sym, ap, length-take-le, List, ◌++◌, ℕ, ◌+◌, ◌-◌, ◌≤◌, length}
use Rattle.std.proofs.Math.Path.{◌≡◌, ◌∙◌}
use Rattle.std.specs.Prelude.{take, drop}
use Rattle.std.proofs.lemmas.List.{take-append-le}
use Rattle.std.proofs.Math.Seq.{drop_at}
use borrow.Rule.Slice.PartMut.{put_mid, post_of, take_put}
use Rattle.code.specs.Coding.{Begins}
use Rattle.code.proofs.Lists.{begins-le, copied-front, front_of, behind}

-- e, which begins with l, of m words, is put back from a on
module _ (a m : ℕ) (d e : List ℕ) {l : List ℕ} (inside : a ≤ length d) (begins : Begins m l e) where
  pub put_front : take a (take (a + m) (put_mid a (length d - a) d e)) ≡ take a d
  put_front = front_of a m (put_mid a (length d - a) d e) ∙ take_put a (length d - a) d e inside

  pub put-behind : drop a (take (a + m) (put_mid a (length d - a) d e)) ≡ l
  put-behind =
      behind a m (put_mid a (length d - a) d e)
      ∙ ap (take m) (drop_at (take a d) (e ++ post_of a (length d - a) d) a (length-take-le a d inside))
      ∙ take-append-le m e (post_of a (length d - a) d) (begins-le begins)
      ∙ begins.is

-- e is what `copy` makes of the words of d from a on, with the first m words of o
module _ (a m : ℕ) (d o e : List ℕ) (inside : a ≤ length d) (full : m ≤ length o)
    (copied : e ≡ take m o ++ drop (length (take m o)) (take (length d - a) (drop a d))) where
  begun : Begins m (take m o) e
  begun =
      copied-front (drop (length (take m o)) (take (length d - a) (drop a d))) (record { size = sym (length-take-le m o full); is = refl }) copied

  pub kept-front : take a (take (a + m) (put_mid a (length d - a) d e)) ≡ take a d
  kept-front = put_front a m d e inside begun

  pub copied-behind : drop a (take (a + m) (put_mid a (length d - a) d e)) ≡ take m o
  copied-behind = put-behind a m d e inside begun
