-- The line of a call whose result text was lent the bytes 5 to 65,540 of the buffer.
use Rattle.std.specs.Prelude.{Bool, true, false, List, ◌++◌, ◌≡◌, refl, ℕ, ◌+◌, ◌≤◌, length, take, drop, leb}
use Rattle.std.proofs.Common.{append_assoc, sym, ap, subst, ◌∙◌, arith, take-append-drop, length-drop, length-append, drop_at, drop-drop, length-take-le, leb-true}
use Rattle.std.proofs.lemmas.List.{drop-append-le}
use borrow.Rule.Slice.PartMut.{put_mid, put_same}
use Rattle.refusal.specs.declared.Side.{Side}
use Rattle.text.specs.definitions.Bytes.{Reading, read, refused, bytes}
use Rattle.form_write.specs.Write.{Wrote}
use Rattle.reply.specs.definitions.Reply.{Written, Reply, gives, refuses, asked, read_as, fitted, result_after}
use Rattle.door_result.specs.Result.{written_of}
use Rattle.desk_reply.specs.Reply.{room, result_text, LineFits, Replied}

-- ---- a result text is no longer than what was lent
abbrev pub Within : ℕ → Reply (List ℕ) → Type 0
Within n (gives w) = length w ≤ n
Within n (refuses bad) = Unit {0}

pub within-asked : (n : ℕ) (b : Bool) (e : ℕ) (r : Unit {0} → Reply (List ℕ)) → ((u : Unit {0}) → Within n (r u)) → Within n (asked b e r)
within-asked n true e r h = h tt
within-asked n false e r h = tt

pub within-read :
    {A : Type 0} (n : ℕ) (s : Side) (x : Reading A) (r : A → Reply (List ℕ)) → ((a : A) → Within n (r a)) → Within n (read_as s x r)
within-read n s (refused bad) r h = tt
within-read n s (read a) r h = h a

pub within-fitted : (n : ℕ) (w : List ℕ) → Within n (fitted n w)
within-fitted n w = at (leb (length w) n) refl
  where
    at : (b : Bool) → leb (length w) n ≡ b → Within n (asked b 11 (λ u. gives w))
    at true e = leb-true (length w) n e
    at false e = tt

-- so there is room for its line
pub room_for : (x : Reply (List ℕ)) (k : ℕ) → Within 65535 x → room ≤ k → LineFits (written_of x) k
room_for (gives w) k h l = (omega arith, omega arith)
room_for (refuses bad) k h l = omega arith

-- ---- the line
module _ (old : List ℕ) (long : room ≤ length old) where
  over-rest : (k : ℕ) → k ≤ 65535 → drop k (take 65535 (drop 5 old)) ++ drop 65535 (drop 5 old) ≡ drop (5 + k) old
  over-rest k h =
      sym (drop-append-le k (take 65535 (drop 5 old)) (drop 65535 (drop 5 old))
      (omega (arith, length-take-le 65535 (drop 5 old) (omega (arith, length-drop 5 old)))))
      ∙ ap (drop k) (take-append-drop 65535 (drop 5 old)) ∙ drop-drop k 5 old

  -- the text w, through the part
  behind :
      (w : List ℕ) → length w ≤ 65535 →
      drop 5 (put_mid 5 65535 old (w ++ drop (length w) (take 65535 (drop 5 old)))) ≡ w ++ drop (5 + length w) old
  behind w h =
      drop_at (take 5 old) _ 5 (length-take-le 5 old (omega arith))
      ∙ append_assoc w (drop (length w) (take 65535 (drop 5 old))) (drop 65535 (drop 5 old))
      ∙ ap (λ l. w ++ l) (over-rest (length w) h)

  pub replied :
      (x : Reply (List ℕ)) → Within 65535 x → {r : ℕ} {e new : List ℕ} → e ≡ result_after x (take 65535 (drop 5 old)) → Replied
      (written_of x) r (put_mid 5 65535 old e) new →
      Wrote r (result_text x) old new
  replied (gives w) h {r} {e} {new} q p = record {
    size = omega (arith, p.0, length-append (bytes "FORM ") w);
    fits = omega (arith, p.0);
    is =
        p.1.is
        ∙ ap (λ l. bytes "FORM " ++ l) (ap (λ l. drop 5 (put_mid 5 65535 old l)) q ∙ behind w h)
        ∙ sym (append_assoc (bytes "FORM ") w (drop (5 + length w) old))
        ∙ ap (λ k. (bytes "FORM " ++ w) ++ drop k old) (sym p.0);
  }
  replied (refuses bad) h {r} {e} {new} q p =
      subst (λ l. Wrote r (result_text (refuses bad)) l new) (ap (put_mid 5 65535 old) q ∙ put_same 5 65535 old) p

-- ---- a call f that is lent the bytes 5 to 65,540, and the line of its answer
module _ (old : List ℕ) (long : room ≤ length old) (f : ℕ → Reply (List ℕ)) (within : (n : ℕ) → Within n (f n)) where
  lent-all : f (length (take 65535 (drop 5 old))) ≡ f 65535
  lent-all = ap f (length-take-le 65535 (drop 5 old) (omega (arith, length-drop 5 old)))

  pub text-room : {x : Written} {k : ℕ} → x ≡ written_of (f (length (take 65535 (drop 5 old)))) → k ≡ length old → LineFits x k
  text-room {x} {k} a l = subst (λ z. LineFits z k) (sym (a ∙ ap written_of lent-all)) (room_for (f 65535) k (within 65535) (omega arith))

  pub text-line :
      {x : Written} {r : ℕ} {e new : List ℕ} →
      x ≡ written_of (f (length (take 65535 (drop 5 old)))) → e ≡ result_after (f (length (take 65535 (drop 5 old))))
      (take 65535 (drop 5 old)) →
      Replied x r (put_mid 5 65535 old e) new → Wrote r (result_text (f 65535)) old new
  text-line {x} {r} {e} {new} a b p =
      replied old long (f 65535) (within 65535) (b ∙ ap (λ z. result_after z (take 65535 (drop 5 old))) lent-all)
      (subst (λ z. Replied z r (put_mid 5 65535 old e) new) (a ∙ ap written_of lent-all) p)
