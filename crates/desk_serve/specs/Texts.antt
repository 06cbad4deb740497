-- The line of a call with a result text, which was lent the bytes 5 to 65,540 of the buffer.
use Rattle.std.specs.Prelude.{List, ◌≡◌, ℕ, ◌≤◌, min, leb, length, take, drop}
use borrow.Rule.Slice.PartMut.{put_mid}
use Rattle.horner.specs.definitions.Measures.{box}
use Rattle.text.specs.definitions.Bytes.{all, is_row}
use Rattle.form_write.specs.Write.{Wrote}
use Rattle.form_write.specs.laws.Wrote.{wrote_as}
use Rattle.reply.specs.definitions.Reply.{Written, result_after, Reply, enough, opened}
use Rattle.reply.specs.definitions.Calls.{Measured, limited}
use Rattle.desk_field.specs.Fields.{field_of, count_of}
use Rattle.door_result.specs.Result.{written_of}
use Rattle.desk_reply.specs.Reply.{room, result_text, Replied}
use Rattle.desk_reply.specs.laws.Replies.{Within, within-asked, text-line}
use Rattle.desk_serve.specs.Serve.{counted}
use Rattle.desk_serve.specs.Laws.{two_fields, three-fields}

-- every call looks at the row and the tables first
pub within-opened :
    (row tables : List ℕ) (n : ℕ) (r : Unit {0} → Reply (List ℕ)) → ((u : Unit {0}) → Within n (r u)) → Within n (opened row tables r)
within-opened row tables n r h = within-asked n (is_row row) 1 _ (λ u. within-asked n (enough tables) 2 r h)

-- and the operations measure their results
pub within-limited : (n : ℕ) (m : Measured) (r : Unit {0} → Reply (List ℕ)) → ((u : Unit {0}) → Within n (r u)) → Within n (limited m r)
within-limited n m r h =
    within-asked n (all (λ d. leb d 63) m.powers) 8 _
    (λ u. within-asked n (leb m.heavy 1073741823) 9 _ (λ v. within-asked n (leb (min m.many (box m.powers)) 256) 10 r h))

-- f is the call by its texts; x is what it answered with, e what it left in the part that it was lent
module _ (line : List ℕ) {old new : List ℕ} {r : ℕ} (long : room ≤ length old) {n : ℕ} (is : n ≡ count_of line) {row s : List ℕ}
    (row_is : row ≡ field_of line 1) (s-is : s ≡ field_of line 2) where
  -- of a call on one text
  pub one-text :
      (f : List ℕ → List ℕ → ℕ → Reply (List ℕ)) → ((row s : List ℕ) (n : ℕ) → Within n (f row s n)) → n ≡ 3 → {x : Written} {e : List ℕ} →
      x ≡ written_of (f row s (length (take 65535 (drop 5 old)))) →
      e ≡ result_after (f row s (length (take 65535 (drop 5 old)))) (take 65535 (drop 5 old)) →
      Replied x r (put_mid 5 65535 old e) new → Wrote r (counted 3 line (result_text (f (field_of line 1) (field_of line 2) 65535))) old new
  one-text f within h a b p =
      wrote_as (text-line old long (f row s) (within row s) a b p) (two_fields 3 line is h row_is s-is (λ u v. result_text (f u v 65535)))

  -- of a call on two texts
  pub two-texts :
      {t : List ℕ} → t ≡ field_of line 3 →
      (f : List ℕ → List ℕ → List ℕ → ℕ → Reply (List ℕ)) → ((row s t : List ℕ) (n : ℕ) → Within n (f row s t n)) → n ≡ 4 →
      {x : Written} {e : List ℕ} →
      x ≡ written_of (f row s t (length (take 65535 (drop 5 old)))) →
      e ≡ result_after (f row s t (length (take 65535 (drop 5 old)))) (take 65535 (drop 5 old)) →
      Replied x r (put_mid 5 65535 old e) new → Wrote r
      (counted 4 line (result_text (f (field_of line 1) (field_of line 2) (field_of line 3) 65535))) old new
  two-texts {t} t-is f within h a b p =
      wrote_as (text-line old long (f row s t) (within row s t) a b p)
      (three-fields 4 line is h row_is s-is t-is (λ u v w. result_text (f u v w 65535)))
