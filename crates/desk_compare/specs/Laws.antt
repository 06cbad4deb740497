-- The point that is printed is the reply's, and the answers by the tests that the code makes.
use Rattle.std.specs.Prelude.{Option, Some, Bool, true, false, List, ◌++◌, ◌≡◌, ℕ, ◌≤◌, min, leb, length, take, drop}
use Rattle.std.proofs.Math.Path.{refl}
use Rattle.std.proofs.Common.{sym, ap, ◌∙◌, arith, take_at, leb-true}
use Rattle.text.specs.definitions.Bytes.{is_row}
use Rattle.reply.specs.definitions.Calls.{Compared, Verdict, compare_of, compare_reply, point_after, counters_reply}
use Rattle.reply.specs.definitions.Reply.{Counted, Reply, gives, refuses, enough, asked}
use Rattle.desk_field.specs.Fields.{field_of, count_of, natural_of}
use Rattle.text_line.specs.Line.{different_text}
use Rattle.desk_reply.specs.Reply.{wrong_text}
use Rattle.desk_serve.specs.Laws.{counted_is, counted-not, three-fields, numbered_is}
use Rattle.door_compare.specs.Compare.{compared_of}
use Rattle.door_compare.specs.laws.Sized.{Sized, alike, apart, refusal, compare-sized}
use Rattle.call_counters.specs.Counters.{counted_of}
use Rattle.desk_compare.specs.Compare.{compared_text, compared_line, compare_line, counted_text, counted_line, counters_by, counters_line}

-- ---- compare
-- the first n numbers of the point buffer are the point
sized-line :
    {n : ℕ} {x : Reply Verdict} (p : List ℕ) → Sized n x → n ≤ 4 →
    compared_line (compared_of x) (take (min n 4) (point_after x p)) ≡ compared_text x
sized-line p alike h = refl
sized-line {n} p (apart {N} {l} {r} e) h =
    let k : min n 4 ≡ n = omega arith in
    ap (λ z. different_text z l r) (ap (λ m. take m (N ++ drop (length N) p)) k ∙ take_at N (drop (length N) p) n e)
sized-line p refusal h = refl

module _ (row tables s t p : List ℕ) where
  abbrev replied : Bool → Bool → Bool → Reply Verdict
  replied a b c = asked a 1 (λ u. asked b 2 (λ v. asked c 2 (λ w. compare_of row s t)))

  by_tests :
      (a b c : Bool) → leb (length row) 4 ≡ c →
      compared_line (compared_of (replied a b c)) (take (min (length row) 4) (point_after (replied a b c) p)) ≡ compared_text (replied a b c)
  by_tests false b c e = refl
  by_tests true false c e = refl
  by_tests true true false e = refl
  by_tests true true true e = sized-line p (compare-sized row s t) (leb-true (length row) 4 e)

  compared_is :
      compared_line (compared_of (compare_reply row tables 4 s t)) (take (min (length row) 4) (point_after (compare_reply row tables 4 s t) p))
      ≡ compared_text (compare_reply row tables 4 s t)
  unfolding compare_reply
  compared_is = by_tests (is_row row) (enough tables) (leb (length row) 4) refl

-- x is the call's answer, q the point buffer behind it, p before it, and m how many of its numbers are printed
pub compare-fields :
    (tables line p : List ℕ) {n m : ℕ} {row s t q : List ℕ} {x : Compared} →
    n ≡ count_of line → n ≡ 4 → row ≡ field_of line 1 → s ≡ field_of line 2 → t ≡ field_of line 3 → m ≡ min (length row) 4 →
    x ≡ compared_of (compare_reply row tables 4 s t) → q ≡ point_after (compare_reply row tables 4 s t) p →
    compared_line x (take m q) ≡ compare_line tables line
compare-fields tables line p {n} {m} {row} {s} {t} {q} {x} is h r i j k a b =
    ap (λ z. compared_line z (take m q)) a
    ∙ ap (λ z. compared_line (compared_of (compare_reply row tables 4 s t)) (take m z)) b
    ∙ ap (λ z. compared_line (compared_of (compare_reply row tables 4 s t)) (take z (point_after (compare_reply row tables 4 s t) p))) k
    ∙ compared_is row tables s t p
    ∙ three-fields 4 line is h r i j (λ u v w. compared_text (compare_reply u tables 4 v w))

-- ---- counters, where field 2 is the number w
counted-line : (x : Reply Bool) → counted_line (counted_of x) ≡ counted_text x
counted-line (gives true) = refl
counted-line (gives false) = refl
counted-line (refuses bad) = refl

module _ (tables line : List ℕ) {n w : ℕ} {field : List ℕ} {x : Option ℕ} (is : n ≡ count_of line) (there : 3 ≤ n)
    (read : x ≡ natural_of field) (at : field ≡ field_of line 2) (known : x ≡ Some w) where
  counters-is : counters_by tables line w ≡ counters_line tables line
  counters-is = numbered_is 2 line (counters_by tables line) is there read at known

  pub counters-miscounted : (n ≡ 5 → ⊥) → wrong_text (min n 5) ≡ counters_line tables line
  counters-miscounted h =
      counted-not 5 line (counted_text (counters_reply (field_of line 1) tables w (field_of line 3) (field_of line 4))) is h ∙ counters-is

  pub counters-fields :
      {row s t : List ℕ} {y : Counted} → n ≡ 5 → row ≡ field_of line 1 → s ≡ field_of line 3 → t ≡ field_of line 4 →
      y ≡ counted_of (counters_reply row tables w s t) → counted_line y ≡ counters_line tables line
  counters-fields {row} {s} {t} h r i j a =
      ap counted_line a
      ∙ counted-line (counters_reply row tables w s t)
      ∙ ap (λ v. counted_text (counters_reply v tables w s t)) r
      ∙ ap (λ v. counted_text (counters_reply (field_of line 1) tables w v t)) i
      ∙ ap (λ v. counted_text (counters_reply (field_of line 1) tables w (field_of line 3) v)) j
      ∙ counted_is 5 line (counted_text (counters_reply (field_of line 1) tables w (field_of line 3) (field_of line 4))) (sym is ∙ h)
      ∙ counters-is
