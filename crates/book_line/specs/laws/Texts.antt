-- The lines as they are written are the printer's.
use Rattle.std.specs.Prelude.{List, [], ◌∷◌, ◌++◌, ◌≡◌, refl, ℕ, length, take, drop}
use Rattle.std.proofs.Common.{append_assoc, sym, ap, ◌∙◌, take_at}
use Rattle.refusal.specs.Refusal.{fault, on_side}
use Rattle.refusal.specs.declared.Fault.{Fault}
use Rattle.refusal.specs.declared.Side.{Side}
use Rattle.refusal.specs.declared.Side.TheVariants.{Left, Right, Neither}
use Rattle.text.specs.definitions.Bytes.{bytes, decimal}
use Rattle.reply.specs.definitions.Calls.{Verdict, different, compare_of, point_after}
use Rattle.reply.specs.definitions.Reply.{Reply, gives, refuses}
use Rattle.book.specs.definitions.Book.{line, numbers, verdict, entry_line}
use Rattle.text_line.specs.Line.{numbers_text, different_text}
use Rattle.door_compare.specs.Compare.{compared_of}
use Rattle.door_compare.specs.laws.Sized.{Sized, alike, apart, refusal, compare-sized}
use Rattle.book_line.specs.Lines.{entry_text, head_text, refusal_text}

-- ---- an entry's line
line-numbers :
    (f N : List ℕ) (l r : ℕ) →
    line (f ∷ (numbers N ++ (decimal l ∷ decimal r ∷ []))) ≡ f ++ (numbers_text N ++ ((32 ∷ decimal l) ++ ((32 ∷ decimal r) ++ (10 ∷ []))))
line-numbers f [] l r = refl
line-numbers f (x ∷ N) l r = ap (λ w. f ++ (32 ∷ w)) (line-numbers (decimal x) N l r ∙ sym (append_assoc (decimal x) (numbers_text N) _))

different-line : (N : List ℕ) (l r : ℕ) → different_text N l r ++ (10 ∷ []) ≡ line (verdict (gives (different N l r)))
different-line N l r =
    let said = bytes "DIFF" ++ numbers_text N in
    append_assoc (said ++ (32 ∷ decimal l)) (32 ∷ decimal r) (10 ∷ [])
    ∙ append_assoc said (32 ∷ decimal l) _
    ∙ append_assoc (bytes "DIFF") (numbers_text N) _
    ∙ sym (line-numbers (bytes "DIFF") N l r)

refused-line : (i : ℕ) (s : Side) (e p : ℕ) (N : List ℕ) → let bad =
    on_side s (fault e p) in entry_text i (compared_of (refuses bad)) N ≡ line (decimal i ∷ verdict (refuses bad))
unfolding entry_text
refused-line i Left e p N = simp append_assoc
refused-line i Right e p N = simp append_assoc
refused-line i Neither e p N = simp append_assoc

entry-sized :
    {n : ℕ} {x : Reply Verdict} (i : ℕ) (p : List ℕ) → Sized n x →
    entry_text i (compared_of x) (take n (point_after x p)) ≡ line (decimal i ∷ verdict x)
unfolding entry_text
entry-sized i p alike = append_assoc (decimal i) (32 ∷ []) (bytes "SAME\n")
entry-sized {n} i p (apart {N} {l} {r} h) =
    ap (λ z. entry_text i (compared_of (gives (different N l r))) z) (take_at N (drop (length N) p) n h)
    ∙ append_assoc (decimal i) (32 ∷ []) _
    ∙ ap (λ w. decimal i ++ (32 ∷ w)) (different-line N l r)
entry-sized {n} i b (refusal {bad}) = refused-line i bad.side bad.number bad.place (take n b)

pub entry-is : (row s t : List ℕ) (i : ℕ) (p : List ℕ) →
    entry_text i (compared_of (compare_of row s t)) (take (length row) (point_after (compare_of row s t) p)) ≡ entry_line row i s t
unfolding entry_line
entry-is row s t i p = entry-sized i p (compare-sized row s t)

-- ---- the other lines
pub head-is : (n m : ℕ) → head_text n m ≡ line (bytes "BOOK" ∷ decimal n ∷ decimal m ∷ [])
unfolding head_text
head-is n m = simp append_assoc

pub refusal_is :
    (bad : Fault) → refusal_text bad ≡ line (bytes "BOOK" ∷ bytes "REFUSED" ∷ decimal bad.number ∷ decimal bad.place ∷ [])
unfolding refusal_text
refusal_is bad = simp append_assoc
