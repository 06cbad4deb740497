-- The whole answer, and the call.
use Rattle.std.specs.Prelude.{Result, Ok, Err, true, false, List, ◌++◌, ◌≡◌, refl, ℕ, ◌<◌, ◌≤◌, length, take, drop}
use Rattle.std.proofs.Common.{sym, ap₂, ◌∙◌, arith, le-leb, take_at}
use Rattle.std.proofs.Math.Path.{ap}
use Rattle.std.proofs.lemmas.Bool.{lt-leb}
use Rattle.refusal.specs.Refusal.{of_neither}
use Rattle.refusal.specs.declared.Fault.{Fault}
use Rattle.text.specs.definitions.Bytes.{Reading, read, refused}
use Rattle.reply.specs.definitions.Reply.{Reply, gives, refuses, asked, enough, fitted, work, Writes}
use Rattle.book.specs.definitions.Book.{Book, read_book, answer, printed, print_reply}
use Rattle.form_write.specs.Write.{Wrote}
use Rattle.door.specs.laws.Ending.{Zeros}
use Rattle.door_result.specs.laws.Whole.{refused-whole, answered-whole}
use Rattle.book_read.specs.Heads.{head_of}
use Rattle.book_line.specs.Lines.{refusal_text}
use Rattle.book_line.specs.laws.Texts.{refusal_is}

pub refused-text : (book : List ℕ) {h : Result (Unit {0}) Fault} {bad : Fault} → h ≡ head_of (read_book book) → h ≡ Err bad → refusal_text bad ≡ printed book
unfolding printed
refused-text book {h} {bad} a b = refusal_is bad ∙ ap answer (sym (go (read_book book) (sym a ∙ b)))
  where
    go : (x : Reading Book) → head_of x ≡ Err bad → x ≡ refused bad
    go (read k) c = let z : ◌≡◌ {A = ℕ} 0 1 = cc in absurd (omega arith)
    go (refused worse) c = cc

-- ---- the reply
module _ (ts book : List ℕ) (n : ℕ) where
  pub reply-2 : enough ts ≡ false → print_reply ts book n ≡ refuses (of_neither 2)
  unfolding print_reply
  reply-2 h = ap (λ b. asked b 2 (λ u. fitted n (printed book))) h

  reply-fitted : enough ts ≡ true → print_reply ts book n ≡ fitted n (printed book)
  unfolding print_reply
  reply-fitted h = ap (λ b. asked b 2 (λ u. fitted n (printed book))) h

  pub reply-11 : enough ts ≡ true → n < length (printed book) → print_reply ts book n ≡ refuses (of_neither 11)
  reply-11 h l = reply-fitted h ∙ ap (λ b. asked b 11 (λ u. gives (printed book))) (lt-leb (length (printed book)) n l)

  pub reply-text : enough ts ≡ true → length (printed book) ≤ n → print_reply ts book n ≡ gives (printed book)
  reply-text h l = reply-fitted h ∙ ap (λ b. asked b 11 (λ u. gives (printed book))) (le-leb (length (printed book)) n l)

-- ---- the answer, the result buffer and the tables
module _ (x : Reply (List ℕ)) (o a b c d : List ℕ) where
  pub whole-2 : x ≡ refuses (of_neither 2) → Writes x (Err (of_neither 2)) o o (work a b c d) (work a b c d)
  whole-2 k = refused-whole x o a b c d (omega arith) k

  module _ {a' b' c' d' : List ℕ} (z : Zeros a b c d a' b' c' d') where
    pub whole-11 : x ≡ refuses (of_neither 11) → Writes x (Err (of_neither 11)) o o (work a b c d) (work a' b' c' d')
    whole-11 k = answered-whole x (refuses (of_neither 11)) o a b c d k refl refl refl z

    pub whole-text :
        {n r : ℕ} {w v o' : List ℕ} → x ≡ gives w → n ≡ length w → v ≡ w → Wrote r v o o' →
        Writes x (Ok n) o o' (work a b c d) (work a' b' c' d')
    whole-text {w = w} k e f g =
        answered-whole x (gives w) o a b c d k refl (ap Ok e) (g.is ∙ ap₂ (λ u m. u ++ drop m o) f (g.size ∙ ap length f)) z

-- the text that was written in front
pub front : {n : ℕ} {w old new : List ℕ} → Wrote n w old new → take n new ≡ w
front {n} {w} {old} h = ap (take n) h.is ∙ take_at w (drop n old) n (sym h.size)
