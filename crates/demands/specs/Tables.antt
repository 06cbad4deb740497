-- "Work tables hold only zeros, over their whole lent length, after every call, except that 1 and 2 touch nothing": they are as they were
-- exactly where 1 or 2 is refused, which no text, width, point or result is.
use Rattle.std.specs.Prelude.{Bool, true, false, cond, ◌&&◌, List, ◌≡◌, refl, ℕ, eqb, leb, ℤ, length}
use Rattle.std.proofs.Common.{ap, arith}
use Rattle.horner.specs.definitions.Form.{sum, prod}
use Rattle.horner.specs.definitions.Rings.{ℤ_ring}
use Rattle.text.specs.definitions.Bytes.{is_row}
use Rattle.reply.specs.definitions.Calls.{form_reply, remainder_reply, negate_reply, add_reply, multiply_reply, raise_reply, form_remainder_reply}
use Rattle.reply.specs.definitions.Calls.{compare_reply, counters_reply, remainder_of, form_remainder_of, counters_of, is_width, of_sum, of_product}
use Rattle.reply.specs.definitions.Calls.{form_of, negate_of, two_of, raise_of, compare_of}
use Rattle.reply.specs.definitions.Reply.{Reply, gives, asked, enough, Work, lengths, cleared, untouched, work_after}
use Rattle.book.specs.definitions.Book.{printed, print_reply}
use Rattle.door.specs.laws.Ending.{asked-clears}
use Rattle.door_forms.specs.laws.Two.{two-clears}
use Rattle.call_form.specs.laws.Form.{form-clears}
use Rattle.call_negate.specs.laws.Negate.{negate-clears}
use Rattle.call_raise.specs.laws.Raise.{raise-clears}
use Rattle.call_remainder.specs.laws.Remainder as T
use Rattle.call_form_remainder.specs.laws.Remainder as F
use Rattle.call_compare.specs.laws.Whole.{compare-clears}
use Rattle.call_counters.specs.laws.Whole.{counters-clears}

-- zeros where the tests pass, else as they were
abbrev pub zeroed : Bool → Work → Work
zeroed b w = cond b (cleared w) w

module _ {A : Type 0} (k : Unit {0} → Reply A) (w : Work) (h : untouched (k tt) ≡ false) where
  behind-point : (a b c : Bool) → work_after (asked a 1 (λ u. asked b 2 (λ v. asked c 2 k))) w ≡ zeroed (a && b && c) w
  behind-point true true true = ap (λ b. cond b w (cleared w)) h
  behind-point true true false = refl
  behind-point true false c = refl
  behind-point false b c = refl

  behind-door : (a b : Bool) → work_after (asked a 1 (λ u. asked b 2 k)) w ≡ zeroed (a && b) w
  behind-door true true = ap (λ b. cond b w (cleared w)) h
  behind-door true false = refl
  behind-door false b = refl

module _ (row s t : List ℕ) (n : ℕ) (N : List ℤ) (w : Work) where
  pub form-tables : work_after (form_reply row (lengths w) s n) w ≡ zeroed (is_row row && enough (lengths w)) w
  unfolding form_reply
  form-tables = behind-door (λ u. form_of row s n) w (form-clears row (lengths w) s n) (is_row row) (enough (lengths w))

  pub negate-tables : work_after (negate_reply row (lengths w) s n) w ≡ zeroed (is_row row && enough (lengths w)) w
  unfolding negate_reply
  negate-tables = behind-door (λ u. negate_of row s n) w (negate-clears row (lengths w) s n) (is_row row) (enough (lengths w))

  pub raise-tables : (k : ℕ) → work_after (raise_reply row (lengths w) s k n) w ≡ zeroed (is_row row && enough (lengths w)) w
  unfolding raise_reply
  raise-tables k = behind-door (λ u. raise_of row s k n) w (raise-clears row s k n) (is_row row) (enough (lengths w))

  pub add-tables : work_after (add_reply row (lengths w) s t n) w ≡ zeroed (is_row row && enough (lengths w)) w
  unfolding add_reply
  add-tables =
      behind-door (λ u. two_of (of_sum (length row)) (sum ℤ_ring) row s t n) w (two-clears (of_sum (length row)) (sum ℤ_ring) row s t n)
      (is_row row) (enough (lengths w))

  pub multiply-tables : work_after (multiply_reply row (lengths w) s t n) w ≡ zeroed (is_row row && enough (lengths w)) w
  unfolding multiply_reply
  multiply-tables =
      behind-door (λ u. two_of (of_product (length row)) (prod ℤ_ring) row s t n) w
      (two-clears (of_product (length row)) (prod ℤ_ring) row s t n) (is_row row) (enough (lengths w))

  pub remainder-tables : work_after (remainder_reply row (lengths w) s N) w ≡ zeroed (is_row row && enough (lengths w)) w
  unfolding remainder_reply
  remainder-tables =
      behind-door (λ u. asked (eqb (length N) (length row)) 12 (λ v. remainder_of row s N)) w
      (asked-clears (eqb (length N) (length row)) 12 (λ v. remainder_of row s N) (omega arith) (T.remainder-clears row (lengths w) s N))
      (is_row row) (enough (lengths w))

  pub form-remainder-tables : work_after (form_remainder_reply row (lengths w) s N) w ≡ zeroed (is_row row && enough (lengths w)) w
  unfolding form_remainder_reply
  form-remainder-tables =
      behind-door (λ u. asked (eqb (length N) (length row)) 12 (λ v. form_remainder_of row s N)) w
      (asked-clears (eqb (length N) (length row)) 12 (λ v. form_remainder_of row s N) (omega arith)
      (F.remainder-clears row (lengths w) s N)) (is_row row) (enough (lengths w))

  pub counters-tables : (v : ℕ) → work_after (counters_reply row (lengths w) v s t) w ≡ zeroed (is_row row && enough (lengths w)) w
  unfolding counters_reply
  counters-tables v =
      behind-door (λ u. asked (is_width v) 14 (λ x. counters_of row v s t)) w
      (asked-clears (is_width v) 14 (λ x. counters_of row v s t) (omega arith) (counters-clears row (lengths w) v s t)) (is_row row)
      (enough (lengths w))

  -- "2: .. point buffer under the row's length", which has k numbers
  pub compare-tables :
      (k : ℕ) → work_after (compare_reply row (lengths w) k s t) w ≡ zeroed (is_row row && enough (lengths w) && leb (length row) k) w
  unfolding compare_reply
  compare-tables k =
      behind-point (λ u. compare_of row s t) w (compare-clears row s t) (is_row row) (enough (lengths w)) (leb (length row) k)

-- a book has its row in itself
pub print-tables : (book : List ℕ) (n : ℕ) (w : Work) → work_after (print_reply (lengths w) book n) w ≡ zeroed (enough (lengths w)) w
unfolding print_reply
print-tables book n w = at (enough (lengths w)) (leb (length (printed book)) n)
  where
    at : (a b : Bool) → work_after (asked a 2 (λ u. asked b 11 (λ v. gives (printed book)))) w ≡ zeroed a w
    at true true = refl
    at true false = refl
    at false b = refl
