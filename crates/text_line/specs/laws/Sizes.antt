-- How many bytes numerals take, and lists of numbers one behind the other.
use Rattle.std.specs.Prelude.{List, [], ◌∷◌, ◌++◌, ◌≡◌, refl, ℕ, ◌+◌, ◌<◌, ◌≤◌, length, take, get_or}
use Rattle.std.proofs.Common.{append_assoc, append-nil, sym, ap, ◌∙◌, add-one, arith, take-suc}
use Rattle.text_laws.specs.laws.Length.{decimal-length}
use Rattle.form_write.specs.Write.{numeral}
use Rattle.text_line.specs.Line.{numbers_text}

-- of a number of 64 bits, and of 32
pub numeral-20 : (n : ℕ) → n < 18446744073709551616 → length (numeral n) ≤ 20
numeral-20 n h = decimal-length 19 n (omega arith)

pub numeral-10 : (n : ℕ) → n < 4294967296 → length (numeral n) ≤ 10
numeral-10 n h = decimal-length 9 n (omega arith)

-- ---- lists of numbers
numbers-append : (xs ys : List ℕ) → numbers_text (xs ++ ys) ≡ numbers_text xs ++ numbers_text ys
numbers-append [] ys = refl
numbers-append (x ∷ xs) ys =
    ap (λ l. (32 ∷ numeral x) ++ l) (numbers-append xs ys) ∙ sym (append_assoc (32 ∷ numeral x) (numbers_text xs) (numbers_text ys))

-- one number more
pub numbers_on : (l : List ℕ) (i : ℕ) → i < length l → numbers_text (take i l) ++ (32 ∷ numeral (get_or l i 0)) ≡ numbers_text (take (i + 1) l)
numbers_on l i h =
    ap (λ k. numbers_text (take i l) ++ k) (sym (append-nil (32 ∷ numeral (get_or l i 0))))
    ∙ sym (numbers-append (take i l) (get_or l i 0 ∷ []))
    ∙ ap numbers_text (sym (take-suc l i 0 h) ∙ ap (λ k. take k l) (sym (add-one i)))
