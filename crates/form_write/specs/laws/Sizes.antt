-- How many bytes the texts take: a numeral at most 10, a leaf at most 11, a form at most 11 for each word of its code.
use Rattle.std.specs.Prelude.{List, [], ◌∷◌, Bool, true, false, ◌≡◌, refl, ℕ, zero, suc, ◌+◌, ◌-◌, ◌/◌, ◌%◌, ◌*◌, ◌^◌, ◌≤◌, ◌<◌, max, leb, length, get_or}
use Rattle.std.proofs.Common.{sym, ap, ◌∙◌, arith, leb-true, leb-false, length-append}
use Rattle.text_laws.specs.laws.Length.{decimal-length}
use Rattle.text_laws.specs.laws.Numerals.{decimal-short, decimal-long, short-or-long}
use Rattle.horner.specs.definitions.Form.{Form, int, pop, pow}
use Rattle.code.specs.Coding.{enc, dec, Good, Coded}
use Rattle.code.specs.Widths.{Leaf}
use Rattle.code.specs.laws.Codes.{codes-length}
use Rattle.code.specs.laws.Good.{good-pop, good-pow}
use Rattle.code.specs.laws.Parts.{inner, first, rest, PopAt, PowAt}
use Rattle.code.specs.laws.Widths.{leaf-of, leaf-below}
use Rattle.form_write.specs.Write.{text_of, numeral, leaf_text, head_text}
use Rattle.form_write.specs.laws.Texts.{leaf-plain, leaf-minus, text-pop, text-pow, text-pop-at, text-pow-at}

pub numeral-short : (n : ℕ) → n < 10 → length (numeral n) ≡ 1
numeral-short n h = ap length (decimal-short n h)

pub numeral-long : (n : ℕ) → 10 ≤ n → length (numeral n) ≡ length (numeral (n / 10)) + 1
numeral-long n h = ap length (decimal-long n h) ∙ length-append (numeral (n / 10)) ((48 + n % 10) ∷ [])

pub numeral-most : (n : ℕ) → n < 4294967296 → length (numeral n) ≤ 10
numeral-most n h = decimal-length 9 n (omega arith)

pub numeral-some : (n : ℕ) → 0 < length (numeral n)
numeral-some n = short-or-long n (0 < length (numeral n)) (λ s. omega (arith, numeral-short n s)) (λ l. omega (arith, numeral-long n l))

-- a power of ten has one digit more than its exponent
pub numeral_log : (k n : ℕ) → 10 ^ k ≤ n → n < 10 * 10 ^ k → length (numeral n) ≡ k + 1
numeral_log zero n l h = omega (arith, numeral-short n (omega arith))
numeral_log (suc k) n l h = omega (arith, numeral-long n (omega arith), numeral_log k (n / 10) (omega arith) (omega arith))

pub numeral_log_or_1 : (k n m : ℕ) → m ≡ max n 1 → 10 ^ k ≤ m → m < 10 * 10 ^ k → length (numeral n) ≡ k + 1
numeral_log_or_1 k zero m e l h =
    omega (arith, numeral-short 0 (omega arith), numeral-short 1 (omega arith), numeral_log k 1 (omega arith) (omega arith))
numeral_log_or_1 k (suc n) m e l h = numeral_log k (suc n) (omega arith) (omega arith)

pub head-length : (c i : ℕ) → length (head_text c i) ≡ length (numeral i) + 6
unfolding head_text
head-length c i = simp length-append (omega arith)

pub leaf-length-plain : (x : ℕ) → x ≤ 1073741823 → length (leaf_text x) ≡ length (numeral x)
leaf-length-plain x h = ap length (sym (leaf-plain x h))

pub leaf-length-minus : (x : ℕ) → 1073741823 < x → x < 2147483647 → length (leaf_text x) ≡ 1 + length (numeral (2147483647 - x))
leaf-length-minus x h l = ap length (sym (leaf-minus x h l)) ∙ length-append (45 ∷ []) (numeral (2147483647 - x))

pub pop-length :
    {l : List ℕ} → PopAt 0 l → length (text_of (dec 0 l)) ≡ length (head_text 80 (get_or l 0 0 % 64)) + length (text_of (dec 0 (inner l))) + 1
pop-length v = ap length (sym (text-pop-at v)) ∙ simp length-append

pub pow-length :
    {l : List ℕ} → PowAt 0 l →
    length (text_of (dec 0 l)) ≡ length (head_text 87 (get_or l 0 0 % 64)) + length (text_of (dec 0 (first l))) + 1 + length
    (text_of (dec 0 (rest l))) + 1
pow-length v = ap length (sym (text-pow-at v)) ∙ simp length-append

leaf-most : (x : ℕ) → x < 2147483647 → length (leaf_text x) ≤ 11
leaf-most x h = by-half (leb x 1073741823) refl
  where
    by-half : (b : Bool) → leb x 1073741823 ≡ b → length (leaf_text x) ≤ 11
    by-half true e = omega (arith, leaf-length-plain x (leb-true x 1073741823 e), numeral-most x (omega arith))
    by-half false e = omega (arith, leaf-length-minus x (leb-false x 1073741823 e) h, numeral-most (2147483647 - x) (omega arith))

text-most : (h : Form (Leaf 0)) → Good 0 h → length (text_of h) ≤ 11 * length (enc 0 h)
unfolding enc
text-most (int c) g = rw (← leaf-of 0 c) (omega (arith, leaf-most c.0 (leaf-below 0 c)))
text-most (pop i p) g =
    omega (
      arith,
      simp length-append at (ap length (text-pop i p)),
      head-length 80 i,
      decimal-length 0 i
          (omega (arith, (good-pop g).1.0)),
      text-most p (good-pop g).1.1,
    )
text-most (pow i p q) g =
    omega (
      arith,
      simp length-append at (ap length (text-pow i p q)),
      head-length 87 i,
      decimal-length 1 i
          (omega (arith, (good-pow g).1.0)),
      length-append (enc 0 p) (enc 0 q),
      text-most p (good-pow g).1.1.0,
      text-most q
          (good-pow g).1.1.1,
    )

-- of a coded form
pub coded-most : {l : List ℕ} → Coded 0 l → length (text_of (dec 0 l)) ≤ 11 * length l
coded-most {l} c = rw (codes-length c) (text-most (dec 0 l) c.good)
