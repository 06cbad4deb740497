-- The calls: on one term, on forms, on two terms.
use Rattle.std.specs.Prelude.{Bool, true, false, ◌||◌, List, ◌≡◌, ℕ, ◌+◌, ◌*◌, ◌^◌, min, eqb, leb, ℤ, length}
use Rattle.std.proofs.Math.Option.{Option, none, some}
use Rattle.horner.specs.definitions.Measures.{multiples_of, maxs, sums, multiples, box, degrees, weight, terms}
use Rattle.horner.specs.definitions.Form.{Form, sum, negate, prod, raise, evalh}
use Rattle.horner.specs.definitions.Rings.{ℤ_ring, remainder_by, prime}
use Rattle.horner.specs.definitions.Points.{point_of, leaves}
use Rattle.horner.specs.definitions.Term.{norm_ℤ, eval_ℤ, Term, diff}
use Rattle.refusal.specs.declared.Side.TheVariants.{Left, Right}
use Rattle.reply.specs.declared.Comparison.{Comparison}
use Rattle.reply.specs.declared.Comparison.TheVariants as C
use Rattle.reply.specs.definitions.Reply.{Reply, gives, asked, read_as, opened, fitted, Work, lengths, Writes, Remainders, refuses}
use Rattle.reply.specs.definitions.Reply.{Told, told, Written, Remaindered, Judged, Counted, said, over, work_after}
use Rattle.text.specs.definitions.Bytes.{all, is_row, same}
use Rattle.text.specs.definitions.FormReading.{accept_form, text}
use Rattle.text.specs.definitions.Limits.{accept_term}
use Rattle.text.specs.definitions.Tree.{term_of}

-- ==== one term: its form's text, and its remainder at a point
-- "reads a term and writes its form": the term s over the row, into n bytes
abbrev pub form_of : (row s : List ℕ) (n : ℕ) → Reply (List ℕ)
form_of row s n = read_as Left (accept_term row s) (λ t. fitted n (text (norm_ℤ (term_of row t))))

unfoldable pub form_reply : (row lengths s : List ℕ) (n : ℕ) → Reply (List ℕ)
form_reply row lengths s n = opened row lengths (λ u. form_of row s n)

abbrev pub FormCall : (row s : List ℕ) (r : Written) (b b' : List ℕ) (w w' : Work) → Type 0
FormCall row s r b b' w w' = Writes (form_reply row (lengths w) s (length b)) r b b' w w'

-- "A remainder is from 0 to P - 1, also for negative values."
abbrev pub remainder : ℤ → ℕ
remainder z = remainder_by prime z

-- "gives the remainder of a term .. at a point"; "12: point to evaluate at has another length than the row"
abbrev pub remainder_of : (row s : List ℕ) (N : List ℤ) → Reply ℕ
remainder_of row s N = read_as Left (accept_term row s) (λ t. gives (remainder (eval_ℤ (term_of row t) N)))

unfoldable pub remainder_reply : (row lengths s : List ℕ) (N : List ℤ) → Reply ℕ
remainder_reply row lengths s N = opened row lengths (λ u. asked (eqb (length N) (length row)) 12 (λ v. remainder_of row s N))

abbrev pub RemainderCall : (row s : List ℕ) (N : List ℤ) (r : Remaindered) (w w' : Work) → Type 0
RemainderCall row s N r w w' = Remainders (remainder_reply row (lengths w) s N) r w w'

-- ==== forms: judging a text, the operations, the remainder at a point
-- "judges whether a text is a form": over the row, and with no work tables
unfoldable pub judge_reply : (row s : List ℕ) → Reply (Unit {0})
judge_reply row s = asked (is_row row) 1 (λ u. read_as Left (accept_form (length row) s) (λ f. gives tt))

pub record JudgeCall (row s : List ℕ) (r : Judged) : Type 0 where
  pub answer : told r ≡ judge_reply row s

-- ---- the measures of a result
-- degrees, weight and terms, before terms are cut down to the box
pub record Measured : Type 0 where
  pub powers : List ℕ
  pub heavy : ℕ
  pub many : ℕ

-- "Operations on forms are limited by the same table, with these numbers for x and y."
abbrev pub of_sum : ℕ → Form ℤ → Form ℤ → Measured
of_sum m x y = record { powers = maxs (degrees m x) (degrees m y); heavy = weight x + weight y; many = terms ℤ_ring x + terms ℤ_ring y }

abbrev pub of_product : ℕ → Form ℤ → Form ℤ → Measured
of_product m x y = record { powers = sums (degrees m x) (degrees m y); heavy = weight x * weight y; many = terms ℤ_ring x * terms ℤ_ring y }

abbrev pub of_power : ℕ → Form ℤ → ℕ → Measured
of_power m x k = record { powers = multiples k (degrees m x); heavy = weight x ^ k; many = terms ℤ_ring x ^ k }

-- "8", "9", "10", the lowest first, on "neither" side, at place "0 for forms"
abbrev pub limited : {A : Type 0} → Measured → (Unit {0} → Reply A) → Reply A
limited m r =
    asked (all (λ d. leb d 63) m.powers) 8
    (λ u. asked (leb m.heavy 1073741823) 9 (λ v. asked (leb (min m.many (box m.powers)) 256) 10 r))

-- ---- the operations: form texts in, form text out, into n bytes
abbrev pub negate_of : (row s : List ℕ) (n : ℕ) → Reply (List ℕ)
negate_of row s n = read_as Left (accept_form (length row) s) (λ x. fitted n (text (negate ℤ_ring x)))

unfoldable pub negate_reply : (row lengths s : List ℕ) (n : ℕ) → Reply (List ℕ)
negate_reply row lengths s n = opened row lengths (λ u. negate_of row s n)

abbrev pub NegateCall : (row s : List ℕ) (r : Written) (b b' : List ℕ) (w w' : Work) → Type 0
NegateCall row s r b b' w w' = Writes (negate_reply row (lengths w) s (length b)) r b b' w w'

-- of two forms: how the result is measured, and what it is
abbrev pub two_of : (Form ℤ → Form ℤ → Measured) → (Form ℤ → Form ℤ → Form ℤ) → (row s t : List ℕ) (n : ℕ) → Reply (List ℕ)
two_of measured op row s t n =
    read_as Left (accept_form (length row) s)
    (λ x. read_as Right (accept_form (length row) t) (λ y. limited (measured x y) (λ v. fitted n (text (op x y)))))

unfoldable pub add_reply : (row lengths s t : List ℕ) (n : ℕ) → Reply (List ℕ)
add_reply row lengths s t n = opened row lengths (λ u. two_of (of_sum (length row)) (sum ℤ_ring) row s t n)

abbrev pub AddCall : (row s t : List ℕ) (r : Written) (b b' : List ℕ) (w w' : Work) → Type 0
AddCall row s t r b b' w w' = Writes (add_reply row (lengths w) s t (length b)) r b b' w w'

unfoldable pub multiply_reply : (row lengths s t : List ℕ) (n : ℕ) → Reply (List ℕ)
multiply_reply row lengths s t n = opened row lengths (λ u. two_of (of_product (length row)) (prod ℤ_ring) row s t n)

abbrev pub MultiplyCall : (row s t : List ℕ) (r : Written) (b b' : List ℕ) (w w' : Work) → Type 0
MultiplyCall row s t r b b' w w' = Writes (multiply_reply row (lengths w) s t (length b)) r b b' w w'

-- "to an unsigned power" k; "exponent n .. at most 63"
abbrev pub raise_of : (row s : List ℕ) (k n : ℕ) → Reply (List ℕ)
raise_of row s k n =
    read_as Left (accept_form (length row) s)
    (λ x. asked (leb k 63) 8 (λ v. limited (of_power (length row) x k) (λ w. fitted n (text (raise ℤ_ring x k)))))

unfoldable pub raise_reply : (row lengths s : List ℕ) (k n : ℕ) → Reply (List ℕ)
raise_reply row lengths s k n = opened row lengths (λ u. raise_of row s k n)

abbrev pub RaiseCall : (row s : List ℕ) (k : ℕ) (r : Written) (b b' : List ℕ) (w w' : Work) → Type 0
RaiseCall row s k r b b' w w' = Writes (raise_reply row (lengths w) s k (length b)) r b b' w w'

-- "gives the remainder of .. a form at a point"
abbrev pub form_remainder_of : (row s : List ℕ) (N : List ℤ) → Reply ℕ
form_remainder_of row s N = read_as Left (accept_form (length row) s) (λ x. gives (remainder (evalh ℤ_ring x N)))

unfoldable pub form_remainder_reply : (row lengths s : List ℕ) (N : List ℤ) → Reply ℕ
form_remainder_reply row lengths s N = opened row lengths (λ u. asked (eqb (length N) (length row)) 12 (λ v. form_remainder_of row s N))

abbrev pub FormRemainderCall : (row s : List ℕ) (N : List ℤ) (r : Remaindered) (w w' : Work) → Type 0
FormRemainderCall row s N r w w' = Remainders (form_remainder_reply row (lengths w) s N) r w w'

-- ==== two terms, over the whole numbers and as wrapping counters
-- ---- over the whole numbers
pub data Verdict : Type 0 where
  equal : Verdict
  different : (point : List ℕ) (leftThere rightThere : ℕ) → Verdict

-- two terms at a point, with the remainders by m there
abbrev pub different_at : ℕ → Term → Term → List ℕ → Verdict
different_at m f g N = different N (leaves m f N) (leaves m g N)

-- "The answer is 'same' exactly when the two forms are the same bytes, else 'different' with demand 3's point and the two terms'
-- remainders there, left term first." Over a row of n (horner/laws/Answer, point-is: the point is demand 3's)
abbrev pub verdict_of : ℕ → Term → Term → Verdict
verdict_of n f g =
    elim (same (text (norm_ℤ f)) (text (norm_ℤ g))) [ true ↦ equal | false ↦ different_at prime f g (point_of prime n f g) ]

abbrev pub compare_of : (row s t : List ℕ) → Reply Verdict
compare_of row s t =
    read_as Left (accept_term row s)
    (λ f. read_as Right (accept_term row t) (λ g. gives (verdict_of (length row) (term_of row f) (term_of row g))))

-- k is the length of the point buffer: "2: .. point buffer under the row's length"
unfoldable pub compare_reply : (row lengths : List ℕ) (k : ℕ) (s t : List ℕ) → Reply Verdict
compare_reply row lengths k s t = opened row lengths (λ u. asked (leb (length row) k) 2 (λ v. compare_of row s t))

-- "on 'different' the first numbers of the point buffer"
abbrev pub point_with : Verdict → List ℕ → List ℕ
point_with equal b = b
point_with (different N l r) b = over N b

abbrev pub point_after : Reply Verdict → List ℕ → List ℕ
point_after (gives v) b = point_with v b
point_after (refuses bad) b = b

-- the enum says the remainders; the point stands in its buffer
abbrev pub remainders : Verdict → Option (ℕ × ℕ)
remainders equal = none
remainders (different N l r) = some (l, r)

abbrev pub Compared : Type 0
Compared = Told Comparison

abbrev pub remainders_told : Comparison → Option (ℕ × ℕ)
remainders_told C.Same = none
remainders_told (C.Different l r) = some (l, r)

abbrev pub told_compared : Compared → Reply (Option (ℕ × ℕ))
told_compared r = said remainders_told (told r)

pub record Compares (x : Reply Verdict) (r : Compared) (p p' : List ℕ) (w w' : Work) : Type 0 where
  pub answer : told_compared r ≡ said remainders x
  pub point : p' ≡ point_after x p
  pub tables : w' ≡ work_after x w

abbrev pub CompareCall : (row s t : List ℕ) (r : Compared) (p p' : List ℕ) (w w' : Work) → Type 0
CompareCall row s t r p p' w w' = Compares (compare_reply row (lengths w) (length p) s t) r p p' w w'

-- ---- as counters
-- "Counter comparison takes a width: 8, 16, or 0, which stands for 16." 14: "counter width not 0, 8 or 16"
abbrev pub is_width : ℕ → Bool
is_width w = eqb w 0 || (eqb w 8 || eqb w 16)

abbrev pub bits : ℕ → ℕ
bits w = elim (eqb w 8) [ true ↦ 8 | false ↦ 16 ]

-- "It answers 'same' when each coefficient of the difference is a multiple of 2 to the width, else 'different', with no point."
abbrev pub counters_of : (row : List ℕ) (w : ℕ) (s t : List ℕ) → Reply Bool
counters_of row w s t =
    read_as Left (accept_term row s)
    (λ f. read_as Right (accept_term row t) (λ g. gives (multiples_of (2 ^ bits w) (norm_ℤ (diff (term_of row f) (term_of row g))))))

unfoldable pub counters_reply : (row lengths : List ℕ) (w : ℕ) (s t : List ℕ) → Reply Bool
counters_reply row lengths w s t = opened row lengths (λ u. asked (is_width w) 14 (λ v. counters_of row w s t))

pub record Counts (x : Reply Bool) (r : Counted) (w w' : Work) : Type 0 where
  pub answer : told r ≡ x
  pub tables : w' ≡ work_after x w

abbrev pub CountersCall : (row : List ℕ) (width : ℕ) (s t : List ℕ) (r : Counted) (w w' : Work) → Type 0
CountersCall row width s t r w w' = Counts (counters_reply row (lengths w) width s t) r w w'
