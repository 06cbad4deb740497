-- What stands where a form stands: its first byte, its head, and the places of its parts.
use Rattle.std.specs.Prelude.{List, [], ◌∷◌, ◌++◌, ◌≡◌, refl, ℕ, suc, ◌+◌, ◌≤◌, ◌<◌, min, ℤ, pos, negsuc, length, drop, get_or}
use Rattle.std.proofs.Common.{append_assoc, sym, ap, ◌∙◌, arith, length-append, length-drop, drop-drop, get_or-drop}
use Rattle.std.proofs.Math.ListN.{get_or-append}
use Rattle.std.proofs.Math.Seq.{drop-append_seam}
use Rattle.horner.specs.definitions.Form.{Form, int, pop, pow}
use Rattle.text.specs.definitions.FormReading.{text, pop_head, pow_head}
use Rattle.text.specs.definitions.Bytes.{decimal, write_int, value_from}
use Rattle.text_laws.specs.laws.Numerals.{value-decimal}
use Rattle.form_head.specs.declared.Kind.TheVariants.{Integer, Negative, Pop, Pow}
use Rattle.form_head.specs.Heads.{digits, NoDigit, NumberAt, Stands, Standing, Headed}
use Rattle.form_head.specs.laws.Digits.{digits-of, decimal-digits}

-- behind the list a, which stands at the place
pub drop-on : (s : List ℕ) (at : ℕ) (a b : List ℕ) → drop at s ≡ a ++ b → drop (at + length a) s ≡ b
drop-on s at a b e = sym (drop-drop (length a) at s) ∙ ap (drop (length a)) e ∙ drop-append_seam a b

int-some : (z : ℤ) → 0 < length (write_int z)
int-some (pos n) = (decimal-digits n).some
int-some (negsuc n) = omega arith

pub text-some : (g : Form ℤ) → 0 < length (text g)
text-some (int z) = int-some z
text-some (pop i p) = omega arith
text-some (pow i p q) = omega arith

-- what stands at the place reaches no further than the text
pub stands-inside : {s : List ℕ} {at : ℕ} {g : Form ℤ} {rest : List ℕ} → Stands s at g rest → at + length (text g) ≤ length s
stands-inside {s} {at} {g} {rest} h = omega (arith, text-some g, length-drop at s, ap length h.parts, length-append (text g) rest)

-- the number at a place, from what stands there
pub number_is :
    {s : List ℕ} {at limit value next : ℕ} (n : ℕ) (rest : List ℕ) → NumberAt s at limit value next → drop at s ≡ decimal n ++ rest →
    NoDigit rest
    → (value ≡ min n limit) × (next ≡ at + length (decimal n))
number_is {s} {at} {limit} {value} {next} n rest N e c =
    let d : digits (drop at s) ≡ decimal n = ap digits e ∙ digits-of (decimal n) rest (decimal-digits n).digits c in
    (N.is-value ∙ ap (λ w. min (value_from 0 w) limit) d ∙ ap (λ v. min v limit) (value-decimal n), N.is-next ∙ ap (λ w. at + length w) d)

-- the bytes of what stands at the place
pub byte-on : (s : List ℕ) (at k : ℕ) (l : List ℕ) → drop at s ≡ l → get_or s (at + k) 0 ≡ get_or l k 0
byte-on s at k l e = sym (get_or-drop at s k 0) ∙ ap (λ w. get_or w k 0) e

first_byte : (s : List ℕ) (at : ℕ) (l : List ℕ) → drop at s ≡ l → get_or s at 0 ≡ get_or l 0 0
first_byte s at l e = ap (λ k. get_or s k 0) (let z : at ≡ at + 0 = omega arith in z) ∙ byte-on s at 0 l e

-- an integer not below zero begins with a digit
natural-byte : (s : List ℕ) (at n : ℕ) (rest : List ℕ) → drop at s ≡ decimal n ++ rest → (48 ≤ get_or s at 0) × (get_or s at 0 ≤ 57)
natural-byte s at n rest e =
    let f = first_byte s at (decimal n ++ rest) e ∙ get_or-append (decimal n) rest 0 0 (decimal-digits n).some in
    (omega (arith, f, (decimal-digits n).first), omega (arith, f, (decimal-digits n).last))

-- ---- what the head tells
-- `(PO`, one byte more, a space, i and a space
abbrev node_head : ℕ → ℕ → List ℕ
node_head b i = 40 ∷ 80 ∷ 79 ∷ b ∷ 32 ∷ (decimal i ++ (32 ∷ []))

module _ {s : List ℕ} (at : ℕ) {v n : ℕ} where
  pub head-below : get_or s at 0 ≡ 45 → NumberAt s (at + 1) 1073741824 v n → Headed s at Negative v n
  head-below b N (int (pos k)) rest h = absurd (omega (arith, b, natural-byte s at k rest h.parts))
  head-below b N (int (negsuc k)) rest h =
      let m = number_is (suc k) rest N (drop-on s at (45 ∷ []) (decimal (suc k) ++ rest) h.parts) h.calm in
      record { is-kind = refl; is_number = m.0; is-next = omega (arith, m.1) }
  head-below b N (pop i p) rest h = absurd (omega (arith, b, first_byte s at _ h.parts))
  head-below b N (pow i p q) rest h = absurd (omega (arith, b, first_byte s at _ h.parts))

  pub head-natural : (get_or s at 0 ≡ 45 → ⊥) → (get_or s at 0 ≡ 40 → ⊥) → NumberAt s at 1073741824 v n → Headed s at Integer v n
  head-natural b c N (int (pos k)) rest h =
      let m = number_is k rest N h.parts h.calm in
      record { is-kind = refl; is_number = m.0; is-next = m.1 }
  head-natural b c N (int (negsuc k)) rest h = absurd (b (first_byte s at _ h.parts))
  head-natural b c N (pop i p) rest h = absurd (c (first_byte s at _ h.parts))
  head-natural b c N (pow i p q) rest h = absurd (c (first_byte s at _ h.parts))

  node-number :
      (b i : ℕ) (tail : List ℕ) → drop at s ≡ node_head b i ++ tail → NumberAt s (at + 5) 64 v n →
      (v ≡ min i 64) × (n + 1 ≡ at + length (node_head b i))
  node-number b i tail e N =
      let f = drop-on s at (40 ∷ 80 ∷ 79 ∷ b ∷ 32 ∷ []) ((decimal i ++ (32 ∷ [])) ++ tail) e ∙ append_assoc (decimal i) (32 ∷ []) tail in
      let m = number_is i (32 ∷ tail) N f refl in
      (m.0, omega (arith, m.1, length-append (decimal i) (32 ∷ [])))

  pub head-pop : get_or s at 0 ≡ 40 → get_or s (at + 3) 0 ≡ 80 → NumberAt s (at + 5) 64 v n → Headed s at Pop v (n + 1)
  head-pop b d N (int (pos k)) rest h = absurd (omega (arith, b, natural-byte s at k rest h.parts))
  head-pop b d N (int (negsuc k)) rest h = absurd (omega (arith, b, first_byte s at _ h.parts))
  head-pop b d N (pop i p) rest h =
      let m = node-number 80 i ((text p ++ (41 ∷ [])) ++ rest) (h.parts ∙ append_assoc (pop_head i) (text p ++ (41 ∷ [])) rest) N in
      record { is-kind = refl; is_number = m.0; is-next = m.1 }
  head-pop b d N (pow i p q) rest h = absurd (omega (arith, d, byte-on s at 3 _ h.parts))

  pub head-pow : get_or s at 0 ≡ 40 → (get_or s (at + 3) 0 ≡ 80 → ⊥) → NumberAt s (at + 5) 64 v n → Headed s at Pow v (n + 1)
  head-pow b d N (int (pos k)) rest h = absurd (omega (arith, b, natural-byte s at k rest h.parts))
  head-pow b d N (int (negsuc k)) rest h = absurd (omega (arith, b, first_byte s at _ h.parts))
  head-pow b d N (pop i p) rest h = absurd (d (byte-on s at 3 _ h.parts))
  head-pow b d N (pow i p q) rest h =
      let m = node-number 87 i ((text p ++ (32 ∷ text q ++ (41 ∷ []))) ++ rest)
      (h.parts ∙ append_assoc (pow_head i) (text p ++ (32 ∷ text q ++ (41 ∷ []))) rest) N in
      record { is-kind = refl; is_number = m.0; is-next = m.1 }

-- a node's head lies inside the text
pub node-inside :
    {s : List ℕ} {at : ℕ} → Standing s at → get_or s at 0 ≡ 40 →
    (at + 6 ≤ length s) × ((v n : ℕ) → NumberAt s (at + 5) 64 v n → n + 1 ≤ length s)
node-inside {s} {at} h b = go h.g h.rest h.stands
  where
    go :
        (g : Form ℤ) (rest : List ℕ) → Stands s at g rest →
        (at + 6 ≤ length s) × ((v n : ℕ) → NumberAt s (at + 5) 64 v n → n + 1 ≤ length s)
    go (int (pos k)) rest h = absurd (omega (arith, b, natural-byte s at k rest h.parts))
    go (int (negsuc k)) rest h = absurd (omega (arith, b, first_byte s at _ h.parts))
    go (pop i p) rest h =
        let l = length-append (pop_head i) (text p ++ (41 ∷ [])) in
        let k = stands-inside h in
        let e = h.parts ∙ append_assoc (pop_head i) (text p ++ (41 ∷ [])) rest in (
          omega (arith, l, k, length-append (decimal i) (32 ∷ [])),
          λ v n N. omega (
            arith,
            l,
            k,
            node-number at 80 i ((text p ++ (41 ∷ [])) ++ rest) e N,
          ),
        )
    go (pow i p q) rest h =
        let l = length-append (pow_head i) (text p ++ (32 ∷ text q ++ (41 ∷ []))) in
        let k = stands-inside h in
        let e = h.parts ∙ append_assoc (pow_head i) (text p ++ (32 ∷ text q ++ (41 ∷ []))) rest in (
          omega (arith, l, k, length-append (decimal i) (32 ∷ [])),
          λ v n N. omega (
            arith,
            l,
            k,
            node-number at 87 i ((text p ++ (32 ∷ text q ++ (41 ∷ []))) ++ rest) e N,
          ),
        )

-- some byte stands where a form does
pub standing-some : {s : List ℕ} {at : ℕ} → Standing s at → at < length s
standing-some h = omega (arith, stands-inside h.stands, text-some h.g)
