-- The number that stands for an answer, and what an answer stands for.
use Rattle.std.specs.Prelude.{◌≡◌, true, false, cond, ℕ, ◌+◌, ◌*◌, ◌/◌, ◌%◌, ◌<◌}
use Rattle.std.proofs.Common.{sym, ap, ◌∙◌, arith, le-leb}
use Rattle.std.proofs.lemmas.Bool.{lt-leb}
use Rattle.dialect.specs.declared.Dialect.{Dialect}
use Rattle.term_leaf.specs.declared.Answer.{Answer}
use Rattle.term_leaf.specs.Leaf.{On, Off, number_in, part_in, is_refusal, words, past, AnswerIs, RefusalIs}

-- no refusal
pub part-on : (D : Dialect) (x : Answer) {k nx : ℕ} → is_refusal x ≡ false → k ≡ words x → nx ≡ past x → part_in D x ≡ On k nx
unfolding part_in
part-on D x h e f =
    ap (λ b. cond b (Off (number_in D (x.packed % 8)) (x.packed / 8 % 65536) (x.packed / 524288 % 65536)) (On (words x) (past x))) h
    ∙ (λ i. On (sym e i) (sym f i))

-- a refusal
pub part_off : (D : Dialect) (x : Answer) → is_refusal x ≡ true
    → part_in D x ≡ Off (number_in D (x.packed % 8)) (x.packed / 8 % 65536) (x.packed / 524288 % 65536)
unfolding part_in
part_off D x h =
    ap (λ b. cond b (Off (number_in D (x.packed % 8)) (x.packed / 8 % 65536) (x.packed / 524288 % 65536)) (On (words x) (past x))) h

-- the number of a subterm that was found
pub found-is : (k nx : ℕ) → k < 1048576 → nx < 65536 → AnswerIs (On k nx) (record { packed = k + 1048576 * nx })
found-is k nx h l =
    let x : Answer = record { packed = k + 1048576 * nx } in
    record { is = λ D. part-on D x (lt-leb 9223372036854775808 (k + 1048576 * nx) (omega (arith, h, l))) (omega (arith, h)) (omega (arith, h)) }

-- the number of a refusal
pub refuse-is : (c p e : ℕ) → c < 8 → p < 65536 → e < 65536
    → RefusalIs c p e (record { packed = 9223372036854775808 + c + 8 * p + 524288 * e })
refuse-is c p e h l m =
    let x : Answer = record { packed = 9223372036854775808 + c + 8 * p + 524288 * e } in
    let a : (9223372036854775808 + c + 8 * p + 524288 * e) % 8 ≡ c = omega (arith, h) in
    let b : (9223372036854775808 + c + 8 * p + 524288 * e) / 8 ≡ 1152921504606846976 + p + 65536 * e = omega (arith, h) in
    let b' : (1152921504606846976 + p + 65536 * e) % 65536 ≡ p = omega (arith, l) in
    let d : (9223372036854775808 + c + 8 * p + 524288 * e) / 524288 ≡ 17592186044416 + e = omega (arith, h, l) in
    let d' : (17592186044416 + e) % 65536 ≡ e = omega (arith, m) in
    record {
      is = λ D. part_off D x (le-leb 9223372036854775808 (9223372036854775808 + c + 8 * p + 524288 * e) (omega arith))
          ∙ (λ i. Off (number_in D (a i)) ((ap (λ z. z % 65536) b ∙ b') i) ((ap (λ z. z % 65536) d ∙ d') i));
    }

-- what a refusal says, with the dialect's own number
pub flaw-is : (D : Dialect) (x : Answer) {n p e : ℕ} → is_refusal x ≡ true → n ≡ number_in D (x.packed % 8) → p ≡ x.packed / 8 % 65536
    → e ≡ x.packed / 524288 % 65536 → part_in D x ≡ Off n p e
flaw-is D x h a b c = part_off D x h ∙ (λ i. Off (sym a i) (sym b i) (sym c i))
