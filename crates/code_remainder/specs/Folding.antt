-- Request 104: "Work that remainder out by adding the low 31 bits to the rest until it is below 2^31; 2,147,483,647 itself then becomes 0."
use Rattle.std.specs.Prelude.{◌≡◌, ℕ, ◌+◌, ◌*◌, ◌/◌, ◌%◌, ◌<◌, ◌≤◌}
use Rattle.std.proofs.Common.{sym, ap, ◌∙◌, arith}
use Rattle.std.proofs.Math.Nat as NatL
use Rattle.horner.specs.definitions.Rings.{prime}

-- "adding the low 31 bits to the rest"
abbrev pub folded : ℕ → ℕ
folded x = x % 2147483648 + x / 2147483648

-- x is worked out to be r: "until it is below 2^31"; "2,147,483,647 itself then becomes 0", and any other stays
pub data WorkedOut : ℕ → ℕ → Type 0 where
  adding : (x r : ℕ) → 2147483648 ≤ x → WorkedOut (folded x) r → WorkedOut x r
  becoming : (x r : ℕ) → x ≡ 2147483647 → r ≡ 0 → WorkedOut x r
  staying : (x r : ℕ) → x < 2147483647 → r ≡ x → WorkedOut x r

-- 2^31 leaves 1 by P, so an addition keeps the remainder
folded-remainder : (x : ℕ) → folded x % prime ≡ x % prime
folded-remainder x =
    let q = x / 2147483648 in
    let split : x ≡ folded x + q * prime = omega arith in
    sym (ap (λ n. n % prime) split ∙ NatL.add-mul-mod_self_right (folded x) q prime)

-- what is worked out is the remainder by P
pub worked-remainder : {x r : ℕ} → WorkedOut x r → r ≡ x % prime
worked-remainder (adding x r h w) = worked-remainder w ∙ folded-remainder x
worked-remainder (becoming x r e z) = z ∙ ap (λ n. n % prime) (sym e)
worked-remainder (staying x r l e) = e ∙ sym (NatL.mod-eq_of_lt l)

-- an addition makes the number less, so it comes to an end
pub folded-less : (x : ℕ) → 2147483648 ≤ x → folded x < x
folded-less x h = omega arith
