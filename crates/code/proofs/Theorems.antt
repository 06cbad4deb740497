-- What stands besides: theorems of this crate that no other proof leans on.
use Rattle.std.proofs.Common.{◌≡◌, ℕ, suc, ◌+◌, ◌-◌, ◌*◌, ◌%◌, ◌^◌, ◌<◌, ◌≤◌, List, ◌++◌, length, get_or, take, drop, set}
use Rattle.std.proofs.Common.{sym, ap, ◌∙◌, subst, arith, pow-add, append_assoc, add-one, length-drop, length-take-le, get_or-drop}
use Rattle.std.proofs.Common.{drop-cons, take-suc, get_or-append-add}
use Rattle.std.proofs.Math.Seq.{set_at}
use Prim.Native.Nat.{◌∣◌}
use Rattle.code.specs.Widths.{modulus, modulus-pos}
use Rattle.code.specs.laws.Widths.{modulus-small}
use Rattle.std.proofs.Math.Nat as NatL

-- ---- leaves: what the widths share
-- what wraps at k + d bits, cut to its low k bits, has wrapped at k bits
pub low_bits : (k d n : ℕ) → n % 2 ^ (k + d) % 2 ^ k ≡ n % 2 ^ k
low_bits k d n = NatL.mod-mod_of_dvd (2 ^ k) n (subst (λ z. 2 ^ k ∣ z) (sym (pow-add 2 k d)) (NatL.dvd-mul_right (2 ^ k) (2 ^ d)))

-- a difference from 0 that wrapped at k + d bits: its low k bits are the negative at k bits
pub low-negative : (k d r a : ℕ) → (r + a) % 2 ^ (k + d) ≡ 0 → a < 2 ^ k → r % 2 ^ k ≡ (2 ^ k - a) % 2 ^ k
low-negative k d r a h l =
    let m = 2 ^ k in
    let e : (r + a) % m ≡ 0 = sym (low_bits k d (r + a)) ∙ ap (λ z. z % m) h ∙ NatL.zero-mod m in
    let t : r + a + (m - a) ≡ r + m = omega arith in
    let z : (r + a) % m + (m - a) ≡ m - a = omega (arith, e) in
    sym (sym (ap (λ n. n % m) z) ∙ NatL.mod-add-mod (r + a) m (m - a) ∙ ap (λ n. n % m) t ∙ NatL.add-mod_right r m)

-- a remainder by the number that the modulus of a width is
pub rest_at : (f : ℕ → ℕ) (w m r : ℕ) → modulus w ≡ m → r ≡ f m % m → (r ≡ f (modulus w) % modulus w) × (r < modulus w)
rest_at f w m r h e =
    let k : r ≡ f (modulus w) % modulus w = e ∙ ap (λ z. f z % z) (sym h) in
    (k, subst (λ z. z < modulus w) (sym k) (NatL.mod-lt (f (modulus w)) (modulus-pos w)))

-- the product of two leaves fits 64 bits
pub product-below : (w a b : ℕ) → a < modulus w → b < modulus w → a * b ≤ 2147483646 * 2147483646
product-below w a b ha hb =
    let la : a ≤ 2147483646 = omega (arith, modulus-small w) in
    let lb : b ≤ 2147483646 = omega (arith, modulus-small w) in
    NatL.mul-le-mul la lb

-- ---- words that are copied one by one
-- One more word of x is written over d, from the front.
pub copy_more :
    (x d : List ℕ) (k : ℕ) → k < length x → k < length d → set (take k x ++ drop k d) k (get_or x k 0) ≡ take (k + 1) x ++ drop (k + 1) d
copy_more x d k h l =
    rw (
      add-one,
      drop-cons d k 0,
      set_at (take k x) (get_or d k 0) (drop (suc k) d) (get_or x k 0) k (length-take-le k x (omega arith)),
      take-suc x k 0,
      append_assoc,
    )

-- A word at or after k is not changed yet.
pub copy-ahead : (x d : List ℕ) (k i : ℕ) → k ≤ length x → get_or (take k x ++ drop k d) (i + k) 0 ≡ get_or d (i + k) 0
copy-ahead x d k i h =
    let e : i + k ≡ length (take k x) + i = omega (arith, length-take-le k x h) in
    let f : length (take k x) + i ≡ k + i = omega (arith, length-take-le k x h) in
    let g : k + i ≡ i + k = omega arith in
    rw e (get_or-append-add (take k x) (drop k d) i 0 ∙ get_or-drop k d i 0 ∙ ap (λ n. get_or d n 0) (sym f))

-- One more word of d is moved down by gap.
pub shift-more :
    (d s : List ℕ) (gap k : ℕ) → gap + k < length d → s ≡ take k (drop gap d) ++ drop k d →
    set s k (get_or s (gap + k) 0) ≡ take (k + 1) (drop gap d) ++ drop (k + 1) d
shift-more d s gap k h e =
    let l : k < length (drop gap d) = rw length-drop (omega arith) in
    let f = copy-ahead (drop gap d) d k gap (omega arith) in
    rw (e, f, ← get_or-drop gap d k 0) (copy_more (drop gap d) d k l (omega arith))
