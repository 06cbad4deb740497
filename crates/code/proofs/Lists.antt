-- Laws of lists: parts of a slice as the borrow checker writes them, and what a slice begins with.
-- Assumes nothing.
use Rattle.std.proofs.Common.{◌≡◌, ℕ, zero, suc, ◌+◌, ◌-◌, ◌<◌, ◌≤◌, List, [], ◌∷◌, ◌++◌, length, take, drop, set, sym, refl}
use Rattle.std.proofs.Common.{ap, ◌∙◌, subst, arith, length-append, length-drop, length-set, length-take}
use Rattle.std.proofs.Common.{length-take-le, take-take, take_at}
use Rattle.std.proofs.Math.Seq.{take-nil, take-append-add}
use Rattle.std.proofs.lemmas.List.{take-append-le}
use borrow.Rule.Slice.PartMut.{put_mid}
use Rattle.code.specs.Coding.{Begins}
use Rattle.code.specs.laws.Codes.{tail-part}

pub length-tail-part : (a : ℕ) (w : List ℕ) → length (take (length w - a) (drop a w)) ≡ length w - a
length-tail-part a w = ap length (tail-part a w) ∙ length-drop a w

-- how long the part `&mut d[1..]` is after a store at 0
pub length-after-set : (d : List ℕ) (x : ℕ) → length (take (length (set d 0 x) - 1) (drop 1 (set d 0 x))) ≡ length d - 1
length-after-set d x = length-tail-part 1 (set d 0 x) ∙ ap (λ n. n - 1) (length-set d 0 x)

-- What a slice begins with.

pub begins-le : {r : ℕ} {l w : List ℕ} → Begins r l w → r ≤ length w
begins-le {r} {l} {w} f = omega (arith, length-take r w, ap length f.is, f.size)

-- the same with an equal list, as the code of a form
pub begins-as : {r : ℕ} {l l' w : List ℕ} → Begins r l w → l ≡ l' → Begins r l' w
begins-as {r} {l} {l'} {w} f e = subst (λ (k : List ℕ). Begins r k w) e f

-- a store at 0
pub begins-set : (d : List ℕ) (x : ℕ) → 0 < length d → Begins 1 (x ∷ []) (set d 0 x)
begins-set [] x h = absurd (omega arith)
begins-set (y ∷ d) x h = record { size = refl; is = refl }

-- what is lent from a on, as `&mut w[a..]`, comes back with l' at its front, where l stands before it
pub begins-tail :
    {a b : ℕ} {l l' w e : List ℕ} → Begins a l w → Begins b l' e → Begins (a + b) (l ++ l') (put_mid a (length w - a) w e)
begins-tail {a} {b} {l} {l'} {w} {e} f g =
    let le = begins-le g in
    let post = drop (length w - length l) (drop (length l) w) in
    record {
      size = omega (arith, f.size, g.size, length-append l l');
      is = rw (f.is, f.size, take-append-add l (e ++ post) b, take-append-le b e post, g.is);
    }

-- the first n + m words, in two
pub front_of : (n m : ℕ) (l : List ℕ) → take n (take (n + m) l) ≡ take n l
front_of n m l = take-take n (n + m) l (omega arith)

pub behind : (n m : ℕ) (l : List ℕ) → drop n (take (n + m) l) ≡ take m (drop n l)
behind zero m l =
    let e : 0 + m ≡ m = omega arith in
    ap (λ k. take k l) e
behind (suc n) m [] =
    let e : suc n + m ≡ suc (n + m) = omega arith in
    rw e (sym (take-nil m))
behind (suc n) m (x ∷ l) =
    let e : suc n + m ≡ suc (n + m) = omega arith in
    rw e (behind n m l)

-- a front that is copied
pub copied-front : {n : ℕ} {l d e : List ℕ} (r : List ℕ) → Begins n l d → e ≡ take n d ++ r → Begins n l e
copied-front {n} {l} {d} {e} r m q =
    record { size = m.size; is = rw q (take_at (take n d) r n (length-take-le n d (begins-le m)) ∙ m.is) }
