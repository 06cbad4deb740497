-- One variable of the search: what the form that is left is, and how the point is put together.
-- Assumes nothing.
use Rattle.std.proofs.Common.{List, [], ◌∷◌, ◌++◌, sym, ap, subst, arith, length-take-le, ℕ, suc, ◌-◌, ◌<◌, length}
use mathlib.Core.List.{append-nil}
use Rattle.std.proofs.Math.Path.{◌≡◌, ◌∙◌}
use Rattle.std.specs.Prelude.{take, drop, set}
use Rattle.std.proofs.Math.ListN.{drop_of_length-le}
use Rattle.std.proofs.Math.Seq.{take_at, take_all}
use borrow.Rule.Slice.PartMut.{put_mid}
use Rattle.code.specs.Coding.{dec, Codes, Coded, Made}
use Rattle.code.proofs.Lists.{begins-le}
use Rattle.code_first.specs.First.{at_first_of}
use Rattle.code_point.specs.Points.{point_of, Ready, vanishes, IsLeast, Fails}
use Rattle.code_point.specs.laws.Points.{point-none, ready-fails, ready-next, point-next}
use Rattle.code_point.proofs.Forms.{left-codes}

-- the form that is left, copied to the front of x
pub copied :
    {l o : List ℕ} (x x' : List ℕ) (a : ℕ) {m : ℕ} → Coded 0 l → Made 0 (at_first_of 0 (dec 0 l) a) m o → x' ≡ take m o ++ drop
    (length (take m o)) x →
    Codes 0 (at_first_of 0 (dec 0 l) a) (take m x')
copied {l} {o} x x' a {m} c made e =
    let k : take m x' ≡ take m o = ap (take m) e
    ∙ take_at (take m o) (drop (length (take m o)) x) m (length-take-le m o (begins-le made)) in
    subst (Codes 0 (at_first_of 0 (dec 0 l) a)) (sym k) (left-codes a c made)

pub no-point : (n : ℕ) (l d : List ℕ) → n ≡ 0 → d ≡ point_of n (dec 0 l) ++ drop n d
no-point n l d e = sym (ap (λ k. point_of k (dec 0 l) ++ drop k d) e ∙ ap (λ w. w ++ d) (point-none (dec 0 l)))

module _ (n : ℕ) {l : List ℕ} (pos : n ≡ 0 → ⊥) (c : Coded 0 l) (r : Ready n (dec 0 l)) where
  one_more : n ≡ suc (n - 1)
  one_more = omega arith

  ready : Ready (suc (n - 1)) (dec 0 l)
  ready = subst (λ k. Ready k (dec 0 l)) one_more r

  pub some-fails : Fails (vanishes (dec 0 l))
  some-fails = ready-fails (n - 1) (dec 0 l) c.good ready

  module _ (a : ℕ) (least : IsLeast (vanishes (dec 0 l)) a) where
    pub next-ready : Ready (n - 1) (at_first_of 0 (dec 0 l) a)
    next-ready = ready-next (n - 1) (dec 0 l) c.good ready a least

    pub next-point : a ∷ point_of (n - 1) (at_first_of 0 (dec 0 l) a) ≡ point_of n (dec 0 l)
    next-point = point-next (n - 1) (dec 0 l) c.good ready a least ∙ ap (λ k. point_of k (dec 0 l)) (sym one_more)

-- a number at the front, and the rest of the point through the part behind it
pub put-point :
    (d e N : List ℕ) (a n : ℕ) → (n ≡ 0 → ⊥) → 0 < length d → e ≡ N ++ drop (n - 1) (take (length (set d 0 a) - 1) (drop 1 (set d 0 a))) →
    put_mid 1 (length (set d 0 a) - 1) (set d 0 a) e ≡ (a ∷ N) ++ drop n d
put-point [] e N a n pos l q = absurd (omega arith)
put-point (y ∷ d) e N a n pos l q =
    let k = length (a ∷ d) - 1 in
    let t : take k d ≡ d = take_all k d (omega arith) in
    let z : drop k d ≡ [] = drop_of_length-le d {i = k} (omega arith) in
    let m : n ≡ suc (n - 1) = omega arith in
    ap (λ u. a ∷ (e ++ u)) z ∙ ap (λ u. a ∷ u) (append-nil e ∙ q ∙ ap (λ u. N ++ drop (n - 1) u) t)
    ∙ ap (λ j. (a ∷ N) ++ drop j (y ∷ d)) (sym m)
