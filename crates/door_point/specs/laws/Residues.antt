-- The coordinates' remainders: how many, how large, and one more of them written.
use mathlib.Core.List.{List, [], ◌∷◌, ◌++◌, map, append_assoc}
use Rattle.std.specs.Prelude.{◌≡◌, ℤ, pos, take, drop, get_or, set}
use Rattle.std.proofs.Math.Path.{refl, ap}
use Rattle.std.proofs.Common.{sym, subst, ◌∙◌, add-one, arith, drop-cons, length-take-le, take_at}
use Prim.Native.Nat.{ℕ, zero, suc, ◌+◌, ◌≤◌, ◌<◌}
use Rattle.std.proofs.Math.ListN.{length}
use Rattle.std.proofs.lemmas.List.{length-map, set_at}
use Rattle.std.proofs.Math.Seq.{take-length}
use Rattle.horner.specs.definitions.Rings.{red_ℤ, prime, prime-pos, below}
use Rattle.code.specs.Widths.{modulus}
use Rattle.code_walk.specs.Points.{Leaves}
use Rattle.reply.specs.definitions.Calls.{remainder}
use Rattle.door_point.specs.Point.{residues_of}

pub residues-length : (N : List ℤ) → length (residues_of N) ≡ length N
unfolding residues_of
residues-length N = length-map N _

pub residues-leaves : (N : List ℤ) → Leaves 0 (residues_of N)
unfolding residues_of
residues-leaves N = record { below = small N }
  where
    small : (N : List ℤ) (k : ℕ) → get_or (map remainder N) k 0 < modulus 0
    small [] k = omega arith
    small (z ∷ N) zero = below prime prime-pos (red_ℤ prime prime-pos z)
    small (z ∷ N) (suc k) = small N k

-- what stands in the first words of a table that begins with them
pub residues-front : (N : List ℤ) (k : ℕ) (d : List ℕ) → length N ≡ k → take k (residues_of N ++ d) ≡ residues_of N
residues-front N k d l = take_at (residues_of N) d k (residues-length N ∙ l)

module _ (N : List ℤ) (d : List ℕ) where
  pub residues-none : d ≡ residues_of (take 0 N) ++ drop 0 d
  unfolding residues_of
  residues-none = refl

  residues-suc : (k : ℕ) → k < length N → residues_of (take (suc k) N) ≡ residues_of (take k N) ++ (remainder (get_or N k (pos 0)) ∷ [])
  unfolding residues_of
  residues-suc k h = go N k h
    where
      go : (N : List ℤ) (k : ℕ) → k < length N
          → map remainder (take (suc k) N) ≡ map remainder (take k N) ++ (remainder (get_or N k (pos 0)) ∷ [])
      go [] k h = absurd (omega arith)
      go (z ∷ N) zero h = refl
      go (z ∷ N) (suc k) h = ap (λ l. remainder z ∷ l) (go N k (omega arith))

  -- one more is written over d
  pub residues-more : (k : ℕ) → k < length N → k < length d
      → set (residues_of (take k N) ++ drop k d) k (remainder (get_or N k (pos 0))) ≡ residues_of (take (k + 1) N) ++ drop (k + 1) d
  residues-more k h l =
      let e : length (residues_of (take k N)) ≡ k = residues-length (take k N) ∙ length-take-le k N (omega arith) in
      rw (
        add-one,
        drop-cons d k 0,
        set_at (residues_of (take k N)) (get_or d k 0) (drop (suc k) d) (remainder (get_or N k (pos 0))) k e,
        residues-suc k h,
        append_assoc,
      )

  pub residues-all : (k : ℕ) → k ≤ length N → length N ≤ k → residues_of (take k N) ++ drop k d ≡ residues_of N ++ drop (length N) d
  residues-all k h l =
      let e : k ≡ length N = omega arith in
      ap (λ m. residues_of (take m N) ++ drop m d) e ∙ ap (λ M. residues_of M ++ drop (length N) d) (take-length N)

-- what is lent of a table that begins with them
pub front-leaves : (N : List ℤ) (k : ℕ) (d : List ℕ) {b : List ℕ} → length N ≡ k → b ≡ residues_of N ++ d → Leaves 0 (take k b)
front-leaves N k d l h = subst (Leaves 0) (sym (ap (λ b. take k b) h ∙ residues-front N k d l)) (residues-leaves N)
