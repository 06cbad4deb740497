-- What is told of two coded forms is document 01's verdict on their terms.
use Rattle.std.specs.Prelude.{Bool, true, false, List, [], ◌∷◌, map, ◌≡◌, ℕ, suc, ◌≤◌, length}
use Rattle.std.proofs.Math.Path.{refl, ap}
use Rattle.std.proofs.Common.{sym, ap₂, ◌∙◌, subst, arith}
use Rattle.horner.specs.definitions.Form.{is_zero, nats, evalh}
use Rattle.horner.specs.laws.Within.{Within}
use Rattle.horner.specs.definitions.Points as H
use Rattle.horner.specs.definitions.Points.{leaves}
use Rattle.horner.specs.laws.Residues.{lift}
use Rattle.horner.specs.definitions.Rings.{red_ℤ, prime, prime-pos, p_ring}
use Rattle.horner.specs.definitions.Term.{Term, norm_ℤ, norm_p}
use Rattle.horner.proofs.laws.Answer.{gap-zero, eval-leaves}
use Rattle.horner.specs.laws.Answer.{gap}
use Rattle.horner.specs.laws.Hom.{map_form}
use Rattle.horner.proofs.laws.Lifting.{residue, exact}
use Rattle.horner.proofs.laws.Term.{evalh-norm}
use Rattle.code.specs.Coding.{Good}
use Rattle.code.specs.Operations.{sum_of, negate_of, value_of}
use Rattle.code.specs.Widths.{leaf}
use Rattle.code_point.specs.Points as P
use Rattle.code_point.specs.laws.Points.{nat-leaf}
use Rattle.code_point.specs.laws.Terms.{gap_of, terms-ready, terms-point}
use Rattle.text.specs.definitions.Bytes.{same}
use Rattle.text.specs.definitions.FormReading.{text}
use Rattle.text_laws.specs.laws.Bytes.{same-eq, same_refl}
use Rattle.text_laws.specs.laws.FormReading.{text-injective}
use Rattle.reply.specs.definitions.Calls.{equal, different, different_at, verdict_of}
use Rattle.door_compare.specs.laws.Points.{length-point}

-- ---- the value at a point of naturals
leaves-nats : (N : List ℕ) → map (leaf 0) N ≡ nats p_ring N
leaves-nats [] = refl
leaves-nats (a ∷ N) = ap₂ ◌∷◌ (sym (nat-leaf a)) (leaves-nats N)

length-nats : (N : List ℕ) → length (nats p_ring N) ≡ length N
length-nats [] = refl
length-nats (a ∷ N) = ap suc (length-nats N)

module _ (n : ℕ) (f : Term) (F : Within n f) where
  pub value-is : (N : List ℕ) → length N ≡ n → value_of 0 (norm_p f) N ≡ leaves prime f N
  unfolding value_of
  value-is N l =
      ap (λ z. (evalh p_ring (norm_p f) z).0) (leaves-nats N)
      ∙ ap (λ z. z.0) (evalh-norm p_ring (red_ℤ prime prime-pos) refl n f (nats p_ring N) F.over (omega (arith, length-nats N, l)))
      ∙ eval-leaves f N

-- ---- the same bytes
module _ (n : ℕ) (f g : Term) (F : Within n f) (G : Within n g) where
  forms-same : norm_p f ≡ norm_p g → norm_ℤ f ≡ norm_ℤ g
  forms-same e =
      sym (exact n f F.over F.degrees F.weight) ∙ ap (map_form (lift prime prime-pos)) e
      ∙ exact n g G.over G.degrees G.weight

  same-forms : norm_ℤ f ≡ norm_ℤ g → norm_p f ≡ norm_p g
  same-forms e =
      residue n f F.over F.degrees (omega (arith, F.weight)) ∙ ap (map_form (red_ℤ prime prime-pos)) e
      ∙ sym (residue n g G.over G.degrees (omega (arith, G.weight)))

  pub bytes_same : norm_p f ≡ norm_p g → same (text (norm_ℤ f)) (text (norm_ℤ g)) ≡ true
  bytes_same e = ap (λ z. same (text (norm_ℤ f)) (text z)) (sym (forms-same e)) ∙ same_refl (text (norm_ℤ f))

  bytes-differ : (norm_p f ≡ norm_p g → ⊥) → same (text (norm_ℤ f)) (text (norm_ℤ g)) ≡ false
  bytes-differ h = go (same (text (norm_ℤ f)) (text (norm_ℤ g))) refl
    where
      go : (b : Bool) → same (text (norm_ℤ f)) (text (norm_ℤ g)) ≡ b → same (text (norm_ℤ f)) (text (norm_ℤ g)) ≡ false
      go true e = absurd (h (same-forms (text-injective (norm_ℤ f) (norm_ℤ g) (same-eq (text (norm_ℤ f)) (text (norm_ℤ g)) e))))
      go false e = e

  pub verdict-same : norm_p f ≡ norm_p g → verdict_of n f g ≡ equal
  verdict-same e = rw (bytes_same e, verdict_of) refl

  pub verdict-apart : (norm_p f ≡ norm_p g → ⊥) → verdict_of n f g ≡ different_at prime f g (H.point_of prime n f g)
  verdict-apart h = rw (bytes-differ h, verdict_of) refl

  -- 'same' is said of the same bytes only
  pub verdict-bytes : verdict_of n f g ≡ equal → text (norm_ℤ f) ≡ text (norm_ℤ g)
  verdict-bytes = go (same (text (norm_ℤ f)) (text (norm_ℤ g))) refl
    where
      go : (b : Bool) → same (text (norm_ℤ f)) (text (norm_ℤ g)) ≡ b → verdict_of n f g ≡ equal → text (norm_ℤ f) ≡ text (norm_ℤ g)
      go true e k = same-eq (text (norm_ℤ f)) (text (norm_ℤ g)) e
      go false e k =
          let i : different_at prime f g (H.point_of prime n f g) ≡ equal = sym (rw (e, verdict_of) refl) ∙ k in
          absurd (let z : ◌≡◌ {A = ℕ} 0 1 = cc in omega arith)

  pub not-zero : (norm_p f ≡ norm_p g → ⊥) → is_zero p_ring (gap f g) ≡ false
  not-zero h = go (is_zero p_ring (gap f g)) refl
    where
      go : (b : Bool) → is_zero p_ring (gap f g) ≡ b → is_zero p_ring (gap f g) ≡ false
      go true e = absurd (h ((gap-zero n f g F G).0 e))
      go false e = e

  pub parted-ready : n ≤ 4 → (norm_p f ≡ norm_p g → ⊥) → P.Ready n (sum_of 0 (norm_p f) (negate_of 0 (norm_p g)))
  parted-ready l h = subst (P.Ready n) (sym (gap_of f g)) (terms-ready n f g l F G (not-zero h))

  pub verdict-parted : n ≤ 4 → Good 0 (sum_of 0 (norm_p f) (negate_of 0 (norm_p g))) → (norm_p f ≡ norm_p g → ⊥) →
      let N = P.point_of n (sum_of 0 (norm_p f) (negate_of 0 (norm_p g))) in
      verdict_of n f g ≡ different N (value_of 0 (norm_p f) N) (value_of 0 (norm_p g) N)
  verdict-parted l w h =
      let N = P.point_of n (sum_of 0 (norm_p f) (negate_of 0 (norm_p g))) in
      let e : H.point_of prime n f g ≡ N =
      terms-point n f g l F G (not-zero h) (subst (Good 0) (gap_of f g) w) ∙ ap (P.point_of n) (sym (gap_of f g)) in
      let k = length-point n (sum_of 0 (norm_p f) (negate_of 0 (norm_p g))) in
      rw (bytes-differ h, verdict_of)
      (ap (different_at prime f g) e ∙ ap₂ (different N) (sym (value-is n f F N k)) (sym (value-is n g G N k)))
