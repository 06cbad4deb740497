-- Two terms whose runs stand side by side: what is told of them is document 01's verdict.
use Rattle.reply.specs.declared.Comparison.TheVariants.{Same}
use Rattle.std.specs.Prelude.{Ok, Bool, true, false, ◌⊎◌, List, ◌++◌, ◌≡◌, refl, ℕ, ◌+◌, ◌≤◌, length, take, drop}
use Rattle.std.proofs.Common.{true≢false, inl, inr, sym, ap, ap₂, ◌∙◌, subst, arith}
use Rattle.refusal.specs.declared.Side.TheVariants.{Left, Right}
use Rattle.horner.specs.laws.Within.{Within}
use Rattle.horner.specs.definitions.Term.{Term, norm_p}
use Rattle.code.specs.Coding.{Good}
use Rattle.code.specs.Operations.{sum_of, negate_of, value_of}
use Rattle.code.specs.laws.Good.{sum-good, negate_good}
use Rattle.code_point.specs.Points.{point_of, Ready}
use Rattle.run_code.specs.Decoding.{form_at}
use Rattle.text.specs.definitions.Bytes.{Reading, is_row, same}
use Rattle.text.specs.definitions.Limits.{accept_term}
use Rattle.text.specs.definitions.Tree.{Tree, term_of}
use Rattle.text_laws.specs.laws.Bytes.{same-eq, same_refl}
use Rattle.text_laws.specs.laws.Rows.{row-length, accepted-within}
use Rattle.reply.specs.definitions.Reply.{gives, read_as}
use Rattle.reply.specs.definitions.Calls.{Compared, Verdict, equal, different, verdict_of, compare_of, point_after}
use Rattle.door_terms.specs.Terms.{IsPair}
use Rattle.door_terms.specs.laws.Forms.{runs-inside, runs-paired, left-form, right-form, same_runs, same-forms}
use Rattle.door_compare.specs.Compare.{compared_of, Parting, Parted, Beside, Told}
use Rattle.door_compare.specs.laws.Points.{length-point}
use Rattle.door_compare.specs.laws.Verdict.{verdict-same, parted-ready, verdict-parted}

-- two lists of words are one, or not
lists-or : (x y : List ℕ) → (x ≡ y) ⊎ (x ≡ y → ⊥)
lists-or x y = go (same x y) refl
  where
    go : (b : Bool) → same x y ≡ b → (x ≡ y) ⊎ (x ≡ y → ⊥)
    go true e = inl (same-eq x y e)
    go false e = inr (λ h. true≢false (sym (ap (same x) (sym h) ∙ same_refl x) ∙ e))

module _ {row s t d : List ℕ} {k m : ℕ} (r : is_row row ≡ true) (Q : IsPair row s t k m d) where
  abbrev pub f : Term
  f = term_of row Q.f

  abbrev pub g : Term
  g = term_of row Q.g

  abbrev n : ℕ
  n = length row

  abbrev pub l : List ℕ
  l = take (k + m) d

  F : Within (length row) f
  F = accepted-within row s Q.f Q.left-accepted

  G : Within (length row) g
  G = accepted-within row t Q.g Q.right-accepted

  few : length row ≤ 4
  few = (row-length row r).1

  reply : compare_of row s t ≡ gives (verdict_of (length row) f g)
  reply =
      ap (λ (x : Reading Tree). read_as Left x
      (λ u. read_as Right (accept_term row t) (λ v. gives (verdict_of (length row) (term_of row u) (term_of row v))))) Q.left-accepted
      ∙ ap (λ (x : Reading Tree). read_as Right x (λ v. gives (verdict_of (length row) f (term_of row v)))) Q.right-accepted

  by-verdict :
      {x : Compared} {p' : List ℕ} (p : List ℕ) (v : Verdict) → verdict_of (length row) f g ≡ v → x ≡ compared_of (gives v) →
      p' ≡ point_after (gives v) p
      → (x ≡ compared_of (compare_of row s t)) × (p' ≡ point_after (compare_of row s t) p)
  by-verdict p v e i j =
      let z = sym (reply ∙ ap gives e) in
      (i ∙ ap compared_of z, j ∙ ap (λ y. point_after y p) z)

  -- the same words
  told_same : (p : List ℕ) → take k l ≡ drop k l
      → (Ok Same ≡ compared_of (compare_of row s t)) × (p ≡ point_after (compare_of row s t) p)
  told_same p e = by-verdict p equal (verdict-same n f g F G (same_runs r Q e)) refl refl

  module _ (h : take k l ≡ drop k l → ⊥) where
    apart : norm_p f ≡ norm_p g → ⊥
    apart e = h (same-forms r Q e)

    gap_is : sum_of 0 (norm_p f) (negate_of 0 (norm_p g)) ≡ sum_of 0 (form_at n 0 (take k l)) (negate_of 0 (form_at n 0 (drop k l)))
    gap_is = ap₂ (λ x y. sum_of 0 x (negate_of 0 y)) (sym (left-form r Q)) (sym (right-form r Q))

    -- what the search for their first point asks
    pair-parting : Parting n k (k + m) d
    pair-parting =
        record {
          runs = runs-paired r Q;
          ready = subst (Ready n) gap_is (parted-ready n f g F G few apart);
        }

    -- and what it finds
    pair-parted : {x : Compared} {p' : List ℕ} (p : List ℕ) → Parted n (form_at n 0 (take k l)) (form_at n 0 (drop k l)) x p p'
        → (x ≡ compared_of (compare_of row s t)) × (p' ≡ point_after (compare_of row s t) p)
    pair-parted {x} {p'} p P =
        let U : Parted n (norm_p f) (norm_p g) x p p' = subst (λ z. Parted n z (norm_p g) x p p') (left-form r Q)
        (subst (λ z. Parted n (form_at n 0 (take k l)) z x p p') (right-form r Q) P) in
        let N = point_of n (sum_of 0 (norm_p f) (negate_of 0 (norm_p g))) in
        let w = sum-good (good_left) (negate_good (good_right)) in
        by-verdict p (different N (value_of 0 (norm_p f) N) (value_of 0 (norm_p g) N)) (verdict-parted n f g F G few w apart) U.answer
        (U.point ∙ ap (λ i. N ++ drop i p) (sym (length-point n (sum_of 0 (norm_p f) (negate_of 0 (norm_p g))))))
      where
        good_left : Good 0 (norm_p f)
        good_left = subst (Good 0) (left-form r Q) (runs-paired r Q).left-good

        good_right : Good 0 (norm_p g)
        good_right = subst (Good 0) (right-form r Q) (runs-paired r Q).right-good

  pub pair-beside : Beside n k (k + m) d
  pair-beside = record { left = omega arith; inside = runs-inside r Q; parting = pair-parting }

  pub pair-told : {x : Compared} {p' : List ℕ} (p : List ℕ) → Told n k (k + m) d x p p'
      → (x ≡ compared_of (compare_of row s t)) × (p' ≡ point_after (compare_of row s t) p)
  pair-told {x} {p'} p T = by (lists-or (take k l) (drop k l))
    where
      by : (take k l ≡ drop k l) ⊎ (take k l ≡ drop k l → ⊥)
          → (x ≡ compared_of (compare_of row s t)) × (p' ≡ point_after (compare_of row s t) p)
      by (inl e) = let u = told_same p e in ((T.same e).0 ∙ u.0, (T.same e).1 ∙ u.1)
      by (inr h) = pair-parted h p (T.parted h)
