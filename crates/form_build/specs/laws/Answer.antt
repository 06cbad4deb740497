-- The answer on the text of a form, from what its passes find.
use Rattle.std.specs.Prelude.{Result, Ok, Err, Bool, true, false, not, ◌&&◌, List, [], ◌∷◌, ◌≡◌, refl, ℕ, zero, suc, ◌+◌, ◌≤◌, min, max, ltb, leb, ℤ, length, get_or}
use Rattle.std.proofs.Common.{sym, ◌∙◌, subst, arith, eq-eqb, ne_eqb, lt-ltb, le-ltb, leb-true, leb-false}
use Rattle.std.proofs.Math.Path.{ap}
use Rattle.std.proofs.Math.Nat.{sub-zero}
use Rattle.refusal.specs.Refusal.{fault}
use Rattle.horner.specs.definitions.Form.{Form, Normal}
use Rattle.horner.specs.definitions.Rings.{ℤ_ring}
use Rattle.horner.specs.definitions.Measures.{AllLe, weight, degrees, count, terms}
use Rattle.horner.proofs.laws.Degree.{length-degrees}
use Rattle.text.specs.definitions.Bytes.{onward, Reading, read, fine, all}
use Rattle.text.specs.definitions.FormReading.{nodes, over_limit, form_measured, form_judged, accept_form, text}
use Rattle.text.specs.definitions.FormMeaning.{IsFormText}
use Rattle.text_laws.specs.laws.FormDescent.{judged_at}
use Rattle.text_laws.specs.laws.FormAccepted.{Fits, Measure, within, degree, heavy, many, measure, Judged as Verdict, upright, fallen}
use Rattle.text_laws.specs.laws.FormAccepted.{judged}
use Rattle.text_laws.specs.laws.FormNormal.{stand-normal}
use Rattle.text_laws.specs.laws.FormReading.{reads}
use Rattle.text_laws.specs.laws.Picks.{pick, pick_yes, pick_no}
use Rattle.measure.specs.declared.Measures.{Measures}
use Rattle.measure.specs.Measure.{limit_m, Within}
use Rattle.form_head.specs.Heads.{Standing}
use Rattle.form_normal.specs.declared.Seen.{Seen}
use Rattle.form_build.specs.Answer.{IsRead, judged_of, limited_m}
use Rattle.form_normal.specs.Normal.{shape_of, seen, SeenAt}
use Rattle.form_build.specs.Measure.{degree_at, cut_of, at_least_one, measures_of, MeasuredAt}
use Rattle.form_build.specs.laws.Accepted.{text-stands}
use Rattle.form_build.specs.laws.Measure.{degree-at}

-- ---- limits, on numbers that were cut down
over-cut : (K x : ℕ) → ltb K (min x (suc K)) ≡ not (leb x K)
over-cut K x = go (leb x K) refl
  where
    go : (b : Bool) → leb x K ≡ b → ltb K (min x (suc K)) ≡ not b
    go true e = le-ltb K (min x (suc K)) (omega (arith, leb-true x K e))
    go false e = lt-ltb K (min x (suc K)) (omega (arith, leb-false x K e))

over-terms : (x : ℕ) → ltb 256 (max 1 (min x 257)) ≡ not (leb (max 1 x) 256)
over-terms x = go (leb (max 1 x) 256) refl
  where
    go : (b : Bool) → leb (max 1 x) 256 ≡ b → ltb 256 (max 1 (min x 257)) ≡ not b
    go true e = le-ltb 256 (max 1 (min x 257)) (omega (arith, leb-true (max 1 x) 256 e))
    go false e = lt-ltb 256 (max 1 (min x 257)) (omega (arith, leb-false (max 1 x) 256 e))

six-tests : (a b c d w t : Bool)
    → ◌≡◌ {A = ℕ} (pick (not a) 8 (pick (not b) 8 (pick (not c) 8 (pick (not d) 8 (pick (not w) 9 (pick (not t) 10 0))))))
    (elim (a && (b && (c && d))) [ true ↦ elim w [ true ↦ elim t [ true ↦ 0 | false ↦ 10 ] | false ↦ 9 ] | false ↦ 8 ])
unfolding pick
six-tests true true true true true true = refl
six-tests true true true true true false = refl
six-tests true true true true false t = refl
six-tests true true true false w t = refl
six-tests true true false d w t = refl
six-tests true false c d w t = refl
six-tests false b c d w t = refl

and-true : (b : Bool) → (b && true) ≡ b
and-true true = refl
and-true false = refl

abbrev low : ℕ → Bool
low d = leb d 63

all-four :
    (ds : List ℕ) → length ds ≤ 4 → all low ds ≡ (low (get_or ds 0 0) && (low (get_or ds 1 0) && (low (get_or ds 2 0) && low (get_or ds 3 0))))
all-four [] h = refl
all-four (a ∷ []) h = refl
all-four (a ∷ b ∷ []) h = refl
all-four (a ∷ b ∷ c ∷ []) h = refl
all-four (a ∷ b ∷ c ∷ d ∷ []) h = ap (λ z. low a && (low b && (low c && z))) (and-true (low d))
all-four (a ∷ b ∷ c ∷ d ∷ e ∷ ds) h = absurd (omega arith)

pub all-at : (ds : List ℕ) → AllLe 63 ds → (k : ℕ) → get_or ds k 0 ≤ 63
all-at [] h k = omega arith
all-at (d ∷ ds) h zero = h.0
all-at (d ∷ ds) h (suc k) = all-at ds h.1 k

module _ (m : ℕ) (few : m ≤ 4) (f : Form ℤ) (n : Normal ℤ_ring m f) where
  degree-low : (k : ℕ) → ltb 63 (min (degree_at f k) 64) ≡ not (low (get_or (degrees m f) k 0))
  degree-low k = over-cut 63 (degree_at f k) ∙ ap (λ d. not (low d)) (sym (degree-at m f n k))

  limit_is : limit_m (at_least_one (cut_of f)) ≡ over_limit m f
  limit_is =
      (λ i. pick (degree-low 0 i) 8 (pick (degree-low 1 i) 8 (pick (degree-low 2 i) 8
      (pick (degree-low 3 i) 8 (pick (over-cut 1073741823 (weight f) i) 9 (pick (over-terms (count ℤ_ring f) i) 10 0))))))
      ∙ six-tests (low (get_or (degrees m f) 0 0)) (low (get_or (degrees m f) 1 0)) (low (get_or (degrees m f) 2 0))
      (low (get_or (degrees m f) 3 0)) (leb (weight f) 1073741823) (leb (terms ℤ_ring f) 256)
      ∙ ap (λ b. elim b [
        | true ↦ elim (leb (weight f) 1073741823)
            [ true ↦ elim (leb (terms ℤ_ring f) 256) [ true ↦ 0 | false ↦ 10 ] | false ↦ 9 ]
        | false ↦ 8
      ])
      (sym (all-four (degrees m f) (omega (arith, few, length-degrees ℤ_ring m f n))))

  small-min : (x K : ℕ) → x ≤ K → min x (suc K) ≡ x
  small-min x K h = omega arith

  degree-is : AllLe 63 (degrees m f) → (k : ℕ) → min (degree_at f k) 64 ≡ get_or (degrees m f) k 0
  degree-is h k =
      small-min (degree_at f k) 63 (subst (λ d. d ≤ 63) (degree-at m f n k) (all-at (degrees m f) h k)) ∙ sym (degree-at m f n k)

  -- within the limits nothing was cut
  exact : Fits m f → at_least_one (cut_of f) ≡ measures_of m f
  exact h =
      let t : max 1 (min (count ℤ_ring f) 257) ≡ terms ℤ_ring f = omega (arith, h.terms-fit) in
      λ i.
      record {
        weight = small-min (weight f) 1073741823 h.weight-fits i;
        terms = t i;
        d0 = degree-is h.degrees-fit 0 i;
        d1 = degree-is h.degrees-fit 1 i;
        d2 = degree-is h.degrees-fit 2 i;
        d3 = degree-is h.degrees-fit 3 i;
      }

  within-limits : (e : ℕ) → Measure m f e → e ≡ 0 → Fits m f
  within-limits e (within i h) z = h
  within-limits e (degree i h) z = absurd (omega arith)
  within-limits e (heavy i h k) z = absurd (omega arith)
  within-limits e (many i h k l) z = absurd (omega arith)

  limited-is : (a : Measures) → a ≡ at_least_one (cut_of f) → limited_m a ≡ judged_of m (fine (over_limit m f) 0 (λ u. read f))
  limited-is a q = go (over_limit m f) refl
    where
      l : limit_m a ≡ over_limit m f
      l = ap limit_m q ∙ limit_is

      go : (e : ℕ) → over_limit m f ≡ e → limited_m a ≡ judged_of m (fine e 0 (λ u. read f))
      go zero e =
          pick_yes (Ok a) (Err (fault (limit_m a) 0)) (eq-eqb (limit_m a) 0 (l ∙ e))
          ∙ ap Ok (q ∙ exact (within-limits (over_limit m f) (measure m f) e))
      go (suc k) e =
          pick_no (Ok a) (Err (fault (limit_m a) 0)) (ne_eqb (limit_m a) 0 (λ z. omega (arith, z, l, e)))
          ∙ ap (λ x. Err (fault x 0)) (l ∙ e)

-- ---- a limit that is passed, or none
pub limited-ok : (a : Measures) (x : Result (Unit {0}) ℕ) {u : Unit {0}} → Within a x → x ≡ Ok u → Ok a ≡ limited_m a
limited-ok a (Ok u) w q = sym (pick_yes _ _ (eq-eqb (limit_m a) 0 w))
limited-ok a (Err e) w q = absurd (cc)

pub limited-err : (a : Measures) (x : Result (Unit {0}) ℕ) {e : ℕ} → Within a x → x ≡ Err e → Err (fault e 0) ≡ limited_m a
limited-err a (Ok u) w q = absurd (cc)
limited-err a (Err k) {e = e} w q =
    let same : limit_m a ≡ e = w.0 ∙ (cc) in
    sym (pick_no _ _ (ne_eqb (limit_m a) 0 (λ z. w.1 (sym w.0 ∙ z))) ∙ ap (λ n. Err (fault n 0)) same)

-- ---- the text
module _ (m : ℕ) (few : m ≤ 4) (s : List ℕ) (R : IsRead s) where
  is-text : IsFormText s R.f
  is-text = (reads s R.f).0 R.is

  pub read-standing : Standing s 0
  read-standing = record { g = R.f; rest = []; stands = text-stands is-text }

  accept-read : accept_form m s ≡ onward (judged_at m 0 0 R.f) (form_measured m)
  unfolding accept_form
  accept-read = ap (λ (r : Reading (Form ℤ)). onward r (form_judged m)) R.is

  pub answer-wrong : (p : ℕ) → SeenAt m s 0 (Err p) → Err (fault 7 p) ≡ judged_of m (accept_form m s)
  answer-wrong p S =
      go (judged_at m 0 0 R.f) (judged m R.f (nodes 0 0 R.f)) (S m 0 R.f [] (sub-zero m) (text-stands is-text))
      ∙ ap (judged_of m) (sym accept-read)
    where
      go :
          (x : Reading (Form ℤ)) → Verdict m R.f (nodes 0 0 R.f) x → Err p ≡ seen x (shape_of R.f) (0 + length (text R.f)) →
          Err (fault 7 p) ≡ judged_of m (onward x (form_measured m))
      go x (upright a e) q =
          absurd
          (let w = q ∙ ap (λ z. seen z (shape_of R.f) (0 + length (text R.f))) e in let z : ◌≡◌ {A = ℕ} 0 1 = cc in omega arith)
      go x (fallen ls k js j a w e) q =
          let v : Err p ≡ Err k.place = q ∙ ap (λ z. seen z (shape_of R.f) (0 + length (text R.f))) e in
          let u : p ≡ k.place = cc in
          ap (λ x. Err (fault 7 x)) u ∙ ap (λ z. judged_of m (onward z (form_measured m))) (sym e)

  pub answer-fine :
      (x : Seen) → SeenAt m s 0 (Ok x) → {a b : Measures} {end : ℕ} → MeasuredAt s 0 a end → b ≡ at_least_one a →
      limited_m b ≡ judged_of m (accept_form m s)
  answer-fine y S {a} {b} M q =
      go (judged_at m 0 0 R.f) (judged m R.f (nodes 0 0 R.f)) (S m 0 R.f [] (sub-zero m) (text-stands is-text))
      ∙ ap (judged_of m) (sym accept-read)
    where
      go :
          (x : Reading (Form ℤ)) → Verdict m R.f (nodes 0 0 R.f) x →
          Ok y ≡ seen x (shape_of R.f) (0 + length (text R.f)) → limited_m b ≡ judged_of m (onward x (form_measured m))
      go x (upright a e) v =
          limited-is m few R.f (rw sub-zero at (stand-normal m R.f 0 0 a)) b
          (q ∙ ap at_least_one (M.is R.f [] (text-stands is-text)))
          ∙ ap (λ z. judged_of m (onward z (form_measured m))) (sym e)
      go x (fallen ls k js j a w e) v =
          absurd
          (let u = v ∙ ap (λ z. seen z (shape_of R.f) (0 + length (text R.f))) e in let z : ◌≡◌ {A = ℕ} 0 1 = cc in omega arith)
