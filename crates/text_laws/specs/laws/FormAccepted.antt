-- A form text is accepted exactly when it is the text of a normal form within the limits; else the refusal is as document 01 orders them.
use Rattle.std.specs.Prelude.{Bool, true, false, List, [], ◌∷◌, ◌++◌, ◌↔◌, ◌≡◌, ℕ, zero, suc, ◌≤◌, ◌<◌, leb, ℤ}
use Rattle.std.proofs.Common.{true≢false, sym, ◌∙◌, arith, leb-true, leb-false, le-leb}
use Rattle.std.proofs.Math.Path.{refl, ap}
use Rattle.std.proofs.Math.Nat.{sub-zero}
use Rattle.horner.specs.definitions.Form.{Form, Normal}
use Rattle.horner.specs.definitions.Rings.{ℤ_ring}
use Rattle.horner.specs.definitions.Measures.{AllLe, degrees, weight, terms}
use Rattle.text.specs.definitions.Bytes.{onward, Reading, read, refused, refused_at, fine, all}
use Rattle.text.specs.definitions.FormReading.{Node, nodes, stands, first_wrong, over_limit, form_measured, form_judged, accept_form, read_form}
use Rattle.text.specs.definitions.FormMeaning.{IsFormText, IsForm, AllStand, WrongNode}
use Rattle.text_laws.specs.laws.Bytes.{all-le, le-all, no-refusal}
use Rattle.text_laws.specs.laws.FormNormal.{stand-normal, normal-stand}
use Rattle.text_laws.specs.laws.FormReading.{reads}

-- ---- the limits
pub record Fits (m : ℕ) (f : Form ℤ) : Type 0 where
  pub degrees-fit : AllLe 63 (degrees m f)
  pub weight-fits : weight f ≤ 1073741823
  pub terms-fit : terms ℤ_ring f ≤ 256

fits-within : (m : ℕ) (f : Form ℤ) → Fits m f → over_limit m f ≡ 0
fits-within m f h =
    rw (le-all (degrees m f) h.degrees-fit, over_limit)
    (rw (le-leb (weight f) 1073741823 h.weight-fits, le-leb (terms ℤ_ring f) 256 h.terms-fit))

-- ---- what the measures say: 0 within the limits, else the lowest number
pub data Measure (m : ℕ) (f : Form ℤ) (e : ℕ) : Type 0 where
  within : e ≡ 0 → Fits m f → Measure m f e
  degree : e ≡ 8 → (AllLe 63 (degrees m f) → ⊥) → Measure m f e
  heavy : e ≡ 9 → AllLe 63 (degrees m f) → 1073741823 < weight f → Measure m f e
  many : e ≡ 10 → AllLe 63 (degrees m f) → weight f ≤ 1073741823 → 256 < terms ℤ_ring f → Measure m f e

pub measure : (m : ℕ) (f : Form ℤ) → Measure m f (over_limit m f)
measure m f = go₁ (all (λ d. leb d 63) (degrees m f)) refl
  where
    go₃ :
        (b : Bool) → all (λ d. leb d 63) (degrees m f) ≡ true → leb (weight f) 1073741823 ≡ true → leb (terms ℤ_ring f) 256 ≡ b →
        Measure m f (over_limit m f)
    go₃ true d w t =
        let h : Fits m f = record {
          degrees-fit = all-le (degrees m f) d;
          weight-fits = leb-true (weight f) 1073741823 w;
          terms-fit = leb-true
              (terms ℤ_ring f) 256 t;
        } in
        within (fits-within m f h) h
    go₃ false d w t =
        many (rw (d, over_limit) (rw (w, t))) (all-le (degrees m f) d) (leb-true (weight f) 1073741823 w) (leb-false (terms ℤ_ring f) 256 t)

    go₂ : (b : Bool) → all (λ d. leb d 63) (degrees m f) ≡ true → leb (weight f) 1073741823 ≡ b → Measure m f (over_limit m f)
    go₂ true d w = go₃ (leb (terms ℤ_ring f) 256) d w refl
    go₂ false d w = heavy (rw (d, over_limit) (rw w)) (all-le (degrees m f) d) (leb-false (weight f) 1073741823 w)

    go₁ : (b : Bool) → all (λ d. leb d 63) (degrees m f) ≡ b → Measure m f (over_limit m f)
    go₁ true d = go₂ (leb (weight f) 1073741823) d refl
    go₁ false d = degree (rw (d, over_limit)) (λ h. true≢false (sym (le-all (degrees m f) h) ∙ d))

within-fits : (m : ℕ) (f : Form ℤ) (e : ℕ) → Measure m f e → e ≡ 0 → Fits m f
within-fits m f e (within i h) z = h
within-fits m f e (degree i h) z = absurd (omega arith)
within-fits m f e (heavy i h k) z = absurd (omega arith)
within-fits m f e (many i h k l) z = absurd (omega arith)

-- ---- the nodes
module _ (m : ℕ) where
  pub all-stand : (r : Reading (Form ℤ)) (ks : List Node) → AllStand m ks → first_wrong m r ks ≡ r
  all-stand r [] h = refl
  all-stand r (k ∷ ks) h = rw (h.0, first_wrong) (all-stand r ks h.1)

  pub data Judged (f : Form ℤ) (ks : List Node) (x : Reading (Form ℤ)) : Type 0 where
    upright : AllStand m ks → x ≡ read f → Judged f ks x
    fallen :
        (ls : List Node) (k : Node) (js : List Node) → ks ≡ ls ++ (k ∷ js) → AllStand m ls → stands m k.level k.form ≡ false →
        x ≡ refused_at 7 k.place → Judged f ks x

  later :
      (f : Form ℤ) (k : Node) (ks : List Node) (x : Reading (Form ℤ)) → stands m k.level k.form ≡ true → Judged f ks x →
      Judged f (k ∷ ks) x
  later f k ks x h (upright a e) = upright (h, a) e
  later f k ks x h (fallen ls n js p a w e) = fallen (k ∷ ls) n js (ap (λ (z : List Node). k ∷ z) p) (h, a) w e

  judged-first :
      (f : Form ℤ) (k : Node) (ks : List Node) (b : Bool) → stands m k.level k.form ≡ b → Judged f ks (first_wrong m (read f) ks) →
      Judged f (k ∷ ks) (first_wrong m (read f) (k ∷ ks))
  judged-first f k ks true h j = rw (h, first_wrong) (later f k ks (first_wrong m (read f) ks) h j)
  judged-first f k ks false h j = fallen [] k ks refl tt h (rw (h, first_wrong))

  pub judged : (f : Form ℤ) (ks : List Node) → Judged f ks (first_wrong m (read f) ks)
  judged f [] = upright tt refl
  judged f (k ∷ ks) = judged-first f k ks (stands m k.level k.form) refl (judged f ks)

-- ---- what becomes of a text
module _ (m : ℕ) (s : List ℕ) where
  -- in document 01's order: 3, 4 or 6; then 7; then 8, 9 or 10; or it stands
  pub data Outcome (x : Reading (Form ℤ)) : Type 0 where
    not-text : (e p : ℕ) → read_form s ≡ refused_at e p → x ≡ refused_at e p → Outcome x
    not-normal : (f : Form ℤ) (p : ℕ) → IsFormText s f → WrongNode m f p → x ≡ refused_at 7 p → Outcome x
    too-big : (f : Form ℤ) (e : ℕ) → IsFormText s f → Normal ℤ_ring m f → Measure m f (suc e) → x ≡ refused_at (suc e) 0 → Outcome x
    stands-as : (f : Form ℤ) → IsForm m s f → x ≡ read f → Outcome x

  measured-outcome : (f : Form ℤ) (e : ℕ) → over_limit m f ≡ e → IsFormText s f → Normal ℤ_ring m f → Outcome (fine e 0 (λ u. read f))
  measured-outcome f zero e t n =
      let h = within-fits m f (over_limit m f) (measure m f) e in
      stands-as f
      (record { written = t; normal = n; degrees-fit = h.degrees-fit; weight-fits = h.weight-fits; terms-fit = h.terms-fit }) refl
  measured-outcome f (suc k) e t n = too-big f k t n (rw e at (measure m f)) refl

  judged-outcome : (f : Form ℤ) (x : Reading (Form ℤ)) → IsFormText s f → Judged m f (nodes 0 0 f) x → Outcome (onward x (form_measured m))
  judged-outcome f x t (upright a i) =
      let n : Normal ℤ_ring m f = rw sub-zero at (stand-normal m f 0 0 a) in
      rw i (measured-outcome f (over_limit m f) refl t n)
  judged-outcome f x t (fallen ls k js p a w i) =
      rw i (not-normal f k.place t (record { before = ls; node = k; behind = js; parts = p; place = refl; stand = a; falls = w }) refl)

  read-outcome : (x : Reading (Form ℤ)) → read_form s ≡ x → Outcome (onward x (form_judged m))
  read-outcome (refused bad) i = not-text bad.number bad.place i refl
  read-outcome (read f) i = judged-outcome f (first_wrong m (read f) (nodes 0 0 f)) ((reads s f).0 i) (judged m f (nodes 0 0 f))

  pub outcome : Outcome (accept_form m s)
  unfolding accept_form
  outcome = read-outcome (read_form s) refl

  is-of : (f : Form ℤ) → Outcome (accept_form m s) → accept_form m s ≡ read f → IsForm m s f
  is-of f (not-text e p i j) h = no-refusal (sym j ∙ h)
  is-of f (not-normal g p t w j) h = no-refusal (sym j ∙ h)
  is-of f (too-big g e t n k j) h = no-refusal (sym j ∙ h)
  is-of f (stands-as g k j) h = let i : read g ≡ read f = sym j ∙ h in let l : g ≡ f = cc in rw l at k

  of_is : (f : Form ℤ) → IsForm m s f → accept_form m s ≡ read f
  unfolding accept_form
  of_is f h =
      ap (λ (r : Reading (Form ℤ)). onward r (form_judged m)) ((reads s f).1 h.written)
      ∙ ap (λ (r : Reading (Form ℤ)). onward r (form_measured m))
      (all-stand m (read f) (nodes 0 0 f) (normal-stand m f 0 0 (rw sub-zero h.normal)))
      ∙ ap (λ (e : ℕ). fine e 0 (λ u. read f))
      (fits-within m f (record { degrees-fit = h.degrees-fit; weight-fits = h.weight-fits; terms-fit = h.terms-fit }))

  -- "a form text is accepted" exactly when it is the text of a normal form within the limits
  pub accepts : (f : Form ℤ) → (accept_form m s ≡ read f) ↔ IsForm m s f
  accepts f = (is-of f outcome, of_is f)
