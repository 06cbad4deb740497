-- "no refusal but document 01's, each exactly when its line of the table says so": of a term's text and of a form's text, number and place.
use Rattle.std.specs.Prelude.{Bool, true, false, List, [], ◌∷◌, ◌++◌, ◌↔◌, ◌≡◌, refl, ℕ, suc, leb, ℤ}
use Rattle.std.proofs.Common.{sym, ◌∙◌, arith, le-leb}
use Rattle.std.proofs.Math.Path.{ap}
use Rattle.std.proofs.Math.Nat.{sub-zero}
use Rattle.std.proofs.lemmas.Bool.{lt-leb}
use Rattle.horner.specs.definitions.Form.{Form}
use Rattle.horner.specs.definitions.Measures.{AllLe, degrees, weight, terms}
use Rattle.horner.specs.definitions.Rings.{ℤ_ring}
use Rattle.text.specs.definitions.Bytes.{onward, Reading, read, refused_at, fine, all}
use Rattle.text.specs.definitions.FormReading as J
use Rattle.text.specs.definitions.FormReading.{Node, nodes, stands, first_wrong, form_measured, form_judged, accept_form}
use Rattle.text.specs.definitions.FormMeaning.{AllStand, IsForm}
use Rattle.text.specs.definitions.Limits.{accept_term}
use Rattle.text.specs.definitions.Meaning.{OrdinaryRefused}
use Rattle.text.specs.definitions.Tree.{Tree}
use Rattle.text_laws.specs.laws.Bytes.{no-refusal, refusal-parts, all-le, le-all}
use Rattle.text_laws.specs.laws.FormAccepted as F
use Rattle.text_laws.specs.laws.FormAccepted.{Measure, within, degree, heavy, many}
use Rattle.text_laws.specs.laws.FormExactly as FE
use Rattle.text_laws.specs.laws.FormNormal.{normal-stand}
use Rattle.text_laws.specs.laws.FormReading as FR
use Rattle.text_laws.specs.laws.Ordinary as Terms
use Rattle.demands.specs.Order.{Test, FirstFails, this, later, limits, TermInside, FormRefused, no-form, not-normal, over-measure}
use Rattle.demands.specs.laws.Exactly.{Reads}

-- ---- a term's text
-- 3, 4, 5 and 6: it is no term. 8, 9 and 10: "the first offending node in order of finishing decides". Both as text/definitions/Meaning
-- says (OrdinaryRefused), of the ordinary dialect and with some end beside the place
pub term-refused : (row s : List ℕ) (e p : ℕ) → (accept_term row s ≡ refused_at e p) ↔ OrdinaryRefused row s e p
term-refused row s e p = Terms.refuses row s e p

pub term-accepted : (row s : List ℕ) (t : Tree) → (accept_term row s ≡ read t) ↔ TermInside row s t
term-accepted row s t =
    let h = Terms.accepts row s t in
    (λ i. record { is = (h.0 i).0; inside = (h.0 i).1 }, λ i. h.1 (i.is, i.inside))

pub term-reads : (row s : List ℕ) → Reads (accept_term row s) (TermInside row s) (OrdinaryRefused row s)
term-reads row s = record { accepts = term-accepted row s; wrong = term-refused row s }

-- ---- a form's text: 3, 4 and 6; 7; 8, 9 and 10, as FormRefused says
module _ (m : ℕ) where
  first-wrong :
      (r : Reading (Form ℤ)) (ls : List Node) (k : Node) (js : List Node) → AllStand m ls → stands m k.level k.form ≡ false →
      first_wrong m r (ls ++ (k ∷ js)) ≡ refused_at 7 k.place
  first-wrong r [] k js a h = rw (h, first_wrong)
  first-wrong r (l ∷ ls) k js a h = rw (a.0, first_wrong) (first-wrong r ls k js a.1 h)

  module _ (f : Form ℤ) where
    abbrev tests : List Test
    tests = limits (degrees m f) (weight f) (terms ℤ_ring f)

    over-degree : (b : Bool) → all (λ d. leb d 63) (degrees m f) ≡ b → (AllLe 63 (degrees m f) → ⊥) → b ≡ false
    over-degree true h k = absurd (k (all-le (degrees m f) h))
    over-degree false h k = refl

    measure-fails : (e : ℕ) → Measure m f (suc e) → FirstFails (suc e) tests
    measure-fails e (within i h) = absurd (omega (arith, i))
    measure-fails e (degree i h) = this _ _ (over-degree (all (λ d. leb d 63) (degrees m f)) refl h) i
    measure-fails e (heavy i h w) = later _ _ (le-all (degrees m f) h) (this _ _ (lt-leb (weight f) 1073741823 w) i)
    measure-fails e (many i h w t) =
        later _ _ (le-all (degrees m f) h)
        (later _ _ (le-leb (weight f) 1073741823 w) (this _ _ (lt-leb (terms ℤ_ring f) 256 t) i))

    fails-fine : (e : ℕ) → FirstFails e tests → fine (J.over_limit m f) 0 (λ u. read f) ≡ refused_at e 0
    fails-fine e (this _ _ h i) = rw i (rw (h, J.over_limit) refl)
    fails-fine e (later _ _ h (this _ _ k i)) = rw i (rw (h, J.over_limit) (rw k refl))
    fails-fine e (later _ _ h (later _ _ k (this _ _ l i))) = rw i (rw (h, J.over_limit) (rw (k, l) refl))
    fails-fine e (later _ _ h (later _ _ k (later _ _ _ x))) = elim x [ ]

  module _ (s : List ℕ) (e p : ℕ) where
    why-form : F.Outcome m s (accept_form m s) → accept_form m s ≡ refused_at e p → FormRefused m s e p
    why-form (F.not-text e' p' i j) h = no-form ((FE.refused-exactly s e p).0 (i ∙ sym j ∙ h))
    why-form (F.not-normal f p' t w j) h = let q = refusal-parts 7 p' e p (sym j ∙ h) in not-normal f t q.0 (rw q.1 w)
    why-form (F.too-big f e' t n w j) h =
        let q = refusal-parts (suc e') 0 e p (sym j ∙ h) in
        over-measure f t n (rw q.0 (measure-fails f e' w)) q.1
    why-form (F.stands-as f k j) h = no-refusal (sym h ∙ j)

    of-why-form : FormRefused m s e p → accept_form m s ≡ refused_at e p
    unfolding accept_form
    of-why-form (no-form a) = ap (λ (r : Reading (Form ℤ)). onward r (form_judged m)) ((FE.refused-exactly s e p).1 a)
    of-why-form (not-normal f t i w) =
        ap (λ (r : Reading (Form ℤ)). onward r (form_judged m)) ((FR.reads s f).1 t)
        ∙ ap (λ (r : Reading (Form ℤ)). onward r (form_measured m))
        (ap (first_wrong m (read f)) w.parts ∙ first-wrong (read f) w.before w.node w.behind w.stand w.falls)
        ∙ rw (i, w.place)
    of-why-form (over-measure f t n w i) =
        ap (λ (r : Reading (Form ℤ)). onward r (form_judged m)) ((FR.reads s f).1 t)
        ∙ ap (λ (r : Reading (Form ℤ)). onward r (form_measured m))
        (F.all-stand m (read f) (nodes 0 0 f) (normal-stand m f 0 0 (rw sub-zero n))) ∙ fails-fine f e w ∙ ap (refused_at e) (sym i)

    pub form-refused : (accept_form m s ≡ refused_at e p) ↔ FormRefused m s e p
    form-refused = (why-form (F.outcome m s), of-why-form)

pub form-reads : (m : ℕ) (s : List ℕ) → Reads (accept_form m s) (IsForm m s) (FormRefused m s)
form-reads m s = record { accepts = F.accepts m s; wrong = form-refused m s }
