-- Every state of the reading of a form can still become a form.
use Rattle.std.specs.Prelude.{Bool, true, false, ◌||◌, List, [], ◌∷◌, ◌++◌, ◌≡◌, refl, ℕ, ℤ, pos, negsuc, length}
use Rattle.std.proofs.Common.{true≢false, append_assoc, append-nil, sym, ap, ◌∙◌}
use Rattle.std.proofs.Math.Option.{Option, none, some}
use Rattle.horner.specs.definitions.Form.{Form, int, pop, pow}
use Rattle.text.specs.definitions.Bytes.{bytes, same, canonical, value_from, read_int, decimal, is_some}
use Rattle.text.specs.definitions.FormMeaning.{Begun}
use Rattle.text.specs.definitions.FormReading.{Frame, in_pop, in_pow, in_rest, Kind, pop_kind, pow_kind, Spot, before, number, head, index}
use Rattle.text.specs.definitions.FormReading.{behind, int_begun, head_begun, text}
use Rattle.text_laws.specs.laws.Bytes.{either, same-eq}
use Rattle.text_laws.specs.laws.FormSofar.{stack_bytes, kind_bytes, spot_bytes, so_far, SpotOk}
use Rattle.text_laws.specs.laws.Numerals.{int-read, decimal-canonical}

-- ---- a form that goes on from a state: what is missing is filled with 0
abbrev nought : Form ℤ
nought = int (pos 0)

abbrev fill : List Frame → Form ℤ → Form ℤ
fill [] f = f
fill (in_pop i ∷ fs) f = fill fs (pop i f)
fill (in_pow i ∷ fs) f = fill fs (pow i f nought)
fill (in_rest i p ∷ fs) f = fill fs (pow i p f)

abbrev more : List Frame → List ℕ
more [] = []
more (in_pop i ∷ fs) = 41 ∷ more fs
more (in_pow i ∷ fs) = 32 ∷ decimal 0 ++ (41 ∷ more fs)
more (in_rest i p ∷ fs) = 41 ∷ more fs

fill-bytes : (fs : List Frame) (f : Form ℤ) → text (fill fs f) ≡ stack_bytes fs ++ (text f ++ more fs)
fill-bytes [] f = sym (append-nil (text f))
fill-bytes (in_pop i ∷ fs) f = fill-bytes fs (pop i f) ∙ simp append_assoc
fill-bytes (in_pow i ∷ fs) f = fill-bytes fs (pow i f nought) ∙ simp append_assoc
fill-bytes (in_rest i p ∷ fs) f = fill-bytes fs (pow i p f) ∙ simp append_assoc

is-begun : (f : Form ℤ) (bs cs rest : List ℕ) → text f ≡ cs ++ rest → bs ≡ cs → Begun bs
is-begun f bs cs rest e i = record { form = f; rest = rest; is = e ∙ ap (λ (z : List ℕ). z ++ rest) (sym i) }

-- ---- the spots
number-begun : (w : List ℕ) → int_begun w ≡ true → Begun w
number-begun w e = go (same w (bytes "-")) refl
  where
    whole : (r : Option ℤ) → read_int w ≡ r → is_some r ≡ true → Begun w
    whole none i h = absurd (true≢false (sym h))
    whole (some z) i h = record { form = int z; rest = []; is = int-read w z i ∙ sym (append-nil w) }

    go : (b : Bool) → same w (bytes "-") ≡ b → Begun w
    go true k = is-begun (int (negsuc 0)) w (45 ∷ []) (decimal 1) refl (same-eq w (bytes "-") k)
    go false k = whole (read_int w) refl (let h : (false || is_some (read_int w)) ≡ true = rw k at e in h)

-- what follows `(POP ` and `(POW ` where nothing of i stands yet
abbrev pop_rest : List ℕ
pop_rest = decimal 0 ++ (32 ∷ decimal 0 ++ (41 ∷ []))

abbrev pow_rest : List ℕ
pow_rest = decimal 0 ++ (32 ∷ decimal 0 ++ (32 ∷ decimal 0 ++ (41 ∷ [])))

pop-text : text (pop 0 nought) ≡ bytes "(POP " ++ pop_rest
pop-text = simp append_assoc

pow-text : text (pow 0 nought nought) ≡ bytes "(POW " ++ pow_rest
pow-text = simp append_assoc

head-begun : (w : List ℕ) → head_begun w ≡ true → Begun (40 ∷ w)
head-begun w e =
    either (same w (bytes "P") || same w (bytes "PO") || same w (bytes "POP")) (same w (bytes "POW")) (Begun (40 ∷ w)) e
    (λ h. either (same w (bytes "P") || same w (bytes "PO")) (same w (bytes "POP")) (Begun (40 ∷ w)) h
    (λ g. either (same w (bytes "P")) (same w (bytes "PO")) (Begun (40 ∷ w)) g
    (λ i. is-begun (pop 0 nought) (40 ∷ w)
    (bytes "(P") (bytes "OP " ++ pop_rest) pop-text (ap (λ (z : List ℕ). 40 ∷ z) (same-eq w (bytes "P") i)))
    λ i. is-begun (pop 0 nought) (40 ∷ w)
    (bytes "(PO") (bytes "P " ++ pop_rest) pop-text (ap (λ (z : List ℕ). 40 ∷ z) (same-eq w (bytes "PO") i)))
    λ i. is-begun (pop 0 nought) (40 ∷ w)
    (bytes "(POP") (bytes " " ++ pop_rest) pop-text (ap (λ (z : List ℕ). 40 ∷ z) (same-eq w (bytes "POP") i)))
    λ i. is-begun (pow 0 nought nought) (40 ∷ w) (bytes "(POW") (bytes " " ++ pow_rest) pow-text
    (ap (λ (z : List ℕ). 40 ∷ z) (same-eq w (bytes "POW") i))

index-text : (v w c r : List ℕ) → v ≡ w → (c ++ (v ++ (32 ∷ []))) ++ r ≡ (c ++ w) ++ (32 ∷ r)
index-text v w c r e = ap (λ (z : List ℕ). (c ++ (z ++ (32 ∷ []))) ++ r) e ∙ simp append_assoc

index-begun : (k : Kind) (w : List ℕ) → canonical w ≡ true → Begun (kind_bytes k ++ w)
index-begun pop_kind w c =
    record {
      form = pop (value_from 0 w) nought;
      rest = 32 ∷ decimal 0 ++ (41 ∷ []);
      is = index-text (decimal (value_from 0 w)) w (bytes "(POP ") (decimal 0 ++ (41 ∷ [])) (decimal-canonical w c);
    }
index-begun pow_kind w c =
    record {
      form = pow (value_from 0 w) nought nought;
      rest = 32 ∷ decimal 0 ++ (32 ∷ decimal 0 ++ (41 ∷ []));
      is = index-text (decimal (value_from 0 w)) w (bytes "(POW ") (decimal 0 ++ (32 ∷ decimal 0 ++ (41 ∷ []))) (decimal-canonical w c);
    }

module _ (room : ℕ → Bool) where
  spot-begun : (s : Spot) (d : ℕ) → SpotOk room d s → Begun (spot_bytes s)
  spot-begun before d h = record { form = nought; rest = decimal 0; is = refl }
  spot-begun (number w) d h = number-begun w h
  spot-begun (head []) d h = is-begun (pop 0 nought) (bytes "(") (bytes "(") (bytes "POP " ++ pop_rest) pop-text refl
  spot-begun (head (x ∷ w)) d h = head-begun (x ∷ w) h.1
  spot-begun (index pop_kind []) d h = is-begun (pop 0 nought) (bytes "(POP ") (bytes "(POP ") pop_rest pop-text refl
  spot-begun (index pow_kind []) d h = is-begun (pow 0 nought nought) (bytes "(POW ") (bytes "(POW ") pow_rest pow-text refl
  spot-begun (index k (x ∷ w)) d h = index-begun k (x ∷ w) h.1
  spot-begun (behind f) d h = record { form = f; rest = []; is = sym (append-nil (text f)) }

  pub begun-state : (s : Spot) (fs : List Frame) → SpotOk room (length fs) s → Begun (so_far s fs)
  begun-state s fs a =
      let b = spot-begun s (length fs) a in
      record {
        form = fill fs b.form;
        rest = b.rest ++ more fs;
        is = fill-bytes fs b.form ∙ ap (λ (z : List ℕ). stack_bytes fs ++ (z ++ more fs)) b.is ∙ simp append_assoc;
      }
