-- Fields that are checked one after another: the first that is not whole and good stops it.
use Rattle.std.specs.Prelude.{Bool, true, false, List, [], ◌∷◌, ◌++◌, ◌≡◌, refl, ℕ, ◌≤◌, ◌<◌, leb, length}
use Rattle.std.proofs.Common.{ap, ◌∙◌, leb-true, leb-false, le-leb}
use Rattle.std.proofs.lemmas.Bool.{lt-leb}
use Rattle.book.specs.definitions.Book.{must, whole}
use Rattle.book.specs.definitions.Meaning.{Field, past, AllFine, First}
use Rattle.text.specs.definitions.Bytes.{Reading, refused_at, onward}

-- x, if all of them are whole and good
abbrev pub check : {A : Type 0} → List ℕ → List Field → Reading A → Reading A
check s [] x = x
check s (f ∷ fs) x = whole s f.start f.size (λ u. must f.good f.start (λ v. check s fs x))

pub onward-must :
    {A B : Type 0} (b : Bool) (p : ℕ) (r : Unit {0} → Reading B) (k : B → Reading A) →
    onward (must b p r) k ≡ must b p (λ u. onward (r u) k)
onward-must true p r k = refl
onward-must false p r k = refl

module _ {A : Type 0} where
  module _ (s : List ℕ) where
    pub check-onward :
        {B : Type 0} (fs : List Field) (x : Reading B) (k : B → Reading A) → onward (check s fs x) k ≡ check s fs (onward x k)
    check-onward [] x k = refl
    check-onward (f ∷ fs) x k =
        onward-must (leb (past f) (length s)) (length s) (λ u. must f.good f.start (λ v. check s fs x)) k
        ∙ ap (λ y. whole s f.start f.size (λ u. y))
        (onward-must f.good f.start (λ v. check s fs x) k ∙ ap (λ y. must f.good f.start (λ v. y)) (check-onward fs x k))

    pub check-append : (fs gs : List Field) (x : Reading A) → check s (fs ++ gs) x ≡ check s fs (check s gs x)
    check-append [] gs x = refl
    check-append (f ∷ fs) gs x =
        ap (λ y. whole s f.start f.size (λ u. must f.good f.start (λ v. y))) (check-append fs gs x)

    pub check-fine : (fs : List Field) (x : Reading A) → AllFine s fs → check s fs x ≡ x
    check-fine [] x h = refl
    check-fine (f ∷ fs) x h = rw (le-leb (past f) (length s) h.0.0, h.0.1) (check-fine fs x h.1)

    module _ {fs : List Field} {f : Field} (x : Reading A) (i : First s fs f) where
      reaches : check s fs x ≡ check s (f ∷ i.behind) x
      reaches =
          ap (λ gs. check s gs x) i.parts ∙ check-append i.before (f ∷ i.behind) x
          ∙ check-fine i.before (check s (f ∷ i.behind) x) i.fine

      pub check-wrong : past f ≤ length s → f.good ≡ false → check s fs x ≡ refused_at 13 f.start
      check-wrong w g = reaches ∙ rw (le-leb (past f) (length s) w, g)

      pub check-cut : length s < past f → check s fs x ≡ refused_at 13 (length s)
      check-cut c = reaches ∙ rw (lt-leb (past f) (length s) c)

-- one of three holds of every list of fields
pub data Outcome (s : List ℕ) (fs : List Field) : Type 0 where
  all-fine : AllFine s fs → Outcome s fs
  wrong-at : (f : Field) → First s fs f → past f ≤ length s → f.good ≡ false → Outcome s fs
  cut_at : (f : Field) → First s fs f → length s < past f → Outcome s fs

module _ (s : List ℕ) where
  at-first : (f : Field) (fs : List Field) → First s (f ∷ fs) f
  at-first f fs = record { before = []; behind = fs; parts = refl; fine = tt }

  later : (f g : Field) (fs : List Field) → past f ≤ length s → f.good ≡ true → First s fs g → First s (f ∷ fs) g
  later f g fs w h i =
      record { before = f ∷ i.before; behind = i.behind; parts = ap (λ gs. f ∷ gs) i.parts; fine = ((w, h), i.fine) }

  behind-fine : (f : Field) (fs : List Field) → past f ≤ length s → f.good ≡ true → Outcome s fs → Outcome s (f ∷ fs)
  behind-fine f fs w h (all-fine a) = all-fine ((w, h), a)
  behind-fine f fs w h (wrong-at g i v b) = wrong-at g (later f g fs w h i) v b
  behind-fine f fs w h (cut_at g i c) = cut_at g (later f g fs w h i) c

  by-good : (f : Field) (fs : List Field) (b : Bool) → f.good ≡ b → past f ≤ length s → Outcome s fs → Outcome s (f ∷ fs)
  by-good f fs true e w o = behind-fine f fs w e o
  by-good f fs false e w o = wrong-at f (at-first f fs) w e

  by_size : (f : Field) (fs : List Field) (b : Bool) → leb (past f) (length s) ≡ b → Outcome s fs → Outcome s (f ∷ fs)
  by_size f fs true e o = by-good f fs f.good refl (leb-true (past f) (length s) e) o
  by_size f fs false e o = cut_at f (at-first f fs) (leb-false (past f) (length s) e)

  pub outcome : (fs : List Field) → Outcome s fs
  outcome [] = all-fine tt
  outcome (f ∷ fs) = by_size f fs (leb (past f) (length s)) refl (outcome fs)
