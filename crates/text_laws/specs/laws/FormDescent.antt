-- The judging of a form's node, from that of its parts: as a program works it out, part by part.
use Rattle.std.specs.Prelude.{Bool, true, false, List, [], ◌∷◌, ◌++◌, ◌≡◌, refl, ℕ, suc, ◌+◌, ℤ, length}
use Rattle.std.proofs.Common.{ap, ◌∙◌}
use Rattle.horner.specs.definitions.Form.{Form, pop, pow}
use Rattle.text.specs.definitions.Bytes.{Reading, read, refused}
use Rattle.text.specs.definitions.FormReading.{Node, nodes, stands, first_wrong, text, pop_head, pow_head}

-- the first answer where it refuses, else the second
abbrev pub and_then : {A B : Type 0} → Reading A → Reading B → Reading B
and_then (refused bad) r = refused bad
and_then (read a) r = r

module _ (m : ℕ) where
  -- the form f at level l and place p: the first node that does not stand
  abbrev pub judged_at : ℕ → ℕ → Form ℤ → Reading (Form ℤ)
  judged_at l p f = first_wrong m (read f) (nodes l p f)

  wrong-append :
      (f : Form ℤ) (r : Reading (Form ℤ)) (ks ls : List Node) →
      first_wrong m r (ks ++ ls) ≡ and_then (first_wrong m (read f) ks) (first_wrong m r ls)
  wrong-append f r [] ls = refl
  wrong-append f r (k ∷ ks) ls = go (stands m k.level k.form) refl (wrong-append f r ks ls)
    where
      go :
          (b : Bool) → stands m k.level k.form ≡ b →
          first_wrong m r (ks ++ ls) ≡ and_then (first_wrong m (read f) ks) (first_wrong m r ls)
          → first_wrong m r (k ∷ ks ++ ls) ≡ and_then (first_wrong m (read f) (k ∷ ks)) (first_wrong m r ls)
      go true e ih = rw (e, first_wrong) ih
      go false e ih = rw (e, first_wrong) refl

  abbrev standing : ℕ → ℕ → Form ℤ → Reading (Form ℤ)
  standing l p f = first_wrong m (read f) (record { level = l; place = p; form = f } ∷ [])

  -- a node behind its parts
  pub judged-pop :
      (l p i : ℕ) (x : Form ℤ) → judged_at l p (pop i x) ≡ and_then (judged_at (l + i) (p + length (pop_head i)) x) (standing l p (pop i x))
  judged-pop l p i x =
      wrong-append x (read (pop i x)) (nodes (l + i) (p + length (pop_head i)) x) (record { level = l; place = p; form = pop i x } ∷ [])

  pub judged-pow : (l p i : ℕ) (x y : Form ℤ) → judged_at l p (pow i x y)
      ≡ and_then (judged_at l (p + length (pow_head i)) x)
      (and_then (judged_at (suc l) (p + length (pow_head i) + length (text x) + 1) y) (standing l p (pow i x y)))
  judged-pow l p i x y =
      wrong-append x (read (pow i x y)) (nodes l (p + length (pow_head i)) x)
      (nodes (suc l) (p + length (pow_head i) + length (text x) + 1) y ++ (record { level = l; place = p; form = pow i x y } ∷ []))
      ∙ ap (and_then (judged_at l (p + length (pow_head i)) x)) (wrong-append y (read (pow i x y))
      (nodes (suc l) (p + length (pow_head i) + length (text x) + 1) y) (record { level = l; place = p; form = pow i x y } ∷ []))
