-- The parts of a form that stands at a place: where they stand, and where the form ends.
use Rattle.std.specs.Prelude.{◌⊎◌, true, false, List, [], ◌∷◌, ◌++◌, ◌≡◌, refl, ℕ, ◌+◌, ◌≤◌, ◌<◌, ℤ, pos, negsuc, length, drop}
use Rattle.std.proofs.Common.{inl, inr, append_assoc, ap, ◌∙◌, arith, length-append}
use Rattle.horner.specs.definitions.Form.{Form, int, pop, pow}
use Rattle.text.specs.definitions.FormReading.{text, pop_head, pow_head}
use Rattle.form_head.specs.declared.Kind.{Kind}
use Rattle.form_head.specs.declared.Kind.TheVariants.{Integer, Negative, Pop, Pow}
use Rattle.form_head.specs.Heads.{is_node, Stands, Standing, Headed, Ends}
use Rattle.form_head.specs.laws.Heads.{drop-on, text-some, stands-inside}

-- ---- by the places that the definitions give
pop-at :
    {s : List ℕ} {at i : ℕ} {p : Form ℤ} {rest : List ℕ} → Stands s at (pop i p) rest → Stands s (at + length (pop_head i)) p (41 ∷ rest)
pop-at {s} {at} {i} {p} {rest} h =
    record {
      parts =
          drop-on s at (pop_head i) ((text p ++ (41 ∷ [])) ++ rest) (h.parts ∙ append_assoc (pop_head i) (text p ++ (41 ∷ [])) rest)
          ∙ append_assoc (text p) (41 ∷ []) rest;
      calm = refl;
    }

left_at : {s : List ℕ} {at i : ℕ} {p q : Form ℤ} {rest : List ℕ} → Stands s at (pow i p q) rest
    → Stands s (at + length (pow_head i)) p (32 ∷ (text q ++ (41 ∷ rest)))
left_at {s} {at} {i} {p} {q} {rest} h =
    record {
      parts =
          drop-on s at (pow_head i) ((text p ++ (32 ∷ text q ++ (41 ∷ []))) ++ rest)
          (h.parts ∙ append_assoc (pow_head i) (text p ++ (32 ∷ text q ++ (41 ∷ []))) rest)
          ∙ append_assoc (text p) (32 ∷ text q ++ (41 ∷ [])) rest ∙ ap (λ l. text p ++ (32 ∷ l)) (append_assoc (text q) (41 ∷ []) rest);
      calm = refl;
    }

behind : {s : List ℕ} {at b : ℕ} {g : Form ℤ} {l : List ℕ} → Stands s at g (b ∷ l) → drop (at + length (text g) + 1) s ≡ l
behind {s} {at} {b} {g} {l} h = drop-on s (at + length (text g)) (b ∷ []) l (drop-on s at (text g) (b ∷ l) h.parts)

-- ---- by the places that the program has
module _ {s : List ℕ} {at : ℕ} {kind : Kind} {number first : ℕ} (H : Headed s at kind number first) where
  pub pop-part : {i : ℕ} {p : Form ℤ} {rest : List ℕ} → Stands s at (pop i p) rest → Stands s first p (41 ∷ rest)
  pop-part {i} {p} {rest} h = rw (H (pop i p) rest h).is-next (pop-at h)

  pub pow_left : {i : ℕ} {p q : Form ℤ} {rest : List ℕ} → Stands s at (pow i p q) rest → Stands s first p (32 ∷ (text q ++ (41 ∷ rest)))
  pow_left {i} {p} {q} {rest} h = rw (H (pow i p q) rest h).is-next (left_at h)

  module _ (mid : ℕ) (M : Ends s first mid) where
    pub pow_right : {i : ℕ} {p q : Form ℤ} {rest : List ℕ} → Stands s at (pow i p q) rest → Stands s (mid + 1) q (41 ∷ rest)
    pow_right {i} {p} {q} {rest} h = record { parts = rw (M p _ (pow_left h)) (behind (pow_left h)); calm = refl }

    pub ends-pow : (next : ℕ) → kind ≡ Pow → Ends s (mid + 1) next → Ends s at (next + 1)
    ends-pow next k E (int (pos n)) rest h = absurd (cc (k, (H _ _ h).is-kind))
    ends-pow next k E (int (negsuc n)) rest h = absurd (cc (k, (H _ _ h).is-kind))
    ends-pow next k E (pop i p) rest h = absurd (cc (k, (H _ _ h).is-kind))
    ends-pow next k E (pow i p q) rest h =
        omega (
          arith,
          (H _ _ h).is-next,
          M p _ (pow_left h),
          E q _ (pow_right h),
          length-append (pow_head i) (text p ++ (32 ∷ text q ++ (41 ∷ []))),
          length-append (text p) (32 ∷ text q ++ (41 ∷ [])),
          length-append (text q) (41 ∷ []),
        )

    pub second-standing : kind ≡ Pow → Standing s at → Standing s (mid + 1)
    second-standing k S = go S.g S.rest S.stands
      where
        go : (g : Form ℤ) (rest : List ℕ) → Stands s at g rest → Standing s (mid + 1)
        go (int (pos n)) rest h = absurd (cc (k, (H _ _ h).is-kind))
        go (int (negsuc n)) rest h = absurd (cc (k, (H _ _ h).is-kind))
        go (pop i p) rest h = absurd (cc (k, (H _ _ h).is-kind))
        go (pow i p q) rest h = record { g = q; rest = 41 ∷ rest; stands = pow_right h }

  pub ends-int : is_node kind ≡ false → Ends s at first
  ends-int k (int z) rest h = (H _ _ h).is-next
  ends-int k (pop i p) rest h = absurd (cc (k, ap is_node (H _ _ h).is-kind))
  ends-int k (pow i p q) rest h = absurd (cc (k, ap is_node (H _ _ h).is-kind))

  pub ends-pop : (next : ℕ) → kind ≡ Pop → Ends s first next → Ends s at (next + 1)
  ends-pop next k E (int (pos n)) rest h = absurd (cc (k, (H _ _ h).is-kind))
  ends-pop next k E (int (negsuc n)) rest h = absurd (cc (k, (H _ _ h).is-kind))
  ends-pop next k E (pop i p) rest h =
      omega (
        arith,
        (H _ _ h).is-next,
        E p _ (pop-part h),
        length-append (pop_head i) (text p ++ (41 ∷ [])),
        length-append (text p) (41 ∷ []),
      )
  ends-pop next k E (pow i p q) rest h = absurd (cc (k, (H _ _ h).is-kind))

  pub first-standing : is_node kind ≡ true → Standing s at → Standing s first
  first-standing k S = go S.g S.rest S.stands
    where
      go : (g : Form ℤ) (rest : List ℕ) → Stands s at g rest → Standing s first
      go (int (pos n)) rest h = absurd (cc (k, ap is_node (H _ _ h).is-kind))
      go (int (negsuc n)) rest h = absurd (cc (k, ap is_node (H _ _ h).is-kind))
      go (pop i p) rest h = record { g = p; rest = 41 ∷ rest; stands = pop-part h }
      go (pow i p q) rest h = record { g = p; rest = _; stands = pow_left h }

  -- the head is not empty
  pub head-later : is_node kind ≡ true → Standing s at → at < first
  head-later k S = go S.g S.rest S.stands
    where
      go : (g : Form ℤ) (rest : List ℕ) → Stands s at g rest → at < first
      go (int (pos n)) rest h = absurd (cc (k, ap is_node (H _ _ h).is-kind))
      go (int (negsuc n)) rest h = absurd (cc (k, ap is_node (H _ _ h).is-kind))
      go (pop i p) rest h = omega (arith, (H _ _ h).is-next)
      go (pow i p q) rest h = omega (arith, (H _ _ h).is-next)

  -- a byte stands behind a part
  pub part-inside : is_node kind ≡ true → Standing s at → (mid : ℕ) → Ends s first mid → mid + 1 ≤ length s
  part-inside k S mid E = go S.g S.rest S.stands
    where
      go : (g : Form ℤ) (rest : List ℕ) → Stands s at g rest → mid + 1 ≤ length s
      go (int (pos n)) rest h = absurd (cc (k, ap is_node (H _ _ h).is-kind))
      go (int (negsuc n)) rest h = absurd (cc (k, ap is_node (H _ _ h).is-kind))
      go (pop i p) rest h =
          omega (
            arith,
            stands-inside h,
            (H _ _ h).is-next,
            E p _ (pop-part h),
            length-append (pop_head i) (text p ++ (41 ∷ [])),
            length-append (text p) (41 ∷ []),
          )
      go (pow i p q) rest h =
          omega (
            arith,
            stands-inside h,
            (H _ _ h).is-next,
            E p _ (pow_left h),
            length-append (pow_head i) (text p ++ (32 ∷ text q ++ (41 ∷ []))),
            length-append (text p) (32 ∷ text q ++ (41 ∷ [])),
          )

-- where a form ends
pub ends-inside : {s : List ℕ} {at : ℕ} (next : ℕ) → Ends s at next → Standing s at → (at < next) × (next ≤ length s)
ends-inside next E S =
    let e = E _ _ S.stands in
    (omega (arith, e, text-some S.g), omega (arith, e, stands-inside S.stands))

-- an integer
pub leaf-kind : {kind : Kind} → (kind ≡ Integer) ⊎ (kind ≡ Negative) → is_node kind ≡ false
leaf-kind (inl e) = ap is_node e
leaf-kind (inr e) = ap is_node e
