-- The code of a form from the codes of its parts, where its text stands at a place.
use Rattle.std.specs.Prelude.{true, false, ◌≡◌, refl, ℕ, suc, ◌+◌, ◌*◌, ◌-◌, ◌%◌, ◌≤◌, ◌<◌, min, ℤ, pos, negsuc, nat_abs}
use mathlib.Core.List.{List, [], ◌∷◌, ◌++◌}
use Rattle.std.proofs.Common.{sym, ap, ◌∙◌, arith, length-append}
use Rattle.std.proofs.Math.Path.{subst}
use Rattle.std.proofs.Math.Nat as NatL
use Rattle.std.proofs.Math.ListN.{length}
use Rattle.horner.specs.definitions.Form.{Form, int, pop, pow}
use Rattle.horner.specs.definitions.Rings.{prime}
use Rattle.code.specs.Coding.{Begins, enc}
use Rattle.code.specs.laws.Good.{good-pop, good-pow}
use Rattle.code.specs.laws.Sizes.{enc-pos}
use Rattle.form_head.specs.declared.Kind.{Kind}
use Rattle.form_head.specs.declared.Kind.TheVariants.{Pop, Pow}
use Rattle.form_head.specs.Heads.{is_node, Stands, Standing, Headed, HeadIs}
use Rattle.form_head.specs.laws.Parts.{pop-part, pow_left, pow_right, ends-pop, ends-pow}
use Rattle.form_build.specs.Build.{over_p, leaf_word, Fit, ReadyAt, BuiltAt}

pub ready-standing : {s : List ℕ} {at l : ℕ} → ReadyAt s at l → Standing s at
ready-standing r = record { g = r.g; rest = r.rest; stands = r.stands }

pub ready-room : {s : List ℕ} {at l : ℕ} → ReadyAt s at l → 0 < l
ready-room r = omega (arith, r.room, enc-pos 0 (over_p r.g))

-- ---- parts of a form that fits
pub pop-fit : {i : ℕ} {p : Form ℤ} → Fit (pop i p) → (i ≤ 3) × Fit p
pop-fit f = let h = good-pop f.good in (h.1.0, record { good = h.1.1; light = f.light })

pub pow-fit : {i : ℕ} {p q : Form ℤ} → Fit (pow i p q) → (i ≤ 63) × (Fit p × Fit q)
pow-fit f =
    let h = good-pow f.good in (
      h.1.0,
      (record { good = h.1.1.0; light = omega (arith, f.light) }, record { good = h.1.1.1; light = omega (arith, f.light) }),
    )

-- ---- lengths
pop-length : (i : ℕ) (p : Form ℤ) → length (enc 0 (over_p (pop i p))) ≡ suc (length (enc 0 (over_p p)))
unfolding enc
pop-length i p = refl

pow-length : (i : ℕ) (p q : Form ℤ) → length (enc 0 (over_p (pow i p q))) ≡ suc (length (enc 0 (over_p p)) + length (enc 0 (over_p q)))
unfolding enc
pow-length i p q = ap suc (length-append (enc 0 (over_p p)) (enc 0 (over_p q)))

-- ---- integers
natural-word : (n number : ℕ) → n ≤ 1073741823 → number ≡ min n 1073741824 → number ∷ [] ≡ enc 0 (over_p (int (pos n)))
unfolding enc
natural-word n number h e =
    let k : number ≡ n = omega (arith, e) in
    ap (λ x. x ∷ []) (k ∙ sym (NatL.mod-eq_of_lt {n = n} {m = prime} (omega arith)))

below_word :
    (n number : ℕ) → suc n ≤ 1073741823 → number ≡ min (suc n) 1073741824 → (2147483647 - number) ∷ [] ≡ enc 0 (over_p (int (negsuc n)))
unfolding enc
below_word n number h e =
    let k : number ≡ suc n = omega (arith, e) in
    let a : suc n % prime ≡ suc n = NatL.mod-eq_of_lt (omega arith) in
    let b : (prime - suc n) % prime ≡ prime - suc n = NatL.mod-eq_of_lt (omega arith) in
    ap (λ x. x ∷ []) (ap (λ x. 2147483647 - x) k ∙ sym b ∙ ap (λ x. (prime - x) % prime) (sym a))

leaf-code :
    (kind : Kind) (number first at : ℕ) (z : ℤ) → nat_abs z ≤ 1073741823 → HeadIs at kind number first (int z) →
    leaf_word kind number ∷ [] ≡ enc 0 (over_p (int z))
leaf-code kind number first at (pos n) h H = ap (λ k. leaf_word k number ∷ []) H.is-kind ∙ natural-word n number h H.is_number
leaf-code kind number first at (negsuc n) h H = ap (λ k. leaf_word k number ∷ []) H.is-kind ∙ below_word n number h H.is_number

-- ---- what is asked and given, node by node
-- n words of p and the head are not too many of l, and their number and i make a word
pub record NodeFits (l n number : ℕ) : Type 0 where
  pub count : 1 + n ≤ l
  pub small : l ≤ 33554432
  pub low : number ≤ 63

module _ {s : List ℕ} {at : ℕ} {kind : Kind} {number first : ℕ} (H : Headed s at kind number first) where
  pub leaf-made : is_node kind ≡ false → (g : Form ℤ) (rest : List ℕ) → Stands s at g rest → Fit g →
      leaf_word kind number ∷ [] ≡ enc 0 (over_p g)
  leaf-made k (int z) rest h f = leaf-code kind number first at z f.light (H _ _ h)
  leaf-made k (pop i p) rest h f = absurd (cc (k, ap is_node (H _ _ h).is-kind))
  leaf-made k (pow i p q) rest h f = absurd (cc (k, ap is_node (H _ _ h).is-kind))

  pub ready-first : is_node kind ≡ true → {l : ℕ} (l' : ℕ) → l' ≡ l - 1 → ReadyAt s at l → ReadyAt s first l'
  ready-first k {l} l' e r = go r.g r.rest r.stands r.fit r.room
    where
      go : (g : Form ℤ) (rest : List ℕ) → Stands s at g rest → Fit g → length (enc 0 (over_p g)) ≤ l → ReadyAt s first l'
      go (int (pos n)) rest h f m = absurd (cc (k, ap is_node (H _ _ h).is-kind))
      go (int (negsuc n)) rest h f m = absurd (cc (k, ap is_node (H _ _ h).is-kind))
      go (pop i p) rest h f m =
          record {
            g = p;
            rest = _;
            stands = pop-part H h;
            fit = (pop-fit f).1;
            room = omega (arith, e, m, pop-length i p);
            small = omega (
              arith,
              e,
              r.small,
            );
          }
      go (pow i p q) rest h f m =
          record {
            g = p;
            rest = _;
            stands = pow_left H h;
            fit = (pow-fit f).1.0;
            room = omega (arith, e, m, pow-length i p q);
            small = omega (arith, e, r.small);
          }

  module _ {n mid : ℕ} {e : List ℕ} (B : BuiltAt s first n mid e) where
    pub node-fits : is_node kind ≡ true → {l : ℕ} → ReadyAt s at l → NodeFits l n number
    node-fits k {l} r = go r.g r.rest r.stands r.fit r.room
      where
        go : (g : Form ℤ) (rest : List ℕ) → Stands s at g rest → Fit g → length (enc 0 (over_p g)) ≤ l → NodeFits l n number
        go (int (pos n)) rest h f m = absurd (cc (k, ap is_node (H _ _ h).is-kind))
        go (int (negsuc n)) rest h f m = absurd (cc (k, ap is_node (H _ _ h).is-kind))
        go (pop i p) rest h f m =
            record {
              count = omega (arith, m, pop-length i p, (B.made p _ (pop-part H h) (pop-fit f).1).size);
              small = r.small;
              low = omega (arith, (H _ _ h).is_number, (pop-fit f).0);
            }
        go (pow i p q) rest h f m =
            record {
              count = omega (arith, m, pow-length i p q, (B.made p _ (pow_left H h) (pow-fit f).1.0).size);
              small = r.small;
              low = omega (arith, (H _ _ h).is_number, (pow-fit f).0);
            }

    pub ready-second : kind ≡ Pow → {l : ℕ} (l' : ℕ) → l' ≡ l - (1 + n) → ReadyAt s at l → ReadyAt s (mid + 1) l'
    ready-second k {l} l' q r = go r.g r.rest r.stands r.fit r.room
      where
        go : (g : Form ℤ) (rest : List ℕ) → Stands s at g rest → Fit g → length (enc 0 (over_p g)) ≤ l → ReadyAt s (mid + 1) l'
        go (int (pos n)) rest h f m = absurd (cc (k, (H _ _ h).is-kind))
        go (int (negsuc n)) rest h f m = absurd (cc (k, (H _ _ h).is-kind))
        go (pop i p) rest h f m = absurd (cc (k, (H _ _ h).is-kind))
        go (pow i x y) rest h f m =
            record {
              g = y;
              rest = _;
              stands = pow_right H mid B.ends h;
              fit = (pow-fit f).1.1;
              room = omega (arith, q, m, pow-length i x y, (B.made x _ (pow_left H h) (pow-fit f).1.0).size);
              small = omega (arith, q, r.small);
            }

    -- the words of the whole
    pub pow-count : kind ≡ Pow → (m next : ℕ) (e₂ : List ℕ) → BuiltAt s (mid + 1) m next e₂ → {l : ℕ} → ReadyAt s at l → 1 + n + m ≤ l
    pow-count k m next e₂ C {l} r = go r.g r.rest r.stands r.fit r.room
      where
        go : (g : Form ℤ) (rest : List ℕ) → Stands s at g rest → Fit g → length (enc 0 (over_p g)) ≤ l → 1 + n + m ≤ l
        go (int (pos n)) rest h f w = absurd (cc (k, (H _ _ h).is-kind))
        go (int (negsuc n)) rest h f w = absurd (cc (k, (H _ _ h).is-kind))
        go (pop i p) rest h f w = absurd (cc (k, (H _ _ h).is-kind))
        go (pow i x y) rest h f w =
            omega (
              arith,
              w,
              pow-length i x y,
              (B.made x _ (pow_left H h) (pow-fit f).1.0).size,
              (C.made y _ (pow_right H mid B.ends h) (pow-fit f).1.1).size,
            )

    -- the head in front of p's code, and q's behind
    pub pop-made :
        kind ≡ Pop → {d : List ℕ} → ((l : List ℕ) → Begins n l e → Begins (1 + n) ((2147483648 + number) ∷ l) d) →
        BuiltAt s at (1 + n) (mid + 1) d
    unfolding enc
    pop-made k {d} put = record { ends = ends-pop H mid k B.ends; made = go }
      where
        go : (g : Form ℤ) (rest : List ℕ) → Stands s at g rest → Fit g → Begins (1 + n) (enc 0 (over_p g)) d
        go (int (pos n)) rest h f = absurd (cc (k, (H _ _ h).is-kind))
        go (int (negsuc n)) rest h f = absurd (cc (k, (H _ _ h).is-kind))
        go (pop i p) rest h f =
            let w : number ≡ i = omega (arith, (H _ _ h).is_number, (pop-fit f).0) in
            subst (λ x. Begins (1 + n) ((2147483648 + x) ∷ enc 0 (over_p p)) d) w
            (put (enc 0 (over_p p)) (B.made p _ (pop-part H h) (pop-fit f).1))
        go (pow i p q) rest h f = absurd (cc (k, (H _ _ h).is-kind))

    pub pow-made : kind ≡ Pow → (m next : ℕ) (e₂ d : List ℕ) → BuiltAt s (mid + 1) m next e₂
        → ((k l : List ℕ) → Begins n k e → Begins m l e₂ → Begins (1 + n + m) ((2147483648 + 64 * n + number) ∷ k ++ l) d) → BuiltAt s
        at (1 + n + m) (next + 1) d
    unfolding enc
    pow-made k m next e₂ d C put = record { ends = ends-pow H mid B.ends next k C.ends; made = go }
      where
        go : (g : Form ℤ) (rest : List ℕ) → Stands s at g rest → Fit g → Begins (1 + n + m) (enc 0 (over_p g)) d
        go (int (pos n)) rest h f = absurd (cc (k, (H _ _ h).is-kind))
        go (int (negsuc n)) rest h f = absurd (cc (k, (H _ _ h).is-kind))
        go (pop i p) rest h f = absurd (cc (k, (H _ _ h).is-kind))
        go (pow i p q) rest h f =
            let w : number ≡ i = omega (arith, (H _ _ h).is_number, (pow-fit f).0) in
            let b = B.made p _ (pow_left H h) (pow-fit f).1.0 in
            let c = C.made q _ (pow_right H mid B.ends h) (pow-fit f).1.1 in
            let z : 2147483648 + 64 * n + number ≡ 2147483648 + 64 * length (enc 0 (over_p p)) + i = omega (arith, w, b.size) in
            subst (λ x. Begins (1 + n + m) (x ∷ (enc 0 (over_p p) ++ enc 0 (over_p q))) d) z (put (enc 0 (over_p p)) (enc 0 (over_p q)) b c)
