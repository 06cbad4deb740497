-- What stands besides: theorems of this crate that no other proof leans on.
use Rattle.std.specs.Prelude.{Some, None, true, false, List, [], ◌∷◌, ◌≡◌, refl, ℕ, zero, suc, ◌-◌, ◌<◌, ◌≤◌, min, pos, negsuc, length, get_or, drop}
use Rattle.std.proofs.Math.Bool.{cond}
use Rattle.std.proofs.Math.Option.{none, some}
use Rattle.std.proofs.Common.{sym, ◌∙◌, arith, lt-ltb, le-ltb, eq-eqb, ne_eqb}
use Rattle.std.proofs.Math.Path.{ap}
use Rattle.text.specs.definitions.Bytes.{canonical, value_from, read_nat, read_int, below0, from0}
use Rattle.desk_field.specs.Fields.{natural32, natural_of, signed32, signed_of}
use Rattle.desk_field.specs.Numbers.{none_read, some_read}
use Rattle.std.specs.Prelude.{◌++◌, ◌+◌, take}
use Rattle.std.proofs.Common.{append_assoc, append-nil, add-one, add_assoc, drop_of_length-le, length-drop, drop-cons, drop-drop, take-suc, take_all}
use Rattle.desk_field.specs.Fields.{first_of, rest_of, field_of, tabs, EndsAt, is_coordinate, coordinates_of}
use Rattle.desk_field.specs.Walk.{one_more}

module _ (w : List ℕ) where
  pub natural-none : canonical w ≡ false → None ≡ natural_of w
  natural-none e = sym (ap natural32 (none_read w e))

  pub below_none : canonical w ≡ false → None ≡ signed32 (below0 (read_nat w))
  below_none e = sym (ap (λ o. signed32 (below0 o)) (none_read w e))

  pub from-none : canonical w ≡ false → None ≡ signed32 (from0 (read_nat w))
  from-none e = sym (ap (λ o. signed32 (from0 o)) (none_read w e))

  module _ (digits : canonical w ≡ true) (n : ℕ) (is : n ≡ min (value_from 0 w) 4294967296) where
    exact : n < 4294967296 → value_from 0 w ≡ n
    exact h = omega arith

    pub natural-is : n < 4294967296 → Some n ≡ natural_of w
    natural-is h =
        sym (ap natural32 (some_read w digits) ∙ ap (λ v. natural32 (some v)) (exact h)
        ∙ ap (λ b. cond b (Some n) None) (lt-ltb n 4294967296 h))

    pub natural-large : 4294967296 ≤ n → None ≡ natural_of w
    natural-large h =
        sym (ap natural32 (some_read w digits)
        ∙ ap (λ b. cond b (Some (value_from 0 w)) None) (le-ltb (value_from 0 w) 4294967296 (omega arith)))

    pub from_is : n < 2147483648 → Some (pos n) ≡ signed32 (from0 (read_nat w))
    from_is h =
        sym (ap (λ o. signed32 (from0 o)) (some_read w digits) ∙ ap (λ v. signed32 (some (pos v))) (exact (omega arith))
        ∙ ap (λ b. cond b (Some (pos n)) None) (lt-ltb n 2147483648 h))

    pub from-large : 2147483648 ≤ n → None ≡ signed32 (from0 (read_nat w))
    from-large h =
        sym (ap (λ o. signed32 (from0 o)) (some_read w digits)
        ∙ ap (λ b. cond b (Some (pos (value_from 0 w))) None) (le-ltb (value_from 0 w) 2147483648 (omega arith)))

    pub below-zero : n ≡ 0 → None ≡ signed32 (below0 (read_nat w))
    below-zero e = sym (ap (λ o. signed32 (below0 o)) (some_read w digits) ∙ ap (λ v. signed32 (below0 (some v))) (exact (omega arith) ∙ e))

    pub below-large : 2147483648 < n → None ≡ signed32 (below0 (read_nat w))
    below-large h = sym (ap (λ o. signed32 (below0 o)) (some_read w digits) ∙ at (value_from 0 w) (omega arith))
      where
        at : (v : ℕ) → 2147483648 < v → signed32 (below0 (some v)) ≡ None
        at zero l = absurd (omega arith)
        at (suc v) l = ap (λ b. cond b (Some (negsuc v)) None) (le-ltb v 2147483648 (omega arith))

    pub below-is : (n ≡ 0 → ⊥) → n ≤ 2147483648 → Some (negsuc (n - 1)) ≡ signed32 (below0 (read_nat w))
    below-is some-n h =
        sym (ap (λ o. signed32 (below0 o)) (some_read w digits) ∙ ap (λ v. signed32 (below0 (some v))) (exact (omega arith)) ∙ at n some-n h)
      where
        at : (v : ℕ) → (v ≡ 0 → ⊥) → v ≤ 2147483648 → signed32 (below0 (some v)) ≡ Some (negsuc (v - 1))
        at zero l m = absurd (l refl)
        at (suc v) l m =
            ap (λ b. cond b (Some (negsuc v)) None) (lt-ltb v 2147483648 (omega arith)) ∙ ap (λ k. Some (negsuc k)) (omega arith)

pub signed-empty : (w : List ℕ) → length w ≡ 0 → None ≡ signed_of w
unfolding read_int
signed-empty [] h = refl
signed-empty (x ∷ w) h = absurd (omega arith)

module _ (s : List ℕ) (i : ℕ) where
  one_on : i < length s → drop i s ≡ get_or s i 0 ∷ drop (i + 1) s
  one_on h = drop-cons s i 0 h ∙ ap (λ k. get_or s i 0 ∷ drop k s) (sym (add-one i))

  pub first_on : i < length s → (get_or s i 0 ≡ 9 → ⊥) → take i s ++ first_of (drop i s) ≡ take (i + 1) s ++ first_of (drop (i + 1) s)
  first_on h n =
      ap (λ l. take i s ++ first_of l) (one_on h)
      ∙ ap (λ b. take i s ++ elim b [ true ↦ [] | false ↦ get_or s i 0 ∷ first_of (drop (i + 1) s) ]) (ne_eqb (get_or s i 0) 9 n)
      ∙ sym (append_assoc (take i s) (get_or s i 0 ∷ []) (first_of (drop (i + 1) s)))
      ∙ ap (λ l. l ++ first_of (drop (i + 1) s)) (sym (take-suc s i 0 h) ∙ ap (λ k. take k s) (sym (add-one i)))

  pub rest-on : i < length s → (get_or s i 0 ≡ 9 → ⊥) → rest_of (drop i s) ≡ rest_of (drop (i + 1) s)
  rest-on h n =
      ap rest_of (one_on h) ∙ ap (λ b. elim b [ true ↦ drop (i + 1) s | false ↦ rest_of (drop (i + 1) s) ]) (ne_eqb (get_or s i 0) 9 n)

  pub tabs-on : i < length s → (get_or s i 0 ≡ 9 → ⊥) → tabs (drop i s) ≡ tabs (drop (i + 1) s)
  tabs-on h n =
      ap tabs (one_on h)
      ∙ ap (λ b. elim b [ true ↦ suc (tabs (drop (i + 1) s)) | false ↦ tabs (drop (i + 1) s) ]) (ne_eqb (get_or s i 0) 9 n)

  pub first-tab : i < length s → get_or s i 0 ≡ 9 → first_of (drop i s) ≡ []
  first-tab h e =
      ap first_of (one_on h) ∙ ap (λ b. elim b [ true ↦ [] | false ↦ get_or s i 0 ∷ first_of (drop (i + 1) s) ]) (eq-eqb (get_or s i 0) 9 e)

  pub rest-tab : i < length s → get_or s i 0 ≡ 9 → rest_of (drop i s) ≡ drop (i + 1) s
  rest-tab h e =
      ap rest_of (one_on h) ∙ ap (λ b. elim b [ true ↦ drop (i + 1) s | false ↦ rest_of (drop (i + 1) s) ]) (eq-eqb (get_or s i 0) 9 e)

  pub tabs-tab : i < length s → get_or s i 0 ≡ 9 → tabs (drop i s) ≡ suc (tabs (drop (i + 1) s))
  tabs-tab h e =
      ap tabs (one_on h)
      ∙ ap (λ b. elim b [ true ↦ suc (tabs (drop (i + 1) s)) | false ↦ tabs (drop (i + 1) s) ]) (eq-eqb (get_or s i 0) 9 e)

  pub first-end : length s ≤ i → first_of (drop i s) ≡ []
  first-end h = ap first_of (drop_of_length-le s {i = i} h)

  pub rest_end : length s ≤ i → rest_of (drop i s) ≡ drop (i + 1) s
  rest_end h = ap rest_of (drop_of_length-le s {i = i} h) ∙ sym (drop_of_length-le s {i = i + 1} (omega arith))

  pub tabs-end : length s ≤ i → tabs (drop i s) ≡ 0
  tabs-end h = ap tabs (drop_of_length-le s {i = i} h)

module _ (s : List ℕ) (i : ℕ) (before : first_of s ≡ take i s ++ first_of (drop i s)) (behind : rest_of s ≡ rest_of (drop i s)) where
  ends : i ≤ length s → first_of (drop i s) ≡ [] → rest_of (drop i s) ≡ drop (i + 1) s → EndsAt i s
  ends h f r = record {
    within = h;
    first = sym (before ∙ ap (λ l. take i s ++ l) f ∙ append-nil (take i s));
    rest = sym (behind ∙ r);
  }

  pub ends-tab : i < length s → get_or s i 0 ≡ 9 → EndsAt i s
  ends-tab h e = ends (omega arith) (first-tab s i h e) (rest-tab s i h e)

  pub ends-end : i ≤ length s → length s ≤ i → EndsAt i s
  ends-end h e = ends h (first-end s i e) (rest_end s i e)

pub field-none : (s : List ℕ) (k : ℕ) → k ≡ 0 → first_of s ≡ field_of s k
field-none s k e = sym (ap (field_of s) e)

pub field-more : (s : List ℕ) (k : ℕ) → (k ≡ 0 → ⊥) → field_of (rest_of s) (k - 1) ≡ field_of s k
field-more s k n = ap (field_of s) (one_less k n)
  where
    one_less : (k : ℕ) → (k ≡ 0 → ⊥) → suc (k - 1) ≡ k
    one_less k n = omega arith

module _ (n k : ℕ) (s : List ℕ) (h : k < n) where
  pub coordinates-stop : is_coordinate (signed_of (first_of s)) ≡ false → k + coordinates_of (n - k) s ≡ k
  coordinates-stop e =
      ap (λ m. k + coordinates_of m s) (one_more n k h)
      ∙ ap (λ b. k + elim b [ true ↦ suc (coordinates_of (n - (k + 1)) (rest_of s)) | false ↦ 0 ]) e
      ∙ omega arith

pub coordinates-start : (n : ℕ) (s : List ℕ) → 0 + coordinates_of (n - 0) s ≡ coordinates_of n s
coordinates-start n s = ap (λ m. 0 + coordinates_of m s) (all_of n) ∙ omega arith
  where
    all_of : (n : ℕ) → n - 0 ≡ n
    all_of n = omega arith

pub coordinates-end : (n k : ℕ) (s : List ℕ) → n ≤ k → k + coordinates_of (n - k) s ≡ k
coordinates-end n k s h = ap (λ m. k + coordinates_of m s) (none n k h) ∙ omega arith
  where
    none : (n k : ℕ) → n ≤ k → n - k ≡ 0
    none n k h = omega arith

module _ (s : List ℕ) (at r : ℕ) (in-s : at ≤ length s) (e : EndsAt r (take (length s - at) (drop at s))) where
  rest_at : drop (at + (r + 1)) s ≡ rest_of (drop at s)
  rest_at =
      let w = take_all (length s - at) (drop at s) (omega (arith, length-drop at s)) in
      sym (drop-drop (r + 1) at s) ∙ ap (drop (r + 1)) (sym w) ∙ e.rest ∙ ap rest_of w

  pub place-next : at + r < length s → (at + r + 1 ≤ length s) × (drop (at + r + 1) s ≡ rest_of (drop at s))
  place-next h = (omega arith, ap (λ k. drop k s) (add_assoc at r 1) ∙ rest_at)

  pub place_end : length s ≤ at + r → (length s ≤ length s) × (drop (length s) s ≡ rest_of (drop at s))
  place_end h = (
    omega arith,
    drop_of_length-le s {i = length s} (omega arith) ∙ sym (drop_of_length-le s {i = at + (r + 1)} (omega arith))
        ∙ rest_at,
  )
