-- Where the first tab of a line stands, and how many tabs it has.
use Rattle.std.specs.Prelude.{Bool, cond, true, false, List, [], ◌∷◌, ◌≡◌, refl, ℕ, suc, ◌+◌, ◌≤◌, eqb, length, take, drop}
use Rattle.std.specs.List.{filter}
use Rattle.std.proofs.Common.{ap, ◌∙◌, arith, true≢false, sym, eq-eqb, ne_eqb, eqb-true}
use Rattle.text.specs.definitions.Bytes.{index_in}
use Rattle.desk_field.specs.Fields.{first_of, rest_of, tabs, EndsAt}

same-test : (x : ℕ) → eqb 9 x ≡ eqb x 9
same-test x = by (eqb x 9) refl
  where
    by : (b : Bool) → eqb x 9 ≡ b → eqb 9 x ≡ eqb x 9
    by true e = eq-eqb 9 x (sym (eqb-true x 9 e)) ∙ sym e
    by false e = ne_eqb 9 x (λ q. true≢false (sym (eq-eqb x 9 (sym q)) ∙ e)) ∙ sym e

pub ends : (s : List ℕ) → EndsAt (index_in s 9) s
ends [] = record { within = omega arith; first = refl; rest = refl }
ends (x ∷ s) =
    let e = ends s in
    record { within = within (eqb 9 x) e.within; first = first (eqb 9 x) (eqb x 9) (same-test x) e.first; rest = rest (eqb 9 x) (eqb x 9) (same-test x) e.rest }
  where
    within : (b : Bool) → index_in s 9 ≤ length s → elim b [ true ↦ 0 | false ↦ suc (index_in s 9) ] ≤ suc (length s)
    within true h = omega arith
    within false h = omega arith

    first :
        (b c : Bool) → b ≡ c → take (index_in s 9) s ≡ first_of s →
        take (elim b [ true ↦ 0 | false ↦ suc (index_in s 9) ]) (x ∷ s) ≡ elim c [ true ↦ [] | false ↦ x ∷ first_of s ]
    first true true e h = refl
    first false false e h = ap (λ l. x ∷ l) h
    first true false e h = absurd (true≢false e)
    first false true e h = absurd (true≢false (sym e))

    rest :
        (b c : Bool) → b ≡ c → drop (index_in s 9 + 1) s ≡ rest_of s →
        drop (elim b [ true ↦ 0 | false ↦ suc (index_in s 9) ] + 1) (x ∷ s) ≡ elim c [ true ↦ s | false ↦ rest_of s ]
    rest true true e h = refl
    rest false false e h = ap (λ n. drop n (x ∷ s)) (let g : suc (index_in s 9) + 1 ≡ suc (index_in s 9 + 1) = omega arith in g) ∙ h
    rest true false e h = absurd (true≢false e)
    rest false true e h = absurd (true≢false (sym e))

pub tabs-filter : (s : List ℕ) → tabs s ≡ length (filter (λ x. eqb x 9) s)
tabs-filter [] = refl
tabs-filter (x ∷ s) = by (eqb x 9) (tabs-filter s)
  where
    by :
        (b : Bool) → tabs s ≡ length (filter (λ x. eqb x 9) s) →
        elim b [ true ↦ suc (tabs s) | false ↦ tabs s ] ≡ length (cond b (x ∷ filter (λ x. eqb x 9) s) (filter (λ x. eqb x 9) s))
    by true h = ap suc h
    by false h = h
