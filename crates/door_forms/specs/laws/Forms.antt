-- Two forms side by side.
use Rattle.std.specs.Prelude.{Result, Ok, Err, List, ◌≡◌, refl, ℕ, ◌+◌, ◌-◌, ◌≤◌, length, take, drop}
use Rattle.std.proofs.Common.{sym, ap, ◌∙◌, subst, arith, length-drop}
use borrow.Rule.Slice.PartMut.{put_mid}
use Rattle.code.proofs.Lists.{begins-le}
use Rattle.code.proofs.Regions.{region-before, region-put}
use Rattle.form_read.specs.Read.{IsForm}
use Rattle.form_read.specs.declared.FormCode.{FormCode}
use Rattle.code_pair.specs.Pair as Pairs
use Rattle.form_read.specs.laws.Read.{form-coded}
use Rattle.refusal.specs.declared.Refusal.{Refusal}
use Rattle.door_forms.specs.Forms.{IsPair, PairRead, left-refusal, right-refusal, forms}
use Rattle.door_forms.specs.declared.FormPair.{FormPair}

-- both were read, the right one into the part behind the left form
pub both-read : {m : ℕ} {s t : List ℕ} (l j : List ℕ) {x y : FormCode} → IsForm m s x.measures x.words l → IsForm m t y.measures y.words j
    → PairRead m s t (Ok (record { left = x; right = y })) (put_mid x.words (length l - x.words) l j)
both-read l j {x} {y} F G =
    let n = x.words in
    let a = begins-le F.made in
    let z : n + 0 ≡ n = omega arith in
    forms (record { left = x; right = y })
    (record {
      of_left =
          record {
            f = F.f;
            accepted = F.accepted;
            found = F.found;
            made = record { size = F.made.size; is = region-before 0 n n (length l - n) l j (omega arith) a ∙ F.made.is };
          };
      of_right =
          record {
            f = G.f;
            accepted = G.accepted;
            found = G.found;
            made =
                record {
                  size = G.made.size;
                  is =
                      ap (λ i. take y.words (drop i (put_mid n (length l - n) l j))) (sym z)
                      ∙ region-put n 0 y.words l j a (omega (arith, begins-le G.made)) ∙ G.made.is;
                };
          };
    })
    refl

-- ---- what was read, by the answer
no-forms : {P : Type 0} {p : FormPair} {bad : Refusal} → ◌≡◌ {A = Result FormPair Refusal} (Ok p) (Err bad) → P
no-forms h = absurd (let z : ◌≡◌ {A = ℕ} 0 1 = cc in omega arith)

pub read-pair :
    {m : ℕ} {s t l : List ℕ} {p : FormPair} {r : Result FormPair Refusal} → r ≡ Ok p → PairRead m s t r l → IsPair m s t p l
read-pair h (left-refusal bad a i) = no-forms (sym h ∙ i)
read-pair h (right-refusal f bad a b i) = no-forms (sym h ∙ i)
read-pair {m} {s} {t} {l} {p} h (forms q P i) =
    let e : q ≡ p = cc in
    subst (λ (x : FormPair). IsPair m s t x l) e P

-- as the operations on two forms ask for them
pub side_by_side : {m : ℕ} {s t l : List ℕ} {p : FormPair} → m ≤ 4 → IsPair m s t p l → Pairs.Pair p.left.words p.right.words l
side_by_side {l = l} {p = p} few P =
    record {
      fits = omega (arith, begins-le P.of_left.made, begins-le P.of_right.made, length-drop p.left.words l);
      coded-left = form-coded few P.of_left;
      coded-right = form-coded few P.of_right;
    }
