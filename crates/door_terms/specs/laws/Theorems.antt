-- What stands besides: theorems of this crate that no other proof leans on.
use Rattle.std.specs.Prelude.{true, List, ◌≡◌, ℕ, ◌+◌, ◌-◌, ◌≤◌, length, take, drop}
use Rattle.std.proofs.Common.{sym, ap, ◌∙◌, subst, arith}
use borrow.Rule.Slice.PartMut.{put_mid}
use Rattle.code.proofs.Lists.{begins-le}
use Rattle.code.proofs.Regions.{region-before, region-put}
use Rattle.code.specs.Coding.{Made, enc}
use Rattle.code.specs.laws.Codes.{tail-part}
use Rattle.run_code.specs.Decoding.{form_at}
use Rattle.text.specs.definitions.Bytes.{is_row}
use Rattle.term_read.specs.Read.{IsRun}
use Rattle.term_read.specs.laws.Terms.{run-words}
use Rattle.door_terms.specs.Terms.{IsPair, Codable, Coding, CodedSides}
use Rattle.door_terms.specs.laws.Forms.{l}

-- the words behind the left run, as a part of the table
pub right-codable : {n k : ℕ} {l : List ℕ} {out : ℕ} → Coding n k l out → Codable n (take (length l - k) (drop k l))
right-codable {n} {k} {l} C = subst (Codable n) (sym (tail-part k l)) C.right

-- the left code, and then the right one in the part behind it
pub sides-made :
    {n k x y : ℕ} {l : List ℕ} (d e : List ℕ) → Made 0 (form_at n 0 (take k l)) x d → Made 0 (form_at n 0 (take (length l - k) (drop k l))) y e
    → CodedSides n k l x y (put_mid x (length d - x) d e)
sides-made {n} {k} {x} {y} {l} d e L R =
    let a = begins-le L in
    let z : x ≡ x + 0 = omega arith in
    record {
      left = record { size = L.size; is = region-before 0 x x (length d - x) d e (omega arith) a ∙ L.is };
      right =
          record {
            size = R.size ∙ ap (λ w. length (enc 0 (form_at n 0 w))) (tail-part k l);
            is =
                ap (λ i. take y (drop i (put_mid x (length d - x) d e))) z
                ∙ region-put x 0 y d e a (omega (arith, begins-le R)) ∙ R.is ∙ ap (λ w. enc 0 (form_at n 0 w)) (tail-part k l);
          };
    }

module _ {row s t d : List ℕ} {k m : ℕ} (r : is_row row ≡ true) (Q : IsPair row s t k m d) where
  abbrev run_on_left : IsRun row s k d
  run_on_left = record { t = Q.f; accepted = Q.left-accepted; made = Q.left-made }

  abbrev run_on_right : IsRun row t m (drop k d)
  run_on_right = record { t = Q.g; accepted = Q.right-accepted; made = Q.right-made }

  pub runs-words : (k ≤ 512) × (m ≤ 512)
  runs-words = (run-words r run_on_left, run-words r run_on_right)
