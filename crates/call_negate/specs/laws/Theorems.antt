-- What stands besides: theorems of this crate that no other proof leans on.
use Rattle.std.specs.Prelude.{Result, Err, List, ◌≡◌, ℕ, ℤ, length}
use Rattle.std.proofs.Math.Path.{sym, ap}
use Rattle.refusal.specs.Refusal.{on_side}
use Rattle.refusal.specs.declared.Fault.{Fault}
use Rattle.horner.specs.definitions.Form.{Form as HForm, negate}
use Rattle.horner.specs.definitions.Rings.{ℤ_ring}
use Rattle.code.specs.Operations as C
use Rattle.text.specs.definitions.Bytes.{Reading}
use Rattle.text.specs.definitions.FormReading.{text}
use Rattle.reply.specs.definitions.Reply.{result_after, read_as, fitted}
use Rattle.reply.specs.definitions.Calls.{negate_of}
use Rattle.refusal.specs.declared.Side.TheVariants.{Left}
use Rattle.door_result.specs.Result.{written_of}
use Rattle.form_read.specs.Read.{FormRead}
use Rattle.form_read.specs.declared.FormCode.{FormCode}
use Rattle.form_read.specs.laws.Read.{read-refusal}

pub negate-refused :
    (row : List ℕ) {s l : List ℕ} {bad : Fault} {r : Result FormCode Fault} (n : ℕ) (b : List ℕ) → r ≡ Err bad → FormRead (length row) s r l
    → (Err (on_side Left bad) ≡ written_of (negate_of row s n)) × (b ≡ result_after (negate_of row s n) b)
negate-refused row n b h t =
    let k = ap (λ (x : Reading (HForm ℤ)). read_as Left x (λ x. fitted n (text (negate ℤ_ring x)))) (read-refusal h t) in
    (ap written_of (sym k), ap (λ x. result_after x b) (sym k))
