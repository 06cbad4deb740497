-- What stands besides: theorems of this crate that no other proof leans on.
use Rattle.std.specs.Prelude.{Ok, Err, List, ◌≡◌, ℕ, ◌+◌, ◌≤◌, length}
use Rattle.std.proofs.Common.{sym, subst, arith}
use Rattle.refusal.specs.declared.Side.{Side}
use Rattle.text.specs.definitions.Bytes.{bytes}
use Rattle.form_write.specs.Write.{Wrote}
use Rattle.reply.specs.definitions.Reply.{Written}
use Rattle.refusal.specs.declared.Refusal.{Refusal}
use Rattle.desk_reply.specs.Reply.{refused_text, LineFits, Replied}
use Rattle.refusal.specs.declared.Side.TheVariants.{Left, Right, Neither}
use Rattle.desk_reply.specs.Reply.{side_text}

pub replied-text : {x : Written} {n r : ℕ} {old new : List ℕ} → x ≡ Ok n → Wrote r (bytes "FORM ") old new → Replied x (r + n) old new
replied-text {x} {n} {r} {old} {new} e h =
    subst (λ z. Replied z (r + n) old new) (sym e) (omega (arith, h.size), subst (λ k. Wrote k (bytes "FORM ") old new) h.size h)

pub replied-refused :
    {x : Written} {bad : Refusal} {r : ℕ} {old new : List ℕ} → x ≡ Err bad → Wrote r (refused_text bad) old new → Replied x r old new
replied-refused {x} {bad} {r} {old} {new} q h = subst (λ z. Replied z r old new) (sym q) h

pub room-text : {x : Written} {n k : ℕ} → x ≡ Ok n → LineFits x k → (5 + n ≤ k) × (64 ≤ k)
room-text {x} {n} {k} e h = subst (λ z. LineFits z k) e h

pub side-9 : (s : Side) → length (side_text s) ≤ 9
side-9 Left = omega arith
side-9 Right = omega arith
side-9 Neither = omega arith
