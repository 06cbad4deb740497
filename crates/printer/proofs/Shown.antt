-- What is read and written, case by case.
use Rattle.std.proofs.Common.{◌≡◌, ℕ, List, [], ◌∷◌, ◌++◌, length, take, drop, cond, leb, IfSome, refl, ap, arith}
use Rattle.std.proofs.lemmas.Grind.{common_steps}
use Rattle.std.specs.Prelude.{Ok, Err, None, Some}
use Rattle.std.specs.Option.{option_map}
use Rattle.std.specs.declared.option.Option.{Option}
use Rattle.reply.specs.definitions.Reply.{Written, Reply, gives, refuses, told, said, result_after}
use Rattle.printer.specs.Printer.{text_given, text_told}

-- zs are the first n of the known bytes
pub first_of : (n : ℕ) (known : Option (List ℕ)) (zs : List ℕ) → IfSome (option_map (take n) known) (λ xs. zs ≡ xs)
    → IfSome known (λ xs. zs ≡ take n xs)
first_of n None zs h = tt
first_of n (Some xs) zs h = h

-- w at the front of a page is told with its length
front : (w rest : List ℕ) → cond (leb (length w) (length (w ++ rest))) (take (length w) (w ++ rest)) [] ≡ w
front w rest = grind (arith, common_steps)

-- a text of no bytes, told and given
none_told : (n : ℕ) (page : List ℕ) → n ≡ 0 → cond (leb n (length page)) (take n page) [] ≡ []
none_told n page e = grind (arith, common_steps)

none_given : (w : List ℕ) → 0 ≡ length w → [] ≡ w
none_given [] e = refl
none_given (x ∷ xs) e = absurd (omega arith)

-- how many bytes are given, and 0 where it is refused: an answer that tells the other case is none
abbrev size_given : Reply ℕ → ℕ
size_given (gives n) = n
size_given (refuses bad) = 0

-- the text that is told is the one that was given
pub told_is : (x : Reply (List ℕ)) (r : Written) (page page' : List ℕ) → told r ≡ said length x → page' ≡ result_after x page
    → text_told r page' ≡ text_given x
told_is (gives w) (Ok n) page page' h e =
    let size : n ≡ length w = ap size_given h in
    rw size (rw e (front w (drop (length w) page)))
told_is (gives w) (Err bad) page page' h e = none_given w (ap size_given h)
told_is (refuses bad) (Ok n) page page' h e = none_told n page' (ap size_given h)
told_is (refuses bad) (Err bad') page page' h e = refl
