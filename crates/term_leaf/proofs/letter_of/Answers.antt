-- `term_leaf::letter_of` meets its contract, test by test.
use Rattle.std.proofs.Common.{sym, ap, subst, arith, List, ◌∷◌, ℕ, ◌+◌, ◌*◌}
use Rattle.std.proofs.Math.Path.{◌∙◌}
use Rattle.std.specs.Prelude.{drop}
use Rattle.term_leaf.specs.Leaf.{Part, WordSays, letter_tree}
use Rattle.term_leaf.specs.laws.Words.{letter-many, letter-none, letter-unknown, letter-known, ready-two}
use Rattle.term_leaf.proofs.letter_of.Goals as goal

pub returns-then-w-ne1 : goal.returns-then-w-ne1
returns-then-w-ne1 c =
    let Said : List ℕ → Part → Type 0 =
    λ out q. WordSays c.args.d c.args.row.now (letter_tree c.args.p c.args.w.now) c.args.w.now c.args.p
    c.args.e out q in
    subst (Said _) (sym (c.refuse.ensures.is c.args.d))
    (letter-many c.args.d c.args.row.now c.args.w.now _ _ c.if-w-ne1.true _)

pub returns-then-not-is_capital : goal.returns-then-not-is_capital
returns-then-not-is_capital c =
    let Said : List ℕ → Part → Type 0 =
    λ out q. WordSays c.args.d c.args.row.now (letter_tree c.args.p c.args.w.now) c.args.w.now c.args.p
    c.args.e out q in
    subst (Said _) (sym (c.refuse-then-not-is_capital.ensures.is c.args.d))
    (letter-none c.args.d c.args.row.now c.args.w.now _ _ c.if-w-ne1.false
    (sym c.is_capital.ensures ∙ c.if-not-is_capital.true) _)

pub returns-then-row-i : goal.returns-then-row-i
returns-then-row-i c =
    let Said : List ℕ → Part → Type 0 =
    λ out q. WordSays c.args.d c.args.row.now (letter_tree c.args.p c.args.w.now) c.args.w.now c.args.p
    c.args.e out q in
    subst (Said _) (sym (c.refuse-then-row-i.ensures.is c.args.d))
    (letter-unknown c.args.d c.args.row.now c.args.w.now _ _ c.if-w-ne1.false
    (sym c.is_capital.ensures ∙ c.if-not-is_capital.false)
    (omega (arith, c.index_in-i.ensures, c.if-row-i.true)) _)

pub returns : goal.returns
returns c =
    let Said : List ℕ → Part → Type 0 =
    λ out q. WordSays c.args.d c.args.row.now (letter_tree c.args.p c.args.w.now) c.args.w.now c.args.p
    c.args.e out q in
    subst (Said _) (sym (c.found.ensures.is c.args.d))
    (letter-known c.args.d c.args.row.now c.args.w.now _ _ (ready-two c.requires) c.if-w-ne1.false
    (sym c.is_capital.ensures ∙ c.if-not-is_capital.false)
    (omega (arith, c.index_in-i.ensures, c.if-row-i.false)) _ _
    (c.put.ensures ∙ ap (λ i. (2147483648 + 8 * i) ∷ ((c.args.p + 65536 * c.args.e) ∷ drop 2 c.args.out.now))
    c.index_in-i.ensures))
