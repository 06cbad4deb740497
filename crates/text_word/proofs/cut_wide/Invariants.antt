use Rattle.std.proofs.Common.{◌≡◌, true, ◌≤◌, min}
use Rattle.std.specs.Prelude.{drop}
use Rattle.text.specs.definitions.Bytes.{all, digit, value_from}
use Rattle.text_word.proofs.cut_wide.Given as goal

abbrev pub invariant-loop-b : goal.invariant-loop-b
invariant-loop-b l = record {
  within : l.value ≤ l.limit;
  digits : all digit (drop l.b-index l.w) ≡ true;
  same : min (value_from l.value (drop l.b-index l.w)) l.limit ≡ min (value_from 0 l.w) l.limit;
}
