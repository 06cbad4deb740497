use Rattle.std.proofs.Common.{◌≡◌, true, ◌≤◌, min}
use Rattle.std.specs.Prelude.{drop}
use Rattle.text.specs.definitions.Bytes.{all}
use Rattle.text.specs.definitions.Integers.{hex_digit, hex_from}
use Rattle.term_hex.proofs.cut_hex.Given as goal

abbrev pub invariant-loop-b : goal.invariant-loop-b
invariant-loop-b l = record {
  within : l.value ≤ 1073741824;
  digits : all hex_digit (drop l.b-index l.w) ≡ true;
  same : min (hex_from l.value (drop l.b-index l.w)) 1073741824 ≡ min (hex_from 0 l.w) 1073741824;
}
