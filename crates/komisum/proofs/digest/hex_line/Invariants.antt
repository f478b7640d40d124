-- The digits below i are written, and the newline is left.
use Rattle.std.proofs.Common.{◌≡◌, ◌<◌, ℕ, get_or, length}
use Rattle.komisum.specs.Program.{digit_at}
use Rattle.komisum.proofs.digest.hex_line.Given as goal

abbrev pub invariant-loop-i : goal.invariant-loop-i
invariant-loop-i l = record {
  digits : (k : ℕ) → k < l.i → get_or l.line k 0 ≡ digit_at l.number k;
  length : length l.line ≡ 17;
  newline : get_or l.line 16 0 ≡ 10;
}
