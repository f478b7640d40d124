-- Each digit is within the number, and the digits written make the line.
use Rattle.std.proofs.Common.{ℕ, ◌-◌, nat_lt, cond, arith}
use Rattle.std.proofs.lemmas.Bool.Decides.{nat_tests}
use Rattle.std.proofs.lemmas.List.FromFn.{fill_by_all}
use Rattle.std.proofs.Math.Nat.{one-le-pow, pow-le-pow_right}
use Rattle.komisum.specs.Program.{line, digit_at}
use Rattle.komisum.proofs.digest.hex_line.Goals as goal

pub pow-requires : goal.pow-requires
pow-requires c = grind (arith, pow-le-pow_right)

pub nonzero_div-digit : goal.nonzero_div-digit
nonzero_div-digit c = omega (arith, c.pow.ensures, one-le-pow (15 - c.loop-i.i) 16 (omega arith))

pub returns : goal.returns
unfolding line
returns c =
    let before = c.loop-i.invariant in
    let written = λ (k : ℕ). cond (nat_lt k 16) (digit_at c.args.number k) 10 in
    fill_by_all written c.loop-i.line 17 0 before.length
    (λ k h. grind (arith, nat_tests, before.digits, before.newline))
