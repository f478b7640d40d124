-- Without this, a check tries slower ways first.
use Rattle.std.proofs.Common.{arith}
use Rattle.komisum.proofs.program.show.Goals as goal

pub returns-in_err-hash : goal.returns-in_err-hash
returns-in_err-hash g c = grind arith

pub returns-in_err-map_err : goal.returns-in_err-map_err
returns-in_err-map_err g c = grind arith

pub returns : goal.returns
returns g c = grind arith
