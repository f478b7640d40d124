-- How the program ends: its line on standard error, and its status.
use Rattle.std.specs.Prelude.{ℕ, List, [], ◌++◌, codes, Ok, Err}
use Rattle.std.specs.declared.result.Result.{Result}
use Rattle.komisum.specs.declared.faults.Fault.{Fault}
use Rattle.komisum.specs.declared.faults.Fault.TheVariants.{Read, TooLong, Write}
use Rattle.komisum.specs.declared.ending.Refusal.TheVariants.{NoMemory, Usage}
use Rattle.komisum.specs.declared.ending.Ending.{Ending}
use Rattle.komisum.specs.declared.ending.Ending.TheVariants.{Shown, Failed, Refused}

-- the ending after `show`
abbrev pub ending_of : {T : Type 0} → Result T Fault → Ending
ending_of (Ok _) = Shown
ending_of (Err fault) = Failed fault

-- the message of a fault
abbrev pub fault_text : Fault → List ℕ
fault_text Read = codes "read failed"
fault_text TooLong = codes "too long"
fault_text Write = codes "write failed"

-- the line of a message: the program's name, the message and a newline
abbrev pub message_line : List ℕ → List ℕ
message_line text = codes "komisum: " ++ text ++ codes "\n"

-- the line on standard error, or no bytes if there is none
abbrev pub line_of : Ending → List ℕ
line_of Shown = []
line_of (Failed fault) = message_line (fault_text fault)
line_of (Refused NoMemory) = message_line (codes "no memory")
line_of (Refused Usage) = message_line (codes "usage: komisum [4|5 SEED]")

-- the program's status
abbrev pub status_of : Ending → ℕ
status_of Shown = 0
status_of (Failed _) = 1
status_of (Refused NoMemory) = 1
status_of (Refused Usage) = 2
