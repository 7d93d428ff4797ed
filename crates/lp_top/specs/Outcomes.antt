-- Outcomes: their status, their lines, and when each comes.
use Rattle.std.specs.Prelude.{ℕ, List, ◌++◌, codes, decimal}
use Rattle.lp_top.specs.declared.outcome.UsageFault.TheVariants.{Form, Files}
use Rattle.lp_top.specs.declared.outcome.Outcome.{Outcome}
use Rattle.lp_top.specs.declared.outcome.Outcome.TheVariants.{Done, Refused, TooLong, Usage, ReadFault, WriteFault, NoMemory}

abbrev pub status_of : Outcome → ℕ
status_of Done = 0
status_of (Refused f) = 1
status_of (TooLong k) = 1
status_of (Usage u) = 2
status_of (ReadFault k) = 3
status_of (WriteFault k) = 3
status_of NoMemory = 4

-- the line that is said, with its line feed; Done says nothing
abbrev pub line_of : Outcome → List ℕ
line_of Done = codes ""
line_of (Refused f) = f ++ codes "\n"
line_of (TooLong k) = codes "lpinsert: file " ++ (decimal k ++ codes " too long\n")
line_of (Usage Form) = codes "lpinsert: usage form\n"
line_of (Usage Files) = codes "lpinsert: usage files\n"
line_of (ReadFault k) = codes "lpinsert: cannot read file " ++ (decimal k ++ codes "\n")
line_of (WriteFault k) = codes "lpinsert: cannot write file " ++ (decimal k ++ codes "\n")
line_of NoMemory = codes "lpinsert: no memory\n"
