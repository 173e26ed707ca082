-- What each verdict of the screen says: its number in the document, and the address that comes with it. Every promise uses these.
use Rattle.std.specs.Prelude.{ℕ, Ok, Err}
use Rattle.outcome.specs.declared.Refusal.TheVariants as step
use Rattle.outcome.specs.Numbers.{Said, says, no_value, the_address}
use Rattle.outcome.specs.Numbers as step_numbers
use Rattle.routine.specs.declared.ScreenRefusal.{ScreenRefusal}
use Rattle.routine.specs.declared.ScreenRefusal.TheVariants.{MemoryLength, WindowReversed, WindowTooLong, MarksLength, ForbiddenOpcode, PastTheEnd, FallsThrough, JumpUnmarked}
use Rattle.routine.specs.Verdict.{Verdict}
use Rattle.routine.specs.declared.Finding.{Finding}
use Rattle.routine.specs.declared.Finding.TheVariants.{BeforeWalk, At}

-- the table of "When the core says no": what the screen gives; 1 is a step's 1
abbrev pub number_of : ScreenRefusal → ℕ
number_of MemoryLength = step_numbers.number_of step.MemoryLength
number_of WindowReversed = 4
number_of WindowTooLong = 5
number_of MarksLength = 6
number_of ForbiddenOpcode = 7
number_of PastTheEnd = 8
number_of FallsThrough = 9
number_of JumpUnmarked = 10

-- a finding says its refusal's number; with its address, if it names one
abbrev pub finding_says : Finding → Said
finding_says (BeforeWalk r) = says (number_of r) no_value
finding_says (At r a) = says (number_of r) (the_address a)

abbrev pub finding_number : Finding → ℕ
finding_number finding = (finding_says finding).number

-- 0 if it passes, else what the finding says
abbrev pub verdict_says : Verdict → Said
verdict_says (Ok done) = says 0 no_value
verdict_says (Err finding) = finding_says finding

abbrev pub verdict_number : Verdict → ℕ
verdict_number v = (verdict_says v).number
