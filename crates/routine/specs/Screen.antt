-- What the screen answers of a window and leaves in the marks: the tests before the walk, the walk, and the tests after it.
use Rattle.std.specs.Prelude.{Bool, true, not, ◌&&◌, List, [], ◌∷◌, map, ℕ, zero, suc, ◌+◌, ◌-◌, eqb, leb, ltb, get_or, length, replicate, if◌then◌else◌, Ok, Err}
use Rattle.routine.specs.declared.ScreenRefusal.{ScreenRefusal}
use Rattle.routine.specs.declared.ScreenRefusal.TheVariants.{MemoryLength, WindowReversed, WindowTooLong, MarksLength, ForbiddenOpcode, PastTheEnd, FallsThrough, JumpUnmarked}
use Rattle.routine.specs.Verdict.{Verdict}
use Rattle.routine.specs.declared.Finding.TheVariants.{BeforeWalk, At}
use Rattle.sm83.specs.State.{addr}
use Rattle.opcodes.specs.Instruction.{operands}
use Rattle.routine.specs.Flow.{class_at, instruction_at, flow_at, past, is_forbidden, ends_routine, jumps_where}

abbrev pub refused_at : ScreenRefusal → ℕ → Verdict
refused_at r a = Err (At r (addr a))

-- The walk. Of the instruction that began at `start`, k bytes are still to come; n bytes of the window are left, from `at` on.

-- "each start is marked 1, each other byte 0"
unfoldable pub marks_from : List ℕ → ℕ → ℕ → ℕ → List ℕ
marks_from m zero at zero = []
marks_from m (suc k) at zero = []
marks_from m zero at (suc n) = 1 ∷ marks_from m (operands (instruction_at m at)) (suc at) n
marks_from m (suc k) at (suc n) = 0 ∷ marks_from m k (suc at) n

-- "At each start 7 is tested before 8, and the first finding by address wins."
unfoldable pub walk : List ℕ → ℕ → ℕ → ℕ → ℕ → Verdict
walk m start zero at zero = Ok tt
walk m start (suc k) at zero = refused_at PastTheEnd start
walk m start zero at (suc n) =
    let rest : Verdict = walk m at (operands (instruction_at m at)) (suc at) n in
    if is_forbidden (class_at m at) then refused_at ForbiddenOpcode at else rest
walk m start (suc k) at (suc n) = walk m start k (suc at) n

-- The marks of a window of n bytes, and whether an address is marked.

abbrev pub marks_of : List ℕ → ℕ → ℕ → List ℕ
marks_of m first n = marks_from m 0 first n

abbrev pub is_marked : List ℕ → ℕ → ℕ → Bool
is_marked marks first a = leb first a && eqb (get_or marks (a - first) 0) 1

-- The tests of one marked address of a window up to end, after the walk: what passes each, and what is refused if it does not.

-- that it ends the routine if it is the last, 9; that it lands on a mark if it jumps, 10
pub data Test : Type 0 where
  Ends Lands : Test

abbrev pub passes : Test → List ℕ → (ℕ → Bool) → ℕ → ℕ → Bool
-- 9: "the last instruction must be an unconditional JP, JR or RET"
passes Ends m marked end a = if eqb (past m a) end then ends_routine (class_at m a) else true
-- 10: "JP or JR, conditional or not, to an unmarked address"
passes Lands m marked end a = jumps_where marked (flow_at m a)

abbrev pub refusal_of : Test → ScreenRefusal
refusal_of Ends = FallsThrough
refusal_of Lands = JumpUnmarked

-- the lowest of n addresses from `at` on that is marked and fails the test
unfoldable pub scan : ScreenRefusal → (ℕ → Bool) → (ℕ → Bool) → ℕ → ℕ → Verdict
scan r marked test at zero = Ok tt
scan r marked test at (suc n) =
    let rest : Verdict = scan r marked test (suc at) n in
    if marked at && not (test at) then refused_at r at else rest

abbrev pub scan_for : List ℕ → (ℕ → Bool) → ℕ → ℕ → Test → Verdict
scan_for m marked first n t = scan (refusal_of t) marked (passes t m marked (first + n)) first n

-- the first finding of a list of them
abbrev pub first_of : List Verdict → Verdict
first_of [] = Ok tt
first_of (Ok done ∷ l) = first_of l
first_of (Err finding ∷ l) = Err finding

-- after 7 and 8 comes 9, then 10, "lowest jump first"
abbrev pub tests : List Test
tests = Ends ∷ Lands ∷ []

abbrev pub findings : List ℕ → (ℕ → Bool) → ℕ → ℕ → List Verdict
findings m marked first n = walk m first 0 first n ∷ map (scan_for m marked first n) tests

unfoldable pub verdict : List ℕ → ℕ → ℕ → Verdict
verdict m first n = first_of (findings m (is_marked (marks_of m first n) first) first n)

-- What the screen leaves.
pub record Screened : Type 0 where
  pub verdict : Verdict
  pub marks : List ℕ

-- "marks all 0", unless it passes
abbrev pub marks_after : Verdict → List ℕ → ℕ → ℕ → List ℕ
marks_after (Ok done) m first n = marks_of m first n
marks_after (Err finding) m first n = replicate n 0

abbrev pub untouched : ScreenRefusal → List ℕ → Screened
untouched r marks = record { verdict = Err (BeforeWalk r); marks = marks }

abbrev pub longest_window : ℕ
longest_window = 4096

-- "The screen tests 1, 4, 5, 6 in this order": from first to last, both in the window
unfoldable pub screen : List ℕ → ℕ → ℕ → List ℕ → Screened
screen m first last marks =
    let n : ℕ = suc (last - first) in
    if not (eqb (length m) 65536) then untouched MemoryLength marks else
    (if ltb last first then untouched WindowReversed marks else
    (if ltb longest_window n then untouched WindowTooLong marks else
    (if not (eqb (length marks) n) then untouched MarksLength marks else
    (record { verdict = verdict m first n; marks = marks_after (verdict m first n) m first n }))))
