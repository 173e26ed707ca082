-- What a row says of a step's end, or of a window: one number looked at, and what it is.
use Rattle.std.specs.Prelude.{List, [], ◌∷◌, map, ℕ, zero, suc, set, replicate}
use Rattle.sm83.specs.declared.Cpu.{Cpu}
use Rattle.sm83.specs.Basics.{bit}
use Rattle.definition.specs.Bus.{Performed, plain, byte_at, mcycles}
use Rattle.sm83.specs.State.{pair_hl}
use Rattle.sm83.specs.Flags.{flag_h, flag_c}
use Rattle.outcome.specs.Numbers.{outcome_number}
use Rattle.routine.specs.Numbers.{verdict_number}
use Rattle.definition.specs.Step.{Ended, step_on}
use Rattle.routine.specs.Screen.{Screened, screen}

-- what is looked at after a step: a register, a flag, IME, the EI latch, the outcome's number, M-cycles, or the byte at an address
pub data Look : Type 0 where
  A F E HL SP PC H C IME LATCH OUTCOME M-CYCLES : Look
  BYTE : ℕ → Look

pub data Claim : Type 0 where
  ◌is◌ : Look → ℕ → Claim

infix 70 ◌is◌
abbrev pub look : Performed (List ℕ) Ended → Look → ℕ
look r A = r.value.cpu.registers.a
look r F = r.value.cpu.registers.f
look r E = r.value.cpu.registers.e
look r HL = pair_hl r.value.cpu.registers
look r SP = r.value.cpu.registers.sp.0
look r PC = r.value.cpu.registers.pc.0
look r H = bit (flag_h r.value.cpu.registers.f)
look r C = bit (flag_c r.value.cpu.registers.f)
look r IME = bit r.value.cpu.ime
look r LATCH = bit r.value.cpu.latch
look r OUTCOME = outcome_number r.value.outcome
look r M-CYCLES = mcycles r.accesses
look r (BYTE a) = byte_at r.memory a

abbrev pub found : Performed (List ℕ) Ended → Claim → ℕ
found r (l is n) = look r l

abbrev pub wanted : Claim → ℕ
wanted (l is n) = n

-- 65,536 bytes, all 0, with some written from an address on
unfoldable pub with_bytes : ℕ → List ℕ → List ℕ → List ℕ
with_bytes a [] m = m
with_bytes a (v ∷ l) m = with_bytes (suc a) l (set m a v)

abbrev pub zeros : List ℕ
zeros = replicate 65536 0

-- the last of so many steps and one more
unfoldable pub steps_of : ℕ → Cpu → List ℕ → Performed (List ℕ) Ended
steps_of zero s m = step_on plain s m
steps_of (suc n) s m = let r : Performed (List ℕ) Ended = step_on plain s m in steps_of n r.value.cpu r.memory

-- a row: a state, memory, how many steps come before the last, and what is said of it; or a window's bytes at 0 and its marks
pub data Row : Type 0 where
  steps : Cpu → List ℕ → ℕ → List Claim → Row
  passes : List ℕ → List ℕ → Row

-- what the screen answers of a window at 0: the verdict's number, 0 if it passes, and the marks
abbrev pub screened_at0 : List ℕ → List ℕ → ℕ → List ℕ
screened_at0 window marks last = let r : Screened = screen (with_bytes 0 window zeros) 0 last marks in verdict_number r.verdict ∷ r.marks

unfoldable pub found_of : Row → List ℕ
found_of (steps s m n claims) = let r : Performed (List ℕ) Ended = steps_of n s m in map (found r) claims
found_of (passes [] marks) = []
found_of (passes (x ∷ window) marks) = screened_at0 (x ∷ window) (map (λ y. 7) (x ∷ window)) (place window)
  where
    place : List ℕ → ℕ
    place [] = 0
    place (y ∷ l) = suc (place l)

unfoldable pub wanted_of : Row → List ℕ
wanted_of (steps s m n claims) = map wanted claims
wanted_of (passes window marks) = 0 ∷ marks
