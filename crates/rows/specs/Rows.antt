-- The starred rows of "Rows to be worked", each value as the document prints it.
use Rattle.std.specs.Prelude.{true, List, [], ◌∷◌, ℕ}
use Rattle.sm83.specs.declared.Cpu.{Cpu}
use Rattle.sm83.specs.declared.HaltMode.TheVariants.{HaltBug}
use Rattle.sm83.specs.State.{on_registers, write_a, write_af, set_sp, set_pc, set_ime, set_halt}
use Rattle.sm83.specs.PowerOn.{cpu_zero}
use Rattle.rows.specs.Claim.{A, F, E, HL, SP, PC, H, C, IME, LATCH, OUTCOME, M-CYCLES, BYTE, ◌is◌, with_bytes, zeros, Row, steps, passes}

-- every register 0, on a DMG
abbrev pub still : Cpu
still = cpu_zero true

abbrev pub with_a : ℕ → Cpu
with_a a = on_registers (write_a a) still

-- instructions at 0, and IE and IF
abbrev pub code : List ℕ → List ℕ
code l = with_bytes 0 l zeros

abbrev pub both_1 : List ℕ
both_1 = with_bytes 0xffff (0x01 ∷ []) (with_bytes 0xff0f (0x01 ∷ []) zeros)

unfoldable pub rows : List Row
rows =
    -- A=45 ADD 38, DAA: 83, C clear
    steps (with_a 0x45) (code (0xc6 ∷ 0x38 ∷ 0x27 ∷ [])) 1 (A is 0x83 ∷ C is 0 ∷ [])
    -- A=99, C set, ADC 99, DAA: 99, C set
    ∷ steps (on_registers (write_af 0x9910) still) (code (0xce ∷ 0x99 ∷ 0x27 ∷ [])) 1 (A is 0x99 ∷ C is 1 ∷ [])
    -- A=00 SUB 01, DAA: 99, C set
    ∷ steps (with_a 0x00) (code (0xd6 ∷ 0x01 ∷ 0x27 ∷ [])) 1 (A is 0x99 ∷ C is 1 ∷ [])
    -- SP=00FF, ADD SP,+1: 0100, H and C set, 4 M-cycles
    ∷ steps (set_sp 0x00ff still) (code (0xe8 ∷ 0x01 ∷ [])) 0 (SP is 0x0100 ∷ H is 1 ∷ C is 1 ∷ M-CYCLES is 4 ∷ [])
    -- SP=0000, LD HL,SP-1: FFFF, all flags clear, 3
    ∷ steps (set_sp 0x0000 still) (code (0xf8 ∷ 0xff ∷ [])) 0 (HL is 0xffff ∷ F is 0 ∷ M-CYCLES is 3 ∷ [])
    -- IME clear; EI, then D3: refusal 3 (number 16 + 3), PC at D3, IME set, latch clear, 1
    ∷ steps still (code (0xfb ∷ 0xd3 ∷ [])) 1 (OUTCOME is 19 ∷ PC is 0x0001 ∷ IME is 1 ∷ LATCH is 0 ∷ M-CYCLES is 1 ∷ [])
    -- IME set, IE=01, IF=01, SP=0000, PC=1234: bytes FFFF=12, FFFE=34, PC=0000, SP=FFFE, IF=01, Normal, 5
    ∷ steps (set_ime true (set_pc 0x1234 still)) both_1 0 (BYTE 0xffff is 0x12 ∷ BYTE 0xfffe is 0x34 ∷ PC is 0x0000 ∷ SP is 0xfffe ∷ BYTE 0xff0f is 0x01 ∷ OUTCOME is 0 ∷ M-CYCLES is 5 ∷ [])
    -- With PC=0134: PC=0040, IF=00
    ∷ steps (set_ime true (set_pc 0x0134 still)) both_1 0 (PC is 0x0040 ∷ BYTE 0xff0f is 0x00 ∷ [])
    -- IME set, IE=01, IF=01, SP=FF11, PC=1234: PC=0040, FF0F holds 34 in the end
    ∷ steps (set_ime true (set_sp 0xff11 (set_pc 0x1234 still))) both_1 0 (PC is 0x0040 ∷ BYTE 0xff0f is 0x34 ∷ [])
    -- HaltBug, IME clear, byte CB at PC: SET 1,E; PC moves by one; 2 M-cycles
    ∷ steps (set_halt HaltBug still) (code (0xcb ∷ [])) 0 (E is 0x02 ∷ PC is 0x0001 ∷ M-CYCLES is 2 ∷ [])
    -- POP AF over bytes FF FF: F=F0, A=FF
    ∷ steps (set_sp 0x0010 still) (with_bytes 0x0010 (0xff ∷ 0xff ∷ []) (code (0xf1 ∷ []))) 0 (F is 0xf0 ∷ A is 0xff ∷ [])
    -- Windows: C9 passes, marks 1; 18 FE passes, marks 1 0
    ∷ passes (0xc9 ∷ []) (1 ∷ [])
    ∷ passes (0x18 ∷ 0xfe ∷ []) (1 ∷ 0 ∷ [])
    ∷ []

-- "Lengths 4,096 and 4,097 either side of 5."
abbrev pub let_in : ℕ
let_in = 4096

abbrev pub too_long : ℕ
too_long = 4097
