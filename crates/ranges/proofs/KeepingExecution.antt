-- Each instruction keeps the registers in range and asks and writes as it may. Each line follows its instruction's line in the definition.
use Rattle.std.proofs.Common.{if◌then◌else◌}
use mathlib.Core.Bool.{Bool, true, false}
use Prim.Native.Nat.{ℕ, ◌+◌, ◌%◌}
use native.Mathlib.Omega.{arith}
use lib.Dec.{eqb, leb, ltb, T, ltb→lt}
use Rattle.sm83.specs.declared.HaltMode.TheVariants.{HaltRunInterrupt, HaltNoRunInterrupt, HaltBug}
use Rattle.outcome.specs.declared.Outcome.{Outcome}
use Rattle.outcome.specs.declared.Refusal.TheVariants.{IllegalOpcode}
use Rattle.outcome.specs.declared.Outcome.TheVariants.{Normal, InfiniteLoop, Halting, RunningHDMA, Stopped, RunningInterrupt, Breakpoint, Refused}
use Rattle.sm83.specs.Basics.{bit_at, high_byte, low_byte, next, back, offset, cleared, raised}
use Rattle.definition.specs.Bus.{Fetch, Operand}
use Rattle.outcome.specs.Interrupts.{is_pending}
use Rattle.sm83.specs.State.{set_ime, set_latch, set_halt, set_stopped}
use Rattle.sm83.specs.Flags.{flag_z, flag_c}
use Rattle.opcodes.specs.Arithmetic.{is_zero, holds, alu_op, acc_op, shift_op, increment, decrement, bit_test, word_sum_flags, offset_flags}
use Rattle.opcodes.specs.Instruction.{Cond, Work, NOP, DI, LD-r8-r8, LD-r8-n8, LD-r16-n16, LD-[r16]-A, LD-A-[r16], LD-[n16]-A, LD-A-[n16], LDH-[n8]-A, LDH-A-[n8], LDH-[C]-A, LDH-A-[C], LD-[n16]-SP, LD-SP-HL, LD-HL-SP+e8, ADD-SP-e8, ALU-A-r8, ALU-A-n8, ACC, INC-r8, DEC-r8, INC-r16, DEC-r16, ADD-HL-r16, PUSH-r16, POP-r16}
use Rattle.opcodes.specs.Instruction.{Jump, JP-n16, JP-HL, JR-e8, CALL-n16, RET, RETI, JP-cc-n16, JR-cc-e8, CALL-cc-n16, RET-cc, RST-vec}
use Rattle.opcodes.specs.Instruction.{Instruction, does, goes, CB-prefix, HALT, STOP, EI, LD-B-B, ILLEGAL, Prefixed, SHIFT-r8, BIT-u3-r8, RES-u3-r8, SET-u3-r8, decode_cb}
use Rattle.definition.specs.Execution.{Does, high, work, prefixed, normal, go_from, call, return, only_if, jump, halt, execute}
use Rattle.opcodes.proofs.Tested.{at}
use Rattle.ranges.proofs.Ranged.{Ranged, Flags, flags_sound, alu_sound, shift_sound, acc_sound, increment_sound, decrement_sound, cleared_byte, raised_byte}
use Rattle.ranges.proofs.Keeping.{Byte, Place, Any, Keeps, ◌⟫=◌, ◌⟫◌, given, said, changed, registers_say, loaded, stored, idled, peeked, either_keeps, set_a, set_f_lem, set_sp_lem, set_pc_lem, set_hl, a_said, f_said, sp_said, pc_said, hl_said, byte_keeps, imm8_keeps, imm16_keeps, get8_keeps, put8_keeps, get16_keeps, put16_keeps, get_stacked_keeps, put_stacked_keeps, pointed_keeps, moved_keeps, push_keeps, pop_keeps, into_a_keeps, into8_keeps}

offset_flags_lem : (w e : ℕ) → Flags (offset_flags w e)
offset_flags_lem w e = flags_sound false false (leb 16 (w % 16 + e % 16)) (leb 256 (w % 256 + e))

word_flags : (x y f : ℕ) → Flags (word_sum_flags x y f)
word_flags x y f = flags_sound (flag_z f) false (leb 4096 (x % 4096 + y % 4096)) (leb 65536 (x + y))

bit_flags : (n x f : ℕ) → Flags (bit_test n x f)
bit_flags n x f = flags_sound (is_zero (bit_at n x)) false true (flag_c f)

-- SET names a bit of a byte
abbrev bit_in_byte : Prefixed → Bool
bit_in_byte (SHIFT-r8 op r) = true
bit_in_byte (BIT-u3-r8 n r) = true
bit_in_byte (RES-u3-r8 n r) = true
bit_in_byte (SET-u3-r8 n r) = ltb n 8

-- the byte after CB names a bit of a byte
decode_cb_named : (x : ℕ) → Byte x → T (bit_in_byte (decode_cb x))
unfolding decode_cb
decode_cb_named x hx = at (λ b. bit_in_byte (decode_cb b)) 256 tt x hx

-- RST goes to an address
abbrev jump_in_range : Jump → Bool
jump_in_range JP-n16 = true
jump_in_range JP-HL = true
jump_in_range JR-e8 = true
jump_in_range CALL-n16 = true
jump_in_range RET = true
jump_in_range RETI = true
jump_in_range (JP-cc-n16 c) = true
jump_in_range (JR-cc-e8 c) = true
jump_in_range (CALL-cc-n16 c) = true
jump_in_range (RET-cc c) = true
jump_in_range (RST-vec v) = ltb v 65536

abbrev pub vector_in_range : Instruction → Bool
vector_in_range (does w) = true
vector_in_range (goes j) = jump_in_range j
vector_in_range CB-prefix = true
vector_in_range HALT = true
vector_in_range STOP = true
vector_in_range EI = true
vector_in_range LD-B-B = true
vector_in_range ILLEGAL = true

-- what an outcome carries is in range too
abbrev pub OutcomeRanged : Outcome → Type 0
OutcomeRanged Normal = Unit {0}
OutcomeRanged InfiniteLoop = Unit {0}
OutcomeRanged Halting = Unit {0}
OutcomeRanged RunningHDMA = Unit {0}
OutcomeRanged Stopped = Unit {0}
OutcomeRanged (RunningInterrupt i) = Unit {0}
OutcomeRanged (Breakpoint r) = Ranged r
OutcomeRanged (Refused r) = Unit {0}

loop_or_not : (t : Bool) → OutcomeRanged (if t then InfiniteLoop else Normal)
loop_or_not true = tt
loop_or_not false = tt

module _ {R : Type 0} {Q : R → Type 0} where
  work_keeps : (w : Work) → Keeps Q Any (work w)
  unfolding work
  work_keeps NOP = given tt tt
  work_keeps DI = changed (set_ime false) (λ s r. r)
  work_keeps (LD-r8-r8 to from) = get8_keeps from ⟫= λ v hv. put8_keeps to v hv
  work_keeps (LD-r8-n8 to) = imm8_keeps ⟫= λ v hv. put8_keeps to v hv
  work_keeps (LD-r16-n16 to) = imm16_keeps ⟫= λ w hw. put16_keeps to w hw
  work_keeps (LD-[r16]-A p) = pointed_keeps p ⟫= λ a ha. a_said ⟫= λ v hv. stored Operand a v ha hv ⟫ moved_keeps p
  work_keeps (LD-A-[r16] p) = pointed_keeps p ⟫= λ a ha. loaded Operand a ha ⟫= λ v hv. moved_keeps p ⟫ set_a v hv
  work_keeps LD-[n16]-A = imm16_keeps ⟫= λ a ha. a_said ⟫= λ v hv. stored Operand a v ha hv
  work_keeps LD-A-[n16] = imm16_keeps ⟫= λ a ha. loaded Operand a ha ⟫= λ v hv. set_a v hv
  work_keeps LDH-[n8]-A = imm8_keeps ⟫= λ n hn. a_said ⟫= λ v hv. stored Operand (high n) v (omega arith) hv
  work_keeps LDH-A-[n8] = imm8_keeps ⟫= λ n hn. loaded Operand (high n) (omega arith) ⟫= λ v hv. set_a v hv
  work_keeps LDH-[C]-A = registers_say (λ r. r.c) (λ r g. g.in_c) ⟫= λ n hn. a_said ⟫= λ v hv. stored Operand (high n) v (omega arith) hv
  work_keeps LDH-A-[C] = registers_say (λ r. r.c) (λ r g. g.in_c) ⟫= λ n hn. loaded Operand (high n) (omega arith) ⟫= λ v hv. set_a v hv
  work_keeps LD-[n16]-SP =
      imm16_keeps ⟫= λ a ha. sp_said ⟫= λ w hw. stored Operand a (low_byte w) ha (omega arith) ⟫ stored Operand (next a) (high_byte w) (omega arith) (omega arith)
  work_keeps LD-SP-HL = idled ⟫ hl_said ⟫= λ w hw. set_sp_lem w hw
  work_keeps LD-HL-SP+e8 =
      imm8_keeps ⟫= λ e he. idled ⟫ sp_said ⟫= λ w hw. set_f_lem (offset_flags w e) (offset_flags_lem w e) ⟫ set_hl (offset w e) (omega arith)
  work_keeps ADD-SP-e8 =
      imm8_keeps ⟫= λ e he. idled ⟫ idled ⟫ sp_said ⟫= λ w hw. set_f_lem (offset_flags w e) (offset_flags_lem w e) ⟫ set_sp_lem (offset w e) (omega arith)
  work_keeps (ALU-A-r8 op from) = get8_keeps from ⟫= λ x hx. a_said ⟫= λ a ha. f_said ⟫= λ f hf. into_a_keeps (alu_op op a x f) (alu_sound op a x f ha hx)
  work_keeps (ALU-A-n8 op) = imm8_keeps ⟫= λ x hx. a_said ⟫= λ a ha. f_said ⟫= λ f hf. into_a_keeps (alu_op op a x f) (alu_sound op a x f ha hx)
  work_keeps (ACC op) = a_said ⟫= λ a ha. f_said ⟫= λ f hf. into_a_keeps (acc_op op a f) (acc_sound op a f ha)
  work_keeps (INC-r8 to) = get8_keeps to ⟫= λ x hx. f_said ⟫= λ f hf. into8_keeps to (increment x f) (increment_sound x f)
  work_keeps (DEC-r8 to) = get8_keeps to ⟫= λ x hx. f_said ⟫= λ f hf. into8_keeps to (decrement x f) (decrement_sound x f)
  work_keeps (INC-r16 to) = idled ⟫ get16_keeps to ⟫= λ w hw. put16_keeps to (next w) (omega arith)
  work_keeps (DEC-r16 to) = idled ⟫ get16_keeps to ⟫= λ w hw. put16_keeps to (back w) (omega arith)
  work_keeps (ADD-HL-r16 from) =
      idled ⟫ get16_keeps from ⟫= λ x hx. hl_said ⟫= λ w hw. f_said ⟫= λ f hf. set_f_lem (word_sum_flags w x f) (word_flags w x f) ⟫ set_hl ((w + x) % 65536) (omega arith)
  work_keeps (PUSH-r16 from) = idled ⟫ get_stacked_keeps from ⟫= λ w hw. push_keeps w hw
  work_keeps (POP-r16 to) = pop_keeps ⟫= λ w hw. put_stacked_keeps to w hw

  prefixed_keeps : (p : Prefixed) → T (bit_in_byte p) → Keeps Q Any (prefixed p)
  unfolding prefixed
  prefixed_keeps (SHIFT-r8 op to) h = get8_keeps to ⟫= λ x hx. f_said ⟫= λ f hf. into8_keeps to (shift_op op x f) (shift_sound op x f hx)
  prefixed_keeps (BIT-u3-r8 n from) h = get8_keeps from ⟫= λ x hx. f_said ⟫= λ f hf. set_f_lem (bit_test n x f) (bit_flags n x f)
  prefixed_keeps (RES-u3-r8 n to) h = get8_keeps to ⟫= λ x hx. put8_keeps to (cleared n x) (cleared_byte n x hx)
  prefixed_keeps (SET-u3-r8 n to) h = get8_keeps to ⟫= λ x hx. put8_keeps to (raised n x) (raised_byte n x (ltb→lt n 8 h) hx)

  normally : Keeps Q OutcomeRanged normal
  normally = given Normal tt

  go_from_keeps : (at t : ℕ) → Place t → Keeps Q OutcomeRanged (go_from at t)
  go_from_keeps at t p = set_pc_lem t p ⟫ given (if eqb t at then InfiniteLoop else Normal) (loop_or_not (eqb t at))

  call_keeps : (t : ℕ) → Place t → Keeps Q Any (call t)
  call_keeps t ht = idled ⟫ pc_said ⟫= λ p hp. push_keeps p hp ⟫ set_pc_lem t ht

  return_keeps : Keeps Q Any return
  return_keeps = pop_keeps ⟫= λ t ht. idled ⟫ set_pc_lem t ht

  only_if_keeps : {p : Does R (Unit {0})} (c : Cond) → Keeps Q Any p → Keeps Q OutcomeRanged (only_if c p)
  only_if_keeps c hp = f_said ⟫= λ f hf. either_keeps (holds c f) (hp ⟫ normally) normally

  jump_keeps : (at : ℕ) (j : Jump) → T (jump_in_range j) → Keeps Q OutcomeRanged (jump at j)
  unfolding jump
  jump_keeps at JP-n16 h = imm16_keeps ⟫= λ t ht. idled ⟫ go_from_keeps at t ht
  jump_keeps at JP-HL h = hl_said ⟫= λ t ht. go_from_keeps at t ht
  jump_keeps at JR-e8 h = imm8_keeps ⟫= λ e he. idled ⟫ pc_said ⟫= λ p hp. go_from_keeps at (offset p e) (omega arith)
  jump_keeps at CALL-n16 h = imm16_keeps ⟫= λ t ht. call_keeps t ht ⟫ normally
  jump_keeps at RET h = return_keeps ⟫ normally
  jump_keeps at RETI h = return_keeps ⟫ changed (set_ime true) (λ s r. r) ⟫ normally
  jump_keeps at (JP-cc-n16 c) h = imm16_keeps ⟫= λ t ht. only_if_keeps c (idled ⟫ set_pc_lem t ht)
  jump_keeps at (JR-cc-e8 c) h = imm8_keeps ⟫= λ e he. only_if_keeps c (idled ⟫ pc_said ⟫= λ p hp. set_pc_lem (offset p e) (omega arith))
  jump_keeps at (CALL-cc-n16 c) h = imm16_keeps ⟫= λ t ht. only_if_keeps c (call_keeps t ht)
  jump_keeps at (RET-cc c) h = idled ⟫ only_if_keeps c return_keeps
  jump_keeps at (RST-vec v) h = call_keeps v (ltb→lt v 65536 h) ⟫ normally

  halt_keeps : Keeps Q Any halt
  halt_keeps =
      said ⟫= λ s hs. either_keeps s.ime (changed (set_halt HaltRunInterrupt) (λ t r. r)) (peeked ⟫= λ i hi. changed (set_halt (if is_pending i then HaltBug else HaltNoRunInterrupt)) (λ t r. r))

  pub execute_keeps : (at : ℕ) (i : Instruction) → Place at → T (vector_in_range i) → Keeps Q OutcomeRanged (execute at i)
  unfolding execute
  execute_keeps at (does w) p h = work_keeps w ⟫ normally
  execute_keeps at (goes j) p h = jump_keeps at j h
  execute_keeps at CB-prefix p h = byte_keeps Fetch ⟫= λ x hx. prefixed_keeps (decode_cb x) (decode_cb_named x hx) ⟫ normally
  execute_keeps at HALT p h = halt_keeps ⟫ normally
  execute_keeps at STOP p h = changed (set_stopped true) (λ s r. r) ⟫ normally
  execute_keeps at EI p h = changed (set_latch true) (λ s r. r) ⟫ normally
  execute_keeps at LD-B-B p h = registers_say (λ r. r) (λ r g. g) ⟫= λ r g. given (Breakpoint r) g
  execute_keeps at ILLEGAL p h = set_pc_lem at p ⟫ given (Refused IllegalOpcode) tt
