-- What `exec_instruction` of 000 does, as accesses in order. This is the code's own shape, and no part of what a reader must believe: it is proved to lead where the definition leads.
use Rattle.std.specs.Prelude.{Bool, true, false, ◌&&◌, ℕ, ◌+◌, ◌%◌, eqb, if◌then◌else◌}
use Rattle.outcome.specs.declared.Refusal.TheVariants.{IllegalOpcode}
use Rattle.outcome.specs.declared.Outcome.{Outcome}
use Rattle.outcome.specs.declared.Outcome.TheVariants.{Normal, InfiniteLoop, Breakpoint, Refused}
use Rattle.instruction.specs.declared.Condition.{Condition}
use Rattle.instruction.specs.Holding.{check_cond, is_unconditional}
use Rattle.instruction.specs.declared.Opcode.{Opcode}
use Rattle.instruction.specs.declared.Opcode.TheVariants as op
use Rattle.instruction.specs.declared.Instruction.{Instruction}
use Rattle.sm83.specs.Basics.{cleared, raised, low_byte, next, back}
use Rattle.sm83.specs.State.{write_a, write_f, write_sp, set_pc, set_ime, set_latch, set_stopped}
use Rattle.opcodes.specs.Arithmetic.{Result, alu_op, acc_op, shift_op, increment, decrement, bit_test, word_sum_flags, offset_flags}
use Rattle.opcodes.specs.Instruction.{Alu, ADD, ADC, SUB, SBC, AND, XOR, OR, CP, Acc, RLCA, RRCA, RLA, RRA, DAA, CPL, SCF, CCF, Shift, RLC, RRC, RL, RR, SLA, SRA, SWAP, SRL}
use Rattle.operands.specs.Operands.{read_operand, write_operand}
use Rattle.execution.specs.declared.Made.{Made}
use Rattle.definition.specs.Execution.{Does, ◌>>=◌, ◌>>◌, give, nothing, change, reg, set_reg, reg_a, reg_f, reg_sp, reg_pc, reg_hl, idle, push, pop, halt, go_to, call, return}

abbrev pub made : {R : Type 0} → ℕ → Does R Made
made v = give (record { value = v; outcome = Normal })

abbrev pub ends : {R : Type 0} → Outcome → Does R Made
ends o = give (record { value = 0; outcome = o })

-- a result's flags into F, its value on
abbrev pub result : {R : Type 0} → Result → Does R Made
result x = do set_reg (write_f x.flags); made x.value

abbrev pub alu_made : {R : Type 0} → Alu → ℕ → Does R Made
alu_made o v = do a ← reg_a; f ← reg_f; result (alu_op o a (low_byte v) f)

abbrev pub acc_made : {R : Type 0} → Acc → Does R Made
acc_made o = do a ← reg_a; f ← reg_f; set_reg (λ r. write_f (acc_op o a f).flags (write_a (acc_op o a f).value r)); made 0

abbrev pub shift_made : {R : Type 0} → Shift → ℕ → Does R Made
shift_made o v = do f ← reg_f; result (shift_op o (low_byte v) f)

-- words; SP and a signed byte that has been extended
unfoldable pub load_sp_made : {R : Type 0} → Does R Made
load_sp_made = do idle; w ← reg_hl; set_reg (write_sp w); made 0

abbrev pub offset_made : {R : Type 0} → ℕ → Does R Made
offset_made v = do w ← reg_sp; set_reg (write_f (offset_flags w (low_byte v))); made ((w + v) % 65536)

unfoldable pub load_hl_made : {R : Type 0} → ℕ → Does R Made
load_hl_made v = do idle; offset_made v

unfoldable pub add_sp_made : {R : Type 0} → ℕ → Does R Made
add_sp_made v = do idle; idle; offset_made v

unfoldable pub add_hl_made : {R : Type 0} → ℕ → Does R Made
add_hl_made v = do idle; w ← reg_hl; f ← reg_f; set_reg (write_f (word_sum_flags w v f)); made ((w + v) % 65536)

abbrev pub after_idle_made : {R : Type 0} → ℕ → Does R Made
after_idle_made w = do idle; made w

-- the stack
abbrev pub push_made : {R : Type 0} → ℕ → Does R Made
push_made v = do idle; push v; made 0

abbrev pub pop_made : {R : Type 0} → Does R Made
pop_made = do w ← pop; made w

-- a jump to t from the instruction at `at`; `sure` where it is unconditional
unfoldable pub jump_made : {R : Type 0} → ℕ → Bool → ℕ → Does R Made
jump_made at sure t = do go_to t; ends (if sure && eqb t at then InfiniteLoop else Normal)

unfoldable pub only_if_made : {R : Type 0} → Condition → Does R Made → Does R Made
only_if_made c p = do f ← reg_f; if check_cond c f then p else made 0

abbrev pub jp_made : {R : Type 0} → Condition → ℕ → ℕ → Does R Made
jp_made c at v = only_if_made c (do idle; jump_made at (is_unconditional c) v)

abbrev pub jr_made : {R : Type 0} → Condition → ℕ → ℕ → Does R Made
jr_made c at v = only_if_made c (do idle; p ← reg_pc; jump_made at (is_unconditional c) ((p + v) % 65536))

abbrev pub call_made : {R : Type 0} → ℕ → Does R Made
call_made t = do call t; made 0

abbrev pub call_if_made : {R : Type 0} → Condition → ℕ → Does R Made
call_if_made c t = only_if_made c (call_made t)

abbrev pub ret_made : {R : Type 0} → Does R Made
ret_made = do return; made 0

-- a return that is not sure idles first
abbrev pub ret_if_made : {R : Type 0} → Condition → Does R Made
ret_if_made c = do if is_unconditional c then nothing else idle; only_if_made c ret_made

abbrev pub reti_made : {R : Type 0} → Does R Made
reti_made = do return; change (set_ime true); made 0

abbrev pub halt_made : {R : Type 0} → Does R Made
halt_made = do halt; made 0

-- the match of `exec_instruction`, with the operand's value; Prefix never comes here
unfoldable pub compute : {R : Type 0} → Opcode → ℕ → ℕ → Does R Made
compute op.Nop at v = made 0
compute op.Stop at v = do change (set_stopped true); made 0
compute op.Halt at v = halt_made
compute op.Ld at v = made v
compute op.LdSPHL at v = load_sp_made
compute op.LdHLSPSigned8 at v = load_hl_made v
compute op.LdBB at v = do r ← reg (λ r. r); ends (Breakpoint r)
compute op.Push at v = push_made v
compute op.Pop at v = pop_made
compute op.Inc at v = do f ← reg_f; result (increment (low_byte v) f)
compute op.Inc16 at v = after_idle_made (next v)
compute op.Dec at v = do f ← reg_f; result (decrement (low_byte v) f)
compute op.Dec16 at v = after_idle_made (back v)
compute op.Add at v = alu_made ADD v
compute op.Add16 at v = add_hl_made v
compute op.AddSPSigned8 at v = add_sp_made v
compute op.Adc at v = alu_made ADC v
compute op.Cp at v = alu_made CP v
compute op.Sub at v = alu_made SUB v
compute op.Sbc at v = alu_made SBC v
compute op.And at v = alu_made AND v
compute op.Xor at v = alu_made XOR v
compute op.Or at v = alu_made OR v
compute (op.Jp c) at v = jp_made c at v
compute op.JpHL at v = jump_made at true v
compute (op.Jr c) at v = jr_made c at v
compute (op.Call c) at v = call_if_made c v
compute (op.Ret c) at v = ret_if_made c
compute op.Reti at v = reti_made
compute (op.Rst n) at v = call_made n
compute op.Di at v = do change (set_ime false); made 0
compute op.Ei at v = do change (set_latch true); made 0
compute op.Ccf at v = acc_made CCF
compute op.Scf at v = acc_made SCF
compute op.Daa at v = acc_made DAA
compute op.Cpl at v = acc_made CPL
compute op.Rlca at v = acc_made RLCA
compute op.Rla at v = acc_made RLA
compute op.Rrca at v = acc_made RRCA
compute op.Rra at v = acc_made RRA
compute op.Prefix at v = made 0
compute op.Rlc at v = shift_made RLC v
compute op.Rrc at v = shift_made RRC v
compute op.Rl at v = shift_made RL v
compute op.Rr at v = shift_made RR v
compute op.Sla at v = shift_made SLA v
compute op.Sra at v = shift_made SRA v
compute op.Swap at v = shift_made SWAP v
compute op.Srl at v = shift_made SRL v
compute (op.Bit n) at v = do f ← reg_f; set_reg (write_f (bit_test n (low_byte v) f)); made 0
compute (op.Res n) at v = made (cleared n (low_byte v))
compute (op.Set n) at v = made (raised n (low_byte v))
compute op.Illegal at v = do change (set_pc at); ends (Refused IllegalOpcode)

-- `exec_instruction`
unfoldable pub exec_row : {R : Type 0} → Instruction → ℕ → Does R Outcome
exec_row i at = do v ← read_operand i.src; w ← compute i.opcode at v; write_operand i.dest w.value; give w.outcome

-- a proof that says `unfolding mirroring` opens all of this page
unfoldable pub mirroring : ℕ
unfolding exec_row compute only_if_made jump_made add_hl_made add_sp_made load_hl_made load_sp_made is_unconditional check_cond write_operand read_operand
mirroring = 0
