-- Which rows can be run: no operand that is never read or never written, no prefix, and no bit past a byte's eight.
use Rattle.std.specs.Prelude.{Bool, true, false, ◌&&◌, ltb}
use Rattle.instruction.specs.declared.Opcode.{Opcode}
use Rattle.instruction.specs.declared.Opcode.TheVariants as op
use Rattle.instruction.specs.declared.Instruction.{Instruction}
use Rattle.instruction.specs.Operand.{readable, writable}

-- PREFIX is never executed, and BIT, RES and SET name one of a byte's eight bits
abbrev pub executable : Opcode → Bool
executable op.Nop = true
executable op.Stop = true
executable op.Ld = true
executable op.LdSPHL = true
executable op.LdHLSPSigned8 = true
executable op.LdBB = true
executable op.Push = true
executable op.Pop = true
executable op.Inc = true
executable op.Inc16 = true
executable op.Dec = true
executable op.Dec16 = true
executable op.Add = true
executable op.Add16 = true
executable op.AddSPSigned8 = true
executable op.Adc = true
executable op.Cp = true
executable op.Sub = true
executable op.Sbc = true
executable op.And = true
executable op.Xor = true
executable op.Or = true
executable (op.Jp _) = true
executable op.JpHL = true
executable (op.Jr _) = true
executable (op.Call _) = true
executable (op.Ret _) = true
executable op.Reti = true
executable (op.Rst _) = true
executable op.Di = true
executable op.Ei = true
executable op.Ccf = true
executable op.Scf = true
executable op.Daa = true
executable op.Cpl = true
executable op.Rlca = true
executable op.Rla = true
executable op.Rrca = true
executable op.Rra = true
executable op.Prefix = false
executable op.Rlc = true
executable op.Rrc = true
executable op.Rl = true
executable op.Rr = true
executable op.Sla = true
executable op.Sra = true
executable op.Swap = true
executable op.Srl = true
executable (op.Bit n) = ltb n 8
executable (op.Res n) = ltb n 8
executable (op.Set n) = ltb n 8
executable op.Illegal = true
executable op.Halt = true

abbrev pub runnable : Instruction → Bool
runnable i = readable i.src && writable i.dest && executable i.opcode
