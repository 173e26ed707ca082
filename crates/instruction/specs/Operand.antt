-- The kinds of operand that can be read and those that can be written: the others are the `unreachable!` arms of 000.
use Rattle.std.specs.Prelude.{Bool, true, false}
use Rattle.instruction.specs.declared.OperandType.{OperandType}
use Rattle.instruction.specs.declared.OperandType.TheVariants as ot

abbrev pub readable : OperandType → Bool
readable ot.RegA = true
readable ot.RegB = true
readable ot.RegC = true
readable ot.RegD = true
readable ot.RegE = true
readable ot.RegH = true
readable ot.RegL = true
readable ot.AddrHL = true
readable ot.AddrHLDec = true
readable ot.AddrHLInc = true
readable ot.AddrBC = true
readable ot.AddrDE = true
readable ot.RegAF = true
readable ot.RegBC = true
readable ot.RegDE = true
readable ot.RegHL = true
readable ot.RegSP = true
readable ot.Imm8 = true
readable ot.Imm8Signed = true
readable ot.Imm16 = true
readable ot.HighAddr8 = true
readable ot.HighAddrC = true
readable ot.Addr16 = true
readable ot.Addr16Val16 = false
readable ot.Implied = true

abbrev pub writable : OperandType → Bool
writable ot.RegA = true
writable ot.RegB = true
writable ot.RegC = true
writable ot.RegD = true
writable ot.RegE = true
writable ot.RegH = true
writable ot.RegL = true
writable ot.AddrHL = true
writable ot.AddrHLDec = true
writable ot.AddrHLInc = true
writable ot.AddrBC = true
writable ot.AddrDE = true
writable ot.RegAF = true
writable ot.RegBC = true
writable ot.RegDE = true
writable ot.RegHL = true
writable ot.RegSP = true
writable ot.Imm8 = false
writable ot.Imm8Signed = false
writable ot.Imm16 = false
writable ot.HighAddr8 = true
writable ot.HighAddrC = true
writable ot.Addr16 = true
writable ot.Addr16Val16 = true
writable ot.Implied = true
