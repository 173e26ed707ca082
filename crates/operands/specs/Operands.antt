-- What `read_operand` and `write_operand` of 000 do, as accesses in order.
use Rattle.std.specs.Prelude.{ℕ}
use Rattle.instruction.specs.declared.OperandType.{OperandType}
use Rattle.instruction.specs.declared.OperandType.TheVariants as ot
use Rattle.sm83.specs.Basics.{low_byte, high_byte, next, back, signed}
use Rattle.definition.specs.Bus.{Operand}
use Rattle.sm83.specs.State.{pair_af, pair_bc, pair_de, write_a, write_sp, put_bc, put_de, put_hl, write_bc, write_de, write_hl, write_af}
use Rattle.definition.specs.Execution.{Does, ◌>>=◌, ◌>>◌, give, nothing, reg, set_reg, reg_a, reg_c, reg_sp, reg_hl, load, store, imm8, imm16, high}

-- a byte at HL, which then is moved on or back
abbrev pub read_moving : {R : Type 0} → ℕ → ℕ → Does R ℕ
read_moving hl after = do v ← load Operand hl; set_reg (write_hl after); give v

abbrev pub write_moving : {R : Type 0} → ℕ → ℕ → ℕ → Does R (Unit {0})
write_moving hl after v = do store Operand hl v; set_reg (write_hl after)

-- `read_operand`; Addr16Val16 is never read
unfoldable pub read_operand : {R : Type 0} → OperandType → Does R ℕ
read_operand ot.RegA = reg_a
read_operand ot.RegB = reg (λ r. r.b)
read_operand ot.RegC = reg_c
read_operand ot.RegD = reg (λ r. r.d)
read_operand ot.RegE = reg (λ r. r.e)
read_operand ot.RegH = reg (λ r. r.h)
read_operand ot.RegL = reg (λ r. r.l)
read_operand ot.AddrHL = do a ← reg_hl; load Operand a
read_operand ot.AddrHLDec = do a ← reg_hl; read_moving a (back a)
read_operand ot.AddrHLInc = do a ← reg_hl; read_moving a (next a)
read_operand ot.AddrBC = do a ← reg pair_bc; load Operand a
read_operand ot.AddrDE = do a ← reg pair_de; load Operand a
read_operand ot.RegAF = reg pair_af
read_operand ot.RegBC = reg pair_bc
read_operand ot.RegDE = reg pair_de
read_operand ot.RegHL = reg_hl
read_operand ot.RegSP = reg_sp
read_operand ot.Imm8 = imm8
read_operand ot.Imm8Signed = do e ← imm8; give (signed e)
read_operand ot.Imm16 = imm16
read_operand ot.HighAddr8 = do n ← imm8; load Operand (high n)
read_operand ot.HighAddrC = do n ← reg_c; load Operand (high n)
read_operand ot.Addr16 = do a ← imm16; load Operand a
read_operand ot.Addr16Val16 = give 0
read_operand ot.Implied = give 0

-- `write_operand`; the immediates are never written
unfoldable pub write_operand : {R : Type 0} → OperandType → ℕ → Does R (Unit {0})
write_operand ot.RegA v = set_reg (write_a (low_byte v))
write_operand ot.RegB v = set_reg (λ r. put_bc (low_byte v) r.c r)
write_operand ot.RegC v = set_reg (λ r. put_bc r.b (low_byte v) r)
write_operand ot.RegD v = set_reg (λ r. put_de (low_byte v) r.e r)
write_operand ot.RegE v = set_reg (λ r. put_de r.d (low_byte v) r)
write_operand ot.RegH v = set_reg (λ r. put_hl (low_byte v) r.l r)
write_operand ot.RegL v = set_reg (λ r. put_hl r.h (low_byte v) r)
write_operand ot.AddrHL v = do a ← reg_hl; store Operand a (low_byte v)
write_operand ot.AddrHLDec v = do a ← reg_hl; write_moving a (back a) (low_byte v)
write_operand ot.AddrHLInc v = do a ← reg_hl; write_moving a (next a) (low_byte v)
write_operand ot.AddrBC v = do a ← reg pair_bc; store Operand a (low_byte v)
write_operand ot.AddrDE v = do a ← reg pair_de; store Operand a (low_byte v)
write_operand ot.RegAF v = set_reg (write_af v)
write_operand ot.RegBC v = set_reg (write_bc v)
write_operand ot.RegDE v = set_reg (write_de v)
write_operand ot.RegHL v = set_reg (write_hl v)
write_operand ot.RegSP v = set_reg (write_sp v)
write_operand ot.Imm8 v = nothing
write_operand ot.Imm8Signed v = nothing
write_operand ot.Imm16 v = nothing
write_operand ot.HighAddr8 v = do n ← imm8; store Operand (high n) (low_byte v)
write_operand ot.HighAddrC v = do n ← reg_c; store Operand (high n) (low_byte v)
write_operand ot.Addr16 v = do a ← imm16; store Operand a (low_byte v)
write_operand ot.Addr16Val16 v = do a ← imm16; store Operand a (low_byte v); store Operand (next a) (high_byte v)
write_operand ot.Implied v = nothing
