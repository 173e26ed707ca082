-- The parts of an instruction, from registers in range: they ask only for addresses below 65,536, write only bytes, and leave registers in range, whatever bytes memory answers.
use Rattle.std.specs.Prelude.{Option}
use Rattle.std.proofs.Common.{if◌then◌else◌}
use mathlib.Core.Bool.{Bool, true, false}
use Prim.Native.Nat.{ℕ, ◌*◌, ◌/◌, ◌%◌, ◌<◌}
use native.Mathlib.Omega.{arith}
use Rattle.sm83.specs.declared.CpuRegisters.{CpuRegisters}
use Rattle.sm83.specs.declared.Cpu.{Cpu}
use Rattle.sm83.specs.Basics.{word, high_byte, low_byte, next, back}
use Rattle.definition.specs.Bus as bus
use Rattle.definition.specs.Bus.{Kind, Operand, Stack, Ask, leaf, read, write, write_and_take}
use Rattle.sm83.specs.State.{pair_af, pair_bc, pair_de, pair_hl, write_a, write_f, write_sp, write_pc, put_bc, put_de, put_hl, write_bc, write_de, write_hl, write_af, on_registers}
use Rattle.opcodes.specs.Arithmetic.{Result}
use Rattle.opcodes.specs.Instruction.{Reg8, rB, rC, rD, rE, rH, rL, [HL], rA, Reg16, rBC, rDE, rHL, rSP, Stacked, pBC, pDE, pHL, pAF, Pointer, [BC], [DE], [HL+], [HL-]}
use Rattle.definition.specs.Execution.{Does, ◌>>=◌, ◌>>◌, give, state, change, reg, set_reg, load, store, idle, peek, byte_at_pc, imm8, imm16, get8, put8, get16, put16, get_stacked, put_stacked, pointed, moved, push, pop, into_a, into8}
use Rattle.ranges.proofs.Ranged.{Ranged, Flags, Sound, ranged_a, ranged_f, ranged_sp, ranged_pc, ranged_bc, ranged_de, ranged_hl}
use Rattle.outcome.specs.declared.interrupt.InterruptType.{InterruptType}

abbrev pub Byte : ℕ → Type 0
Byte v = v < 256

abbrev pub Place : ℕ → Type 0
Place a = a < 65536

abbrev pub Any : {A : Type 0} → A → Type 0
Any a = Unit {0}

-- where memory answers bytes: places are asked, bytes are written, and the end is as Q says
abbrev pub Safe : {R : Type 0} → (R → Type 0) → Ask R → Type 0
Safe Q (leaf e) = Q e
Safe Q (read k a f) = Place a × ((v : ℕ) → Byte v → Safe Q (f v))
Safe Q (write k a v p) = Place a × Byte v × Safe Q p
Safe Q (bus.idle p) = Safe Q p
Safe Q (bus.peek f) = (i : Option InterruptType) → Safe Q (f i)
Safe Q (write_and_take a v f) = Place a × Byte v × ((i : Option InterruptType) → Safe Q (f i))

-- from registers in range, a value as P says and registers in range go on
pub record Keeps {R A : Type 0} (Q : R → Type 0) (P : A → Type 0) (p : Does R A) : Type 0 where
  pub from : (s : Cpu) (k : A → Cpu → Ask R) → Ranged s.registers → ((a : A) (t : Cpu) → P a → Ranged t.registers → Safe Q (k a t)) → Safe Q (p s k)

infixr 20 ◌⟫=◌ ◌⟫◌
pub ◌⟫=◌ : {R A B : Type 0} {Q : R → Type 0} {P : A → Type 0} {P' : B → Type 0} {m : Does R A} {f : A → Does R B} → Keeps Q P m → ((a : A) → P a → Keeps Q P' (f a)) → Keeps Q P' (m >>= f)
◌⟫=◌ hm hf = record { from = λ s k r h. hm.from s _ r (λ a t p q. (hf a p).from t k q h) }

pub ◌⟫◌ : {R A B : Type 0} {Q : R → Type 0} {P : A → Type 0} {P' : B → Type 0} {m : Does R A} {n : Does R B} → Keeps Q P m → Keeps Q P' n → Keeps Q P' (m >> n)
◌⟫◌ hm hn = record { from = λ s k r h. hm.from s _ r (λ a t p q. hn.from t k q h) }

module _ {R : Type 0} {Q : R → Type 0} where
  pub given : {A : Type 0} {P : A → Type 0} (a : A) → P a → Keeps Q P (give a)
  given a p = record { from = λ s k r h. h a s p r }

  pub registers_say : {A : Type 0} {P : A → Type 0} (g : CpuRegisters → A) → ((r : CpuRegisters) → Ranged r → P (g r)) → Keeps Q P (reg g)
  registers_say g e = record { from = λ s k r h. h (g s.registers) s (e s.registers r) r }

  pub said : Keeps Q (λ (s : Cpu). Ranged s.registers) state
  said = record { from = λ s k r h. h s s r r }

  pub changed : (g : Cpu → Cpu) → ((s : Cpu) → Ranged s.registers → Ranged (g s).registers) → Keeps Q Any (change g)
  changed g e = record { from = λ s k r h. h tt (g s) tt (e s r) }

  pub registers_set : (g : CpuRegisters → CpuRegisters) → ((r : CpuRegisters) → Ranged r → Ranged (g r)) → Keeps Q Any (set_reg g)
  registers_set g e = changed (on_registers g) (λ s r. e s.registers r)

  pub loaded : (c : Kind) (a : ℕ) → Place a → Keeps Q Byte (load c a)
  loaded c a p = record { from = λ s k r h. (p, λ v q. h v s q r) }

  pub stored : (c : Kind) (a v : ℕ) → Place a → Byte v → Keeps Q Any (store c a v)
  stored c a v p q = record { from = λ s k r h. (p, q, h tt s tt r) }

  pub idled : Keeps Q Any idle
  idled = record { from = λ s k r h. h tt s tt r }

  pub peeked : Keeps Q Any peek
  peeked = record { from = λ s k r h i. h i s tt r }

  pub either_keeps : {A : Type 0} {P : A → Type 0} {p q : Does R A} (t : Bool) → Keeps Q P p → Keeps Q P q → Keeps Q P (if t then p else q)
  either_keeps true hp hq = hp
  either_keeps false hp hq = hq

  -- one register set
  pub set_a : (v : ℕ) → Byte v → Keeps Q Any (set_reg (write_a v))
  set_a v p = registers_set (write_a v) (λ r g. ranged_a r g v p)

  pub set_f_lem : (v : ℕ) → Flags v → Keeps Q Any (set_reg (write_f v))
  set_f_lem v p = registers_set (write_f v) (λ r g. ranged_f r g v p)

  pub set_sp_lem : (v : ℕ) → Place v → Keeps Q Any (set_reg (write_sp v))
  set_sp_lem v p = registers_set (write_sp v) (λ r g. ranged_sp r g v p)

  pub set_pc_lem : (v : ℕ) → Place v → Keeps Q Any (set_reg (write_pc v))
  set_pc_lem v p = registers_set (write_pc v) (λ r g. ranged_pc r g v p)

  pub set_hl : (v : ℕ) → Place v → Keeps Q Any (set_reg (write_hl v))
  set_hl v p = registers_set (write_hl v) (λ r g. ranged_hl r g (v / 256) (v % 256) (omega arith) (omega arith))

  pub a_said : Keeps Q Byte (reg (λ r. r.a))
  a_said = registers_say (λ r. r.a) (λ r g. g.in_a)

  pub f_said : Keeps Q Flags (reg (λ r. r.f))
  f_said = registers_say (λ r. r.f) (λ r g. (g.in_f, g.low_bits))

  pub sp_said : Keeps Q Place (reg (λ r. r.sp.0))
  sp_said = registers_say (λ r. r.sp.0) (λ r g. g.in_sp)

  pub pc_said : Keeps Q Place (reg (λ r. r.pc.0))
  pc_said = registers_say (λ r. r.pc.0) (λ r g. g.in_pc)

  pub hl_said : Keeps Q Place (reg pair_hl)
  hl_said = registers_say pair_hl (λ r g. omega arith)

  pub byte_keeps : (c : Kind) → Keeps Q Byte (byte_at_pc c)
  unfolding byte_at_pc
  byte_keeps c = pc_said ⟫= λ p hp. loaded c p hp ⟫= λ v hv. set_pc_lem (next p) (omega arith) ⟫ given v hv

  pub imm8_keeps : Keeps Q Byte imm8
  unfolding imm8
  imm8_keeps = byte_keeps Operand

  pub imm16_keeps : Keeps Q Place imm16
  unfolding imm16
  imm16_keeps = imm8_keeps ⟫= λ low hl. imm8_keeps ⟫= λ high hh. given (word high low) (omega arith)

  pub get8_keeps : (from : Reg8) → Keeps Q Byte (get8 from)
  unfolding get8
  get8_keeps rB = registers_say (λ r. r.b) (λ r g. g.in_b)
  get8_keeps rC = registers_say (λ r. r.c) (λ r g. g.in_c)
  get8_keeps rD = registers_say (λ r. r.d) (λ r g. g.in_d)
  get8_keeps rE = registers_say (λ r. r.e) (λ r g. g.in_e)
  get8_keeps rH = registers_say (λ r. r.h) (λ r g. g.in_h)
  get8_keeps rL = registers_say (λ r. r.l) (λ r g. g.in_l)
  get8_keeps [HL] = hl_said ⟫= λ a p. loaded Operand a p
  get8_keeps rA = a_said

  pub put8_keeps : (to : Reg8) (v : ℕ) → Byte v → Keeps Q Any (put8 to v)
  unfolding put8
  put8_keeps rB v p = registers_set (λ r. put_bc v r.c r) (λ r g. ranged_bc r g v r.c p g.in_c)
  put8_keeps rC v p = registers_set (λ r. put_bc r.b v r) (λ r g. ranged_bc r g r.b v g.in_b p)
  put8_keeps rD v p = registers_set (λ r. put_de v r.e r) (λ r g. ranged_de r g v r.e p g.in_e)
  put8_keeps rE v p = registers_set (λ r. put_de r.d v r) (λ r g. ranged_de r g r.d v g.in_d p)
  put8_keeps rH v p = registers_set (λ r. put_hl v r.l r) (λ r g. ranged_hl r g v r.l p g.in_l)
  put8_keeps rL v p = registers_set (λ r. put_hl r.h v r) (λ r g. ranged_hl r g r.h v g.in_h p)
  put8_keeps [HL] v p = hl_said ⟫= λ a q. stored Operand a v q p
  put8_keeps rA v p = set_a v p

  pub get16_keeps : (from : Reg16) → Keeps Q Place (reg (get16 from))
  unfolding get16
  get16_keeps rBC = registers_say pair_bc (λ r g. omega arith)
  get16_keeps rDE = registers_say pair_de (λ r g. omega arith)
  get16_keeps rHL = hl_said
  get16_keeps rSP = sp_said

  pub put16_keeps : (to : Reg16) (w : ℕ) → Place w → Keeps Q Any (set_reg (put16 to w))
  unfolding put16
  put16_keeps rBC w p = registers_set (write_bc w) (λ r g. ranged_bc r g (w / 256) (w % 256) (omega arith) (omega arith))
  put16_keeps rDE w p = registers_set (write_de w) (λ r g. ranged_de r g (w / 256) (w % 256) (omega arith) (omega arith))
  put16_keeps rHL w p = set_hl w p
  put16_keeps rSP w p = set_sp_lem w p

  pub get_stacked_keeps : (from : Stacked) → Keeps Q Place (reg (get_stacked from))
  unfolding get_stacked
  get_stacked_keeps pBC = registers_say pair_bc (λ r g. omega arith)
  get_stacked_keeps pDE = registers_say pair_de (λ r g. omega arith)
  get_stacked_keeps pHL = hl_said
  get_stacked_keeps pAF = registers_say pair_af (λ r g. omega arith)

  pub put_stacked_keeps : (to : Stacked) (w : ℕ) → Place w → Keeps Q Any (set_reg (put_stacked to w))
  unfolding put_stacked
  put_stacked_keeps pBC w p = registers_set (write_bc w) (λ r g. ranged_bc r g (w / 256) (w % 256) (omega arith) (omega arith))
  put_stacked_keeps pDE w p = registers_set (write_de w) (λ r g. ranged_de r g (w / 256) (w % 256) (omega arith) (omega arith))
  put_stacked_keeps pHL w p = set_hl w p
  put_stacked_keeps pAF w p =
      registers_set (write_af w) (λ r g. ranged_f (write_a (w / 256) r) (ranged_a r g (w / 256) (omega arith)) (w % 256 / 16 * 16) (omega arith, omega arith))

  pub pointed_keeps : (p : Pointer) → Keeps Q Place (reg (pointed p))
  unfolding pointed
  pointed_keeps [BC] = registers_say pair_bc (λ r g. omega arith)
  pointed_keeps [DE] = registers_say pair_de (λ r g. omega arith)
  pointed_keeps [HL+] = hl_said
  pointed_keeps [HL-] = hl_said

  pub moved_keeps : (p : Pointer) → Keeps Q Any (set_reg (moved p))
  unfolding moved
  moved_keeps [BC] = registers_set (λ r. r) (λ r g. g)
  moved_keeps [DE] = registers_set (λ r. r) (λ r g. g)
  moved_keeps [HL+] =
      registers_set (λ r. write_hl (next (pair_hl r)) r) (λ r g. ranged_hl r g (next (pair_hl r) / 256) (next (pair_hl r) % 256) (omega arith) (omega arith))
  moved_keeps [HL-] =
      registers_set (λ r. write_hl (back (pair_hl r)) r) (λ r g. ranged_hl r g (back (pair_hl r) / 256) (back (pair_hl r) % 256) (omega arith) (omega arith))

  pub push_keeps : (w : ℕ) → Place w → Keeps Q Any (push w)
  unfolding push
  push_keeps w hw =
      sp_said ⟫= λ p hp. stored Stack (back p) (high_byte w) (omega arith) (omega arith) ⟫ stored Stack (back (back p)) (low_byte w) (omega arith) (omega arith) ⟫ set_sp_lem (back (back p)) (omega arith)

  pub pop_keeps : Keeps Q Place pop
  unfolding pop
  pop_keeps =
      sp_said ⟫= λ p hp. loaded Stack p hp ⟫= λ low hl. loaded Stack (next p) (omega arith) ⟫= λ high hh. set_sp_lem (next (next p)) (omega arith) ⟫ given (word high low) (omega arith)

  pub into_a_keeps : (x : Result) → Sound x → Keeps Q Any (into_a x)
  into_a_keeps x p =
      registers_set (λ r. write_f x.flags (write_a x.value r)) (λ r g. ranged_f (write_a x.value r) (ranged_a r g x.value p.0) x.flags p.1)

  pub into8_keeps : (to : Reg8) (x : Result) → Sound x → Keeps Q Any (into8 to x)
  into8_keeps to x p = set_f_lem x.flags p.1 ⟫ put8_keeps to x.value p.0
