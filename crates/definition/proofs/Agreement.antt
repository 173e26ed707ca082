-- The published tables are the columns by forms: one computed test of each table over all of its 256 opcodes.
use Rattle.std.proofs.Common.{if◌then◌else◌}
use mathlib.Core.Path.{◌≡◌, refl, ap, ◌∙◌}
use mathlib.Core.Bool.{Bool, true, false}
use Prim.Native.Nat.{ℕ, suc, ◌<◌}
use Rattle.opcodes.specs.Instruction.{decode, decode_cb, length_of}
use Rattle.opcodes.specs.Published.{FlagColumn, keep, entry, is_cb, bytes, cycles_not_taken, cycles_taken, cycles_after_cb, flag_columns, flag_columns_after_cb, published_bytes, published_cycles, published_flags}
use Rattle.opcodes.proofs.Tested.{agree}
use Rattle.opcodes.proofs.FlagColumns.{flags_with, flags_of, prefixed_flags}
use Rattle.definition.proofs.Cycles.{cycles_with, cycles_of, prefixed_cycles}

pub bytes_agree : (x : ℕ) → x < 256 → length_of (decode x) ≡ published_bytes x
unfolding decode bytes published_bytes
bytes_agree = agree _ _ 256 refl

after_cb_cycles : (y : ℕ) → y < 256 → suc (suc (prefixed_cycles (decode_cb y))) ≡ entry 2 cycles_after_cb y
unfolding decode_cb cycles_after_cb
after_cb_cycles = agree _ _ 256 refl

after_cb_flags : (y : ℕ) → y < 256 → prefixed_flags (decode_cb y) ≡ entry keep flag_columns_after_cb y
unfolding decode_cb flag_columns_after_cb
after_cb_flags = agree _ _ 256 refl

-- whatever comes after CB

cycles_taken_lem : (n x : ℕ) → x < 256 → suc (cycles_with true (decode x) n) ≡ if is_cb x then suc n else entry 1 cycles_taken x
unfolding decode cycles_taken
cycles_taken_lem n = agree _ _ 256 refl

cycles_not_taken_lem : (n x : ℕ) → x < 256 → suc (cycles_with false (decode x) n) ≡ if is_cb x then suc n else entry 1 cycles_not_taken x
unfolding decode cycles_not_taken
cycles_not_taken_lem n = agree _ _ 256 refl

flags_agree_with : (c : FlagColumn) (x : ℕ) → x < 256 → flags_with (decode x) c ≡ if is_cb x then c else entry keep flag_columns x
unfolding decode flag_columns
flags_agree_with c = agree _ _ 256 refl

pub cycles_agree : (t : Bool) (x y : ℕ) → x < 256 → y < 256 → suc (cycles_of t (decode x) y) ≡ published_cycles t x y
unfolding published_cycles
cycles_agree true x y hx hy = cycles_taken_lem _ x hx ∙ ap (λ (n : ℕ). if is_cb x then n else entry 1 cycles_taken x) (after_cb_cycles y hy)
cycles_agree false x y hx hy = cycles_not_taken_lem _ x hx ∙ ap (λ (n : ℕ). if is_cb x then n else entry 1 cycles_not_taken x) (after_cb_cycles y hy)

pub flags_agree : (x y : ℕ) → x < 256 → y < 256 → flags_of (decode x) y ≡ published_flags x y
unfolding published_flags
flags_agree x y hx hy = flags_agree_with _ x hx ∙ ap (λ (c : FlagColumn). if is_cb x then c else entry keep flag_columns x) (after_cb_flags y hy)
