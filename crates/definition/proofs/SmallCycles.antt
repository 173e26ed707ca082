-- No instruction takes more than six M-cycles, whatever bytes memory shows.
use Rattle.std.proofs.Common.{if◌then◌else◌}
use mathlib.Core.Path.{◌≡◌, refl, ap, sym, subst, ◌∙◌}
use mathlib.Core.Bool.{Bool, true, false, not}
use mathlib.Core.List.{[], ◌∷◌}
use Prim.Native.Nat.{ℕ, suc, ◌/◌, ◌%◌, ◌≤◌, ◌<◌}
use native.Mathlib.Omega.{arith}
use lib.Dec.{leb, ltb, ltb→lt, nltb→le, T}
use lib.ListN.{get_or-eq_default}
use Rattle.opcodes.specs.Instruction.{Reg8, rB, rC, rD, rE, rH, rL, [HL], rA, Instruction, does, ALU-A-r8, alu, reg8, quarter0, loads, quarter3, ILLEGAL, Prefixed, SHIFT-r8, BIT-u3-r8, RES-u3-r8, SET-u3-r8, decode, decode_cb}
use Rattle.opcodes.specs.Published.{is_cb}
use Rattle.opcodes.proofs.Choices.{by_cases, if_same}
use Rattle.opcodes.proofs.Tested.{agree}
use Rattle.definition.proofs.Ends.{plus_hl}
use Rattle.definition.proofs.Cycles.{cycles_with, cycles_of, prefixed_cycles}

either_hl : (Q : (ℕ → ℕ) → Type 0) → Q (λ n. n) → Q suc → (r : Reg8) → Q (plus_hl r)
either_hl Q p q rB = p
either_hl Q p q rC = p
either_hl Q p q rD = p
either_hl Q p q rE = p
either_hl Q p q rH = p
either_hl Q p q rL = p
either_hl Q p q [HL] = q
either_hl Q p q rA = p

prefixed_small : (i : Prefixed) → leb (suc (prefixed_cycles i)) 5 ≡ true
prefixed_small (SHIFT-r8 op r) = either_hl (λ g. leb (suc (g (g 0))) 5 ≡ true) refl refl r
prefixed_small (BIT-u3-r8 n r) = either_hl (λ g. leb (suc (g 0)) 5 ≡ true) refl refl r
prefixed_small (RES-u3-r8 n r) = either_hl (λ g. leb (suc (g (g 0))) 5 ≡ true) refl refl r
prefixed_small (SET-u3-r8 n r) = either_hl (λ g. leb (suc (g (g 0))) 5 ≡ true) refl refl r

byte_small : (t : Bool) (n x : ℕ) → x < 256 → leb (cycles_with t (decode x) n) 5 ≡ (if is_cb x then leb n 5 else true)
unfolding decode
byte_small true n = agree _ _ 256 refl
byte_small false n = agree _ _ 256 refl

no_byte : (x : ℕ) → 256 ≤ x → decode x ≡ ILLEGAL
unfolding decode
no_byte x h =
    let y : ℕ = x / 8 % 8 in
    let z : ℕ = x % 8 in
    let k : 4 ≤ x / 64 = omega arith in
    get_or-eq_default (quarter0 y z ∷ loads y z ∷ does (ALU-A-r8 (alu y) (reg8 z)) ∷ quarter3 y z ∷ []) ILLEGAL k

pub small : (t : Bool) (x y : ℕ) → leb (cycles_of t (decode x) y) 5 ≡ true
small t x y =
    by_cases (ltb x 256)
    (λ e. byte_small t _ x (ltb→lt x 256 (subst T (sym e) tt)) ∙ ap (λ (u : Bool). if is_cb x then u else true) (prefixed_small (decode_cb y)) ∙ if_same (is_cb x) true)
    (λ e. ap (λ (i : Instruction). leb (cycles_of t i y) 5) (no_byte x (nltb→le x 256 (subst (λ (u : Bool). T (not u)) (sym e) tt))))
