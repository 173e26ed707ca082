-- Shows that each turn puts the next triple, and that after the last one nothing is left.
use Rattle.std.proofs.Common.{◌≡◌, ℕ, ◌+◌, ◌-◌, ◌*◌, ◌<◌, sym, refl, ap₂, ◌∙◌, arith}
use Rattle.records.specs.Bytes.{patched}
use Rattle.records.proofs.Patching.{patch_none, patch_turn}
use Rattle.records.proofs.slices.patch.Goals as goal

pub loop-i-preserved : goal.loop-i-preserved
loop-i-preserved c =
    let at = c.args.at in
    let i = c.loop-i.i in
    let n = c.args.count in
    let some : 0 < n - i = omega arith in
    let next : at + 3 * (i + 1) ≡ at + 3 * i + 3 = omega arith in
    let fewer : n - (i + 1) ≡ n - i - 1 = omega arith in
    ap₂ (λ (k j : ℕ). patched c.args.item.now k j c.put.new.s) next fewer
    ∙ patch_turn c.args.item.now (at + 3 * i) (n - i) c.loop-i.s _ _ _ _ some c.put.ensures (c.from-place.ensures ∙ c.word_at.ensures) refl c.loop-i.invariant

pub returns : goal.returns
returns c =
    let none : c.args.count - c.loop-i.i ≡ 0 = omega arith in
    sym (patch_none c.args.item.now _ (c.args.count - c.loop-i.i) c.loop-i.s none) ∙ c.loop-i.invariant
