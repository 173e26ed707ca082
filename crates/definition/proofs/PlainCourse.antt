-- Points 3 and 4 on plain memory, which they leave as it is.
use Rattle.std.proofs.Common.{if◌then◌else◌}
use mathlib.Core.Path.{◌≡◌, refl}
use mathlib.Core.Bool.{Bool, true, false}
use mathlib.Core.List.{List, [], ◌∷◌}
use Prim.Native.Nat.{ℕ}
use lib.Dec.{T}
use Rattle.sm83.specs.declared.Cpu.{Cpu}
use Rattle.sm83.specs.declared.HaltMode.TheVariants.{NotHalting}
use Rattle.definition.specs.Bus.{Access, Idle, pending, plain}
use Rattle.outcome.specs.Interrupts.{is_pending}
use Rattle.sm83.specs.State.{set_halt}
use Rattle.definition.specs.Step.{is_asleep}
use Rattle.definition.proofs.Course.{Woke, was_awake, woke_dmg, woke_cgb, Passed, ime_clear, none_pending}

-- point 3's idle accesses, of a state that goes on: asleep or not, DMG or not
abbrev idles_of : Bool → Bool → List Access
idles_of true true = Idle ∷ []
idles_of true false = Idle ∷ Idle ∷ []
idles_of false dmg = []

abbrev pub idles : Cpu → List Access
idles s = idles_of (is_asleep s.halt) s.dmg

-- "the halt ends in this very step"
abbrev pub roused_from : Cpu → Cpu
roused_from s = if is_asleep s.halt then set_halt NotHalting s else s

pub same_ime : (s : Cpu) (a : Bool) → (if a then set_halt NotHalting s else s).ime ≡ s.ime
same_ime s true = refl
same_ime s false = refl

pub woke_plain : (s : Cpu) (m : List ℕ) → (T (is_asleep s.halt) → is_pending (pending m) ≡ true) → Woke plain s m (idles s) (roused_from s) m
woke_plain s m p = by_sleep (is_asleep s.halt) s.dmg refl refl p
  where
    by_sleep : (a d : Bool) → is_asleep s.halt ≡ a → s.dmg ≡ d → (T a → is_pending (pending m) ≡ true) → Woke plain s m (idles_of a d) (if a then set_halt NotHalting s else s) m
    by_sleep true true a d p = woke_dmg a (p tt) d
    by_sleep true false a d p = woke_cgb a (p tt) d
    by_sleep false d a e p = was_awake a

pub passed_plain : (m : List ℕ) (t : Cpu) (i : Bool) → t.ime ≡ i → (T i → is_pending (pending m) ≡ false) → Passed plain t m m
passed_plain m t true i p = none_pending i (p tt)
passed_plain m t false i p = ime_clear i

pub woke_same : {s t : Cpu} {m w : List ℕ} {l : List Access} → Woke plain s m l t w → w ≡ m
woke_same (was_awake a) = refl
woke_same (woke_dmg a p d) = refl
woke_same (woke_cgb a p d) = refl

pub passed_same : {t : Cpu} {w v : List ℕ} → Passed plain t w v → v ≡ w
passed_same (ime_clear i) = refl
passed_same (none_pending i p) = refl
