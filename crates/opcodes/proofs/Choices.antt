-- Small laws of a test and of a choice.
use Rattle.std.proofs.Common.{if◌then◌else◌}
use mathlib.Core.Path.{◌≡◌, refl, ap}
use mathlib.Core.Bool.{Bool, true, false, ◌&&◌}

pub by_cases : {A : Type 0} (t : Bool) → (t ≡ true → A) → (t ≡ false → A) → A
by_cases true so not_so = so refl
by_cases false so not_so = not_so refl

pub if_so : {A : Type 0} {t : Bool} (p q : A) → t ≡ true → (if t then p else q) ≡ p
if_so p q e = ap (λ (t : Bool). if t then p else q) e

pub if_not : {A : Type 0} {t : Bool} (p q : A) → t ≡ false → (if t then p else q) ≡ q
if_not p q e = ap (λ (t : Bool). if t then p else q) e

pub if_same : {A : Type 0} (t : Bool) (p : A) → (if t then p else p) ≡ p
if_same true p = refl
if_same false p = refl

pub and_not : (t u : Bool) → u ≡ false → (t && u) ≡ false
and_not true u e = e
and_not false u e = refl
