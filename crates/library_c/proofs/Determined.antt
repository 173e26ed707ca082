-- The contracts of the exports, as the source states them, leave one number and one state of every byte of every block, and ask nothing of their input:
-- they are those of `library`, so its theorems are theirs.
use mathlib.Core.Path.{◌≡◌}
use Prim.Native.Nat.{ℕ}
use Rattle.sm83.proofs.OneAnswer.{OneAnswer, AnyInput}
use Rattle.library.proofs.Determined as library
use Rattle.library_c.proofs.phk_run.Reads as phk_run
use Rattle.library_c.proofs.phk_step.Reads as phk_step
use Rattle.library_c.proofs.phk_screen.Reads as phk_screen
use Rattle.library_c.proofs.phk_power_on.Reads as phk_power_on
use Rattle.library_c.proofs.phk_version.Reads as phk_version

pub phk_run_takes_any_input : AnyInput phk_run.Pre
phk_run_takes_any_input = library.phk_run_takes_any_input

pub phk_step_takes_any_input : AnyInput phk_step.Pre
phk_step_takes_any_input = library.phk_step_takes_any_input

pub phk_screen_takes_any_input : AnyInput phk_screen.Pre
phk_screen_takes_any_input = library.phk_screen_takes_any_input

pub phk_power_on_takes_any_input : AnyInput phk_power_on.Pre
phk_power_on_takes_any_input = library.phk_power_on_takes_any_input

pub phk_version_takes_any_input : AnyInput phk_version.Pre
phk_version_takes_any_input = library.phk_version_takes_any_input

pub phk_run_determined : (κs : _) (input : _) (n n' : ℕ) (l o : _) → phk_run.Post κs input n l → phk_run.Post κs input n' o → (n ≡ n') × (l.0.now ≡ o.0.now) × (l.1.0.now ≡ o.1.0.now) × (l.1.1.1.0.now ≡ o.1.1.1.0.now)
phk_run_determined = library.phk_run_determined

pub phk_step_determined : (κs : _) (input : _) (n n' : ℕ) (l o : _) → phk_step.Post κs input n l → phk_step.Post κs input n' o → (n ≡ n') × (l.0.now ≡ o.0.now) × (l.1.0.now ≡ o.1.0.now) × (l.1.1.0.now ≡ o.1.1.0.now)
phk_step_determined = library.phk_step_determined

-- the number, the marks, the answer block
pub phk_screen_determined : (κs : _) (input : _) (n n' : ℕ) (l o : _) → phk_screen.Post κs input n l → phk_screen.Post κs input n' o → (n ≡ n') × (l.1.1.1.0.now ≡ o.1.1.1.0.now) × (l.1.1.1.1.0.now ≡ o.1.1.1.1.0.now)
phk_screen_determined = library.phk_screen_determined

-- the number, the state block
pub phk_power_on_determined : (κs : _) (input : _) (n n' : ℕ) (l o : _) → phk_power_on.Post κs input n l → phk_power_on.Post κs input n' o → (n ≡ n') × (l.0.now ≡ o.0.now)
phk_power_on_determined = library.phk_power_on_determined

pub phk_version_determined : OneAnswer phk_version.Post
phk_version_determined = library.phk_version_determined
