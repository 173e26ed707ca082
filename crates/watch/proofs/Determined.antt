-- The contracts of the public functions, as the source states them (`Post` and `Pre` are made from it), leave one answer, one memory and one mark a byte to every input, and ask nothing of it.
use mathlib.Core.Path.{◌≡◌, refl, ap, sym, ◌∙◌}
use mathlib.Core.List.{List, [], ◌∷◌}
use Prim.Native.Nat.{ℕ}
use Rattle.sm83.specs.State.{addr}
use Rattle.sm83.proofs.OneAnswer.{OneAnswer, AnyInput}
use Rattle.definition.specs.Run.{RunAnswer}
use Rattle.run.specs.declared.Ran.{Ran}
use Rattle.watch.specs.declared.Watched.{Watched}
use Rattle.watch.specs.declared.written.Written.{Written}
use Rattle.watch.specs.declared.written.Written.TheVariants.{Nothing, One, Two}
use Rattle.watch.specs.Written.{addresses_of}
use Rattle.watch.specs.Reasons.{WatchAnswer}
use Rattle.watch.proofs.watch.Reads as watch
use Rattle.watch.proofs.starts.mark_starts.Reads as mark_starts
use Rattle.watch.proofs.starts.strays.Reads as strays
use Rattle.watch.proofs.written.next_writes.Reads as next_writes
use Rattle.watch.proofs.written.interrupts.Reads as interrupts
use Rattle.watch.proofs.demanded.quiet.Reads as quiet
use Rattle.watch.proofs.demanded.returns.Reads as returns

pub watch_takes_any_input : AnyInput watch.Pre
watch_takes_any_input κs input = tt

pub mark_starts_takes_any_input : AnyInput mark_starts.Pre
mark_starts_takes_any_input κs input = tt

pub next_writes_takes_any_input : AnyInput next_writes.Pre
next_writes_takes_any_input κs input = tt

-- Of one input: two answers, and the arguments as the two calls leave them; of `watch` the second is memory, of `mark_starts` the third is the marks.

abbrev ran_of : RunAnswer (List ℕ) → Ran
ran_of a = record { last = a.last; cpu = a.cpu; steps = a.steps; cycles = record { 0 = a.cycles } }

abbrev watched_of : WatchAnswer → Watched
watched_of a = record { why = a.why; ran = ran_of a.ran }

pub watch_determined : (κs : _) (input : _) (r q : Watched) (left other : _) → watch.Post κs input r left → watch.Post κs input q other → (r ≡ q) × (left.1.0.now ≡ other.1.0.now)
watch_determined κs input r q left other e f = (ap watched_of (e ∙ sym f), ap (λ (a : WatchAnswer). a.ran.memory) (e ∙ sym f))

pub mark_starts_determined : (κs : _) (input : _) (v w : _) (left other : _) → mark_starts.Post κs input v left → mark_starts.Post κs input w other → left.1.1.0.now ≡ other.1.1.0.now
mark_starts_determined κs input v w left other p q = p ∙ sym q

-- the addresses tell which answer it was
written_at : List ℕ → Written
written_at [] = Nothing
written_at (a ∷ []) = One (addr a)
written_at (a ∷ b ∷ l) = Two (addr a) (addr b)

told : (w : Written) → written_at (addresses_of w) ≡ w
unfolding written_at
told Nothing = refl
told (One a) = refl
told (Two a b) = refl

pub next_writes_determined : OneAnswer next_writes.Post
next_writes_determined κs input v w left other p q = sym (told v) ∙ ap written_at (p ∙ sym q) ∙ told w

pub strays_determined : OneAnswer strays.Post
strays_determined κs input v w left other p q = p ∙ sym q

pub interrupts_determined : OneAnswer interrupts.Post
interrupts_determined κs input v w left other p q = p ∙ sym q

pub quiet_determined : OneAnswer quiet.Post
quiet_determined κs input v w left other p q = p ∙ sym q

pub returns_determined : OneAnswer returns.Post
returns_determined κs input v w left other p q = p ∙ sym q
