-- A run that is asked for in pieces is the definition's run: the first piece, one piece more, and a piece that stopped it.
use Rattle.std.proofs.Common.{◌≡◌, ℕ, ◌+◌, ◌-◌, ◌%◌, ◌^◌, ◌<◌, ◌≤◌, Bool, true, false, ◌||◌, List, length, sym, refl, ap, ◌∙◌, subst, arith, Option, Some, None, is_none, if◌then◌else◌}
use Rattle.sm83.specs.declared.Cpu.{Cpu}
use Rattle.outcome.specs.declared.Outcome.{Outcome}
use Rattle.definition.specs.Bus.{plain}
use Rattle.definition.specs.Run.{stops_last, RunAnswer, run_for}
use Rattle.definition.proofs.Split.{followed_by}
use Rattle.ranges.proofs.RunPieces.{run_in_two_plain}
use Rattle.run.specs.declared.Ran.{Ran}
use Rattle.run.specs.Answers.{run_answer}
use Rattle.sm83.specs.State.{pc}
use Rattle.routine.specs.Screen.{is_marked}
use Rattle.watch.specs.declared.Watched.{Watched}
use Rattle.watch.specs.Reasons.{WatchAnswer, watch_on, watch_answer}
use Rattle.phk.specs.declared.within.Seen.{Seen}
use Rattle.phk.specs.Watching.{Went, Leaves}
use Rattle.phk.specs.declared.far.Cut.{Cut}
use Rattle.phk.specs.declared.far.Cut.TheVariants.{Lost, ByHand, Outside}
use Rattle.phk.specs.declared.far.Far.{Far}
use Rattle.phk.specs.SoFar.{so_far, counted, begun, is_cut, is_over, later, farther, farther_by, cut_as, cut_unless, Came}
use Rattle.phk.specs.Status.{bad_file, refusal_of, status_of, status_for, Ends}

if_so : {A : Type 0} {t : Bool} (p q : A) → t ≡ true → (if t then p else q) ≡ p
if_so p q e = ap (λ (t : Bool). if t then p else q) e

if_not : {A : Type 0} {t : Bool} (p q : A) → t ≡ false → (if t then p else q) ≡ q
if_not p q e = ap (λ (t : Bool). if t then p else q) e

-- sums of counts, of which the first is kept modulo 2^64
kept_sum : (a b : ℕ) → (a % 2 ^ 64 + b) % 2 ^ 64 ≡ (a + b) % 2 ^ 64
kept_sum a b = omega arith

nothing_before : (o : Option Outcome) → later None o ≡ o
nothing_before None = refl
nothing_before (Some p) = refl

-- a cut run has come as far as before
as_far : (written : Bool) (f : Far) (m : List ℕ) → so_far (cut_unless written f) m ≡ so_far f m
as_far true f m = refl
as_far false f m = refl

-- what a call of `run` adds
pub piece_adds : (written : Bool) (f g r : Far) (x : Ran) (m m' : List ℕ) (a : RunAnswer (List ℕ)) → run_answer x m' ≡ a → g ≡ farther f x → r ≡ cut_unless written g → so_far r m' ≡ farther_by (so_far f m) a
piece_adds written f g r x m m' a ran adds cut = ap (λ (t : Far). so_far t m') cut ∙ as_far written g m' ∙ ap (λ (t : Far). so_far t m') adds ∙ ap (farther_by (so_far f m)) ran

-- and a watched step, at a marked start
pub watched_adds : (f g : Far) (x : Watched) (m m' : List ℕ) (first : ℕ) (marks : List ℕ) → watch_answer x m' ≡ watch_on f.cpu m first marks → is_marked marks first (pc f.cpu) ≡ true → g ≡ farther f x.ran → so_far g m' ≡ farther_by (so_far f m) (run_for plain 1 f.cpu m)
unfolding watch_on
watched_adds f g x m m' first marks seen marked adds =
    let ran : run_answer x.ran m' ≡ run_for plain 1 f.cpu m = ap (λ (a : WatchAnswer). a.ran) (seen ∙ if_so _ _ marked) in
    ap (λ (t : Far). so_far t m') adds ∙ ap (farther_by (so_far f m)) ran

-- before any piece there is nothing
first_piece : (s : Cpu) (m : List ℕ) (t : RunAnswer (List ℕ)) → farther_by (so_far (begun s) m) t ≡ counted t
first_piece s m t =
    let n : (0 + t.steps) % 2 ^ 64 ≡ t.steps % 2 ^ 64 = omega arith in
    let c : (0 + t.cycles) % 2 ^ 64 ≡ t.cycles % 2 ^ 64 = omega arith in
    λ i. record { last = nothing_before t.last i; cpu = t.cpu; memory = t.memory; steps = n i; cycles = c i }

-- a piece of no steps, from nothing
pub from_nothing : (s : Cpu) (m : List ℕ) (b f : Far) (m' : List ℕ) → b ≡ begun s → so_far f m' ≡ farther_by (so_far b m) (run_for plain 0 b.cpu m) → so_far f m' ≡ counted (run_for plain 0 s m)
from_nothing s m b f m' e piece = piece ∙ ap (λ (x : Far). farther_by (so_far x m) (run_for plain 0 x.cpu m)) e ∙ first_piece s m (run_for plain 0 s m)

counts_on : (r t : RunAnswer (List ℕ)) → farther_by (counted r) t ≡ counted (followed_by r t)
counts_on r t =
    let n : (r.steps % 2 ^ 64 + t.steps) % 2 ^ 64 ≡ (r.steps + t.steps) % 2 ^ 64 = kept_sum r.steps t.steps in
    let c : (r.cycles % 2 ^ 64 + t.cycles) % 2 ^ 64 ≡ (r.cycles + t.cycles) % 2 ^ 64 = kept_sum r.cycles t.cycles in
    λ i. record { last = later r.last t.last; cpu = t.cpu; memory = t.memory; steps = n i; cycles = c i }

-- what has been answered so far is the run of so many steps
module _ (s : Cpu) (m : List ℕ) (so_many : ℕ) (reached : RunAnswer (List ℕ)) (is : reached ≡ counted (run_for plain so_many s m)) where
  same_last : reached.last ≡ (run_for plain so_many s m).last
  same_last = ap (λ (r : RunAnswer (List ℕ)). r.last) is

  pub one_piece_more : stops_last reached.last ≡ false → (j : ℕ) → farther_by reached (run_for plain j reached.cpu reached.memory) ≡ counted (run_for plain (so_many + j) s m)
  one_piece_more goes_on j =
      ap (λ (r : RunAnswer (List ℕ)). farther_by r (run_for plain j r.cpu r.memory)) is
      ∙ counts_on (run_for plain so_many s m) (run_for plain j (run_for plain so_many s m).cpu (run_for plain so_many s m).memory)
      ∙ ap counted (sym (if_not (run_for plain so_many s m) _ (sym (ap stops_last same_last) ∙ goes_on)))
      ∙ ap counted (sym (run_in_two_plain so_many j s m))

  pub stopped_for_good : stops_last reached.last ≡ true → (j : ℕ) → reached ≡ counted (run_for plain (so_many + j) s m)
  stopped_for_good stops j =
      is
      ∙ ap counted (sym (if_so (run_for plain so_many s m) _ (sym (ap stops_last same_last) ∙ stops)))
      ∙ ap counted (sym (run_in_two_plain so_many j s m))

-- The loop over the pieces begins with a run of no steps, whatever that was of. What is left of the steps then has still to be run.
pub record OnTheWay (f₀ : Far) (m₀ : List ℕ) (steps left : ℕ) (f : Far) (m : List ℕ) : Type 0 where
  pub within : left ≤ steps
  pub sized : length m ≡ length m₀
  pub comes : (s : Cpu) (w : List ℕ) → so_far f₀ m₀ ≡ counted (run_for plain 0 s w) → so_far f m ≡ counted (run_for plain (steps - left) s w)

pub sets_out : (f : Far) (m : List ℕ) (steps : ℕ) → OnTheWay f m steps steps f m
sets_out f m steps =
    let none : 0 ≡ steps - steps = omega arith in
    record { within = omega arith; sized = refl; comes = λ s w e. e ∙ ap (λ (k : ℕ). counted (run_for plain k s w)) none }

-- two tests, one of which says so; neither of which does
says_one : {R : Type 0} (a b : Bool) → (a || b) ≡ true → (a ≡ true → R) → (b ≡ true → R) → R
says_one true b e first second = first refl
says_one false b e first second = second e

pub first_not : (a b : Bool) → (a || b) ≡ false → a ≡ false
first_not true b e = e
first_not false b e = refl

not_both : {R : Type 0} (a : Bool) → a ≡ true → a ≡ false → R
not_both true e h = let z : ◌≡◌ {A = ℕ} 0 1 = cc in absurd (omega arith)
not_both false e h = let z : ◌≡◌ {A = ℕ} 0 1 = cc in absurd (omega arith)

pub stops_not : (f : Far) → is_over f ≡ false → stops_last f.last ≡ false
stops_not f e = first_not (stops_last f.last) (is_cut f.cut) e

module _ (f₀ : Far) (m₀ : List ℕ) (steps left : ℕ) (f : Far) (m : List ℕ) (way : OnTheWay f₀ m₀ steps left f m) where
  -- looking at a run, and cutting it, takes it no further
  pub is_looked_at : (g : Far) → g ≡ cut_as f g.cut → OnTheWay f₀ m₀ steps left g m
  is_looked_at g e =
      subst (λ (h : Far). OnTheWay f₀ m₀ steps left h m) (sym e) (record { within = way.within; sized = way.sized; comes = λ s w z. way.comes s w z })

  pub goes_on : (size : ℕ) (f' : Far) (m' : List ℕ) → size ≤ left → stops_last f.last ≡ false → so_far f' m' ≡ farther_by (so_far f m) (run_for plain size f.cpu m) → length m' ≡ length m → OnTheWay f₀ m₀ steps (left - size) f' m'
  goes_on size f' m' fits on piece sized =
      let so_many : steps - left + size ≡ steps - (left - size) = omega (arith, way.within) in
      record {
        within = omega (arith, way.within);
        sized = sized ∙ way.sized;
        comes =
            λ s w e.
            piece
            ∙ one_piece_more s w (steps - left) (so_far f m) (way.comes s w e) on size
            ∙ ap (λ (k : ℕ). counted (run_for plain k s w)) so_many;
      }

  pub arrives : (s : Cpu) (w : List ℕ) → so_far f₀ m₀ ≡ counted (run_for plain 0 s w) → left ≡ 0 → Came steps s w f m
  arrives s w e none =
      let all : steps - left ≡ steps = omega arith in
      record { so_many = steps; within = omega arith; is = way.comes s w e ∙ ap (λ (k : ℕ). counted (run_for plain k s w)) all; whole = λ h. refl }

  stops_early : (s : Cpu) (w : List ℕ) → so_far f₀ m₀ ≡ counted (run_for plain 0 s w) → stops_last f.last ≡ true → so_far f m ≡ counted (run_for plain steps s w)
  stops_early s w e stops =
      let all : steps - left + left ≡ steps = omega (arith, way.within) in
      stopped_for_good s w (steps - left) (so_far f m) (way.comes s w e) stops left
      ∙ ap (λ (k : ℕ). counted (run_for plain k s w)) all

  -- it has stopped by itself, and would with any number of steps; or it was cut
  pub is_over_lem : (s : Cpu) (w : List ℕ) → so_far f₀ m₀ ≡ counted (run_for plain 0 s w) → is_over f ≡ true → Came steps s w f m
  is_over_lem s w e over =
      says_one (stops_last f.last) (is_cut f.cut) over
      (λ stops. record { so_many = steps; within = omega arith; is = stops_early s w e stops; whole = λ h. refl })
      (λ cut. record { so_many = steps - left; within = omega arith; is = way.comes s w e; whole = λ h. not_both (is_cut f.cut) cut h })

  -- the steps that are done, and no more
  pub went : (s : Cpu) (w : List ℕ) → so_far f₀ m₀ ≡ counted (run_for plain 0 s w) → Went steps s w f m
  went s w e = record { so_many = steps - left; within = omega arith; is = way.comes s w e }

  pub went_seen : (x : Seen) → x.far ≡ f → (s : Cpu) (w : List ℕ) → so_far f₀ m₀ ≡ counted (run_for plain 0 s w) → Went steps s w x.far m
  went_seen x seen s w e = subst (λ (g : Far). Went steps s w g m) (sym seen) (went s w e)

pub leaves : (steps steps' : ℕ) (s s' : Cpu) (w : List ℕ) (f : Far) (m : List ℕ) → steps ≡ steps' → s ≡ s' → Went steps s w f m → Leaves steps' s' w m
leaves steps steps' s s' w f m e e' gone =
    record {
      so_many = gone.so_many;
      within = omega (arith, e, gone.within);
      memory = ap (λ (x : RunAnswer (List ℕ)). x.memory) gone.is ∙ ap (λ (t : Cpu). (run_for plain gone.so_many t w).memory) e';
    }

-- the same run, by other names of its steps and its start
pub as_asked : (n n' : ℕ) (s s' : Cpu) (w : List ℕ) (f : Far) (m : List ℕ) → n ≡ n' → s ≡ s' → Came n s w f m → Came n' s' w f m
as_asked n n' s s' w f m e e' came = subst (λ (k : ℕ). Came k s' w f m) e (subst (λ (t : Cpu). Came n t w f m) e' came)

-- what the tool answers to a run

small_uncut : (c : Option Cut) (l : Option Outcome) → status_for c l < 2 → is_cut c ≡ false
small_uncut None l h = refl
small_uncut (Some Lost) l h = absurd (omega arith)
small_uncut (Some ByHand) l h = absurd (omega arith)
small_uncut (Some Outside) l h = absurd (omega arith)

small_runs : (c : Option Cut) (l : Option Outcome) → status_for c l < 2 → status_for c l ≡ status_of (refusal_of l)
small_runs None l h = refl
small_runs (Some Lost) l h = absurd (omega arith)
small_runs (Some ByHand) l h = absurd (omega arith)
small_runs (Some Outside) l h = absurd (omega arith)

module _ (steps : ℕ) (s : Cpu) (w : List ℕ) (f : Far) (m : List ℕ) (r status : ℕ) (came : Came steps s w f m) (said : status ≡ status_for f.cut f.last) (kept : (r ≡ bad_file → ⊥) → r ≡ status) where
  is_said : r < 2 → r ≡ status_for f.cut f.last
  is_said small = kept (λ e. omega arith) ∙ said

  said_small : r < 2 → status_for f.cut f.last < 2
  said_small small = subst (λ (k : ℕ). k < 2) (is_said small) small

  pub ends_as : Ends steps s w r m
  ends_as =
      record {
        so_many = came.so_many;
        within = came.within;
        memory = ap (λ (x : RunAnswer (List ℕ)). x.memory) came.is;
        whole = λ small. came.whole (small_uncut f.cut f.last (said_small small));
        status =
            λ small.
            is_said small ∙ small_runs f.cut f.last (said_small small)
            ∙ ap (λ (x : RunAnswer (List ℕ)). status_of (refusal_of x.last)) came.is;
      }
