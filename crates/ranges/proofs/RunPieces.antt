-- A run equals its pieces, from every state and on every memory whose length no access changes: a state that is accepted is accepted again after a run, its F having low bits 0 and its memory its length. The rest is the split law of repeated steps.
use Rattle.std.proofs.Common.{if◌then◌else◌}
use mathlib.Core.Path.{◌≡◌, refl, ap, ◌∙◌}
use mathlib.Core.List.{List, [], ◌∷◌}
use Prim.Native.Nat.{ℕ, ◌+◌}
use Rattle.sm83.specs.declared.Cpu.{Cpu}
use Rattle.definition.specs.Bus.{Bus, plain}
use Rattle.definition.specs.Step.{accepted, admission}
use Rattle.definition.specs.Run.{stops_last, RunAnswer, run_for}
use Rattle.definition.proofs.Refusals.{accepts, accepts_only}
use Rattle.definition.proofs.LowBits.{run_low}
use Rattle.definition.proofs.Split.{followed_by, unless_stopped, then_run, run_in_two}
use Rattle.ranges.proofs.Ranges.{Sized, run_size_lem, plain_sized}

abbrev pub total : List ℕ → ℕ
total [] = 0
total (n ∷ l) = n + total l

module _ {W : Type 0} (b : Bus W) where
  -- one run after the other, a budget for each, unless one stops early
  unfoldable pub run_in_pieces : List ℕ → Cpu → W → RunAnswer W
  run_in_pieces [] s m = run_for b 0 s m
  run_in_pieces (n ∷ l) s m = let r : RunAnswer W = run_for b n s m in unless_stopped r (run_in_pieces l r.cpu r.memory)

  module _ (sized : Sized b) where
    accepted_again : (n : ℕ) (s : Cpu) (m : W) → admission b s m ≡ accepted → admission b (run_for b n s m).cpu (run_for b n s m).memory ≡ accepted
    accepted_again n s m e =
        let h : _ = accepts_only b s m e in
        accepts b (run_for b n s m).cpu (run_for b n s m).memory (run_size_lem b sized n s m ∙ h.0) (run_low b n s m h.1)

    pub in_two : (i j : ℕ) (s : Cpu) (m : W) → run_for b (i + j) s m ≡ then_run b j (run_for b i s m)
    in_two i j s m = run_in_two b i j s m (accepted_again i s m)

    pub in_pieces : (l : List ℕ) (s : Cpu) (m : W) → run_for b (total l) s m ≡ run_in_pieces l s m
    unfolding run_in_pieces
    in_pieces [] s m = refl
    in_pieces (n ∷ l) s m = in_two n (total l) s m ∙ ap (unless_stopped (run_for b n s m)) (in_pieces l (run_for b n s m).cpu (run_for b n s m).memory)

-- On plain memory, from every state and on every list.

pub run_in_two_plain : (i j : ℕ) (s : Cpu) (m : List ℕ) → run_for plain (i + j) s m ≡ (let r : RunAnswer (List ℕ) = run_for plain i s m in if stops_last r.last then r else followed_by r (run_for plain j r.cpu r.memory))
run_in_two_plain = in_two plain plain_sized

pub run_in_pieces_plain : (l : List ℕ) (s : Cpu) (m : List ℕ) → run_for plain (total l) s m ≡ run_in_pieces plain l s m
run_in_pieces_plain = in_pieces plain plain_sized
