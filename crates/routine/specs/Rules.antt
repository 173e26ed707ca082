-- The screen's rules on a window's bytes, each in the document's words. The window holds the addresses from first up to, not including, end.
use Rattle.std.specs.Prelude.{◌≡◌, not, ◌⊎◌, List, ℕ, ◌≤◌, ◌<◌, T}
use Rattle.routine.specs.Flow.{class_at, GoesTo, GoesToOrNext, flow_at, past, is_forbidden, ends_routine}

-- "It walks from the first address by instruction length": the starts
pub data Start (m : List ℕ) (first end : ℕ) : ℕ → Type 0 where
  at_first : first < end → Start m first end first
  after : {a : ℕ} → Start m first end a → past m a < end → Start m first end (past m a)

-- the instruction at a jumps to t, conditionally or not
abbrev pub JumpsTo : List ℕ → ℕ → ℕ → Type 0
JumpsTo m a t = (flow_at m a ≡ GoesTo t) ⊎ (flow_at m a ≡ GoesToOrNext t)

pub record Rules (m : List ℕ) (first end : ℕ) : Type 0 where
  -- 7: no start holds a forbidden opcode
  pub allowed : (a : ℕ) → Start m first end a → T (not (is_forbidden (class_at m a)))
  -- 8: no instruction runs past the window's end
  pub fits : (a : ℕ) → Start m first end a → past m a ≤ end
  -- 9: the last instruction is an unconditional JP, JR or RET
  pub ends : (a : ℕ) → Start m first end a → past m a ≡ end → T (ends_routine (class_at m a))
  -- 10: every JP and JR, conditional or not, goes to a start
  pub lands : (a t : ℕ) → Start m first end a → JumpsTo m a t → Start m first end t
