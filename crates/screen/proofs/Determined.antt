-- "For every input, refused ones too, the contract of a public function determines the answer, the state and each byte of memory or marks": any pair of answers that meet the contract of `screen`, as the source states it (`Post` and `Pre` are made from it), is identical, and it asks nothing of its input. Memory is lent as `&[u8]`, which nothing changes.
use mathlib.Core.Path.{◌≡◌, sym, ◌∙◌}
use Rattle.sm83.proofs.OneAnswer.{AnyInput}
use Rattle.routine.specs.Verdict.{Verdict}
use Rattle.screen.proofs.screen.Reads.{Pre, Post}

pub takes_any_input : AnyInput Pre
takes_any_input κs input = tt

-- of one input: two answers, and the arguments as the two calls leave them, of which the last is the marks
pub determined : (κs : _) (input : _) (v w : Verdict) (left other : _) → Post κs input v left → Post κs input w other → (v ≡ w) × (left.1.1.1.0.now ≡ other.1.1.1.0.now)
determined κs input v w left other p q = (p.verdict ∙ sym q.verdict, p.marks ∙ sym q.marks)
