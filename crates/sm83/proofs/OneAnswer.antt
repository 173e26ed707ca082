-- "Determinacy is proved by showing any pair of conforming answers identical": what that says of a function, by its contract as the source states it (the generated `Post`), and what the contract asks (the generated `Pre`).
use Rattle.std.proofs.Common.{◌≡◌}

-- whatever conforms, on one input, answers one value
abbrev pub OneAnswer : {K : Type 0} {I R L : K → Type 0} → ((κs : K) → I κs → R κs → L κs → Type 0) → Type 0
OneAnswer {K} {I} {R} {L} Post = (κs : K) (input : I κs) (v w : R κs) (left other : L κs) → Post κs input v left → Post κs input w other → v ≡ w

-- "Any state, any 65,536 bytes of memory and any lent slice give an answer": nothing is asked of the input
abbrev pub AnyInput : {K : Type 0} {I : K → Type 0} → ((κs : K) → I κs → Type 0) → Type 0
AnyInput {K} {I} Pre = (κs : K) (input : I κs) → Pre κs input
