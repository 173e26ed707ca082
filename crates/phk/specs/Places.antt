-- The few places that the last steps of a run were at, each once.
use Rattle.std.specs.Prelude.{ℕ, Bool, not, ◌&&◌, List, take, ◌==◌, nat_lt}
use Rattle.std.specs.List.{list_any}
use Rattle.phk.specs.declared.round.Places.{Places}

abbrev pub places_in : Places → List ℕ
places_in p = take p.count p.pcs

abbrev pub has : Places → ℕ → Bool
has p pc = list_any (λ place. place == pc) (places_in p)

-- it is told as one place more: it is not there yet, and there are fewer than eight
abbrev pub is_news : Places → ℕ → Bool
is_news p pc = not (has p pc) && nat_lt p.count 8
