-- The lanes of a picture of jumps: which two arrows share a row, and the lowest lane in which no arrow shares a row with a new one.
use Rattle.std.specs.Prelude.{Bool, false, not, ◌&&◌, ◌||◌, List, ℕ, zero, suc, ◌-◌, ◌+◌, eqb, ltb, if◌then◌else◌, Option, Some, None, slice_index_or}
use Rattle.std.specs.List.{list_any}
use Rattle.map.specs.declared.lanes.Rows.{Rows}
use Rattle.map.specs.declared.lanes.Arrow.{Arrow}
use Rattle.map.specs.declared.lanes.Lane.{Lane}
use Rattle.map.specs.declared.lanes.Lane.TheVariants as lane

abbrev pub span_of : Rows → ℕ
span_of r = (r.to - r.from) + (r.from - r.to)

-- all of one arrow is above another
abbrev pub above : Rows → Rows → Bool
above r s = ((ltb r.from s.from && ltb r.from s.to) && ltb r.to s.from) && ltb r.to s.to

abbrev pub crosses : Rows → Rows → Bool
crosses r s = not (above r s || above s r)

-- past the end each number is 0
abbrev pub arrow_or : List Arrow → ℕ → Arrow
arrow_or arrows k = slice_index_or arrows k (record { rows = record { from = 0; to = 0 }; lane = lane.In 0 })

abbrev pub is_in : Lane → ℕ → Bool
is_in lane.NoArrow n = false
is_in lane.Wanted n = false
is_in lane.Told n = false
is_in (lane.In held) n = eqb held n

-- an arrow is in the lane, and shares a row with a new one
abbrev pub holds_lane : Rows → ℕ → Arrow → Bool
holds_lane rows n arrow = is_in arrow.lane n && crosses rows arrow.rows

abbrev pub is_taken : List Arrow → Rows → ℕ → Bool
is_taken arrows rows n = list_any (holds_lane rows n) arrows

-- the lowest of n numbers from one on that is not taken, if one is not
unfoldable pub lowest_free : (ℕ → Bool) → ℕ → ℕ → Option ℕ
lowest_free taken k zero = None
lowest_free taken k (suc n) = if taken k then lowest_free taken (suc k) n else Some k

abbrev pub free_lane : List Arrow → Rows → ℕ → Option ℕ
free_lane arrows rows count = lowest_free (is_taken arrows rows) 0 count
