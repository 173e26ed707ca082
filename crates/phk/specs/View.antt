-- Which bytes of memory an image has, and when a run goes step by step.
use Rattle.std.specs.Prelude.{ℕ, ◌+◌, Bool, false, not, ◌&&◌, ◌||◌, nat_le, Option, Some, None, if◌then◌else◌}
use Rattle.sm83.specs.declared.Addr.{Addr}
use Rattle.phk.specs.Window.{behind}
use Rattle.opcodes.specs.Instruction.{decode, length_of}
use Rattle.phk.specs.declared.view.Held.{Held}
use Rattle.phk.specs.declared.view.View.{View}

abbrev pub is_whole : Held → Bool
is_whole h = nat_le 65536 h.length

-- so many bytes from an address on are all in the image
abbrev pub holds : Held → ℕ → ℕ → Bool
holds h at n = is_whole h || (nat_le h.from at && nat_le (at + n) (h.from + h.length))

-- the instruction at an address, whose first byte is b, is not
abbrev pub is_outside : Held → ℕ → ℕ → Bool
is_outside h at b = not (holds h at (length_of (decode b)))

-- nothing is shown, and nothing asked
abbrev pub unseen : Held → View
unseen h = record { trace = false; progress = false; stops = false; held = h }

abbrev pub is_single : View → Bool
is_single v = v.trace || not (is_whole v.held)

-- a last address with which a window would pass counts if the image has the whole window
abbrev pub held_alone : Held → ℕ → Option Addr → Option Addr
held_alone h first None = None
held_alone h first (Some last) = if holds h first (behind last.0 first + 1) then Some last else None
