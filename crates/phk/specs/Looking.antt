-- What is kept of what the system says of a file: its kind and rights, which file it is, and whose.
use Rattle.std.specs.Prelude.{ℕ, ◌/◌, ◌%◌, nat_eq, if◌then◌else◌}
use Rattle.phk.specs.declared.look.Kind.{Kind}
use Rattle.phk.specs.declared.look.Kind.TheVariants.{Link, Folder, File, Other}
use Rattle.phk.specs.declared.look.Looked.{Looked}

-- the bits of a mode from the thirteenth on
abbrev pub kind_in : ℕ → ℕ
kind_in mode = mode / 4096 % 16

abbrev pub kind_of : ℕ → Kind
kind_of mode = if nat_eq (kind_in mode) 10 then Link else (if nat_eq (kind_in mode) 4 then Folder else (if nat_eq (kind_in mode) 8 then File else Other))

abbrev pub kept_of : ℕ → ℕ → ℕ → ℕ → ℕ → Looked
kept_of mode dev ino uid gid = record { mode = mode; dev = dev; ino = ino; uid = uid; gid = gid }
