-- Why memory may not be written at the name that --out gives: it is written to a new name, or to a file that the caller may write and that is not the image.
use Rattle.std.specs.Prelude.{ℕ, ◌/◌, ◌%◌, Bool, true, false, ◌&&◌, ◌||◌, ◌==◌, Option, Some, None, Result, Ok, Err, if◌then◌else◌}
use Rattle.phk.specs.declared.look.Kind.{Kind}
use Rattle.phk.specs.declared.look.Kind.TheVariants as kind
use Rattle.phk.specs.declared.look.Looked.{Looked}
use Rattle.phk.specs.declared.saving.WhyNot.{WhyNot}
use Rattle.phk.specs.declared.saving.WhyNot.TheVariants.{Link, Folder, NoFile, TheImage, ReadOnly, NotYours}
use Rattle.phk.specs.Looking.{kind_of}

-- its eighth, fifth and second bit
abbrev pub nobody_writes : ℕ → Bool
nobody_writes mode = mode / 128 % 2 == 0 && mode / 16 % 2 == 0 && mode / 2 % 2 == 0

abbrev pub same_file : Looked → Option Looked → Bool
same_file a None = false
same_file a (Some b) = a.dev == b.dev && a.ino == b.ino

-- a file's rights, and whose it is
abbrev pub file_target : Looked → Option Looked → Bool → Result (Unit {0}) WhyNot
file_target there image may =
    if same_file there image then Err TheImage else (if nobody_writes there.mode then Err ReadOnly else (if may then Ok tt else Err NotYours))

abbrev pub target_as : Kind → Looked → Option Looked → Bool → Result (Unit {0}) WhyNot
target_as kind.Link there image may = Err Link
target_as kind.Folder there image may = Err Folder
target_as kind.Other there image may = Err NoFile
target_as kind.File there image may = file_target there image may

abbrev pub target_of : Option Looked → Option Looked → Bool → Result (Unit {0}) WhyNot
target_of None image may = Ok tt
target_of (Some there) image may = target_as (kind_of there.mode) there image may

-- a file's owner may write it, and who may do anything
abbrev pub owns : Option Looked → Option Looked → Bool
owns None there = false
owns (Some user) None = false
owns (Some user) (Some there) = user.uid == 0 || user.uid == there.uid
