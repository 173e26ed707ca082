-- The numbers of the library and of the document that it keeps, in one: the library's in the upper 32 bits, the document's in the lower.
use Rattle.std.specs.Prelude.{ℕ, ◌+◌, ◌*◌}

-- major, minor and patch, a byte each: 1.0.0
abbrev pub library : ℕ
library = 0x010000

-- the first eight digits of the SHA-256 of docs/01-scope.md; lib/version compares
abbrev pub document : ℕ
document = 0x031bd0da

abbrev pub version : ℕ
version = library * 4294967296 + document
