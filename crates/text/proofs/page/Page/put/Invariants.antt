-- Shows that what is written so far is the text's first bytes.
use Rattle.std.proofs.Common.{take}
use Rattle.text.specs.Put.{Put}
use Rattle.text.proofs.page.Page.put.Given as goal

abbrev pub invariant-loop-b : goal.invariant-loop-b
invariant-loop-b l = Put l.fn.self l.self (take l.b-index l.text)
