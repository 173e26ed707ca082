-- Shows the screen: one of the tests before the walk refuses, or the window is judged.
use Rattle.std.proofs.Common.{◌≡◌, ◌+◌, ◌<◌, arith}
use Rattle.routine.proofs.Before.{wrong_memory, reversed, too_long, wrong_marks}
use Rattle.screen.proofs.Whole.{early, late}
use Rattle.screen.proofs.screen.Goals as goal

pub returns-then-mem-ne65536 : goal.returns-then-mem-ne65536
returns-then-mem-ne65536 c = early c.args.mem.now c.args.first.0 c.args.last.0 c.args.marks.now (wrong_memory c.if-mem-ne65536.true)

pub returns-in_default : goal.returns-in_default
returns-in_default c =
    let low : c.args.last.0 < c.args.first.0 = grind arith in early c.args.mem.now c.args.first.0 c.args.last.0 c.args.marks.now (reversed c.if-mem-ne65536.false low)

pub returns-then-n-gt-LONGEST_WINDOW : goal.returns-then-n-gt-LONGEST_WINDOW
returns-then-n-gt-LONGEST_WINDOW c =
    let span : c.in-Some.further + c.args.first.0 ≡ c.args.last.0 = grind arith in early c.args.mem.now c.args.first.0 c.args.last.0 c.args.marks.now (too_long c.if-mem-ne65536.false (omega arith) (omega arith))

pub returns-then-marks-n : goal.returns-then-marks-n
returns-then-marks-n c =
    let span : c.in-Some.further + c.args.first.0 ≡ c.args.last.0 = grind arith in early c.args.mem.now c.args.first.0 c.args.last.0 c.args.marks.now (wrong_marks c.if-mem-ne65536.false (omega arith) (omega arith) (λ same. c.if-marks-n.true (omega arith)))

pub returns : goal.returns
returns c =
    let span : c.in-Some.further + c.args.first.0 ≡ c.args.last.0 = grind arith in
    late c.args.mem.now c.args.first.0 c.args.last.0 c.args.marks.now
    (record { memory = c.if-mem-ne65536.false; order = omega arith; size = omega arith; marks_size = omega arith })
    c.judge.result c.judge.new.marks c.judge.ensures
