use Rattle.std.proofs.Common.{div-lt_iff_lt-mul, arith}
use Rattle.attempts.proofs.reading.read_out.Goals as goal

pub bounds-strip_marks-square : goal.bounds-strip_marks-square
bounds-strip_marks-square c = (div-lt_iff_lt-mul c.requires.sized.some).1 (omega (arith, c.requires.sized.shown))
