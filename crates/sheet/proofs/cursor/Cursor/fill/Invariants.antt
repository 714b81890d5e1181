-- The orders before the place are taken and filled.
use Rattle.std.proofs.Common.{take}
use Rattle.sheet.proofs.Words.{Filled}
use Rattle.sheet.proofs.cursor.Cursor.fill.Given as goal

abbrev pub invariant-loop-place : goal.invariant-loop-place
invariant-loop-place l = Filled l.place-index l.fn.self.rest.now l.fn.self.line (take l.count l.fn.orders) l.place-items l.self.rest.now l.self.line
