use Rattle.std.proofs.Common.{rules}
use Rattle.s10_wire.proofs.reply.fits.Goals as goal

pub returns-in_default-NumberReused : goal.returns-in_default-NumberReused
returns-in_default-NumberReused c = search rules

pub returns-in-DrawMany-DrawnMany : goal.returns-in-DrawMany-DrawnMany
returns-in-DrawMany-DrawnMany c = search rules
