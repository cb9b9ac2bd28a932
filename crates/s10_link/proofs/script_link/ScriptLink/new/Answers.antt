use Rattle.std.proofs.Common.{rules}
use Rattle.s10_link.proofs.script_link.ScriptLink.new.Goals as goal

pub returns : goal.returns
returns c = search rules
