use Rattle.std.proofs.Common.{rules}
use Rattle.s10_history.proofs.settings.Settings.new.Goals as goal

pub returns-then-limit-le-MAX_LIMIT : goal.returns-then-limit-le-MAX_LIMIT
returns-then-limit-le-MAX_LIMIT c = search rules
