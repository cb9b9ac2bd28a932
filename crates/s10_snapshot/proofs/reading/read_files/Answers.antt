use Rattle.s10_snapshot.specs.Readings.{IsUnread}
use Rattle.s10_snapshot.proofs.Read.{fails}
use Rattle.s10_snapshot.proofs.reading.read_files.Goals as goal

pub returns-in_err-file-clause-read : goal.returns-in_err-file-clause-read
returns-in_err-file-clause-read g c =
    fails c.from_residual-in_err-file.result c.in_err-file.field-0.0
    (g.S.Source.calls c.args.source.now) (g.S.Source.calls c.read.new.self)
    c.from_residual-in_err-file.ensures.1 (IsUnread.no_file (g.S.Source.calls c.read_log.new.source)
    c.in_ok-before.before c.in_ok-before.ensures.given c.in_err-file.ensures.read)

pub returns-in_err-log-clause-read : goal.returns-in_err-log-clause-read
returns-in_err-log-clause-read g c =
    fails c.from_residual-in_err-log.result c.in_err-log.field-0.0
    (g.S.Source.calls c.args.source.now) (g.S.Source.calls c.read_log-2.new.source)
    c.from_residual-in_err-log.ensures.1 (IsUnread.no_log (g.S.Source.calls c.read_log.new.source)
    (g.S.Source.calls c.read.new.self) c.in_ok-before.before c.in_ok-file.file
    c.in_ok-before.ensures.given c.in_ok-file.ensures.read c.in_err-log.ensures.given)

pub returns-in_err-after-clause-read : goal.returns-in_err-after-clause-read
returns-in_err-after-clause-read g c =
    fails c.from_residual-in_err-after.result c.in_err-after.field-0.0
    (g.S.Source.calls c.args.source.now) (g.S.Source.calls c.read_log-3.new.source)
    c.from_residual-in_err-after.ensures.1
    (IsUnread.no_header_again (g.S.Source.calls c.read_log.new.source)
    (g.S.Source.calls c.read.new.self) (g.S.Source.calls c.read_log-2.new.source)
    c.in_ok-before.before c.in_ok-file.file c.in_ok-log.log c.in_ok-before.ensures.given
    c.in_ok-file.ensures.read c.in_ok-log.ensures.given c.in_err-after.ensures.given)

pub returns-clause-read : goal.returns-clause-read
returns-clause-read g c = record {
  first = g.S.Source.calls c.read_log.new.source;
  second = g.S.Source.calls c.read.new.self;
  third = g.S.Source.calls c.read_log-2.new.source;
  before = c.in_ok-before.ensures.given;
  file = c.in_ok-file.ensures.read;
  log = c.in_ok-log.ensures.given;
  after = c.in_ok-after.ensures.given;
}
