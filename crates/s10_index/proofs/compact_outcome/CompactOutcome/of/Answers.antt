use Rattle.std.proofs.Common.{refl, sym}
use Rattle.s10_index.proofs.Sheets.{no_sheet}
use Rattle.s10_index.proofs.compact_outcome.CompactOutcome.of.Goals as goal

pub returns-in-Granted : goal.returns-in-Granted
returns-in-Granted c = record {
  sheets = no_sheet c.args.sheets.now.items _ _ c.in-Granted.is refl;
  restored = sym c.in-Granted.is;
  named = tt;
}

pub returns-in-Drawn : goal.returns-in-Drawn
returns-in-Drawn c = record {
  sheets = no_sheet c.args.sheets.now.items _ _ c.in-Drawn.is refl;
  restored = sym c.in-Drawn.is;
  named = tt;
}

pub returns-in-Voided : goal.returns-in-Voided
returns-in-Voided c = record {
  sheets = no_sheet c.args.sheets.now.items _ _ c.in-Voided.is refl;
  restored = sym c.in-Voided.is;
  named = tt;
}

pub returns-in-Told : goal.returns-in-Told
returns-in-Told c = record {
  sheets = no_sheet c.args.sheets.now.items _ _ c.in-Told.is refl;
  restored = sym c.in-Told.is;
  named = tt;
}

pub returns-in-Withdrawn : goal.returns-in-Withdrawn
returns-in-Withdrawn c = record {
  sheets = no_sheet c.args.sheets.now.items _ _ c.in-Withdrawn.is
      refl;
  restored = sym c.in-Withdrawn.is;
  named = tt;
}

pub returns-in-NotThePost : goal.returns-in-NotThePost
returns-in-NotThePost c = record {
  sheets = no_sheet c.args.sheets.now.items _ _ c.in-NotThePost.is
      refl;
  restored = sym c.in-NotThePost.is;
  named = tt;
}

pub returns-in-BadGrant : goal.returns-in-BadGrant
returns-in-BadGrant c = record {
  sheets = no_sheet c.args.sheets.now.items _ _ c.in-BadGrant.is
      refl;
  restored = sym c.in-BadGrant.is;
  named = tt;
}

pub returns-in-Overlap : goal.returns-in-Overlap
returns-in-Overlap c = record {
  sheets = no_sheet c.args.sheets.now.items _ _ c.in-Overlap.is refl;
  restored = sym c.in-Overlap.is;
  named = tt;
}

pub returns-in-NoRange : goal.returns-in-NoRange
returns-in-NoRange c = record {
  sheets = no_sheet c.args.sheets.now.items _ _ c.in-NoRange.is refl;
  restored = sym c.in-NoRange.is;
  named = tt;
}

pub returns-in-NoneFree : goal.returns-in-NoneFree
returns-in-NoneFree c = record {
  sheets = no_sheet c.args.sheets.now.items _ _ c.in-NoneFree.is
      refl;
  restored = sym c.in-NoneFree.is;
  named = tt;
}

pub returns-in-NotYours : goal.returns-in-NotYours
returns-in-NotYours c = record {
  sheets = no_sheet c.args.sheets.now.items _ _ c.in-NotYours.is
      refl;
  restored = sym c.in-NotYours.is;
  named = tt;
}

pub returns-in-NotIssued : goal.returns-in-NotIssued
returns-in-NotIssued c = record {
  sheets = no_sheet c.args.sheets.now.items _ _ c.in-NotIssued.is
      refl;
  restored = sym c.in-NotIssued.is;
  named = tt;
}

pub returns-in-AlreadyVoid : goal.returns-in-AlreadyVoid
returns-in-AlreadyVoid c =
    record {
      sheets = no_sheet c.args.sheets.now.items _ _ c.in-AlreadyVoid.is refl;
      restored = sym c.in-AlreadyVoid.is;
      named = tt;
    }

pub returns-in-NoSuchRange : goal.returns-in-NoSuchRange
returns-in-NoSuchRange c =
    record {
      sheets = no_sheet c.args.sheets.now.items _ _ c.in-NoSuchRange.is refl;
      restored = sym c.in-NoSuchRange.is;
      named = tt;
    }

pub returns-in-Closed : goal.returns-in-Closed
returns-in-Closed c = record {
  sheets = no_sheet c.args.sheets.now.items _ _ c.in-Closed.is refl;
  restored = sym c.in-Closed.is;
  named = tt;
}

pub returns-in-NumberReused : goal.returns-in-NumberReused
returns-in-NumberReused c =
    record {
      sheets = no_sheet c.args.sheets.now.items _ _ c.in-NumberReused.is refl;
      restored = sym c.in-NumberReused.is;
      named = tt;
    }
