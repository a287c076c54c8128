-- `formatter::sheets::write_sheet` meets its contract. Assumes nothing.
use lib.ListN.{length}
use Rattle.formatter.proofs.SheetLaws.{refused_is, nothing_written, length_is, buffer_is}
use Rattle.formatter.proofs.sheets.write_sheet.Goals as goal

pub returns-then-not-fits-clause-is : goal.returns-then-not-fits-clause-is
returns-then-not-fits-clause-is c = refused_is c.append_sheet-length.ensures (length c.args.out.now) c.fits.ensures c.if-not-fits.true

pub returns-then-not-fits-clause-buffer : goal.returns-then-not-fits-clause-buffer
returns-then-not-fits-clause-buffer c = λ w. nothing_written c.append_sheet-length.ensures (length c.args.out.now) c.fits.ensures c.if-not-fits.true w c.args.out.now

pub returns-clause-is : goal.returns-clause-is
returns-clause-is c = length_is c.append_sheet-length.ensures (length c.args.out.now) c.fits.ensures c.if-not-fits.false c.append_sheet.ensures

pub returns-clause-buffer : goal.returns-clause-buffer
returns-clause-buffer c = buffer_is c.append_sheet-length.ensures (length c.args.out.now) c.fits.ensures c.if-not-fits.false c.append_sheet.ensures
