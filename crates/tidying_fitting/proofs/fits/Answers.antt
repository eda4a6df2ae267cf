-- A number that has a law is that law's, and any other fits nothing.
use Rattle.std.proofs.Common.{sym}
use Rattle.tidying_fitting.proofs.Wanted.{as_law, as_none}
use Rattle.tidying_fitting.proofs.fits.Goals as goal

pub returns-in-Ok : goal.returns-in-Ok
returns-in-Ok c = as_law _ (sym c.in-Ok.ensures) c.law_fits.ensures

pub returns-in-Err : goal.returns-in-Err
returns-in-Err c = as_none c.args.law c.in-Err.ensures.1
