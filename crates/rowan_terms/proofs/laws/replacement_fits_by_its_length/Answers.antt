use Rattle.rowan_terms.proofs.PutLimits.{Fits-subterm, Fits-put, unfit-put, Fits-by_len}
use Rattle.rowan_terms.proofs.laws.replacement_fits_by_its_length.Goals as goal

pub returns-clause-fits : goal.returns-clause-fits
returns-clause-fits c = Fits-by_len

pub returns-clause-new : goal.returns-clause-new
returns-clause-new c = Fits-put

pub returns-clause-passes : goal.returns-clause-passes
returns-clause-passes c = unfit-put

pub returns-clause-subterm : goal.returns-clause-subterm
returns-clause-subterm c = Fits-subterm
