-- `csr::line::raises_seip` meets its contract.
use Rattle.csr.proofs.line.raises_seip.Goals as goal

pub returns : goal.returns
returns c = rw c.has_s.ensures
