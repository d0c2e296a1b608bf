-- `csr::read::get` meets its contract: of mip and sip it gives the stored word, as while the
-- controller's line is down.
use mathlib.Core.Path.{sym, ap}
use Rattle.rules.specs.Interrupts.{read_delegated}
use Rattle.rules.proofs.InterruptLaws.{mip_down}
use Rattle.csr.specs.Access.{read_of}
use Rattle.csr.proofs.read.get.Goals as goal

pub returns-in-Mip : goal.returns-in-Mip
unfolding read_of
returns-in-Mip c = rw c.in-Mip.is (sym (mip_down _))

pub returns-in-Sip : goal.returns-in-Sip
unfolding read_of
returns-in-Sip c = rw (c.read_delegated-in-Sip.ensures, c.in-Sip.is) (sym (ap (read_delegated _) (mip_down _)))
