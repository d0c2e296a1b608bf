-- `rules::addresses::write_satp` meets its contract.
use mathlib.Core.Path.{sym, ◌∙◌}
use Rattle.rules.specs.Addresses.{is_satp_mode, written_satp}
use Rattle.rules.proofs.addresses.write_satp.Goals as goal

pub returns-then-is_satp_mode : goal.returns-then-is_satp_mode
unfolding is_satp_mode written_satp
returns-then-is_satp_mode c = rw (sym c.is_satp_mode.ensures ∙ c.if-is_satp_mode.true)

pub returns-else-is_satp_mode : goal.returns-else-is_satp_mode
unfolding is_satp_mode written_satp
returns-else-is_satp_mode c = rw (sym c.is_satp_mode.ensures ∙ c.if-is_satp_mode.false)
