-- The interrupt controller's line for SEIP, which the host hands in as 0 or 1.
-- Source: RISC-V manual 20240411, Volume II, "Machine Interrupt (mip and mie) Registers";
-- docs/RULES.md, "The controller's line", and refusal 15.
use Rattle.std.specs.Prelude.{ℕ, Bool, cond, ◌&&◌, eqb, ltb, Ok, Err}
use Rattle.hart.specs.Caps.{has_s}
use Rattle.hart.specs.declared.caps.Caps.{Caps}
use Rattle.hart.specs.declared.record.Host.{Host}
use Rattle.hart.specs.declared.answer.Refusal.TheVariants.{BadLine}
use Rattle.csr.specs.Address.{Decoded}

abbrev pub is_line : ℕ → Bool
is_line n = ltb n 2

-- the controller raises SEIP: the line is up. Without S there is no such interrupt
abbrev pub raises_seip : Caps → Host → Bool
raises_seip c o = eqb o.line 1 && has_s c

-- the same from the host, but for the line, which is down
abbrev pub line_down : Host → Host
line_down o = record { time = o.time; seed = o.seed; line = 0 }

-- refusal 15, behind what was tested before
abbrev pub line_to : ℕ → Decoded → Decoded
line_to line (Err why) = Err why
line_to line (Ok r) = cond (is_line line) (Ok r) (Err BadLine)
