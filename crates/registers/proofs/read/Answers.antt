-- `registers::read` meets its contract.
use borrow.Author.Rules.{rules}
use mathlib.Core.Path.{◌≡◌, sym, ap, ◌∙◌}
use Rattle.std.specs.Prelude.{Ok}
use Rattle.csr.specs.Address.{decode_of}
use Rattle.csr.specs.Line.{raises_seip}
use Rattle.csr.specs.Inner.{shown_at}
use Rattle.csr.proofs.Decoded.{found_there}
use Rattle.csr.proofs.Laws.{read_shown}
use Rattle.lent.specs.Images.{caps_at, hart_at}
use Rattle.registers.proofs.read.Goals as goal

pub returns : goal.returns
returns c =
    let a = c.args in
    let at = a.found.address in
    let caps = caps_at a.caps.now in
    let h = hart_at a.hart.now in
    let r = c.in_ok-csr.csr in
    let decoded : decode_of caps at ≡ Ok r = search rules in
    let shows = c.shown_of-v.ensures ∙ ap (shown_at (raises_seip caps a.o) h at) c.value_of-old.ensures ∙ read_shown caps h a.o at r (found_there caps at r decoded) in
    rw (decoded, sym c.is_line.ensures ∙ c.if-not-is_line.false, shows)
