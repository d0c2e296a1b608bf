-- `registers::write` meets its contract.
use borrow.Author.Rules.{rules}
use mathlib.Core.Path.{◌≡◌, sym, ap, ◌∙◌}
use Rattle.std.specs.Prelude.{Ok}
use Rattle.hart.specs.Answers.{Answer}
use Rattle.hart.specs.declared.record.Hart.{Hart}
use Rattle.hart.specs.declared.answer.Effect.{Effect}
use Rattle.csr.specs.Address.{decode_of}
use Rattle.csr.specs.Access.{write_to}
use Rattle.lent.specs.Images.{caps_at, hart_at}
use Rattle.registers.specs.Inner.{changed_to, told}
use Rattle.registers.proofs.write.Goals as goal

pub returns : goal.returns
unfolding told changed_to
returns c =
    let a = c.args in
    let caps = caps_at a.caps.now in
    let h = hart_at a.hart.now in
    let answer : Effect → Answer = λ e. Ok (0, e) in
    let decoded : decode_of caps a.found.address ≡ Ok c.in_ok-csr.csr = search rules in
    ap (λ (q : Effect × Hart). (answer q.0, q.1)) c.commit-effect.ensures
    ∙ sym (ap (λ d. told (write_to caps h a.v d)) decoded)
