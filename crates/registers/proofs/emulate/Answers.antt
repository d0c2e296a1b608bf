-- `registers::emulate` meets its contract.
use borrow.Author.Rules.{rules}
use mathlib.Core.Bool.{Bool, cond}
use mathlib.Core.Path.{◌≡◌, sym, ap, ap₂, ◌∙◌}
use Prim.Native.Nat.{ℕ}
use Rattle.std.specs.Prelude.{Ok}
use Rattle.hart.specs.Words.{set_x}
use Rattle.hart.specs.Answers.{Answer}
use Rattle.hart.specs.declared.record.Hart.{Hart}
use Rattle.hart.specs.declared.answer.Effect.{Effect}
use Rattle.hart.specs.declared.answer.Step.{Step}
use Rattle.csr.specs.Line.{raises_seip}
use Rattle.csr.specs.Access.{stored_of, apply}
use Rattle.csr.specs.Inner.{shown_at}
use Rattle.csr.proofs.Laws.{read_shown}
use Rattle.instr.specs.Instructions.{is_written, written, read_into, accepted_of, emulated_to}
use Rattle.lent.specs.Images.{caps_at, hart_at}
use Rattle.registers.specs.Inner.{changed_to, told}
use Rattle.registers.proofs.Looked.{found}
use Rattle.registers.proofs.emulate.Goals as goal

-- the effect and the record that the step leaves, of what was read and the old value, whether it
-- writes and what changes
pub returns : goal.returns
unfolding told changed_to
returns c =
    let a = c.args in
    let at = a.found.address in
    let caps = caps_at a.caps.now in
    let h = hart_at a.hart.now in
    let r = c.in_ok-csr.csr in
    let accepted : accepted_of caps h.mode at a.rd a.field a.o.line ≡ Ok r = search rules in
    let there = found caps h.mode a.rd a.field a.o.line at r accepted in
    let shown = c.shown_of-v.result in
    let reads = c.shown_of-v.ensures ∙ ap (shown_at (raises_seip caps a.o) h at) c.value_of-old.ensures ∙ read_shown caps h a.o at r there in
    let step : ℕ → Bool → ℕ → Step = λ v w x. read_into a.rd v h (cond w (apply (stored_of caps h r x) h) h) in
    let answer : ℕ → Effect → Answer = λ v e. Ok (v, e) in
    ap (λ (g : Hart). (answer shown c.commit-effect.result, g)) c.set_x.ensures
    ∙ ap (λ (q : Effect × Hart). (answer shown q.0, set_x a.rd shown q.1)) c.commit-effect.ensures
    ∙ ap₂ (λ w x. told (step shown w x)) c.writes.ensures c.value.ensures
    ∙ ap₂ (λ v old. told (step v (is_written a.op a.field) (written a.op old a.operand))) reads c.value_of-old.ensures
    ∙ sym (ap (λ d. told (emulated_to a.op caps h a.o a.rd a.field a.operand d)) accepted)
