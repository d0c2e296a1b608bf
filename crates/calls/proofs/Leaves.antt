-- What is refused hands the record back as it was, whatever the call.
use mathlib.Core.Path.{◌≡◌, refl}
use mathlib.Core.Bool.{Bool, true, false, cond}
use Prim.Native.Nat.{ℕ}
use native.Mathlib.Omega.{arith}
use Rattle.std.specs.Prelude.{Ok, Err}
use Rattle.rules.specs.Addresses.{is_aligned}
use Rattle.hart.specs.Caps.{has_c, has_s}
use Rattle.hart.specs.Answers.{Answer, refused}
use Rattle.hart.specs.declared.caps.Caps.{Caps}
use Rattle.hart.specs.declared.record.Hart.{Hart}
use Rattle.hart.specs.declared.answer.Refusal.{Refusal}
use Rattle.hart.specs.declared.answer.Effect.{Effect}
use Rattle.hart.specs.declared.answer.Step.{Step}
use Rattle.csr.specs.Address.{Decoded, decode_of}
use Rattle.csr.specs.Access.{write_to}
use Rattle.instr.specs.Instructions.{accepted_of, emulated_to}
use Rattle.trap.specs.Interrupts.{is_interrupt}
use Rattle.trap.specs.Steps.{is_m, is_interrupt_cause, is_trap}
use Rattle.registers.specs.Operand.{operand_of}
use Rattle.calls.specs.Calls.{Call, Fresh, Read, Write, Instruction, Pending, Take, taken_step, step_of}
use Rattle.calls.specs.declared.steps.Taken.{Taken}
use Rattle.calls.specs.declared.steps.Taken.TheVariants.{Inject, Trap, Mret, Sret}
use Rattle.calls.specs.Inner.{Leaves}

-- what is done isn't refused
not_refused : {A : Type 0} {v : ℕ} {e : Effect} {why : Refusal} → ◌≡◌ {A = Answer} (Ok (v, e)) (Err why) → A
not_refused q = absurd (let z : ◌≡◌ {A = ℕ} 0 1 = cc in omega arith)

either : {h : Hart} {t u : Step} (b : Bool) → Leaves h t → Leaves h u → Leaves h (cond b t u)
either true p q = p
either false p q = q

by_done : {h next : Hart} {v : ℕ} {e : Effect} → Leaves h (record { hart = next; answer = Ok (v, e) })
by_done why q = not_refused q

by_refused : {h : Hart} {why : Refusal} → Leaves h (refused h why)
by_refused why q = refl

pub taken_leaves : (c : Caps) (h : Hart) (t : Taken) → Leaves h (taken_step c h t)
taken_leaves c h (Inject n) = either (is_interrupt c.interrupts n) by_done by_refused
taken_leaves c h (Trap t) = either (is_interrupt_cause t) by_refused (either (is_trap c h t) by_done by_refused)
taken_leaves c h Mret = either (is_m h) by_done by_refused
taken_leaves c h Sret = either (is_m h) (either (has_s c) by_done by_refused) by_refused

pub refused_leaves : (c : Caps) (h : Hart) (call : Call) → Leaves h (step_of c h call)
refused_leaves c h (Fresh pc) = either (is_aligned (has_c c) pc) by_done by_refused
refused_leaves c h (Read o a) = λ why q. refl
refused_leaves c h (Write a v) = go (decode_of c a)
  where
    go : (d : Decoded) → Leaves h (write_to c h v d)
    go (Ok r) = by_done
    go (Err why) = by_refused
refused_leaves c h (Instruction form op o a rd field) = go (accepted_of c h.mode a rd field o.line)
  where
    go : (d : Decoded) → Leaves h (emulated_to op c h o rd field (operand_of form h field) d)
    go (Ok r) = by_done
    go (Err why) = by_refused
refused_leaves c h Pending = by_done
refused_leaves c h (Take t) = taken_leaves c h t
