-- The laws of the trap part: legal kept and pending, from files of their own, and here injection
-- then mret.
use Rattle.std.proofs.Common.{◌≡◌, ℕ, Bool, true, false, cond, eqb, [], ◌∷◌, refl, ap, ◌∙◌, arith}
use Rattle.std.specs.Prelude.{Ok}
use Rattle.hart.specs.Words.{get, puts}
use Rattle.hart.specs.Laws.{word_after}
use Rattle.hart.specs.Modes.{mode_m}
use Rattle.hart.specs.Caps.{has_s}
use Rattle.hart.specs.Answers.{done, refused}
use Rattle.hart.proofs.Legal.{legal_word_lem}
use Rattle.hart.proofs.Laws.{conditions, get_puts, same_puts}
use Rattle.hart.specs.declared.record.Hart.{Hart}
use Rattle.hart.specs.declared.record.Word.{Word}
use Rattle.hart.specs.declared.record.Word.TheVariants.{Pc, Mode, Mstatus, Mepc}
use Rattle.hart.specs.declared.answer.Refusal.TheVariants.{NotMachine, BadInterrupt}
use Rattle.hart.specs.declared.answer.Effect.TheVariants.{Nothing}
use Rattle.trap.specs.Status.{mpp_of, mret_status}
use Rattle.trap.specs.Laws.{restored_changes, restored, InjectThenMret}
use Rattle.trap.specs.Restored.{restored_status}
use Rattle.trap.specs.Interrupts.{is_interrupt}
use Rattle.trap.specs.Steps.{inject_changes, injected, mret_of, mret_step}
use Rattle.trap.proofs.StatusLaws.{Returned, returned}
pub use Rattle.trap.proofs.StepsKeepLegal.{inject_keeps_legal, trap_keeps_legal, mret_keeps_legal, sret_keeps_legal}
pub use Rattle.trap.proofs.Pending.{pending_none, pending_first, pending_is_injected, pending_is_machine, pending_without_line}
pub use Rattle.trap.proofs.StatusLaws.{restored_fields}

pub inject_then_mret : InjectThenMret
inject_then_mret c h n l a = go (is_interrupt c.interrupts n) a
  where
    back : Returned h.mode h.mstatus
    back = returned h.mstatus (l.hart_fits.words Mstatus) (has_s c) h.mode (((conditions c).mode h.mode).0 (legal_word_lem c h l.hart Mode))

    next : Hart
    next = injected h n

    -- what the injection leaves of a word
    left : (w : Word) → get w next ≡ word_after (inject_changes h n) w (get w h)
    left w = get_puts (inject_changes h n) w h

    -- mode, mstatus and pc as mret leaves them, in the record that mret leaves
    ends : (mode m pc : ℕ) → mode ≡ h.mode → m ≡ restored_status h.mode h.mstatus → pc ≡ h.pc
        → puts ((Mode, mode) ∷ (Mstatus, m) ∷ (Pc, pc) ∷ []) next ≡ restored h n
    ends mode m pc p q r =
        (λ i. puts ((Mode, p i) ∷ (Mstatus, q i) ∷ (Pc, r i) ∷ []) next)
        ∙ same_puts h ((Mode, h.mode) ∷ (Mstatus, restored_status h.mode h.mstatus) ∷ (Pc, h.pc) ∷ inject_changes h n) (restored_changes h n) refl

    go : (b : Bool) → (cond b (done next) (refused h BadInterrupt)).answer ≡ Ok (0, Nothing) → mret_step (cond b (done next) (refused h BadInterrupt)).hart ≡ done (restored h n)
    go true e =
        ap (λ (mode : ℕ). cond (eqb mode mode_m) (done (mret_of next)) (refused next NotMachine)) (left Mode)
        ∙ ap done (ends (mpp_of next.mstatus) (mret_status next.mstatus) next.mepc (ap mpp_of (left Mstatus) ∙ back.mode_back) (ap mret_status (left Mstatus) ∙ back.status_left) (left Mepc))
    go false e = let z : ◌≡◌ {A = ℕ} 0 1 = cc in absurd (omega arith)
