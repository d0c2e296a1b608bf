-- `plain::entries::write` meets its contract.
use borrow.Author.Rules.{rules}
use mathlib.Core.Path.{◌≡◌, refl, sym, ap, ◌∙◌}
use Prim.Native.Nat.{ℕ}
use Rattle.std.specs.Prelude.{Some, None, Ok, Err}
use Rattle.hart.specs.declared.caps.Caps.{Caps}
use Rattle.hart.specs.declared.record.Hart.{Hart}
use Rattle.hart.specs.declared.answer.Step.{Step}
use Rattle.hart.proofs.Put.{put_x}
use Rattle.csr.specs.Address.{Decoded, decode_of}
use Rattle.csr.specs.Access.{stored_of, apply, write_to, write_at}
use Rattle.csr.specs.Access.{Change}
use Rattle.lent.specs.Images.{caps_at, hart_at}
use Rattle.registers.specs.Inner.{told}
use Rattle.calls.specs.Calls.{Write}
use Rattle.calls.proofs.Goes.{entry_goes}
use Rattle.plain.proofs.entries.write.Goals as goal

-- a write leaves the general registers
same_x : (c : Caps) (h : Hart) (a v : ℕ) → (write_at c h a v).hart.x ≡ h.x
same_x c h a v = decoded (decode_of c a)
  where
    changed : (d : Change) → (apply d h).x ≡ h.x
    changed None = refl
    changed (Some (w, x)) = put_x w x h

    decoded : (d : Decoded) → (write_to c h v d).hart.x ≡ h.x
    decoded (Ok r) = changed (stored_of c h r v)
    decoded (Err why) = refl

pub store_words-requires : goal.store_words-requires
store_words-requires c =
    let a = c.args in
    let step : c.write-step.result ≡ write_at (caps_at a.caps.now) (hart_at a.hart.now) a.address a.value = search rules in
    let held : hart_at c.unwrap-hart.result.now ≡ hart_at a.hart.now = search rules in
    ap (λ (h : Hart). h.x) held ∙ sym (ap (λ (t : Step). t.hart.x) step ∙ same_x (caps_at a.caps.now) (hart_at a.hart.now) a.address a.value)

pub returns : goal.returns
unfolding told
returns c =
    let a = c.args in
    let step : c.write-step.result ≡ write_at (caps_at a.caps.now) (hart_at a.hart.now) a.address a.value = search rules in
    let stores : hart_at c.store_words.new.s ≡ c.write-step.result.hart = search rules in
    entry_goes (Write a.address a.value) a.caps.now a.hart.now refl (search rules) _ (search rules) (λ j. search rules) (λ j. search rules)
    (ap (λ (h : Hart). (c.write-step.result.answer, h)) stores ∙ ap told step)
