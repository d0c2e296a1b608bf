-- An entry goes, or refuses: what the judge's answer says of it, and the bytes that a step leaves.
use mathlib.Core.Path.{◌≡◌, refl, sym, ap, ap₂, ◌∙◌}
use mathlib.Core.Bool.{false}
use mathlib.Core.List.{List}
use Prim.Native.Nat.{ℕ}
use lib.ListN.{length}
use Rattle.std.specs.Prelude.{Ok, Err}
use Rattle.image.specs.Inner.{Bytes}
use Rattle.hart.specs.Answers.{Answer}
use Rattle.hart.specs.declared.record.Hart.{Hart}
use Rattle.hart.specs.declared.answer.Refusal.{Refusal}
use Rattle.hart.specs.declared.answer.Step.{Step}
use Rattle.lent.specs.Images.{hart_bytes, caps_at, hart_at, bytes_of}
use Rattle.lent.specs.Inner.{judged}
use Rattle.lent.specs.Outcome.{outcome_of}
use Rattle.lent.specs.declared.outcome.Outcome.{Outcome}
use Rattle.lent.proofs.Judged.{images_sized, tested, is_bad, is_good}
use Rattle.lent.proofs.Views.{bytes_hart, same_image}
use Rattle.registers.specs.Inner.{told}
use Rattle.calls.specs.Calls.{Call, step_of, is_start}
use Rattle.calls.specs.Entries.{given, entry_of}
use Rattle.calls.specs.Inner.{Leaves}
use Rattle.calls.proofs.Leaves.{refused_leaves}

-- the bytes l hold the record that a step leaves: they are those that it gives
module _ (s l : List ℕ) (m : length s ≡ hart_bytes) (n : length l ≡ hart_bytes) (b : Bytes s) (d : Bytes l) where
  pub given_told : (r : Answer) (t : Step) → (r, hart_at l) ≡ told t → Leaves (hart_at s) t → (outcome_of r, l) ≡ given s t
  unfolding told given
  given_told r t e k = ap₂ (λ (x : Answer) (y : List ℕ). (outcome_of x, y)) (ap (λ (q : Answer × Hart). q.0) e) (go t.answer refl)
    where
      holds : hart_at l ≡ t.hart
      holds = ap (λ (q : Answer × Hart). q.1) e

      go : (a : Answer) → t.answer ≡ a → l ≡ (given s (record { hart = t.hart; answer = a })).1
      go (Ok (v, x)) q = sym (bytes_hart l n d) ∙ ap bytes_of holds
      go (Err why) q = same_image s l m b n d (holds ∙ k why q)

module _ (call : Call) (c s : List ℕ) (o : is_start call ≡ false) where
  -- what is given where they aren't legal, and where they are
  abbrev bad : Refusal → Outcome × List ℕ
  bad why = (outcome_of (Err why), s)

  abbrev good : Outcome × List ℕ
  good = given s (step_of (caps_at c) (hart_at s) call)

  by_images : entry_of call c s ≡ tested c s bad good
  unfolding entry_of
  by_images = rw o

  pub entry_refused : {why : Refusal} → judged c s ≡ Err why → (outcome_of (Err why), s) ≡ entry_of call c s
  entry_refused e = sym (by_images ∙ is_bad c s bad good e)

  module _ (z : judged c s ≡ Ok tt) where
    goes : good ≡ entry_of call c s
    goes = sym (by_images ∙ is_good c s bad good z)

    -- it leaves the bytes l, which hold the step's record
    pub entry_goes : (l : List ℕ) {r : Answer} → length l ≡ hart_bytes → Bytes s → Bytes l → (r, hart_at l) ≡ told (step_of (caps_at c) (hart_at s) call) → (outcome_of r, l) ≡ entry_of call c s
    entry_goes l {r} m b d e = given_told s l (images_sized c s z).1 m b d r _ e (refused_leaves (caps_at c) (hart_at s) call) ∙ goes

    -- a call that is only lent the bytes to read
    pub entry_reads : {r : Answer} → Bytes s → (step_of (caps_at c) (hart_at s) call).hart ≡ hart_at s → r ≡ (step_of (caps_at c) (hart_at s) call).answer → (outcome_of r, s) ≡ entry_of call c s
    unfolding told
    entry_reads b k e = entry_goes s (images_sized c s z).1 b b (ap₂ (λ (x : Answer) (y : Hart). (x, y)) e (sym k))
