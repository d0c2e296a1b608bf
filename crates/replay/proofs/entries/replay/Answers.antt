-- `replay::entries::replay` meets its contract.
use borrow.Author.Rules.{rules}
use borrow.Author.Tests.{le-leb, lt-leb}
use native.Mathlib.Omega.{arith}
use mathlib.Core.Path.{◌≡◌, sym, ap, ◌∙◌}
use mathlib.Core.Bool.{Bool, cond}
use mathlib.Core.List.{List, ◌++◌}
use Prim.Native.Nat.{ℕ, ◌+◌, ◌*◌, ◌/◌}
use lib.Dec.{leb}
use lib.ListN.{length, drop}
use Rattle.std.specs.Prelude.{Ok, Err}
use Rattle.image.specs.Word.{image_of}
use Rattle.hart.specs.declared.record.Hart.{Hart}
use Rattle.hart.specs.declared.answer.Refusal.TheVariants.{ShortBuffer}
use Rattle.hart.specs.declared.answer.Effect.TheVariants.{Nothing}
use Rattle.lent.specs.Images.{caps_at, hart_at, bytes_of}
use Rattle.lent.specs.Outcome.{outcome_of}
use Rattle.lent.specs.declared.outcome.Outcome.{Outcome}
use Rattle.lent.proofs.Views.{bytes_hart}
use Rattle.replay.specs.Log.{entry_bytes, whole_in, entries_from, rest_of}
use Rattle.replay.specs.Replay.{hart_after, results_of, held_in, wait_of, log_of, Given, replayed, replay_of}
use Rattle.replay.specs.Inner.{ran}
use Rattle.replay.proofs.Waits.{whole_counted}
use Rattle.replay.proofs.Runs.{results_put}
use Rattle.replay.proofs.Tested.{goes}
use Rattle.replay.proofs.entries.replay.Goals as goal

-- where everything lent is accepted: the buffer's length decides, and then the entries are made
abbrev short : List ℕ → List ℕ → List ℕ → Given
short s w out = (outcome_of (Err ShortBuffer), s, w, out)

abbrev sized : List ℕ → List ℕ → List ℕ → List ℕ → List ℕ → Given
sized c s w f out = cond (leb (entry_bytes * whole_in (log_of w f)) (length out)) (replayed (caps_at c) (hart_at s) (log_of w f) out) (short s w out)

all_four : {o p : Outcome} {h i w x out buffer : List ℕ} → o ≡ p → h ≡ i → w ≡ x → out ≡ buffer → ◌≡◌ {A = Given} (o, h, w, out) (p, i, x, buffer)
all_four a b d e = rw (a, b, d, e)

pub returns-then-out-n : goal.returns-then-out-n
unfolding replay_of
returns-then-out-n c =
    let a = c.args in
    let s = a.hart.now in
    let w = a.wait.now in
    let f = a.fragment.now in
    let out = a.out.now in
    let n = c.completed-n.result in
    let counts : n ≡ (held_in w + length f) / entry_bytes = search rules in
    let counted : n ≡ whole_in (log_of w f) = whole_counted w f n counts in
    sym (ap (λ (t : Bool). cond t (replayed (caps_at a.caps.now) (hart_at s) (log_of w f) out) (short s w out)) (lt-leb (entry_bytes * whole_in (log_of w f)) (length out) (omega (arith, c.if-out-n.true))))
    ∙ goes (λ (o : Outcome). (o, s, w, out)) (sized a.caps.now s w f out) a.caps.now s w (search rules) (search rules)

pub returns : goal.returns
unfolding replay_of
returns c =
    let a = c.args in
    let s = a.hart.now in
    let w = a.wait.now in
    let f = a.fragment.now in
    let out = a.out.now in
    let l = log_of w f in
    let caps = caps_at a.caps.now in
    let h = hart_at s in
    let n = c.completed-n.result in
    let counts : n ≡ (held_in w + length f) / entry_bytes = search rules in
    let counted : n ≡ whole_in l = whole_counted w f n counts in
    let ran_so : (hart_at c.run.new.hart, c.run.new.out) ≡ ran caps (entries_from l 0 n) 0 (h, out) = search rules in
    let made =
    ran_so ∙ results_put caps l n h out (omega (arith, c.if-out-n.false))
    ∙ ap (λ (k : ℕ). (hart_after caps h (entries_from l 0 k), image_of (results_of caps h (entries_from l 0 k)) ++ drop (entry_bytes * k) out)) counted in
    let rest : c.keep_rest.new.wait ≡ wait_of (rest_of l) = search rules in
    all_four (ap (λ (k : ℕ). outcome_of (Ok (k, Nothing))) counted)
    (sym (bytes_hart _ (search rules) (λ j. search rules)) ∙ ap bytes_of (ap (λ (q : Hart × List ℕ). q.0) made))
    rest
    (ap (λ (q : Hart × List ℕ). q.1) made)
    ∙ sym (ap (λ (t : Bool). cond t (replayed caps h l out) (short s w out)) (le-leb (entry_bytes * whole_in l) (length out) (omega (arith, c.if-out-n.false))))
    ∙ goes (λ (o : Outcome). (o, s, w, out)) (sized a.caps.now s w f out) a.caps.now s w (search rules) (search rules)
