-- The refusal given is the first of the call's order that applies, but for reading a file the
-- lowest, and one that is given touches nothing.
use mathlib.Core.Path.{◌≡◌, refl, sym, ◌∙◌, subst}
use mathlib.Core.Bool.{Bool, true, false, not, cond, ◌||◌}
use mathlib.Core.List.{List, [], ◌∷◌}
use mathlib.Core.Logic.{◌↔◌}
use Prim.Native.Nat.{ℕ}
use lib.Dec.{eqb, ltb}
use lib.ListN.{length, replicate}
use borrow.Author.Tests.{eqb-false}
use Rattle.std.specs.Prelude.{Option, Some, None, Ok, Err}
use Rattle.first.specs.Laws.{Each, First, Ascending}
use Rattle.first.specs.First.{first_of}
use Rattle.first.proofs.First.{first_none, first_is, ascends, ascending, lowest}
use Rattle.rules.specs.Addresses.{is_aligned}
use Rattle.hart.specs.Modes.{mode_m}
use Rattle.hart.specs.Caps.{has_c, has_s}
use Rattle.hart.specs.Fresh.{fresh_of}
use Rattle.hart.specs.Answers.{done, refused, refusal_number}
use Rattle.hart.specs.declared.caps.Caps.{Caps}
use Rattle.hart.specs.declared.record.Hart.{Hart}
use Rattle.hart.specs.declared.record.Host.{Host}
use Rattle.hart.specs.declared.answer.Refusal.{Refusal}
use Rattle.hart.specs.declared.answer.Refusal.TheVariants.{BadCaps, BadHart, NoSuchCsr, CsrAbsent, BadOperand, NotMachine, NoSupervisor, BadInterrupt, NotException, BadTrap, BadStart, BadLength, BadMark, UnknownVersion, BadLine, TotalFull, BadEntry, EntryWaits, ShortBuffer}
use Rattle.hart.specs.declared.answer.Effect.TheVariants.{Nothing}
use Rattle.hart.specs.Answers.{Answer}
use Rattle.csr.specs.declared.address.Csr.{Csr}
use Rattle.csr.specs.Address.{csr_at, is_present_at, Decoded, decode_found, decode_of}
use Rattle.csr.specs.Line.{is_line, line_to}
use Rattle.csr.specs.Access.{read_to, write_to}
use Rattle.instr.specs.Instructions.{accepted_to, accepted_of, emulated_to}
use Rattle.trap.specs.Interrupts.{is_interrupt}
use Rattle.trap.specs.Steps.{is_m, injected, is_interrupt_cause, is_trap, trapped, mret_of, sret_of}
use Rattle.lent.specs.Images.{caps_words, caps_at, hart_at, is_caps, is_hart}
use Rattle.lent.specs.Outcome.{outcome_of, refused_by}
use Rattle.lent.specs.declared.outcome.Outcome.{Outcome}
use Rattle.fault.specs.Fault.{checked_hart}
use Rattle.fault.proofs.Laws.{hart_refusal}
use Rattle.settings.specs.Settings.{version, head_bytes, file_bytes, file_of, is_marked, version_of, image_in, settings_read, settings_write}
use Rattle.settings.proofs.File.{read_by}
use Rattle.registers.specs.Operand.{operand_of}
use Rattle.calls.specs.Calls.{Call, Fresh, Read, Write, Instruction, Pending, Take, taken_step, step_of}
use Rattle.calls.specs.declared.steps.Taken.{Taken}
use Rattle.calls.specs.declared.steps.Taken.TheVariants.{Inject, Trap, Mret, Sret}
use Rattle.calls.specs.Entries.{given, is_lent, entry_of}
use Rattle.laws.specs.Refusals.{Row, ◌when◌, number_of, applies, is_unknown, of_taken, of_step, refusals, of_settings_read, of_settings_write}
use Rattle.laws.specs.Laws.{InOrder, RefusedInOrder, SettingsReadInOrder, SettingsWriteInOrder, OrderIsNumbers, WriteOrderIsNumbers, IsLowest, LowestRefused, WriteLowestRefused, CheckAsCalls, Untouched, RefusalTouchesNothing, RefusedFileStays, RefusedWordsAreZero}

-- ---- past 1 and 2

-- the number of an answer's refusal
abbrev refusal_of : Answer → ℕ
refusal_of a = (outcome_of a).refusal

-- the number of the refusal that an address and the tests behind it gave, or n where they gave
-- none: n is what later tests give
abbrev refusal_or : ℕ → Decoded → ℕ
refusal_or n (Ok r) = n
refusal_or n (Err why) = refusal_number why

module _ (c : Caps) (h : Hart) where
  -- presence
  decoded : (a n : ℕ) → refusal_or n (decode_of c a) ≡ first_of n number_of applies (NoSuchCsr when is_unknown (csr_at a) ∷ CsrAbsent when not (is_present_at c a) ∷ [])
  decoded a n = go (csr_at a) (is_present_at c a) refl
    where
      go : (f : Option Csr) (p : Bool) → is_present_at c a ≡ p → refusal_or n (decode_found c a f) ≡ first_of n number_of applies (NoSuchCsr when is_unknown f ∷ CsrAbsent when not p ∷ [])
      go None p e = refl
      go (Some r) true e = rw e
      go (Some r) false e = rw e

  -- behind it operand and mode
  accepted : (rd field n : ℕ) (d : Decoded) → refusal_or n (accepted_to h.mode rd field d)
      ≡ refusal_or (first_of n number_of applies (BadOperand when (ltb 31 rd || ltb 31 field) ∷ NotMachine when not (is_m h) ∷ [])) d
  accepted rd field n (Err why) = refl
  accepted rd field n (Ok r) = go (ltb 31 rd || ltb 31 field) (is_m h)
    where
      go : (q m : Bool) → refusal_or n (cond q (Err BadOperand) (cond m (Ok r) (Err NotMachine))) ≡ first_of n number_of applies (BadOperand when q ∷ NotMachine when not m ∷ [])
      go true m = refl
      go false true = refl
      go false false = refl

  -- behind all the line
  lined : (line : ℕ) (d : Decoded) → refusal_or 0 (line_to line d) ≡ refusal_or (first_of 0 number_of applies (BadLine when not (is_line line) ∷ [])) d
  lined line (Err why) = refl
  lined line (Ok r) = go (is_line line)
    where
      go : (l : Bool) → refusal_or 0 (cond l (Ok r) (Err BadLine)) ≡ first_of 0 number_of applies (BadLine when not l ∷ [])
      go true = refl
      go false = refl

  reading : (o : Host) (d : Decoded) → refusal_of (read_to c h o d) ≡ refusal_or 0 d
  reading o (Ok r) = refl
  reading o (Err why) = refl

  writing : (v : ℕ) (d : Decoded) → refusal_of (write_to c h v d).answer ≡ refusal_or 0 d
  writing v (Ok r) = refl
  writing v (Err why) = refl

  -- a step that is done where a test passes and else refused
  one : (t : Bool) (next : Hart) (why : Refusal) → refusal_of (cond t (done next) (refused h why)).answer ≡ first_of 0 number_of applies (why when not t ∷ [])
  one true next why = refl
  one false next why = refl

  taking : (t : Taken) → refusal_of (taken_step c h t).answer ≡ first_of 0 number_of applies (of_taken c h t)
  taking (Inject n) = one (is_interrupt c.interrupts n) (injected h n) BadInterrupt
  taking (Trap t) = go (is_interrupt_cause t) (is_trap c h t)
    where
      go : (a b : Bool) → refusal_of (cond a (refused h NotException) (cond b (done (trapped h t)) (refused h BadTrap))).answer ≡ first_of 0 number_of applies (NotException when a ∷ BadTrap when not b ∷ [])
      go true b = refl
      go false true = refl
      go false false = refl
  taking Mret = one (is_m h) (mret_of h) NotMachine
  taking Sret = go (is_m h) (has_s c)
    where
      go : (a b : Bool) → refusal_of (cond a (cond b (done (sret_of h)) (refused h NoSupervisor)) (refused h NotMachine)).answer ≡ first_of 0 number_of applies (NotMachine when not a ∷ NoSupervisor when not b ∷ [])
      go false b = refl
      go true true = refl
      go true false = refl

  past : (call : Call) → refusal_of (step_of c h call).answer ≡ first_of 0 number_of applies (of_step c h call)
  past (Fresh pc) = one (is_aligned (has_c c) pc) (fresh_of c mode_m pc) BadStart
  past (Read o a) = reading o (line_to o.line (decode_of c a)) ∙ lined o.line (decode_of c a) ∙ decoded a _
  past (Write a v) = writing v (decode_of c a) ∙ decoded a 0
  past (Instruction form op o a rd field) =
      go (accepted_of c h.mode a rd field o.line) ∙ lined o.line (accepted_to h.mode rd field (decode_of c a)) ∙ accepted rd field _ (decode_of c a) ∙ decoded a _
    where
      go : (d : Decoded) → refusal_of (emulated_to op c h o rd field (operand_of form h field) d).answer ≡ refusal_or 0 d
      go (Ok r) = refl
      go (Err why) = refl
  past Pending = refl
  past (Take t) = taking t

pub refusal_is : (call : Call) (c s : List ℕ) → (entry_of call c s).0.refusal ≡ first_of 0 number_of applies (refusals call c s)
unfolding entry_of given
refusal_is call c s = go (is_caps c) (is_lent call (caps_at c) s)
  where
    go : (a b : Bool)
        → (cond a (cond b (given s (step_of (caps_at c) (hart_at s) call)) (refused_by BadHart s)) (refused_by BadCaps s)).0.refusal
        ≡ first_of 0 number_of applies (BadCaps when not a ∷ BadHart when not b ∷ of_step (caps_at c) (hart_at s) call)
    go true true = past (caps_at c) (hart_at s) call
    go true false = refl
    go false b = refl

-- ---- the laws

-- each refusal has a number
pub positive : (why : Refusal) → eqb (refusal_number why) 0 ≡ false
positive BadCaps = refl
positive BadHart = refl
positive NoSuchCsr = refl
positive CsrAbsent = refl
positive BadOperand = refl
positive NotMachine = refl
positive NoSupervisor = refl
positive BadInterrupt = refl
positive NotException = refl
positive BadTrap = refl
positive BadStart = refl
positive BadLength = refl
positive BadMark = refl
positive UnknownVersion = refl
positive BadLine = refl
positive TotalFull = refl
positive BadEntry = refl
positive EntryWaits = refl
positive ShortBuffer = refl

-- so it is no refusal that has the number 0
pub refused_not : {A : Type 0} (why : Refusal) → refusal_number why ≡ 0 → A
refused_not why e = absurd (eqb-false (refusal_number why) 0 (positive why) e)

pub each_numbered : (rs : List Row) → Each (λ r. number_of r ≡ 0 → ⊥) rs
each_numbered [] = tt
each_numbered ((why when t) ∷ rs) = (eqb-false (refusal_number why) 0 (positive why), each_numbered rs)

pub in_order : (n : ℕ) (rs : List Row) → n ≡ first_of 0 number_of applies rs → InOrder n rs
in_order n rs e =
    record {
      none = subst (λ (k : ℕ). (k ≡ 0) ↔ Each (λ r. applies r ≡ false) rs) (sym e) (first_none 0 number_of applies rs (each_numbered rs));
      first = λ m z. subst (λ (k : ℕ). (k ≡ m) ↔ First number_of applies m rs) (sym e) (first_is 0 number_of applies m z rs);
    }

pub refused_in_order : RefusedInOrder
refused_in_order call c s = in_order (entry_of call c s).0.refusal (refusals call c s) (refusal_is call c s)

pub settings_read_in_order : SettingsReadInOrder
unfolding settings_read
settings_read_in_order f =
    in_order (settings_read f).refusal (of_settings_read f)
    (go (ltb (length f) head_bytes) (not (is_marked f)) (not (eqb (version_of f) version)) (not (eqb (length f) file_bytes)) (not (is_caps (image_in f))))
  where
    go : (s m v l i : Bool) → (read_by f s m v l i).refusal ≡ first_of 0 number_of applies (BadLength when s ∷ BadMark when m ∷ UnknownVersion when v ∷ BadLength when l ∷ BadCaps when i ∷ [])
    go true m v l i = refl
    go false true v l i = refl
    go false false true l i = refl
    go false false false true i = refl
    go false false false false true = refl
    go false false false false false = refl

-- what writing one gives, by its two tests
abbrev write_by : List ℕ → List ℕ → Bool → Bool → Outcome × List ℕ
write_by c f i l = cond i (refused_by BadCaps f) (cond l (refused_by BadLength f) (outcome_of (Ok (0, Nothing)), file_of c))

pub settings_write_in_order : SettingsWriteInOrder
unfolding settings_write
settings_write_in_order c f = in_order (settings_write c f).0.refusal (of_settings_write c f) (go (not (is_caps c)) (not (eqb (length f) file_bytes)))
  where
    go : (i l : Bool) → (write_by c f i l).0.refusal ≡ first_of 0 number_of applies (BadCaps when i ∷ BadLength when l ∷ [])
    go true b = refl
    go false true = refl
    go false false = refl

pub order_is_numbers : OrderIsNumbers
order_is_numbers call c s = ascending number_of (refusals call c s) (go call)
  where
    go : (k : Call) → ascends number_of (refusals k c s) ≡ true
    go (Fresh pc) = refl
    go (Read o a) = refl
    go (Write a v) = refl
    go (Instruction form op o a rd field) = refl
    go Pending = refl
    go (Take (Inject n)) = refl
    go (Take (Trap t)) = refl
    go (Take Mret) = refl
    go (Take Sret) = refl

pub write_order_is_numbers : WriteOrderIsNumbers
write_order_is_numbers c f = ascending number_of (of_settings_write c f) refl

pub is_lowest : (n : ℕ) (rs : List Row) → InOrder n rs → Ascending number_of rs → IsLowest n rs
is_lowest n rs o a z = lowest number_of applies (λ n. n) rs n a ((o.first n z).0 refl)

pub lowest_refused : LowestRefused
lowest_refused call c s = is_lowest (entry_of call c s).0.refusal (refusals call c s) (refused_in_order call c s) (order_is_numbers call c s)

pub write_lowest_refused : WriteLowestRefused
write_lowest_refused c f = is_lowest (settings_write c f).0.refusal (of_settings_write c f) (settings_write_in_order c f) (write_order_is_numbers c f)

pub refusal_touches_nothing : RefusalTouchesNothing
unfolding entry_of given
refusal_touches_nothing call c s = go (is_caps c) (is_lent call (caps_at c) s) (step_of (caps_at c) (hart_at s) call).hart (step_of (caps_at c) (hart_at s) call).answer
  where
    go : (a b : Bool) (h : Hart) (r : Answer)
        → ((cond a (cond b (given s (record { hart = h; answer = r })) (refused_by BadHart s)) (refused_by BadCaps s)).0.refusal ≡ 0 → ⊥)
        → Untouched (cond a (cond b (given s (record { hart = h; answer = r })) (refused_by BadHart s)) (refused_by BadCaps s)) s
    go true true h (Ok (v, e)) w = absurd (w refl)
    go true true h (Err why) w = record { answer = refl; effect = refl; bytes = refl }
    go true false h r w = record { answer = refl; effect = refl; bytes = refl }
    go false b h r w = record { answer = refl; effect = refl; bytes = refl }

pub refused_file_stays : RefusedFileStays
unfolding settings_write
refused_file_stays c f = go (not (is_caps c)) (not (eqb (length f) file_bytes))
  where
    go : (i l : Bool) → ((write_by c f i l).0.refusal ≡ 0 → ⊥) → Untouched (write_by c f i l) f
    go true l w = record { answer = refl; effect = refl; bytes = refl }
    go false true w = record { answer = refl; effect = refl; bytes = refl }
    go false false w = absurd (w refl)

pub refused_words_are_zero : RefusedWordsAreZero
unfolding settings_read
refused_words_are_zero f =
    go (ltb (length f) head_bytes) (not (is_marked f)) (not (eqb (version_of f) version)) (not (eqb (length f) file_bytes)) (not (is_caps (image_in f)))
  where
    go : (s m v l i : Bool) → ((read_by f s m v l i).refusal ≡ 0 → ⊥) → (read_by f s m v l i).words ≡ replicate caps_words 0
    go true m v l i w = refl
    go false true v l i w = refl
    go false false true l i w = refl
    go false false false true i w = refl
    go false false false false true w = refl
    go false false false false false w = absurd (w refl)

pub check_as_calls : CheckAsCalls
unfolding entry_of
check_as_calls call c s q z = go (is_caps c) (is_hart (caps_at c) s) refl (hart_refusal c s)
  where
    go : (a b : Bool) → is_hart (caps_at c) s ≡ b → (checked_hart c s).refusal ≡ cond a (cond b 0 (refusal_number BadHart)) (refusal_number BadCaps)
        → (cond a (cond (is_lent call (caps_at c) s) (given s (step_of (caps_at c) (hart_at s) call)) (refused_by BadHart s)) (refused_by BadCaps s)).0.refusal
        ≡ (checked_hart c s).refusal
    go true true p e = absurd (z e)
    go true false p e = rw (q, p) (sym e)
    go false b p e = sym e
