-- A legal record stays legal, whatever the calls, and so does an image: one induction over the list
-- of calls.
use mathlib.Core.Path.{◌≡◌, refl, sym, ap, ◌∙◌, subst}
use mathlib.Core.Bool.{Bool, true, false, cond}
use mathlib.Core.List.{List, [], ◌∷◌, ◌++◌}
use Prim.Native.Nat.{ℕ, zero, suc, ◌+◌, ◌*◌}
use lib.Dec.{eqb, lit<}
use lib.ListN.{length, get_or, length-append, length-set}
use borrow.Author.Tests.{eq-eqb}
use Rattle.std.specs.Prelude.{Some, None, Ok, Err}
use Rattle.bits.specs.Word.{Fits}
use Rattle.bits.proofs.Bools.{left, right, pair}
use Rattle.first.specs.Laws.{Each}
use Rattle.rules.specs.Addresses.{is_aligned}
use Rattle.image.specs.Inner.{Bytes}
use Rattle.image.specs.Word.{words_from}
use Rattle.image.proofs.Laws.{word_fits, length_words, length_image, bytes_image}
use Rattle.hart.specs.Words.{words, puts, words_of, set_x}
use Rattle.hart.specs.Laws.{FitsHart, FitsCaps, Legal}
use Rattle.hart.specs.Modes.{mode_m}
use Rattle.hart.specs.Caps.{has_c, has_s, legal_caps}
use Rattle.hart.specs.Legal.{legal_hart}
use Rattle.hart.specs.Fresh.{zeros, fresh_changes, fresh_of}
use Rattle.hart.specs.Answers.{done, refused}
use Rattle.hart.proofs.Put.{by_register}
use Rattle.hart.proofs.Laws.{puts_x, fresh_legal, fresh_fits}
use Rattle.hart.specs.declared.caps.Caps.{Caps}
use Rattle.hart.specs.declared.record.Hart.{Hart}
use Rattle.hart.specs.declared.record.Word.{Word}
use Rattle.hart.specs.declared.answer.Refusal.TheVariants.{NotMachine, NoSupervisor, BadInterrupt, NotException, BadTrap, BadStart}
use Rattle.hart.specs.Answers.{Answer}
use Rattle.hart.specs.declared.answer.Step.{Step}
use Rattle.csr.specs.Address.{Decoded, decode_of}
use Rattle.csr.specs.Line.{line_down}
use Rattle.csr.specs.Access.{read_of, stored_of, apply, write_to, hart_after}
use Rattle.csr.proofs.Laws.{write_keeps_legal}
use Rattle.csr.specs.declared.address.Csr.{Csr}
use Rattle.csr.specs.Access.{Change}
use Rattle.instr.specs.Instructions.{is_written, written, written_if, accepted_of, emulated_to, emulated}
use Rattle.instr.specs.declared.operation.Op.{Op}
use Rattle.hart.specs.declared.record.Host.{Host}
use Rattle.instr.proofs.Laws.{register_keeps_legal, immediate_keeps_legal}
use Rattle.trap.specs.Interrupts.{is_interrupt}
use Rattle.trap.specs.Steps.{is_m, inject_changes, injected, is_interrupt_cause, is_trap, trap_changes, trapped, mret_changes, mret_of, sret_changes, sret_of}
use Rattle.trap.proofs.Laws.{inject_keeps_legal, trap_keeps_legal, mret_keeps_legal, sret_keeps_legal}
use Rattle.lent.specs.Images.{caps_bytes, hart_bytes, caps_at, at_of, hart_at, bytes_of, is_caps, is_hart}
use Rattle.registers.specs.Operand.{operand_of}
use Rattle.registers.specs.declared.Form.TheVariants.{Register, Immediate}
use Rattle.calls.specs.Calls.{Call, Fresh, Read, Write, Instruction, Pending, Take, taken_step, step_of, is_start}
use Rattle.calls.specs.declared.steps.Taken.{Taken}
use Rattle.calls.specs.declared.steps.Taken.TheVariants.{Inject, Trap, Mret, Sret}
use Rattle.calls.specs.Entries.{bytes_after, given, is_lent, entry_of}
use Rattle.laws.specs.Laws.{FitsTaken, FitsCall, CallsKeepLegal, FreshStaysLegal, image_after, ImageStaysLegal, FreshImageStaysLegal}
use Rattle.lent.proofs.Views.{get_at, hart_bytes_lem}

-- ---- records

fresh_is_legal : (c : Caps) (pc : ℕ) → legal_caps c ≡ true → FitsCaps c → Fits pc → is_aligned (has_c c) pc ≡ true → Legal c (fresh_of c mode_m pc)
fresh_is_legal c pc l f q a = record { caps = l; hart = fresh_legal c pc f a; caps_fit = f; hart_fits = fresh_fits c pc q }

taken_keeps_legal : (c : Caps) (h : Hart) (t : Taken) → Legal c h → FitsTaken t → Legal c (taken_step c h t).hart
taken_keeps_legal c h (Inject n) l f = inject_keeps_legal c h n l f
taken_keeps_legal c h (Trap t) l f = trap_keeps_legal c h t l f
taken_keeps_legal c h Mret l f = mret_keeps_legal c h l
taken_keeps_legal c h Sret l f = sret_keeps_legal c h l

pub step_keeps_legal : (c : Caps) (h : Hart) (call : Call) → Legal c h → FitsCall call → Legal c (step_of c h call).hart
step_keeps_legal c h (Fresh pc) l f = go (is_aligned (has_c c) pc) refl
  where
    go : (b : Bool) → is_aligned (has_c c) pc ≡ b → Legal c (cond b (done (fresh_of c mode_m pc)) (refused h BadStart)).hart
    go true e = fresh_is_legal c pc l.caps l.caps_fit f e
    go false e = l
step_keeps_legal c h (Read o a) l f = l
step_keeps_legal c h (Write a v) l f = write_keeps_legal c h a v l f
step_keeps_legal c h (Instruction Register op o a rd rs1) l f = register_keeps_legal op c h o a rd rs1 l f.0
step_keeps_legal c h (Instruction Immediate op o a rd imm) l f = immediate_keeps_legal op c h o a rd imm l f.0 f.1
step_keeps_legal c h Pending l f = l
step_keeps_legal c h (Take t) l f = taken_keeps_legal c h t l f

pub calls_keep_legal : CallsKeepLegal
calls_keep_legal c [] h l f = l
calls_keep_legal c (call ∷ ks) h l f = calls_keep_legal c ks (step_of c h call).hart (step_keeps_legal c h call l f.0) f.1

pub fresh_stays_legal : FreshStaysLegal
fresh_stays_legal c pc ks l fc q a f = calls_keep_legal c ks (fresh_of c mode_m pc) (fresh_is_legal c pc l fc q a) f

-- ---- a record has 32 general registers, and every step leaves it so

abbrev pub Has32 : Hart → Type 0
Has32 h = length h.x ≡ 32

either : (b : Bool) (t u : Step) → Has32 t.hart → Has32 u.hart → Has32 (cond b t u).hart
either true t u p q = p
either false t u p q = q

changed : (ks : List (Word × ℕ)) (h : Hart) → Has32 h → Has32 (puts ks h)
changed ks h n = ap length (puts_x ks h) ∙ n

after : (c : Caps) (h : Hart) (r : Csr) (v : ℕ) → Has32 h → Has32 (hart_after c h r v)
after c h r v n = go (stored_of c h r v)
  where
    go : (k : Change) → Has32 (apply k h)
    go None = n
    go (Some (w, x)) = changed ((w, x) ∷ []) h n

fresh_has_32 : (c : Caps) (pc : ℕ) → Has32 (fresh_of c mode_m pc)
fresh_has_32 c pc = changed (fresh_changes c mode_m pc) zeros refl

instruction_has_32 : (op : Op) (c : Caps) (h : Hart) (o : Host) (a rd field x : ℕ) → Has32 h → Has32 (emulated op c h o a rd field x).hart
instruction_has_32 op c h o a rd field x n = go (accepted_of c h.mode a rd field o.line)
  where
    set_has_32 : (v : ℕ) (g : Hart) → Has32 g → Has32 (set_x rd v g)
    set_has_32 v g m = by_register Has32 rd v g m (λ e. length-set g.x rd v ∙ m)

    next : (w : Bool) (r : Csr) (v : ℕ) → Has32 (written_if w c h r v)
    next true r v = after c h r v n
    next false r v = n

    go : (d : Decoded) → Has32 (emulated_to op c h o rd field x d).hart
    go (Err why) = n
    go (Ok r) =
        let v = written op (read_of c h (line_down o) r) x in
        set_has_32 (read_of c h o r) (written_if (is_written op field) c h r v) (next (is_written op field) r v)

taken_has_32 : (c : Caps) (h : Hart) (t : Taken) → Has32 h → Has32 (taken_step c h t).hart
taken_has_32 c h (Inject i) n = either (is_interrupt c.interrupts i) (done (injected h i)) (refused h BadInterrupt) (changed (inject_changes h i) h n) n
taken_has_32 c h (Trap t) n = either (is_interrupt_cause t) (refused h NotException) _ n (either (is_trap c h t) (done (trapped h t)) (refused h BadTrap) (changed (trap_changes h t) h n) n)
taken_has_32 c h Mret n = either (is_m h) (done (mret_of h)) (refused h NotMachine) (changed (mret_changes h) h n) n
taken_has_32 c h Sret n = either (is_m h) _ (refused h NotMachine) (either (has_s c) (done (sret_of h)) (refused h NoSupervisor) (changed (sret_changes h) h n) n) n

pub step_has_32 : (c : Caps) (h : Hart) (call : Call) → Has32 h → Has32 (step_of c h call).hart
step_has_32 c h (Fresh pc) n = either (is_aligned (has_c c) pc) (done (fresh_of c mode_m pc)) (refused h BadStart) (fresh_has_32 c pc) n
step_has_32 c h (Read o a) n = n
step_has_32 c h (Write a v) n = go (decode_of c a)
  where
    go : (d : Decoded) → Has32 (write_to c h v d).hart
    go (Err why) = n
    go (Ok r) = after c h r v n
step_has_32 c h (Instruction form op o a rd field) n = instruction_has_32 op c h o a rd field (operand_of form h field) n
step_has_32 c h Pending n = n
step_has_32 c h (Take t) n = taken_has_32 c h t n

-- ---- images

-- what bytes hold has 64 bits
caps_fit_lem : (c : List ℕ) → Bytes c → FitsCaps (caps_at c)
caps_fit_lem c b = record {
  misa = word_fits c 0 b;
  interrupts = word_fits c 8 b;
  highest = word_fits c 16 b;
  flags = word_fits c 24 b;
  mhartid = word_fits c 32 b;
  mvendorid = word_fits c 40 b;
  marchid = word_fits c 48 b;
  mimpid = word_fits c 56 b;
  mconfigptr = word_fits c 64 b;
}

hart_fits_lem : (s : List ℕ) → Bytes s → FitsHart (hart_at s)
unfolding hart_at
hart_fits_lem s b = record { words = λ w. subst Fits (sym (get_at w s)) (word_fits s (at_of w) b); registers = run 0 32 }
  where
    run : (at n i : ℕ) → Fits (get_or (words_from s at n) i 0)
    run at zero i = lit< tt
    run at (suc n) zero = word_fits s at b
    run at (suc n) (suc i) = run (at + 8) n i

pub hart_has_32 : (s : List ℕ) → Has32 (hart_at s)
unfolding hart_at
hart_has_32 s = length_words s 0 32

-- bytes, of a legal record
pub record Good (c s : List ℕ) : Type 0 where
  pub bytes : Bytes s
  pub legal : is_hart (caps_at c) s ≡ true

pub image_bytes : (h : Hart) → Bytes (bytes_of h)
unfolding bytes_of
image_bytes h = bytes_image (h.x ++ words_of h)

pub image_sized : (h : Hart) → Has32 h → length (bytes_of h) ≡ hart_bytes
unfolding bytes_of
image_sized h n = length_image (h.x ++ words_of h) ∙ ap (λ (i : ℕ). 8 * i) (length-append h.x (words_of h) ∙ ap (λ (i : ℕ). i + length words) n)

pub image_good : (c : List ℕ) (h : Hart) → Legal (caps_at c) h → Has32 h → Good c (bytes_of h)
unfolding is_hart
image_good c h l n = record {
  bytes = image_bytes h;
  legal = pair (eqb (length (bytes_of h)) hart_bytes) (legal_hart (caps_at c) (hart_at (bytes_of h))) (eq-eqb _ _ (image_sized h n)) (ap (legal_hart (caps_at c)) (hart_bytes_lem h l.hart_fits n) ∙ l.hart);
}

module _ (c : List ℕ) (bc : Bytes c) (ok : is_caps c ≡ true) where
  caps_legal : legal_caps (caps_at c) ≡ true
  unfolding is_caps
  caps_legal = right (eqb (length c) caps_bytes) (legal_caps (caps_at c)) ok

  pub record_legal : (s : List ℕ) → Good c s → Legal (caps_at c) (hart_at s)
  unfolding is_hart
  record_legal s g = record {
    caps = caps_legal;
    hart = right (eqb (length s) hart_bytes) (legal_hart (caps_at c) (hart_at s)) g.legal;
    caps_fit = caps_fit_lem c bc;
    hart_fits = hart_fits_lem s g.bytes;
  }

  -- the bytes that an entry leaves, where the images are what it asks for
  left_by : (call : Call) (s : List ℕ) → is_lent call (caps_at c) s ≡ true
      → (entry_of call c s).1 ≡ bytes_after s (step_of (caps_at c) (hart_at s) call).hart (step_of (caps_at c) (hart_at s) call).answer
  unfolding entry_of given
  left_by call s e = rw (ok, e)

  lent : (call : Call) (s : List ℕ) → Good c s → is_lent call (caps_at c) s ≡ true
  unfolding is_hart
  lent call s g = go (is_start call)
    where
      go : (b : Bool) → cond b (eqb (length s) hart_bytes) (is_hart (caps_at c) s) ≡ true
      go true = left (eqb (length s) hart_bytes) (legal_hart (caps_at c) (hart_at s)) g.legal
      go false = g.legal

  entry_good : (call : Call) (s : List ℕ) → Good c s → FitsCall call → Good c (entry_of call c s).1
  entry_good call s g f = subst (Good c) (sym (left_by call s (lent call s g))) (go t.answer)
    where
      t : Step
      t = step_of (caps_at c) (hart_at s) call

      go : (r : Answer) → Good c (bytes_after s t.hart r)
      go (Ok (v, e)) = image_good c t.hart (step_keeps_legal (caps_at c) (hart_at s) call (record_legal s g) f) (step_has_32 (caps_at c) (hart_at s) call (hart_has_32 s))
      go (Err why) = g

  images_good : (ks : List Call) (s : List ℕ) → Good c s → Each FitsCall ks → Good c (image_after c s ks)
  images_good [] s g f = g
  images_good (call ∷ ks) s g f = images_good ks (entry_of call c s).1 (entry_good call s g f.0) f.1

pub image_stays_legal : ImageStaysLegal
image_stays_legal c ks s bc bs ok l f = (images_good c bc ok ks s (record { bytes = bs; legal = l }) f).legal

pub fresh_image_stays_legal : FreshImageStaysLegal
fresh_image_stays_legal c pc ks s bc bs ok n q a f = (images_good c bc ok ks (entry_of (Fresh pc) c s).1 (subst (Good c) (sym (left_by c bc ok (Fresh pc) s (eq-eqb (length s) hart_bytes n) ∙ made)) (image_good c (fresh_of (caps_at c) mode_m pc) (fresh_is_legal (caps_at c) pc (caps_legal c bc ok) (caps_fit_lem c bc) q a) (fresh_has_32 (caps_at c) pc))) f).legal
  where
    made : bytes_after s (step_of (caps_at c) (hart_at s) (Fresh pc)).hart (step_of (caps_at c) (hart_at s) (Fresh pc)).answer ≡ bytes_of (fresh_of (caps_at c) mode_m pc)
    made = rw a
