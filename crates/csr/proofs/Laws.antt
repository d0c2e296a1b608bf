-- The laws of reads and writes: each follows, for any CSR, from its being lawful.
use mathlib.Core.Path.{◌≡◌, refl, sym, ap, ap₂, ◌∙◌, subst}
use mathlib.Core.Bool.{Bool, true, false, cond, ◌&&◌}
use Prim.Native.Nat.{ℕ}
use native.Mathlib.Omega.{arith}
use lib.Bits.{bit_or}
use lib.Dec.{eqb}
use borrow.Author.Tests.{eqb-true, eqb-false, ne_eqb}
use Rattle.std.specs.Prelude.{Option, Some, None, Ok, Err}
use Rattle.bits.specs.Word.{Fits}
use Rattle.rules.specs.Status.{read_sstatus}
use Rattle.rules.specs.Interrupts.{read_delegated, read_mip, has_seip, written_sip}
use Rattle.rules.specs.Config.{read_tselect}
use Rattle.rules.proofs.StatusLaws.{sstatus_read_fits}
use Rattle.rules.proofs.InterruptLaws.{delegated_fits, mip_read_fits, mip_up, mip_down, sip_up, sip_seip}
use Rattle.rules.proofs.ConfigLaws.{tselect_fits}
use Rattle.hart.specs.Words.{get, put}
use Rattle.hart.specs.Caps.{has_s}
use Rattle.hart.specs.Laws.{FitsHart, Legal}
use Rattle.hart.proofs.Put.{get_same}
use Rattle.hart.proofs.Legal.{legal_word_lem}
use Rattle.hart.proofs.Laws.{conditions, put_get, put_put, put_keeps_legal}
use Rattle.hart.specs.declared.caps.Caps.{Caps}
use Rattle.hart.specs.declared.record.Hart.{Hart}
use Rattle.hart.specs.declared.record.Host.{Host}
use Rattle.hart.specs.declared.record.Word.TheVariants as words
use Rattle.hart.specs.declared.answer.Refusal.TheVariants.{CsrAbsent, BadLine}
use Rattle.hart.specs.declared.answer.Effect.{Effect}
use Rattle.hart.specs.declared.answer.Effect.TheVariants.{Nothing, SetSeip, ClearSeip}
use Rattle.csr.specs.Address.{address_of, csr_at, is_present_at, is_present, Decoded, decode_found, decode_of}
use Rattle.csr.specs.Line.{is_line, raises_seip, line_down, line_to}
use Rattle.csr.specs.Access.{read_of, stored_of, apply, hart_after, seip_change, step_to, read_to, write_to}
use Rattle.csr.specs.Laws.{DecodedIsPresent, LegalKept, WriteBack, MipBack, SameAsksNothing, TselectBack, SipAsksNothing, SecondAlone, ReadAfterWrite, LineShowsSeip, WriteKeepsLegal, WriteBackAt, MipBackAt, SecondAloneAt, ReadFits, ReadOfCsr, ReadDone, ReadFitsAt, WriteDone, is_claimed_at, view_at, view, read_after}
use Rattle.csr.specs.Inner.{shown_at}
use Rattle.csr.proofs.Lawful.{Rule, Lawful, ignores, has, stored_read, lawful}
use Rattle.csr.specs.declared.address.Csr.{Csr}
use Rattle.csr.specs.declared.address.Csr.TheVariants.{Mip, Sip}
use Rattle.csr.specs.Access.{Change}
pub use Rattle.csr.proofs.Found.{found_at_its_address}

-- ---- addresses

pub decoded_is_present : DecodedIsPresent
decoded_is_present c a r e = go (csr_at a) refl e
  where
    there : (s : Csr) (b : Bool) → is_present_at c a ≡ b → address_of s ≡ a → cond b (Ok s) (Err CsrAbsent) ≡ Ok r → (address_of r ≡ a) × (is_present c r ≡ true)
    there s true p q f = let here : address_of r ≡ a = (let same : s ≡ r = cc in sym (ap address_of same) ∙ q) in (here, ap (is_present_at c) here ∙ p)
    there s false p q f = let z : ◌≡◌ {A = ℕ} 0 1 = cc in absurd (omega arith)

    go : (f : Option Csr) → csr_at a ≡ f → decode_found c a f ≡ Ok r → (address_of r ≡ a) × (is_present c r ≡ true)
    go (Some s) q f = there s (is_present_at c a) refl (found_at_its_address a s q) f
    go None q f = let z : ◌≡◌ {A = ℕ} 0 1 = cc in absurd (omega arith)

-- ---- a write is ignored, or goes by a rule

unchanged : (c : Caps) (h : Hart) (r : Csr) (v : ℕ) → stored_of c h r v ≡ None → hart_after c h r v ≡ h
unchanged c h r v e = ap (λ (k : Change). apply k h) e

by_rule : (c : Caps) (h : Hart) (r : Csr) (k : Rule r) (v : ℕ) → hart_after c h r v ≡ put k.word (k.stores c h v) h
by_rule c h r k v = ap (λ (x : Change). apply x h) (k.is c h v)

pub legal_kept : LegalKept
legal_kept c h r v l q p = go (lawful r)
  where
    go : Lawful r → Legal c (hart_after c h r v)
    go (ignores e f s) = subst (Legal c) (sym (unchanged c h r v (e c h v))) l
    go (has k) =
        subst (Legal c) (sym (by_rule c h r k v))
        (put_keeps_legal c h k.word (k.stores c h v) l (k.fits c h v l.caps_fit l.hart_fits q) (k.legal c h v l q p))

-- it reads what it shows of its word
reads : (c : Caps) (h : Hart) (o : Host) (r : Csr) (k : Rule r) → read_of c h o r ≡ view c h o r (get k.word h)
reads c h o r k = ap (λ (x : Hart). read_of c x o r) (sym (put_get k.word h)) ∙ k.shows c h o (get k.word h)

pub write_back : WriteBack
write_back c h o r l p n d = go (lawful r)
  where
    go : Lawful r → hart_after c h r (read_of c h o r) ≡ h
    go (ignores e f s) = unchanged c h r (read_of c h o r) (e c h (read_of c h o r))
    go (has k) =
        ap (hart_after c h r) (reads c h o r k) ∙ by_rule c h r k (view c h o r (get k.word h)) ∙ ap (λ (x : ℕ). put k.word x h) (k.back c h o l p n d)
        ∙ put_get k.word h

-- while the line is down mip reads what is stored
pub mip_back : MipBack
unfolding read_of
mip_back c h l = ap (hart_after c h Mip) (sym (mip_down h.mip)) ∙ write_back c h down Mip l refl (λ e. let z : ◌≡◌ {A = ℕ} 0 1 = cc in absurd (omega arith)) (λ e. refl)
  where
    down : Host
    down = record { time = 0; seed = 0; line = 0 }

pub second_alone : SecondAlone
second_alone c h r v w fc fh a b p = go (lawful r)
  where
    go : Lawful r → hart_after c (hart_after c h r v) r w ≡ hart_after c h r w
    go (ignores e f s) = ap (λ (x : Hart). hart_after c x r w) (unchanged c h r v (e c h v))
    go (has k) =
        ap (λ (x : Hart). hart_after c x r w) (by_rule c h r k v)
        ∙ by_rule c (put k.word (k.stores c h v) h) r k w
        ∙ ap (λ (x : ℕ). put k.word x (put k.word (k.stores c h v) h)) (k.second c h v w fc fh a b p)
        ∙ put_put k.word (k.stores c h w) (k.stores c h v) h
        ∙ sym (by_rule c h r k w)

pub read_after_write : ReadAfterWrite
read_after_write c h o r v = go (lawful r)
  where
    go : Lawful r → read_of c (hart_after c h r v) o r ≡ read_after c h o r (stored_of c h r v)
    go (ignores e f s) = ap (λ (x : Hart). read_of c x o r) (unchanged c h r v (e c h v)) ∙ sym (ap (read_after c h o r) (e c h v))
    go (has k) =
        ap (λ (x : Hart). read_of c x o r) (by_rule c h r k v) ∙ k.shows c h o (k.stores c h v) ∙ sym (ap (read_after c h o r) (k.is c h v))

-- what is shown of 64 bits has 64 bits
view_fits : (up : Bool) (h : Hart) (a x : ℕ) → FitsHart h → Fits x → Fits (view_at up h a x)
view_fits up h a x f q = go (eqb a 0x100) (eqb a 0x344) (eqb a 0x104) (eqb a 0x144) (eqb a 0x7A0)
  where
    go : (s m d i t : Bool)
        → Fits (cond s (read_sstatus x) (cond m (read_mip up x) (cond d (read_delegated h.mideleg x) (cond i (read_delegated h.mideleg (read_mip up x)) (cond t (read_tselect x) x)))))
    go true m d i t = sstatus_read_fits x q
    go false true d i t = mip_read_fits up x q
    go false false true i t = delegated_fits h.mideleg x (f.words words.Mideleg) q
    go false false false true t = delegated_fits h.mideleg (read_mip up x) (f.words words.Mideleg) (mip_read_fits up x q)
    go false false false false true = tselect_fits x q
    go false false false false false = q

pub read_fits : ReadFits
read_fits c h o r fc fh fo = go (lawful r)
  where
    go : Lawful r → Fits (read_of c h o r)
    go (ignores e f s) = f c h o fc fh fo
    go (has k) = subst Fits (sym (reads c h o r k)) (view_fits (raises_seip c o) h (address_of r) (get k.word h) fh (fh.words k.word))

-- ---- the controller's line

pub line_shows_seip : LineShowsSeip
unfolding read_of
line_shows_seip c h o = record {
  mip = λ s u. ap (λ (b : Bool). read_mip b h.mip) (raises s u) ∙ mip_up h.mip;
  sip = λ l s u.
      ap (λ (b : Bool). read_delegated h.mideleg (read_mip b h.mip)) (raises s u)
      ∙ sip_up c.interrupts h.mideleg h.mip l.caps_fit.interrupts (l.hart_fits.words words.Mideleg) (l.hart_fits.words words.Mip) (((conditions c).mideleg s h.mideleg).0 (legal_word_lem c h l.hart words.Mideleg))
      ∙ sym (ap (λ (m : ℕ). bit_or (read_delegated h.mideleg m) 0x200) (mip_down h.mip));
  stored = stored_read c o h.mip;
  without_s = λ r e. same r (λ x. ap (λ (b : Bool). view_at b h (address_of r) x) (none e (eqb o.line 1)));
  elsewhere = λ r m i. same r (λ x. rw (ne_eqb (address_of r) 0x344 m, ne_eqb (address_of r) 0x144 i));
}
  where
    raises : has_s c ≡ true → o.line ≡ 1 → raises_seip c o ≡ true
    raises s u = ap₂ (λ (n : ℕ) (b : Bool). eqb n 1 && b) u s

    none : has_s c ≡ false → (b : Bool) → (b && has_s c) ≡ false
    none e true = e
    none e false = refl

    -- a CSR whose view of a word is the same reads the same
    same : (r : Csr) → ((x : ℕ) → view_at (raises_seip c o) h (address_of r) x ≡ view_at false h (address_of r) x) → read_of c h o r ≡ read_of c h (line_down o) r
    same r e = go (lawful r)
      where
        go : Lawful r → read_of c h o r ≡ read_of c h (line_down o) r
        go (ignores w f s) = s c h o
        go (has k) = reads c h o r k ∙ e (get k.word h) ∙ sym (reads c h (line_down o) r k)

-- a read with the line is made of one with the line down
pub read_shown : (c : Caps) (h : Hart) (o : Host) (a : ℕ) (r : Csr) → csr_at a ≡ Some r → shown_at (raises_seip c o) h a (read_of c h (line_down o) r) ≡ read_of c h o r
unfolding csr_at read_of
read_shown c h o a r e = go (eqb a 0x344) (eqb a 0x144) refl refl
  where
    is : (b : ℕ) (s : Csr) → csr_at b ≡ Some s → eqb a b ≡ true → read_of c h o s ≡ read_of c h o r
    is b s f t = let same : s ≡ r = (let there : csr_at a ≡ Some s = ap csr_at (eqb-true a b t) ∙ f in cc) in ap (read_of c h o) same

    go : (m i : Bool) → eqb a 0x344 ≡ m → eqb a 0x144 ≡ i
        → cond m (read_mip (raises_seip c o) h.mip) (cond i (read_delegated h.mideleg (read_mip (raises_seip c o) h.mip)) (read_of c h (line_down o) r)) ≡ read_of c h o r
    go true i s t = is 0x344 Mip refl s
    go false true s t = is 0x144 Sip refl t
    go false false s t = sym ((line_shows_seip c h o).elsewhere r (elsewhere 0x344 s) (elsewhere 0x144 t))
      where
        elsewhere : (b : ℕ) → eqb a b ≡ false → address_of r ≡ b → ⊥
        elsewhere b f g = eqb-false a b f (sym (found_at_its_address a r e) ∙ g)

-- ---- effects

-- where SEIP stays, nothing is asked
calm : (old new : ℕ) → has_seip new ≡ has_seip old → seip_change old new ≡ Nothing
unfolding seip_change
calm old new e = ap (λ (b : Bool). cond b (cond (has_seip old) Nothing SetSeip) (cond (has_seip old) ClearSeip Nothing)) e ∙ same (has_seip old)
  where
    same : (b : Bool) → cond b (cond b Nothing SetSeip) (cond b ClearSeip Nothing) ≡ Nothing
    same true = refl
    same false = refl

pub same_asks_nothing : SameAsksNothing
same_asks_nothing h = calm h.mip h.mip refl

pub tselect_back : TselectBack
unfolding read_of stored_of
tselect_back c h o = refl

pub sip_asks_nothing : SipAsksNothing
unfolding stored_of
sip_asks_nothing c h v f q =
    ap (seip_change h.mip) (get_same words.Mip (written_sip h.mip v) h)
    ∙ calm h.mip (written_sip h.mip v) (sip_seip h.mip (f.words words.Mip) v q)

-- ---- by address

pub read_done : ReadDone
read_done c h o a v e q = go (decode_of c a) refl (is_line o.line) refl q
  where
    go : (d : Decoded) → decode_of c a ≡ d → (b : Bool) → is_line o.line ≡ b → read_to c h o (line_to o.line d) ≡ Ok (v, e) → ReadOfCsr c h o a v
    go (Ok r) f true l p = let done = ap (λ (b : Bool). read_to c h o (cond b (Ok r) (Err BadLine))) (sym l) ∙ p in let same : ◌≡◌ {A = ℕ × Effect} (read_of c h o r, Nothing) (v, e) = cc in record { csr = r; decoded = f; line = l; value = ap (λ (q : ℕ × Effect). q.0) same }
    go (Ok r) f false l p = let refused = ap (λ (b : Bool). read_to c h o (cond b (Ok r) (Err BadLine))) (sym l) ∙ p in let z : ◌≡◌ {A = ℕ} 0 1 = cc in absurd (omega arith)
    go (Err why) f b l p = let z : ◌≡◌ {A = ℕ} 0 1 = cc in absurd (omega arith)

pub read_fits_at : ReadFitsAt
read_fits_at c h o a v e fc fh fo q = let of = read_done c h o a v e q in subst Fits of.value (read_fits c h o of.csr fc fh fo)

pub write_done : WriteDone
write_done c h a v r e = ap (write_to c h v) e

pub write_keeps_legal : WriteKeepsLegal
write_keeps_legal c h a v l q = go (decode_of c a) refl
  where
    go : (d : Decoded) → decode_of c a ≡ d → Legal c (write_to c h v d).hart
    go (Ok r) e = legal_kept c h r v l q (decoded_is_present c a r e).1
    go (Err why) e = l

pub write_back_at : WriteBackAt
write_back_at c h o a v e l q n m =
    write_done c h a v of.csr of.decoded
    ∙ ap (step_to h) (ap (hart_after c h of.csr) (sym of.value) ∙ write_back c h o of.csr l at.1 (λ t. n (sym at.0 ∙ ap address_of t)) (λ t. m (sym at.0 ∙ ap address_of t)))
    ∙ ap (λ (x : Effect). record { hart = h; answer = Ok (0, x) }) (same_asks_nothing h)
  where
    of : ReadOfCsr c h o a v
    of = read_done c h o a v e q

    at : (address_of of.csr ≡ a) × (is_present c of.csr ≡ true)
    at = decoded_is_present c a of.csr of.decoded

pub mip_back_at : MipBackAt
unfolding csr_at
mip_back_at c h l = ap (step_to h) (mip_back c h l) ∙ ap (λ (x : Effect). record { hart = h; answer = Ok (0, x) }) (same_asks_nothing h)

pub second_alone_at : SecondAloneAt
second_alone_at c h a v w fc fh p q k = go (decode_of c a) refl
  where
    go : (d : Decoded) → decode_of c a ≡ d → (write_to c (write_to c h v d).hart w d).hart ≡ (write_to c h w d).hart
    go (Ok r) e = second_alone c h r v w fc fh p q (ap (λ (x : ℕ). is_claimed_at c x w) (decoded_is_present c a r e).0 ∙ k)
    go (Err why) e = refl
