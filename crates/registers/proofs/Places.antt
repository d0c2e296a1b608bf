-- Where each CSR's word stands: computed of every row.
use mathlib.Core.Path.{◌≡◌, refl, sym, ap, ◌∙◌, subst}
use mathlib.Core.Logic.{◌⊎◌, inl, inr}
use mathlib.Core.Bool.{Bool, true, false, cond, not, ◌||◌}
use mathlib.Core.List.{List}
use Prim.Native.Nat.{ℕ, ◌+◌, ◌*◌, ◌≤◌}
use native.Mathlib.Omega.{arith}
use lib.Dec.{T, eqb, leb, ltb}
use lib.ListN.{length}
use borrow.Author.Tests.{eqb-true, ne_eqb, leb-true}
use Rattle.std.specs.Prelude.{Some, None}
use Rattle.bits.specs.Word.{Fits}
use Rattle.image.specs.Inner.{Bytes, put_at}
use Rattle.image.specs.Word.{word_at}
use Rattle.image.proofs.Laws.{word_fits, word_same, word_other, put_back}
use Rattle.hart.specs.declared.caps.Caps.{Caps}
use Rattle.hart.specs.declared.record.Hart.{Hart}
use Rattle.hart.specs.declared.record.Word.TheVariants.{Mip}
use Rattle.hart.specs.declared.answer.Effect.{Effect}
use Rattle.hart.specs.declared.answer.Effect.TheVariants.{Nothing}
use Rattle.csr.specs.Address.{address_of, csr_at}
use Rattle.csr.specs.Access.{stored_of, left_by, apply, seip_change}
use Rattle.csr.specs.declared.address.Csr.{Csr}
use Rattle.csr.specs.Access.{Change}
use Rattle.csr.specs.Inner.{shown_at}
use Rattle.csr.proofs.Found.{every_found, every_csr, found_at_its_address}
use Rattle.csr.proofs.Laws.{same_asks_nothing}
use Rattle.lent.specs.Images.{hart_bytes, at_of, hart_at}
use Rattle.lent.proofs.Views.{get_at, hart_put}
use Rattle.registers.specs.Inner.{changed_to}
use Rattle.registers.specs.Table.{row_of, place_at, word_in}

-- a word has 64 bits
pub fits_in : (caps hart : List ℕ) → Bytes caps → Bytes hart → (n : ℕ) → Fits (word_in caps hart n)
fits_in caps hart b d n = go (ltb n 32)
  where
    go : (t : Bool) → Fits (cond t (word_at caps (8 * n)) (word_at hart (8 * n)))
    go true = word_fits caps (8 * n) b
    go false = word_fits hart (8 * n) d

-- the line shows in the CSRs of mip alone
pub unlined : (a : ℕ) (r : Csr) → csr_at a ≡ Some r → ((row_of r).word ≡ 37 → ⊥) → (up : Bool) (h : Hart) (old : ℕ) → old ≡ shown_at up h a old
unlined a r e n up h old = rw ((none (eqb a 0x344) (eqb a 0x144) refl refl apart).0, (none (eqb a 0x344) (eqb a 0x144) refl refl apart).1)
  where
    lined : Csr → Bool
    lined s = not (eqb (address_of s) 0x344 || eqb (address_of s) 0x144) || eqb (row_of s).word 37

    apart : (not (eqb a 0x344 || eqb a 0x144) || false) ≡ true
    apart = sym (ap (λ b. not (eqb a 0x344 || eqb a 0x144) || b) (ne_eqb (row_of r).word 37 n))
        ∙ ap (λ m. not (eqb m 0x344 || eqb m 0x144) || eqb (row_of r).word 37) (sym (found_at_its_address a r e)) ∙ every_found lined refl a r e

    none : (p q : Bool) → eqb a 0x344 ≡ p → eqb a 0x144 ≡ q → (not (p || q) || false) ≡ true → (eqb a 0x344 ≡ false) × (eqb a 0x144 ≡ false)
    none true q f g t = absurd (subst T (sym t) tt)
    none false true f g t = absurd (subst T (sym t) tt)
    none false false f g t = (f, g)

-- where a change puts its word; n where it is ignored
abbrev where_of : Change → ℕ → ℕ
where_of None n = n
where_of (Some (w, y)) n = at_of w

module _ (r : Csr) where
  -- a write goes where the word stands
  stored_there : (c : Caps) (h : Hart) (v : ℕ) → place_at r ≡ where_of (stored_of c h r v) (place_at r)
  unfolding stored_of
  stored_there c h v = eqb-true _ _ (every_csr (λ s. eqb (place_at s) (where_of (stored_of c h s v) (place_at s))) refl (λ n. refl) (λ n. refl) r)

  -- another place than mip's doesn't meet it
  apart : (place_at r ≡ 296 → ⊥) → (296 + 8 ≤ place_at r) ⊎ (place_at r + 8 ≤ 296)
  apart n = go (leb 304 (place_at r)) refl
    where
      far : (eqb (place_at r) 296 || (leb 304 (place_at r) || leb (place_at r + 8) 296)) ≡ true
      far = every_csr (λ s. eqb (place_at s) 296 || (leb 304 (place_at s) || leb (place_at s + 8) 296)) refl (λ n. refl) (λ n. refl) r

      go : (b : Bool) → leb 304 (place_at r) ≡ b → (296 + 8 ≤ place_at r) ⊎ (place_at r + 8 ≤ 296)
      go true e = inl (leb-true 304 (place_at r) e)
      go false e = inr (leb-true (place_at r + 8) 296 (sym (ap (λ b. b || leb (place_at r + 8) 296) e) ∙ sym (ap (λ b. b || (leb 304 (place_at r) || leb (place_at r + 8) 296)) (ne_eqb (place_at r) 296 n)) ∙ far))

  module _ (s : List ℕ) (l : length s ≡ hart_bytes) (b : Bytes s) where
    -- what a write leaves, stored where the word stands, is the record that the write makes
    hart_left : (c : Caps) (v : ℕ) → Fits (left_by (stored_of c (hart_at s) r v) (word_at s (place_at r)))
        → hart_at (put_at s (place_at r) (left_by (stored_of c (hart_at s) r v) (word_at s (place_at r)))) ≡ apply (stored_of c (hart_at s) r v) (hart_at s)
    hart_left c v = go (stored_of c (hart_at s) r v) (stored_there c (hart_at s) v)
      where
        go : (k : Change) → place_at r ≡ where_of k (place_at r) → Fits (left_by k (word_at s (place_at r))) → hart_at (put_at s (place_at r) (left_by k (word_at s (place_at r)))) ≡ apply k (hart_at s)
        go None q f = ap hart_at (put_back s (place_at r) b)
        go (Some (w, y)) q f = ap (λ n. hart_at (put_at s n y)) q ∙ hart_put s w y l f

    -- .. and the word as it stands changes nothing
    pub hart_if : (c : Caps) (v : ℕ) (writes : Bool) → Fits (left_by (stored_of c (hart_at s) r v) (word_at s (place_at r)))
        → hart_at (put_at s (place_at r) (cond writes (left_by (stored_of c (hart_at s) r v) (word_at s (place_at r))) (word_at s (place_at r)))) ≡ cond writes (apply (stored_of c (hart_at s) r v) (hart_at s)) (hart_at s)
    hart_if c v true f = hart_left c v f
    hart_if c v false f = ap hart_at (put_back s (place_at r) b)

    -- what a stored word asks for: that of mip by its bit 9, any other nothing
    module _ (x : ℕ) (f : Fits x) (next : Hart) (e : hart_at (put_at s (place_at r) x) ≡ next) where
      pub of_mip : place_at r ≡ 296 → (seip_change (word_at s (place_at r)) x, next) ≡ changed_to (hart_at s) next
      unfolding changed_to
      of_mip q =
          let new = get_at Mip (put_at s 296 x) ∙ word_same s 296 x (omega (arith, l)) f in
          let old = get_at Mip s in
          let there = ap (λ n. (hart_at (put_at s n x)).mip) (sym q) ∙ ap (λ h. h.mip) e in
          ap (λ n. (seip_change (word_at s n) x, next)) q ∙ ap (λ m. (seip_change m x, next)) (sym old) ∙ ap (λ m. (seip_change (hart_at s).mip m, next)) (sym new ∙ there)

      pub of_other : (place_at r ≡ 296 → ⊥) → (Nothing, next) ≡ changed_to (hart_at s) next
      unfolding changed_to
      of_other n =
          let kept = get_at Mip (put_at s (place_at r) x) ∙ word_other s (place_at r) x 296 (apart n) ∙ sym (get_at Mip s) in
          ap (λ (k : Effect). (k, next)) (sym (same_asks_nothing (hart_at s))) ∙ ap (λ m. (seip_change (hart_at s).mip m, next)) (sym kept ∙ ap (λ h. h.mip) e)
