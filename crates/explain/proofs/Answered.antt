-- What the computed tests say of the definitions: the words of a write, under its own capabilities
-- and under others, are the expressions that were tested.
use Prim.Native.Nat.{ℕ, ◌-◌, ◌%◌, ◌^◌, ◌<◌}
use mathlib.Core.Bool.{Bool, true, false, cond, not, ◌&&◌, ◌||◌, beq}
use mathlib.Core.List.{[], ◌∷◌}
use mathlib.Core.Path.{◌≡◌, refl, sym, ap, ap₂, ◌∙◌, subst}
use lib.Bits.{bit_and, bit_or, bit_xor}
use native.Mathlib.Omega.{arith}
use lib.Dec.{eqb, ltb, lit<, T}
use Rattle.std.specs.Prelude.{Some, None}
use Rattle.bits.specs.Alg.{plain}
use Rattle.bits.specs.Word.{Fits, bit}
use Rattle.bits.proofs.WordBits.{bit_bit_and, bit_bit_or, bit_bit_xor, bit_not, bit_high}
use Rattle.bits.proofs.Bools.{left, right, ≡→T}
use Rattle.bits.proofs.Decide.{Env, var, lit, flag, low, ◌&◌, ◌∣◌, ◌⊕◌, same, holds, eval, env, env2, by_bits, by_bits_if, below_64}
use Rattle.bits.proofs.Sound.{Holds}
use Rattle.bits.proofs.Shown.{shown}
use Rattle.hart.specs.Caps.{has_c, has_f, has_s, has_v, has_zfinx, has_sstc, has_zicbom, has_zicboz, has_svpbmt}
use Rattle.hart.specs.declared.caps.Caps.{Caps}
use Rattle.hart.specs.declared.record.Hart.{Hart}
use Rattle.csr.specs.Access.{stored_of, left_by}
use Rattle.csr.specs.Address.{address_of, csr_at, needs_s, is_present}
use Rattle.csr.specs.declared.address.Csr.{Csr}
use Rattle.csr.specs.Access.{Change}
use Rattle.csr.proofs.Found.{every_found}
use Rattle.csr.proofs.Expressed.{Asked, stores, is_ignored, ignores, ignores_is, old_of, stores_is}
use Rattle.explain.specs.Lost.{compared_bits}
use Rattle.explain.specs.Elsewhere.{Other, keeps_bit}
use Rattle.explain.specs.Reasons.{otherwise, kept_bits, kept_under}
use Rattle.explain.specs.Reasons as words
use Rattle.explain.proofs.Decided as decided
use Rattle.explain.proofs.Evaluated.{never_is, reserved_is, forced_is, ignored_is, driven_is, compared_is}

-- ---- bits

-- what lies within a word is found there
pub within : (i a b : ℕ) → bit_or a b ≡ b → bit i a ≡ true → bit i b ≡ true
within i a b e t = ap (bit i) (sym e) ∙ bit_bit_or i a b ∙ rw t

-- words that are the same within a mask
pub same_within : (i a b m : ℕ) → bit_and a m ≡ bit_and b m → bit i m ≡ true → bit i a ≡ bit i b
same_within i a b m e t = sym (masked a) ∙ ap (bit i) e ∙ masked b
  where
    and-true : (p : Bool) → (p && true) ≡ p
    and-true true = refl
    and-true false = refl

    masked : (n : ℕ) → bit i (bit_and n m) ≡ bit i n
    masked n = bit_bit_and i n m ∙ ap (λ (t : Bool). bit i n && t) t ∙ and-true (bit i n)

-- a bit in which two words don't differ
pub equal_bit : (i v x : ℕ) → i < 64 → Fits v → Fits x → bit i ((2 ^ 64 - 1) - bit_xor v x) ≡ beq (bit i x) (bit i v)
equal_bit i v x h fv fx =
    bit_not i (bit_xor v x) (below_64 (var 0 ⊕ var 1) tt (env2 v x fv fx [])) h ∙ ap not (bit_bit_xor i v x) ∙ go (bit i v) (bit i x)
  where
    go : (p q : Bool) → not (not (beq p q)) ≡ beq q p
    go true true = refl
    go true false = refl
    go false true = refl
    go false false = refl

-- ---- the words of a write

-- the capabilities c, and others that differ from them in three words; a value, and another one; x
-- is what a register shows whose writes are ignored
module _ (c : Caps) (misa interrupts flags : ℕ) (h : Hart) (r : Csr) (v w x : ℕ) where
  abbrev d : Caps
  d = otherwise misa interrupts flags c

  -- they have 64 bits
  pub record Sized : Type 0 where
    pub value : Fits v
    pub old : Fits (old_of h r x)
    pub mine : Fits c.interrupts
    pub mideleg : Fits h.mideleg
    pub menvcfg : Fits h.menvcfg
    pub others : Fits interrupts
    pub again : Fits w

  module _ (f : Sized) (found : csr_at (address_of r) ≡ Some r) where
    abbrev pub ρ : Env
    ρ =
        env (v ∷ old_of h r x ∷ c.interrupts ∷ h.mideleg ∷ h.menvcfg ∷ interrupts ∷ w ∷ [])
        (has_s c ∷ has_c c ∷ has_f c ∷ has_v c ∷ has_zfinx c ∷ has_sstc c ∷ has_zicbom c ∷ has_zicboz c ∷ has_svpbmt c ∷ ltb c.highest v ∷
        has_s d ∷ has_c d ∷ has_f d ∷ has_v d ∷ has_zfinx d ∷ has_sstc d ∷ has_zicbom d ∷ has_zicboz d ∷ has_svpbmt d ∷ ltb c.highest w ∷
        [])
        (f.value, (f.old, (f.mine, (f.mideleg, (f.menvcfg, (f.others, (f.again, tt)))))))

    mine_is : eval (stores shown decided.mine r) ρ ≡ left_by (stored_of c h r v) x
    mine_is = stores_is c h v x ρ decided.mine r refl

    again_is : eval (stores shown decided.again r) ρ ≡ left_by (stored_of c h r w) x
    again_is = stores_is c h w x ρ decided.again r refl

    -- ---- the tests

    passed : decided.register r ≡ true
    passed = every_found decided.register decided.all_pass (address_of r) r found

    explained : decided.explained r ≡ true
    explained = left (decided.explained r) _ passed

    behind : (decided.answered r && (decided.untaken r && decided.sizes r)) ≡ true
    behind = right (decided.explained r) _ passed

    answered : decided.answered r ≡ true
    answered = left (decided.answered r) _ behind

    last : (decided.untaken r && decided.sizes r) ≡ true
    last = right (decided.answered r) _ behind

    untaken : decided.untaken r ≡ true
    untaken = left (decided.untaken r) _ last

    sizes : decided.sizes r ≡ true
    sizes = right (decided.untaken r) _ last

    -- ---- under other capabilities

    module _ (e : Caps) (q : Asked shown) (s : decided.sized r q ≡ true) (is : eval (stores shown q r) ρ ≡ left_by (stored_of e h r v) x) where
      has_64 : eval (stores shown q r) ρ ≡ eval (stores shown q r) ρ % 2 ^ 64
      has_64 = by_bits (stores shown q r) (low 64 (stores shown q r)) (≡→T (decided.sized r q) s) ρ

      pub left_fits : Fits (left_by (stored_of e h r v) x)
      left_fits = subst Fits is (below_64 (stores shown q r) (≡→T (decided.sized r q) s) ρ)

      pub kept_is : eval (decided.kept r q) ρ ≡ kept_bits (stored_of e h r v) v
      kept_is = go (stored_of e h r v) (ignores r) (ignores_is e h v r found) (sym has_64 ∙ is)
        where
          go : (k : Change) (b : Bool) → is_ignored k ≡ b → eval (stores shown q r) ρ % 2 ^ 64 ≡ left_by k x
              → eval (cond b (lit 0) (decided.equal r q)) ρ ≡ kept_bits k v
          go None true p t = refl
          go None false p t = absurd (subst T p tt)
          go (Some (u, y)) true p t = absurd (subst T (sym p) tt)
          go (Some (u, y)) false p t = ap (λ (z : ℕ). (2 ^ 64 - 1) - bit_xor v z) t

      -- a bit that is stored as it is written
      pub kept_bit : (i : ℕ) → i < 64 → bit i (kept_bits (stored_of e h r v) v) ≡ keeps_bit (stored_of e h r v) v i
      kept_bit i below = go (stored_of e h r v) left_fits
        where
          none : (n : ℕ) → bit n 0 ≡ false
          none n = bit_high n 0 0 (lit< tt) (omega arith)

          go : (k : Change) → Fits (left_by k x) → bit i (kept_bits k v) ≡ keeps_bit k v i
          go None t = none i
          go (Some (u, y)) t = equal_bit i v y below f.value t

      kept_if_lem : (b : Bool) → eval (decided.kept_if r b q) ρ ≡ cond b (kept_bits (stored_of e h r v) v) 0
      kept_if_lem true = kept_is
      kept_if_lem false = refl

    widest_is : eval (stores shown decided.widest r) ρ ≡ left_by (stored_of (words.widest c) h r v) x
    widest_is = stores_is (words.widest c) h v x ρ decided.widest r refl

    barest_is : eval (stores shown decided.barest r) ρ ≡ left_by (stored_of (words.barest c) h r v) x
    barest_is = stores_is (words.barest c) h v x ρ decided.barest r refl

    zfinx_is : eval (stores shown decided.with_zfinx r) ρ ≡ left_by (stored_of (words.with_zfinx c) h r v) x
    zfinx_is = stores_is (words.with_zfinx c) h v x ρ decided.with_zfinx r refl

    others_is : eval (stores shown decided.others r) ρ ≡ left_by (stored_of d h r v) x
    others_is = stores_is d h v x ρ decided.others r refl

    of_others : decided.sized r decided.others ≡ true
    of_others = left (decided.sized r decided.others) _ sizes

    of_three : (decided.sized r decided.widest && (decided.sized r decided.barest && decided.sized r decided.with_zfinx)) ≡ true
    of_three = right (decided.sized r decided.others) _ sizes

    of_widest : decided.sized r decided.widest ≡ true
    of_widest = left (decided.sized r decided.widest) _ of_three

    of_two : (decided.sized r decided.barest && decided.sized r decided.with_zfinx) ≡ true
    of_two = right (decided.sized r decided.widest) _ of_three

    of_barest : decided.sized r decided.barest ≡ true
    of_barest = left (decided.sized r decided.barest) _ of_two

    of_zfinx : decided.sized r decided.with_zfinx ≡ true
    of_zfinx = right (decided.sized r decided.barest) _ of_two

    elsewhere_is : eval (decided.elsewhere r) ρ ≡ words.elsewhere c h r v
    unfolding words.elsewhere
    elsewhere_is =
        ap₂ bit_or
        (ap₂ bit_or
        (kept_if_lem (words.widest c) decided.widest of_widest widest_is (is_present (words.widest c) r))
        (kept_if_lem (words.barest c) decided.barest of_barest barest_is (is_present (words.barest c) r)))
        (kept_if_lem (words.with_zfinx c) decided.with_zfinx of_zfinx zfinx_is (is_present (words.with_zfinx c) r))

    -- what the others store as it is written, one of the three does
    pub one_answers : (i : ℕ) → i < 64 → bit_and interrupts 0x2AAA ≡ interrupts → is_present d r ≡ true → keeps_bit (stored_of d h r v) v i ≡ true
        → bit i (words.elsewhere c h r v) ≡ true
    one_answers i below e p k =
        within i (kept_bits (stored_of d h r v) v) (words.elsewhere c h r v)
        (sym (ap₂ bit_or (kept_is d decided.others of_others others_is) elsewhere_is)
        ∙ by_bits_if (decided.elsewhere_legal r) (decided.kept r decided.others ∣ decided.elsewhere r) (decided.elsewhere r) (≡→T (decided.answered r) answered) ρ (e, has_s_lem (needs_s (address_of r)) (left (not (needs_s (address_of r)) || has_s d) _ p))
        ∙ elsewhere_is)
        (kept_bit d decided.others of_others others_is i below ∙ k)
      where
        has_s_lem : (b : Bool) → (not b || has_s d) ≡ true → Holds ρ (cond b (holds (flag 10) ∷ []) [])
        has_s_lem true t = (t, tt)
        has_s_lem false t = tt

    -- and each of them does so under its capabilities
    one_of : (i : ℕ) (e : Caps) (q : Asked shown) → i < 64 → decided.sized r q ≡ true → eval (stores shown q r) ρ ≡ left_by (stored_of e h r v) x → bit i (kept_under e h r v) ≡ true
        → (is_present e r ≡ true) × (keeps_bit (stored_of e h r v) v i ≡ true)
    one_of i e q below s is t = go (is_present e r) refl t
      where
        go : (b : Bool) → is_present e r ≡ b → bit i (cond b (kept_bits (stored_of e h r v) v) 0) ≡ true → (is_present e r ≡ true) × (keeps_bit (stored_of e h r v) v i ≡ true)
        go true p u = (p, sym (kept_bit e q s is i below) ∙ u)
        go false p u = absurd (subst T (sym u ∙ bit_high i 0 0 (lit< tt) (omega arith)) tt)

    -- so what each of the three shows, with the register and the bit, a bit of their word shows
    pub of_three_one : (i : ℕ) (P : Type 0) → i < 64
        → ((e : Caps) → Other c e → is_present e r ≡ true → keeps_bit (stored_of e h r v) v i ≡ true → P)
        → Other c (words.widest c) → Other c (words.barest c) → Other c (words.with_zfinx c)
        → bit i (words.elsewhere c h r v) ≡ true → P
    unfolding words.elsewhere
    of_three_one i P below f a b z t =
        go (bit i (kept_under (words.widest c) h r v)) (bit i (kept_under (words.barest c) h r v)) refl refl
        (sym (bit_bit_or i (bit_or (kept_under (words.widest c) h r v) (kept_under (words.barest c) h r v)) _ ∙ ap (λ (p : Bool). p || bit i (kept_under (words.with_zfinx c) h r v)) (bit_bit_or i (kept_under (words.widest c) h r v) _)) ∙ t)
      where
        with : (e : Caps) → Other c e → (is_present e r ≡ true) × (keeps_bit (stored_of e h r v) v i ≡ true) → P
        with e o p = f e o p.0 p.1

        go : (p q : Bool) → bit i (kept_under (words.widest c) h r v) ≡ p → bit i (kept_under (words.barest c) h r v) ≡ q
            → (p || q || bit i (kept_under (words.with_zfinx c) h r v)) ≡ true → P
        go true q e g u = with (words.widest c) a (one_of i (words.widest c) decided.widest below of_widest widest_is e)
        go false true e g u = with (words.barest c) b (one_of i (words.barest c) decided.barest below of_barest barest_is g)
        go false false e g u = with (words.with_zfinx c) z (one_of i (words.with_zfinx c) decided.with_zfinx below of_zfinx zfinx_is u)

    -- ---- every lost bit has a reason

    unstored_is : eval (decided.unstored r) ρ ≡ words.unstored (stored_of c h r v)
    unstored_is = go (stored_of c h r v) (ignores r) (ignores_is c h v r found)
      where
        go : (k : Change) (b : Bool) → is_ignored k ≡ b → eval (cond b (lit (2 ^ 64 - 1)) (lit 0)) ρ ≡ words.unstored k
        go None true p = refl
        go None false p = absurd (subst T p tt)
        go (Some (u, y)) true p = absurd (subst T (sym p) tt)
        go (Some (u, y)) false p = refl

    -- the bits for which one holds
    abbrev pub any_reason : ℕ
    any_reason =
        let a = address_of r in
        bit_or
        (bit_or
        (bit_or
        (bit_or
        (bit_or (bit_or (words.unstored (stored_of c h r v)) (words.never plain a)) (words.elsewhere c h r v))
        (words.reserved plain a v))
        (words.forced plain a))
        (words.ignored plain a (ltb c.highest v) v))
        (words.driven plain a h.menvcfg)

    any_is : eval (decided.any_reason r) ρ ≡ any_reason
    any_is =
        let a = address_of r in
        ap₂ bit_or
        (ap₂ bit_or
        (ap₂ bit_or
        (ap₂ bit_or
        (ap₂ bit_or (ap₂ bit_or unstored_is (never_is ρ a)) elsewhere_is)
        (reserved_is ρ a (var 0)))
        (forced_is ρ a))
        (ignored_is ρ a (flag 9) (var 0)))
        (driven_is ρ a (var 4))

    -- the difference from the word that is left
    abbrev pub differing : ℕ
    differing = bit_and (bit_xor v (left_by (stored_of c h r v) x)) (compared_bits plain (address_of r) h.mideleg)

    pub lost_within : bit_or differing any_reason ≡ any_reason
    lost_within =
        sym (ap₂ bit_or (ap₂ bit_and (ap (bit_xor v) mine_is) (compared_is ρ (address_of r) (var 3))) any_is)
        ∙ by_bits (decided.lost r ∣ decided.any_reason r) (decided.any_reason r) (≡→T (decided.explained r) explained) ρ
        ∙ any_is

    -- ---- what no hart takes from a value

    pub never_same : bit_and c.interrupts 0x2AAA ≡ c.interrupts → ((eqb (address_of r) 0x341 || eqb (address_of r) 0x141) ≡ true → bit_and (old_of h r x) 1 ≡ 0)
        → bit_and (left_by (stored_of c h r v) x) (words.never plain (address_of r)) ≡ bit_and (left_by (stored_of c h r w) x) (words.never plain (address_of r))
    never_same e aligned =
        let never = never_is ρ (address_of r) in
        sym (ap₂ bit_and mine_is never)
        ∙ by_bits_if (decided.legal r) (stores shown decided.mine r & words.never shown (address_of r)) (stores shown decided.again r & words.never shown (address_of r)) (≡→T (decided.untaken r) untaken) ρ (e, even (eqb (address_of r) 0x341 || eqb (address_of r) 0x141) aligned)
        ∙ ap₂ bit_and again_is never
      where
        even : (b : Bool) → (b ≡ true → bit_and (old_of h r x) 1 ≡ 0) → Holds ρ (cond b (same (var 1 & lit 1) (lit 0) ∷ []) [])
        even true t = (t refl, tt)
        even false t = tt
