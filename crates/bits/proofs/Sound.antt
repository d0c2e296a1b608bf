-- The test of `by_bits` is right: where it passes, the two expressions have the same bits, whatever
-- the variables are.
use mathlib.Core.Path.{◌≡◌, refl, sym, ap, ap₂, ◌∙◌, subst}
use mathlib.Core.Bool.{Bool, true, false, not, ◌&&◌, ◌||◌, beq, cond, and-true, and-false, or-true, or-false}
use mathlib.Core.List.{List, [], ◌∷◌}
use mathlib.Core.Logic.{⊎_elim}
use Prim.Native.Nat.{ℕ, zero, suc, ◌+◌, ◌-◌, ◌*◌, ◌/◌, ◌%◌, ◌^◌, ◌≤◌, ◌<◌, min, max}
use native.Mathlib.Nat.{le_of_suc-le-suc, not-suc-le-zero, mod-lt, lt_of_lt_of_le, lt_of_le_of_lt, le-max_left, le-max_right, eq-or-lt_of_le, min-eq_left, min_comm, le_of_lt}
use native.Mathlib.Omega.{arith}
use lib.Pow.{pow_pos, pow_mono, shl_lt, shr_le, ones_sub-lt}
use lib.Bits.{bit_and, bit_or, and_le_l, and_le_r, or_lt, xor_lt}
use lib.Dec.{eqb, leb, ltb, T, leb→le, ltb→lt, eqb→eq}
use borrow.Author.Tests.{eq-eqb, ne_eqb, ltb-true, ltb-false, leb-true, leb-false}
use Rattle.bits.proofs.Bools.{and_l, and_r, T→≡, ≡→T, beq→≡, not_beq}
use Rattle.bits.specs.Word.{bit}
use Rattle.bits.proofs.WordBits.{bit_bit_and, bit_bit_or, bit_bit_xor, bit_not, bit_shr, bit_shl, bit_shl_low, bit_mod, bit_mod_high, bit_high, ext}
use Rattle.bits.proofs.Expr.{W, B, Env, var, lit, ◌&◌, ◌∣◌, ◌⊕◌, inv, shr, shl, low, ite, flag, ◌≐◌, both, either, isnt, eval, test, lit_wid, wid, ok, ok_b}
use Rattle.bits.proofs.Run.{Known, none, bit_is, flag_is, Maybe, unknown, is, and3, or3, not3, same3, peek, find_bit, find_flag, Cont, ask_bit, ask_flag, all_eq, run_w, run_b, Given, same, holds, suppose, ok_g, agree, each}

-- by cases on a Bool that an `elim` goes by
pick : (A C : Bool) (G : Bool → Type 0) (x : Bool) → T (elim x [ true ↦ A | false ↦ C ]) → (T A → G true) → (T C → G false) → G x
pick A C G true t f g = f t
pick A C G false t f g = g t

-- the same, with the equation
pick≡ : (A C : Bool) {G : Type 0} (x : Bool) → T (elim x [ true ↦ A | false ↦ C ]) → (x ≡ true → T A → G) → (x ≡ false → T C → G) → G
pick≡ A C true t f g = f refl t
pick≡ A C false t f g = g refl t

lit_lt : (n : ℕ) → T (ltb n (2 ^ 64)) → n < 2 ^ lit_wid n
lit_lt n t = go (ltb n (2 ^ 4)) (ltb n (2 ^ 16)) refl refl
  where
    go : (x y : Bool) → ltb n (2 ^ 4) ≡ x → ltb n (2 ^ 16) ≡ y → n < 2 ^ cond x 4 (cond y 16 64)
    go true y e f = ltb-true n (2 ^ 4) e
    go false true e f = ltb-true n (2 ^ 16) f
    go false false e f = ltb→lt n (2 ^ 64) t

below_min : {n : ℕ} (i j : ℕ) → n < 2 ^ i → n < 2 ^ j → n < 2 ^ min i j
below_min {n} i j p q = go (leb i j) refl
  where
    go : (x : Bool) → leb i j ≡ x → n < 2 ^ min i j
    go true e = subst (λ (k : ℕ). n < 2 ^ k) (sym (min-eq_left (leb-true i j e))) p
    go false e = subst (λ (k : ℕ). n < 2 ^ k) (sym (min_comm i j ∙ min-eq_left (le_of_lt (leb-false i j e)))) q

module _ (ρ : Env) where
  -- a word has no more bits than its expression says
  pub wid_lt : (a : W) → T (ok a) → eval a ρ < 2 ^ wid a
  wid_lt (var k) t = ρ.fits k
  wid_lt (lit n) t = lit_lt n t
  wid_lt (a & b) t =
      below_min (wid a) (wid b)
      (lt_of_le_of_lt (and_le_l (eval a ρ) (eval b ρ)) (wid_lt a (and_l (ok a) (ok b) t)))
      (lt_of_le_of_lt (and_le_r (eval a ρ) (eval b ρ)) (wid_lt b (and_r (ok a) (ok b) t)))
  wid_lt (a ∣ b) t =
      or_lt (max (wid a) (wid b)) (eval a ρ) (eval b ρ)
      (lt_of_lt_of_le (wid_lt a (and_l (ok a) (ok b) t)) (pow_mono (le-max_left (wid a) (wid b))))
      (lt_of_lt_of_le (wid_lt b (and_r (ok a) (ok b) t)) (pow_mono (le-max_right (wid a) (wid b))))
  wid_lt (a ⊕ b) t =
      xor_lt (max (wid a) (wid b)) (eval a ρ) (eval b ρ)
      (lt_of_lt_of_le (wid_lt a (and_l (ok a) (ok b) t)) (pow_mono (le-max_left (wid a) (wid b))))
      (lt_of_lt_of_le (wid_lt b (and_r (ok a) (ok b) t)) (pow_mono (le-max_right (wid a) (wid b))))
  wid_lt (inv a) t = ones_sub-lt 64 (eval a ρ)
  wid_lt (shr k a) t = lt_of_le_of_lt (shr_le (eval a ρ) k) (wid_lt a t)
  wid_lt (shl k a) t = shl_lt (wid a) k (wid_lt a t)
  wid_lt (low w a) t = mod-lt (eval a ρ) (pow_pos w)
  wid_lt (ite s a b) t =
      go (test s ρ) (wid_lt a (and_l (ok a) (ok b) (and_r (ok_b s) (ok a && ok b) t))) (wid_lt b (and_r (ok a) (ok b) (and_r (ok_b s) (ok a && ok b) t)))
    where
      go : (x : Bool) → eval a ρ < 2 ^ wid a → eval b ρ < 2 ^ wid b → cond x (eval a ρ) (eval b ρ) < 2 ^ max (wid a) (wid b)
      go true p q = lt_of_lt_of_le p (pow_mono (le-max_left (wid a) (wid b)))
      go false p q = lt_of_lt_of_le q (pow_mono (le-max_right (wid a) (wid b)))

  -- what was supposed is so
  abbrev pub Agree : Known → Type 0
  Agree none = Unit {0}
  Agree (bit_is k j b p) = (bit j (ρ.word k) ≡ b) × Agree p
  Agree (flag_is k b p) = (ρ.flagged k ≡ b) × Agree p

  abbrev FoundBit : ℕ → ℕ → Maybe → Type 0
  FoundBit k j unknown = Unit {0}
  FoundBit k j (is b) = bit j (ρ.word k) ≡ b

  found_bit : (k j : ℕ) (p : Known) → Agree p → FoundBit k j (find_bit k j p)
  found_bit k j none g = tt
  found_bit k j (bit_is k' j' b p) g = go (eqb k k' && eqb j j') refl (found_bit k j p g.1)
    where
      go : (x : Bool) → (eqb k k' && eqb j j') ≡ x → FoundBit k j (find_bit k j p) → FoundBit k j (elim x [ true ↦ is b | false ↦ find_bit k j p ])
      go true e r =
          ap₂ (λ (u v : ℕ). bit u (ρ.word v)) (eqb→eq j j' (and_r (eqb k k') (eqb j j') (≡→T (eqb k k' && eqb j j') e)))
          (eqb→eq k k' (and_l (eqb k k') (eqb j j') (≡→T (eqb k k' && eqb j j') e)))
          ∙ g.0
      go false e r = r
  found_bit k j (flag_is k' b p) g = found_bit k j p g.1

  -- what `peek` tells
  abbrev Sure : ℕ → ℕ → Maybe → Type 0
  Sure x i unknown = Unit {0}
  Sure x i (is b) = bit i x ≡ b

  sure_and : (i x y : ℕ) (m n : Maybe) → Sure x i m → Sure y i n → Sure (bit_and x y) i (and3 m n)
  sure_and i x y (is true) (is b) p q = bit_bit_and i x y ∙ ap₂ (λ (u v : Bool). u && v) p q
  sure_and i x y (is true) unknown p q = tt
  sure_and i x y (is false) n p q = bit_bit_and i x y ∙ ap (λ (u : Bool). u && bit i y) p
  sure_and i x y unknown (is true) p q = tt
  sure_and i x y unknown (is false) p q = bit_bit_and i x y ∙ ap (λ (u : Bool). bit i x && u) q ∙ and-false (bit i x)
  sure_and i x y unknown unknown p q = tt

  sure_or : (i x y : ℕ) (m n : Maybe) → Sure x i m → Sure y i n → Sure (bit_or x y) i (or3 m n)
  sure_or i x y (is true) n p q = bit_bit_or i x y ∙ ap (λ (u : Bool). u || bit i y) p
  sure_or i x y (is false) (is b) p q = bit_bit_or i x y ∙ ap₂ (λ (u v : Bool). u || v) p q
  sure_or i x y (is false) unknown p q = tt
  sure_or i x y unknown (is true) p q = bit_bit_or i x y ∙ ap (λ (u : Bool). bit i x || u) q ∙ or-true (bit i x)
  sure_or i x y unknown (is false) p q = tt
  sure_or i x y unknown unknown p q = tt

  sure_not : (i x : ℕ) (m : Maybe) → x < 2 ^ 64 → i < 64 → Sure x i m → Sure ((2 ^ 64 - 1) - x) i (not3 m)
  sure_not i x (is b) h q p = bit_not i x h q ∙ ap not p
  sure_not i x unknown h q p = tt

  sure_same : (i x y : ℕ) (m n : Maybe) (t : Bool) → Sure x i m → Sure y i n → Sure (cond t x y) i (same3 m n)
  sure_same i x y unknown n t p q = tt
  sure_same i x y (is a) unknown t p q = tt
  sure_same i x y (is true) (is true) true p q = p
  sure_same i x y (is true) (is true) false p q = q
  sure_same i x y (is true) (is false) t p q = tt
  sure_same i x y (is false) (is true) t p q = tt
  sure_same i x y (is false) (is false) true p q = p
  sure_same i x y (is false) (is false) false p q = q

  -- by cases on a Bool that an `elim` goes by
  sure_if : (x i : ℕ) (m n : Maybe) (t : Bool) → (t ≡ true → Sure x i m) → (t ≡ false → Sure x i n) → Sure x i (elim t [ true ↦ m | false ↦ n ])
  sure_if x i m n true f g = f refl
  sure_if x i m n false f g = g refl

  sure_by : (x y i j : ℕ) → bit i x ≡ bit j y → (m : Maybe) → Sure y j m → Sure x i m
  sure_by x y i j e unknown s = tt
  sure_by x y i j e (is b) s = e ∙ s

  not_fits : (a : W) → T (ok (inv a)) → eval a ρ < 2 ^ 64
  not_fits a o = lt_of_lt_of_le (wid_lt a (and_r (leb (wid a) 64) (ok a) o)) (pow_mono (leb→le (wid a) 64 (and_l (leb (wid a) 64) (ok a) o)))

  s_peek : (a : W) → T (ok a) → (i : ℕ) → Sure (eval a ρ) i (peek a i)
  s_peek (var k) o i = tt
  s_peek (lit n) o i = refl
  s_peek (a & b) o i = sure_and i (eval a ρ) (eval b ρ) (peek a i) (peek b i) (s_peek a (and_l (ok a) (ok b) o) i) (s_peek b (and_r (ok a) (ok b) o) i)
  s_peek (a ∣ b) o i = sure_or i (eval a ρ) (eval b ρ) (peek a i) (peek b i) (s_peek a (and_l (ok a) (ok b) o) i) (s_peek b (and_r (ok a) (ok b) o) i)
  s_peek (a ⊕ b) o i = tt
  s_peek (inv a) o i =
      sure_if ((2 ^ 64 - 1) - eval a ρ) i (not3 (peek a i)) (is false) (ltb i 64)
      (λ e. sure_not i (eval a ρ) (peek a i) (not_fits a o) (ltb-true i 64 e) (s_peek a (and_r (leb (wid a) 64) (ok a) o) i))
      (λ e. bit_high i 64 ((2 ^ 64 - 1) - eval a ρ) (ones_sub-lt 64 (eval a ρ)) (ltb-false i 64 e))
  s_peek (shr k a) o i = sure_by (eval a ρ / 2 ^ k) (eval a ρ) i (k + i) (bit_shr i k (eval a ρ)) (peek a (k + i)) (s_peek a o (k + i))
  s_peek (shl k a) o i =
      sure_if (eval a ρ * 2 ^ k) i (peek a (i - k)) (is false) (leb k i)
      (λ e. sure_by (eval a ρ * 2 ^ k) (eval a ρ) i (i - k) (bit_shl i k (eval a ρ) (leb-true k i e)) (peek a (i - k)) (s_peek a o (i - k)))
      (λ e. bit_shl_low i k (eval a ρ) (leb-false k i e))
  s_peek (low w a) o i =
      sure_if (eval a ρ % 2 ^ w) i (peek a i) (is false) (ltb i w)
      (λ e. sure_by (eval a ρ % 2 ^ w) (eval a ρ) i i (bit_mod i w (eval a ρ) (ltb-true i w e)) (peek a i) (s_peek a o i))
      (λ e. bit_mod_high i w (eval a ρ) (ltb-false i w e))
  s_peek (ite t a b) o i =
      sure_same i (eval a ρ) (eval b ρ) (peek a i) (peek b i) (test t ρ)
      (s_peek a (and_l (ok a) (ok b) (and_r (ok_b t) (ok a && ok b) o)) i) (s_peek b (and_r (ok a) (ok b) (and_r (ok_b t) (ok a && ok b) o)) i)

  abbrev FoundFlag : ℕ → Maybe → Type 0
  FoundFlag k unknown = Unit {0}
  FoundFlag k (is b) = ρ.flagged k ≡ b

  found_flag : (k : ℕ) (p : Known) → Agree p → FoundFlag k (find_flag k p)
  found_flag k none g = tt
  found_flag k (bit_is k' j' b p) g = found_flag k p g.1
  found_flag k (flag_is k' b p) g = go (eqb k k') refl (found_flag k p g.1)
    where
      go : (x : Bool) → eqb k k' ≡ x → FoundFlag k (find_flag k p) → FoundFlag k (elim x [ true ↦ is b | false ↦ find_flag k p ])
      go true e r = ap ρ.flagged (eqb→eq k k' (≡→T (eqb k k') e)) ∙ g.0
      go false e r = r

  -- the test went on with b, and passed
  pub record Good (b : Bool) (c : Cont) : Type 0 where
    pub seen : Known
    pub agrees : Agree seen
    pub passed : T (c b seen)

  good : (c : Cont) (p : Known) → Agree p → {b b' : Bool} → b' ≡ b → T (c b p) → Good b' c
  good c p g e t = record { seen = p; agrees = g; passed = subst (λ (x : Bool). T (c x p)) (sym e) t }

  been : (c : Cont) {b b' : Bool} → b' ≡ b → Good b c → Good b' c
  been c e r = good c r.seen r.agrees e r.passed

  two : (a b : Bool) → T (elim a [ true ↦ b | false ↦ false ]) → T a × T b
  two true b t = (tt, t)
  two false b t = absurd t

  s_ask : (k j : ℕ) (p : Known) (c : Cont) → Agree p → T (ask_bit k j p c) → Good (bit j (ρ.word k)) c
  s_ask k j p c g t = go (find_bit k j p) (found_bit k j p g) t
    where
      on : (b : Bool) → bit j (ρ.word k) ≡ b → T (c true (bit_is k j true p)) × T (c false (bit_is k j false p)) → Good (bit j (ρ.word k)) c
      on true e h = good c (bit_is k j true p) (e, g) e h.0
      on false e h = good c (bit_is k j false p) (e, g) e h.1

      go : (m : Maybe) → FoundBit k j m → T (elim m [ is b ↦ c b p | unknown ↦ elim (c true (bit_is k j true p)) [ true ↦ c false (bit_is k j false p) | false ↦ false ] ]) → Good (bit j (ρ.word k)) c
      go (is b) e h = good c p g e h
      go unknown e h = on (bit j (ρ.word k)) refl (two (c true (bit_is k j true p)) (c false (bit_is k j false p)) h)

  s_ask_f : (k : ℕ) (p : Known) (c : Cont) → Agree p → T (ask_flag k p c) → Good (ρ.flagged k) c
  s_ask_f k p c g t = go (find_flag k p) (found_flag k p g) t
    where
      on : (b : Bool) → ρ.flagged k ≡ b → T (c true (flag_is k true p)) × T (c false (flag_is k false p)) → Good (ρ.flagged k) c
      on true e h = good c (flag_is k true p) (e, g) e h.0
      on false e h = good c (flag_is k false p) (e, g) e h.1

      go : (m : Maybe) → FoundFlag k m → T (elim m [ is b ↦ c b p | unknown ↦ elim (c true (flag_is k true p)) [ true ↦ c false (flag_is k false p) | false ↦ false ] ]) → Good (ρ.flagged k) c
      go (is b) e h = good c p g e h
      go unknown e h = on (ρ.flagged k) refl (two (c true (flag_is k true p)) (c false (flag_is k false p)) h)

  -- a run that tells the bits of the number x
  abbrev Tells : (ℕ → Known → Cont → Bool) → ℕ → Type 0
  Tells f x = (i : ℕ) (p : Known) (c : Cont) → Agree p → T (f i p c) → Good (bit i x) c

  s_all : (f g : ℕ → Known → Cont → Bool) (x y N : ℕ) → x < 2 ^ N → y < 2 ^ N → Tells f x → Tells g y → (n : ℕ) (p : Known) (c : Cont)
      → Agree p → ((i : ℕ) → n ≤ i → i < N → bit i x ≡ bit i y) → T (all_eq f g n p c) → Good (eqb x y) c
  s_all f g x y N hx hy tf tg zero p c a up t = good c p a (eq-eqb x y (ext N x y hx hy (λ i h. up i (omega arith) h))) t
  s_all f g x y N hx hy tf tg (suc n) p c a up t =
      let u = tf n p (λ v q. g n q (λ w r. elim (beq v w) [ true ↦ all_eq f g n r c | false ↦ c false r ])) a t in
      let v = tg n u.seen (λ w r. elim (beq (bit n x) w) [ true ↦ all_eq f g n r c | false ↦ c false r ]) u.agrees u.passed in
      pick≡ (all_eq f g n v.seen c) (c false v.seen) {G = Good (eqb x y) c} (beq (bit n x) (bit n y)) v.passed
      (λ e h. s_all f g x y N hx hy tf tg n v.seen c v.agrees (λ i le lt. ⊎_elim (λ r. subst (λ (j : ℕ). bit j x ≡ bit j y) r (beq→≡ (bit n x) (bit n y) e)) (λ r. up i r lt) (eq-or-lt_of_le le)) h)
      (λ e h. good c v.seen v.agrees (ne_eqb x y (λ r. not_beq (bit n x) (bit n y) e (ap (bit n) r))) h)

  mutual
    s_w : (a : W) → T (ok a) → Tells (run_w a) (eval a ρ)
    s_w (var k) o i p c g t =
        pick≡ (ask_bit k i p c) (c false p) {G = Good (bit i (ρ.word k)) c} (ltb i 64) t (λ e h. s_ask k i p c g h)
        (λ e h. good c p g (bit_high i 64 (ρ.word k) (ρ.fits k) (ltb-false i 64 e)) h)
    s_w (lit n) o i p c g t = good c p g refl t
    s_w (a & b) o i p c g t =
        let u = s_w b (and_r (ok a) (ok b) o) i p (λ x q. elim x [ true ↦ run_w a i q c | false ↦ c false q ]) g t in
        been c (bit_bit_and i (eval a ρ) (eval b ρ))
        (pick (run_w a i u.seen c) (c false u.seen) (λ (x : Bool). Good (bit i (eval a ρ) && x) c) (bit i (eval b ρ)) u.passed
        (λ h. been c (and-true (bit i (eval a ρ))) (s_w a (and_l (ok a) (ok b) o) i u.seen c u.agrees h))
        (λ h. good c u.seen u.agrees (and-false (bit i (eval a ρ))) h))
    s_w (a ∣ b) o i p c g t =
        let u = s_w b (and_r (ok a) (ok b) o) i p (λ x q. elim x [ true ↦ c true q | false ↦ run_w a i q c ]) g t in
        been c (bit_bit_or i (eval a ρ) (eval b ρ))
        (pick (c true u.seen) (run_w a i u.seen c) (λ (x : Bool). Good (bit i (eval a ρ) || x) c) (bit i (eval b ρ)) u.passed
        (λ h. good c u.seen u.agrees (or-true (bit i (eval a ρ))) h)
        (λ h. been c (or-false (bit i (eval a ρ))) (s_w a (and_l (ok a) (ok b) o) i u.seen c u.agrees h)))
    s_w (a ⊕ b) o i p c g t =
        let u = s_w a (and_l (ok a) (ok b) o) i p (λ x q. run_w b i q (λ y r. c (not (beq x y)) r)) g t in
        let v = s_w b (and_r (ok a) (ok b) o) i u.seen (λ y r. c (not (beq (bit i (eval a ρ)) y)) r) u.agrees u.passed in
        good c v.seen v.agrees (bit_bit_xor i (eval a ρ) (eval b ρ)) v.passed
    s_w (inv a) o i p c g t =
        pick≡ (run_w a i p (λ x q. c (not x) q)) (c false p) {G = Good (bit i ((2 ^ 64 - 1) - eval a ρ)) c} (ltb i 64) t
        (λ e h. let u = s_w a (and_r (leb (wid a) 64) (ok a) o) i p (λ x q. c (not x) q) g h in
        good c u.seen u.agrees (bit_not i (eval a ρ) (not_fits a o) (ltb-true i 64 e)) u.passed)
        (λ e h. good c p g (bit_high i 64 ((2 ^ 64 - 1) - eval a ρ) (ones_sub-lt 64 (eval a ρ)) (ltb-false i 64 e)) h)
    s_w (shr k a) o i p c g t = been c (bit_shr i k (eval a ρ)) (s_w a o (k + i) p c g t)
    s_w (shl k a) o i p c g t =
        pick≡ (run_w a (i - k) p c) (c false p) {G = Good (bit i (eval a ρ * 2 ^ k)) c} (leb k i) t
        (λ e h. been c (bit_shl i k (eval a ρ) (leb-true k i e)) (s_w a o (i - k) p c g h))
        (λ e h. good c p g (bit_shl_low i k (eval a ρ) (leb-false k i e)) h)
    s_w (low w a) o i p c g t =
        pick≡ (run_w a i p c) (c false p) {G = Good (bit i (eval a ρ % 2 ^ w)) c} (ltb i w) t
        (λ e h. been c (bit_mod i w (eval a ρ) (ltb-true i w e)) (s_w a o i p c g h))
        (λ e h. good c p g (bit_mod_high i w (eval a ρ) (ltb-false i w e)) h)
    s_w (ite s a b) o i p c g t =
        elim_good (peek (ite s a b) i) (s_peek (ite s a b) o i) t
        (λ r. let u = s_b s (and_l (ok_b s) (ok a && ok b) o) p (λ x q. elim x [ true ↦ run_w a i q c | false ↦ run_w b i q c ]) g r in
        pick (run_w a i u.seen c) (run_w b i u.seen c) (λ (x : Bool). Good (bit i (cond x (eval a ρ) (eval b ρ))) c) (test s ρ) u.passed
        (λ h. s_w a (and_l (ok a) (ok b) (and_r (ok_b s) (ok a && ok b) o)) i u.seen c u.agrees h)
        (λ h. s_w b (and_r (ok a) (ok b) (and_r (ok_b s) (ok a && ok b) o)) i u.seen c u.agrees h))
      where
        elim_good : (m : Maybe) → Sure (eval (ite s a b) ρ) i m → T (elim m [ is x ↦ c x p | unknown ↦ run_b s p (λ x q. elim x [ true ↦ run_w a i q c | false ↦ run_w b i q c ]) ])
            → (T (run_b s p (λ x q. elim x [ true ↦ run_w a i q c | false ↦ run_w b i q c ])) → Good (bit i (eval (ite s a b) ρ)) c) → Good (bit i (eval (ite s a b) ρ)) c
        elim_good (is x) e h k = good c p g e h
        elim_good unknown e h k = k h

    pub s_b : (s : B) → T (ok_b s) → (p : Known) (c : Cont) → Agree p → T (run_b s p c) → Good (test s ρ) c
    s_b (flag k) o p c g t = s_ask_f k p c g t
    s_b (a ≐ b) o p c g t =
        s_all (λ i q d. run_w a i q d) (λ i q d. run_w b i q d) (eval a ρ) (eval b ρ) (max (wid a) (wid b))
        (lt_of_lt_of_le (wid_lt a (and_l (ok a) (ok b) o)) (pow_mono (le-max_left (wid a) (wid b))))
        (lt_of_lt_of_le (wid_lt b (and_r (ok a) (ok b) o)) (pow_mono (le-max_right (wid a) (wid b))))
        (λ i q d k h. s_w a (and_l (ok a) (ok b) o) i q d k h) (λ i q d k h. s_w b (and_r (ok a) (ok b) o) i q d k h)
        (max (wid a) (wid b)) p c g (λ i le lt. absurd (omega arith)) t
    s_b (both s r) o p c g t =
        let u = s_b s (and_l (ok_b s) (ok_b r) o) p (λ x q. elim x [ true ↦ run_b r q c | false ↦ c false q ]) g t in
        pick (run_b r u.seen c) (c false u.seen) (λ (x : Bool). Good (x && test r ρ) c) (test s ρ) u.passed
        (λ h. s_b r (and_r (ok_b s) (ok_b r) o) u.seen c u.agrees h) (λ h. good c u.seen u.agrees refl h)
    s_b (either s r) o p c g t =
        let u = s_b s (and_l (ok_b s) (ok_b r) o) p (λ x q. elim x [ true ↦ c true q | false ↦ run_b r q c ]) g t in
        pick (c true u.seen) (run_b r u.seen c) (λ (x : Bool). Good (x || test r ρ) c) (test s ρ) u.passed
        (λ h. good c u.seen u.agrees refl h) (λ h. s_b r (and_r (ok_b s) (ok_b r) o) u.seen c u.agrees h)
    s_b (isnt s) o p c g t =
        let u = s_b s o p (λ x q. c (not x) q) g t in
        good c u.seen u.agrees refl u.passed

  -- what is supposed is so
  abbrev pub Holds : List Given → Type 0
  Holds [] = Unit {0}
  Holds (same a b ∷ hs) = (eval a ρ ≡ eval b ρ) × Holds hs
  Holds (holds t ∷ hs) = (test t ρ ≡ true) × Holds hs

  record Went (c : Known → Bool) : Type 0 where
    pub seen : Known
    pub agrees : Agree seen
    pub passed : T (c seen)

  s_suppose : (hs : List Given) → T (ok_g hs) → Holds hs → (n : ℕ) (p : Known) (c : Known → Bool) → Agree p → T (suppose hs n p c) → Went c
  s_suppose [] o h n p c g t = record { seen = p; agrees = g; passed = t }
  s_suppose (same a b ∷ hs) o h n p c g t =
      let oo = and_l (ok a && ok b) (ok_g hs) o in
      let u = s_w a (and_l (ok a) (ok b) oo) n p (λ y q. run_w b n q (λ z r. elim (beq y z) [ true ↦ suppose hs n r c | false ↦ true ])) g t in
      let v = s_w b (and_r (ok a) (ok b) oo) n u.seen (λ z r. elim (beq (bit n (eval a ρ)) z) [ true ↦ suppose hs n r c | false ↦ true ]) u.agrees u.passed in
      pick≡ (suppose hs n v.seen c) true {G = Went c} (beq (bit n (eval a ρ)) (bit n (eval b ρ))) v.passed
      (λ e r. s_suppose hs (and_r (ok a && ok b) (ok_g hs) o) h.1 n v.seen c v.agrees r)
      (λ e r. absurd (not_beq (bit n (eval a ρ)) (bit n (eval b ρ)) e (ap (bit n) h.0)))
  s_suppose (holds s ∷ hs) o h n p c g t =
      let u = s_b s (and_l (ok_b s) (ok_g hs) o) p (λ x q. elim x [ true ↦ suppose hs n q c | false ↦ true ]) g t in
      s_suppose hs (and_r (ok_b s) (ok_g hs) o) h.1 n u.seen c u.agrees
      (subst (λ (x : Bool). T (elim x [ true ↦ suppose hs n u.seen c | false ↦ true ])) h.0 u.passed)

  pub s_each : (hs : List Given) (a b : W) → T (ok_g hs) → T (ok a) → T (ok b) → Holds hs → (n : ℕ) → T (each hs a b n) → (i : ℕ) → i < n → bit i (eval a ρ) ≡ bit i (eval b ρ)
  s_each hs a b oh oa ob h zero t i lt = absurd (not-suc-le-zero lt)
  s_each hs a b oh oa ob h (suc n) t i lt =
      let w = two (suppose hs n none (agree a b n)) (each hs a b n) t in
      ⊎_elim
      (λ e. subst (λ (j : ℕ). bit j (eval a ρ) ≡ bit j (eval b ρ)) (sym e) (here w.0))
      (λ l. s_each hs a b oh oa ob h n w.1 i l)
      (eq-or-lt_of_le (le_of_suc-le-suc lt))
    where
      here : T (suppose hs n none (agree a b n)) → bit n (eval a ρ) ≡ bit n (eval b ρ)
      here v =
          let u = s_suppose hs oh h n none (agree a b n) tt v in
          let ua = s_w a oa n u.seen (λ y q. run_w b n q (λ z r. beq y z)) u.agrees u.passed in
          let ub = s_w b ob n ua.seen (λ z r. beq (bit n (eval a ρ)) z) ua.agrees ua.passed in
          beq→≡ (bit n (eval a ρ)) (bit n (eval b ρ)) (T→≡ (beq (bit n (eval a ρ)) (bit n (eval b ρ))) ub.passed)

  -- two expressions with the same bits are the same number
  pub whole : (a b : W) → T (ok a && ok b) → ((i : ℕ) → i < max (wid a) (wid b) → bit i (eval a ρ) ≡ bit i (eval b ρ)) → eval a ρ ≡ eval b ρ
  whole a b o e =
      ext (max (wid a) (wid b)) (eval a ρ) (eval b ρ)
      (lt_of_lt_of_le (wid_lt a (and_l (ok a) (ok b) o)) (pow_mono (le-max_left (wid a) (wid b))))
      (lt_of_lt_of_le (wid_lt b (and_r (ok a) (ok b) o)) (pow_mono (le-max_right (wid a) (wid b)))) e
