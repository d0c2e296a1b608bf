-- The test of `by_bits`: at each bit it runs both expressions, and asks for a bit of a variable, or
-- for a flag, only where the outcome depends on it; then it goes both ways.
use mathlib.Core.Bool.{Bool, true, false, not, ◌&&◌, beq}
use mathlib.Core.List.{List, [], ◌∷◌}
use Prim.Native.Nat.{ℕ, zero, suc, ◌+◌, ◌-◌, max}
use lib.Dec.{eqb, leb, ltb}
use Rattle.bits.specs.Word.{bit}
use Rattle.bits.proofs.Expr.{W, B, var, lit, ◌&◌, ◌∣◌, ◌⊕◌, inv, shr, shl, low, ite, flag, ◌≐◌, both, either, isnt, wid, ok, ok_b}

-- what has been supposed so far
pub data Known : Type 0 where
  none : Known
  bit_is : ℕ → ℕ → Bool → Known → Known
  flag_is : ℕ → Bool → Known → Known

pub data Maybe : Type 0 where
  unknown : Maybe
  is : Bool → Maybe

abbrev pub and3 : Maybe → Maybe → Maybe
and3 (is true) y = y
and3 (is false) y = is false
and3 unknown (is true) = unknown
and3 unknown (is false) = is false
and3 unknown unknown = unknown

abbrev pub or3 : Maybe → Maybe → Maybe
or3 (is true) y = is true
or3 (is false) y = y
or3 unknown (is true) = is true
or3 unknown (is false) = unknown
or3 unknown unknown = unknown

abbrev pub not3 : Maybe → Maybe
not3 (is b) = is (not b)
not3 unknown = unknown

abbrev pub same3 : Maybe → Maybe → Maybe
same3 unknown y = unknown
same3 (is a) unknown = unknown
same3 (is true) (is true) = is true
same3 (is true) (is false) = unknown
same3 (is false) (is true) = unknown
same3 (is false) (is false) = is false

-- bit i of a word, where no variable and no test decides it
abbrev pub peek : W → ℕ → Maybe
peek (var k) i = unknown
peek (lit n) i = is (bit i n)
peek (a & b) i = and3 (peek a i) (peek b i)
peek (a ∣ b) i = or3 (peek a i) (peek b i)
peek (a ⊕ b) i = unknown
peek (inv a) i = elim (ltb i 64) [ true ↦ not3 (peek a i) | false ↦ is false ]
peek (shr k a) i = peek a (k + i)
peek (shl k a) i = elim (leb k i) [ true ↦ peek a (i - k) | false ↦ is false ]
peek (low w a) i = elim (ltb i w) [ true ↦ peek a i | false ↦ is false ]
peek (ite t a b) i = same3 (peek a i) (peek b i)

abbrev pub find_bit : ℕ → ℕ → Known → Maybe
find_bit k j none = unknown
find_bit k j (bit_is k' j' b p) = elim (eqb k k' && eqb j j') [ true ↦ is b | false ↦ find_bit k j p ]
find_bit k j (flag_is k' b p) = find_bit k j p

abbrev pub find_flag : ℕ → Known → Maybe
find_flag k none = unknown
find_flag k (bit_is k' j' b p) = find_flag k p
find_flag k (flag_is k' b p) = elim (eqb k k') [ true ↦ is b | false ↦ find_flag k p ]

abbrev pub Cont : Type 0
Cont = Bool → Known → Bool

abbrev pub ask_bit : ℕ → ℕ → Known → Cont → Bool
ask_bit k j p c = elim (find_bit k j p) [ is b ↦ c b p | unknown ↦ elim (c true (bit_is k j true p)) [ true ↦ c false (bit_is k j false p) | false ↦ false ] ]

abbrev pub ask_flag : ℕ → Known → Cont → Bool
ask_flag k p c = elim (find_flag k p) [ is b ↦ c b p | unknown ↦ elim (c true (flag_is k true p)) [ true ↦ c false (flag_is k false p) | false ↦ false ] ]

-- the n lowest bits agree
abbrev pub all_eq : (ℕ → Known → Cont → Bool) → (ℕ → Known → Cont → Bool) → ℕ → Known → Cont → Bool
all_eq f g zero p c = c true p
all_eq f g (suc n) p c = f n p (λ x q. g n q (λ y r. elim (beq x y) [ true ↦ all_eq f g n r c | false ↦ c false r ]))

abbrev mutual
  -- bit i of a word goes to c
  pub run_w : W → ℕ → Known → Cont → Bool
  run_w (var k) i p c = elim (ltb i 64) [ true ↦ ask_bit k i p c | false ↦ c false p ]
  run_w (lit n) i p c = c (bit i n) p
  run_w (a & b) i p c = run_w b i p (λ x q. elim x [ true ↦ run_w a i q c | false ↦ c false q ])
  run_w (a ∣ b) i p c = run_w b i p (λ x q. elim x [ true ↦ c true q | false ↦ run_w a i q c ])
  run_w (a ⊕ b) i p c = run_w a i p (λ x q. run_w b i q (λ y r. c (not (beq x y)) r))
  run_w (inv a) i p c = elim (ltb i 64) [ true ↦ run_w a i p (λ x q. c (not x) q) | false ↦ c false p ]
  run_w (shr k a) i p c = run_w a (k + i) p c
  run_w (shl k a) i p c = elim (leb k i) [ true ↦ run_w a (i - k) p c | false ↦ c false p ]
  run_w (low w a) i p c = elim (ltb i w) [ true ↦ run_w a i p c | false ↦ c false p ]
  run_w (ite t a b) i p c = elim (same3 (peek a i) (peek b i)) [ is x ↦ c x p | unknown ↦ run_b t p (λ x q. elim x [ true ↦ run_w a i q c | false ↦ run_w b i q c ]) ]

  pub run_b : B → Known → Cont → Bool
  run_b (flag k) p c = ask_flag k p c
  run_b (a ≐ b) p c = all_eq (λ i q d. run_w a i q d) (λ i q d. run_w b i q d) (max (wid a) (wid b)) p c
  run_b (both s t) p c = run_b s p (λ x q. elim x [ true ↦ run_b t q c | false ↦ c false q ])
  run_b (either s t) p c = run_b s p (λ x q. elim x [ true ↦ c true q | false ↦ run_b t q c ])
  run_b (isnt t) p c = run_b t p (λ x q. c (not x) q)

-- what is supposed: two words are the same, which is put to use at one bit at a time; or a test
-- passes
pub data Given : Type 0 where
  same : W → W → Given
  holds : B → Given

-- go on where what is supposed holds at bit n
abbrev pub suppose : List Given → ℕ → Known → (Known → Bool) → Bool
suppose [] n p c = c p
suppose (same a b ∷ hs) n p c = run_w a n p (λ y q. run_w b n q (λ z r. elim (beq y z) [ true ↦ suppose hs n r c | false ↦ true ]))
suppose (holds t ∷ hs) n p c = run_b t p (λ x q. elim x [ true ↦ suppose hs n q c | false ↦ true ])

abbrev pub ok_g : List Given → Bool
ok_g [] = true
ok_g (same a b ∷ hs) = (ok a && ok b) && ok_g hs
ok_g (holds t ∷ hs) = ok_b t && ok_g hs

-- the two agree at bit n
abbrev pub agree : W → W → ℕ → Known → Bool
agree a b n p = run_w a n p (λ y q. run_w b n q (λ z r. beq y z))

-- at each of the n lowest bits: where hs hold, the two agree
abbrev pub each : List Given → W → W → ℕ → Bool
each hs a b zero = true
each hs a b (suc n) = elim (suppose hs n none (agree a b n)) [ true ↦ each hs a b n | false ↦ false ]

abbrev pub check : List Given → W → W → Bool
check hs a b = (ok_g hs && (ok a && ok b)) && each hs a b (max (wid a) (wid b))

-- for finding a mistake: the bits at which the two differ. State `fails hs a b ≡ []` by `refl`, and
-- read the list in the refusal
abbrev failing : List Given → W → W → ℕ → List ℕ
failing hs a b zero = []
failing hs a b (suc n) = elim (suppose hs n none (agree a b n)) [ true ↦ failing hs a b n | false ↦ n ∷ failing hs a b n ]

abbrev pub fails : List Given → W → W → List ℕ
fails hs a b = failing hs a b (max (wid a) (wid b))

-- a test passes whatever the variables are
abbrev pub always : B → Bool
always s = ok_b s && run_b s none (λ x p. x)

-- two tests have the same outcome
abbrev pub alike : B → B → Bool
alike s t = (ok_b s && ok_b t) && run_b s none (λ x p. run_b t p (λ y q. beq x y))
