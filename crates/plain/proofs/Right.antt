-- A table whose rows pass a test, which antt computes, is right: at each register's address they
-- give what its definition does, whatever the hart, and at every other address there is none.
use Prim.Native.Nat.{ℕ, zero, suc, ◌+◌, ◌-◌, ◌≤◌, ◌<◌}
use mathlib.Core.Bool.{Bool, true, false, cond, ◌&&◌}
use mathlib.Core.List.{List, [], ◌∷◌}
use mathlib.Core.Path.{◌≡◌, refl, sym, ap, ap₂, ◌∙◌, subst}
use native.Mathlib.Omega.{arith}
use lib.Dec.{eqb, leb, ltb, T}
use borrow.Author.Tests.{eqb-true, eqb-false, leb-true, eq-eqb}
use Rattle.std.specs.Prelude.{Some, None, is_some, Ok, Err}
use Rattle.std.specs.declared.option.Option.{Option}
use Rattle.bits.specs.Alg.{plain}
use Rattle.bits.proofs.Bools.{left, right, ≡→T, every}
use Rattle.bits.proofs.Decide.{W, Env, Given, lit, ◌≐◌, holds, eval, test, by_bits, by_bits_if}
use Rattle.bits.proofs.Run.{check}
use Rattle.bits.proofs.Shown.{shown}
use Rattle.hart.specs.Answers.{refused}
use Rattle.hart.specs.declared.caps.Caps.{Caps}
use Rattle.hart.specs.declared.record.Hart.{Hart}
use Rattle.hart.specs.declared.record.Host.{Host}
use Rattle.hart.specs.declared.answer.Refusal.TheVariants.{CsrAbsent, BadLine}
use Rattle.hart.specs.Answers.{Answer}
use Rattle.hart.specs.declared.answer.Step.{Step}
use Rattle.hart.specs.declared.answer.Effect.TheVariants.{Nothing}
use Rattle.csr.specs.Address.{address_of, csr_at, is_present, Decoded, decode_found, decode_of}
use Rattle.csr.specs.Line.{is_line, line_to}
use Rattle.csr.specs.Access.{read_of, hart_after, read_to, read_at, step_to, write_to, write_at}
use Rattle.csr.specs.declared.address.Csr.{Csr}
use Rattle.csr.proofs.Found.{found_at_its_address, stands, each_found, every_found}
use Rattle.plain.specs.Row.{is_at, Asked, asked}
use Rattle.plain.specs.Words.{put_word}
use Rattle.plain.specs.Engine.{first_at, present_at, shows_at, takes_at, stores_at, asked_of, no_host, plain_read_by, plain_read, plain_write_by, plain_write}
use Rattle.plain.specs.Laws.{FitsAsked, Fitting, Right, TableIsRight}
use Rattle.plain.specs.declared.row.Row.{Row}
use Rattle.plain.specs.declared.row.Rule.{Rule}
use Rattle.plain.specs.declared.row.Rule.TheVariants.{Copied}
use Rattle.plain.specs.declared.words.Source.{Source}
use Rattle.plain.proofs.Sources.{same, same_is}
use Rattle.plain.proofs.Evaluated.{present_at_lem, shows_at_lem, stores_at_lem}
use Rattle.plain.specs.Table.{table}
use Rattle.plain.proofs.Defined.{question, above_again, definition, stores, present_w, present_is, values_of, reads_is, stores_is}

-- ---- the test

-- the row is there, and has this word
abbrev has_word : Source → Option Row → Bool
has_word x None = false
has_word x (Some first) = same first.word x

abbrev rule_of : Option Row → Rule
rule_of None = Copied
rule_of (Some first) = first.rule

module _ (t : List Row) where
  -- of a register: its first row says where its word is, and as expressions its rows give what its
  -- definition does, on a hart that has it
  module _ (r : Csr) where
    abbrev here : W
    here = present_at shown question (address_of r) t

    abbrev supposed : List Given
    supposed = holds (here ≐ lit 1) ∷ []

    abbrev worded : Bool
    worded = has_word (definition r).word (first_at (address_of r) t)

    abbrev presence : Bool
    presence = check [] here (present_w r)

    abbrev shown_here : W
    shown_here = shows_at shown question (address_of r) t

    abbrev reading : Bool
    reading = check supposed shown_here (definition r).reads

    abbrev stored_here : W
    stored_here = stores_at shown question (λ w. above_again) (rule_of (first_at (address_of r) t)) (address_of r) t

    abbrev storing : Bool
    storing = check supposed stored_here (stores r)

    abbrev register : Bool
    register = worded && (presence && (reading && storing))

  -- of a row: each address from its first to its last is a register's
  abbrev is_known : Option Csr → Bool
  is_known (Some r) = true
  is_known None = false

  abbrev run : ℕ → ℕ → Bool
  run a zero = true
  run a (suc n) = is_known (csr_at a) && run (suc a) n

  abbrev row : Row → Bool
  row r = run r.first (suc r.last - r.first)

  abbrev passes : Bool
  passes = each_found register && every row t

-- ---- what it says of a register

module _ (t : List Row) (r : Csr) (p : register t r ≡ true) where
  abbrev a : ℕ
  a = address_of r

  abbrev checks : (presence t r && (reading t r && storing t r)) ≡ true
  checks = right (worded t r) _ p

  abbrev rest : (reading t r && storing t r) ≡ true
  rest = right (presence t r) _ checks

  -- its first row
  pub first_here : (row : Row) × (first_at a t ≡ Some row) × (row.word ≡ (definition r).word)
  first_here = go (first_at a t) refl (left (worded t r) _ p)
    where
      go : (found : Option Row) → first_at a t ≡ found → has_word (definition r).word found ≡ true → (row : Row) × (first_at a t ≡ Some row) × (row.word ≡ (definition r).word)
      go None e w = absurd (subst T (sym w) tt)
      go (Some row) e w = (row, e, same_is row.word (definition r).word w)

  module _ (c : Caps) (h : Hart) (o : Host) (v : ℕ) (f : FitsAsked (asked_of c h o (definition r).word v)) where
    abbrev q : Asked plain
    q = asked (asked_of c h o (definition r).word v)

    -- whether what a view hands on to mstatus lies above the highest address
    abbrev again : Bool
    again = ltb c.highest (takes_at plain q a t)

    abbrev ρ : Env
    ρ = values_of c h o v again r f

    pub present_here : present_at plain q a t ≡ cond (is_present c r) 1 0
    present_here =
        sym (present_at_lem ρ question a t)
        ∙ by_bits (here t r) (present_w r) (≡→T (presence t r) (left (presence t r) _ checks)) ρ
        ∙ present_is c h o (definition r).word v again f r

    module _ (e : is_present c r ≡ true) where
      one : eval (here t r) ρ ≡ 1
      one = present_at_lem ρ question a t ∙ present_here ∙ ap (λ (b : Bool). cond b 1 0) e

      supposing : test (here t r ≐ lit 1) ρ ≡ true
      supposing = eq-eqb _ _ one

      pub shows_here : shows_at plain q a t ≡ read_of c h o r
      shows_here =
          sym (shows_at_lem ρ question a t)
          ∙ by_bits_if (supposed t r) (shown_here t r) (definition r).reads (≡→T (reading t r) (left (reading t r) _ rest)) ρ (supposing, tt)
          ∙ reads_is c h o v again r f

      pub stores_here : put_word (definition r).word (stores_at plain q (ltb c.highest) (rule_of (first_at a t)) a t) h ≡ hart_after c h r v
      stores_here =
          ap (λ (x : ℕ). put_word (definition r).word x h)
          (sym (stores_at_lem ρ question (rule_of (first_at a t)) a t above_again (ltb c.highest) refl)
          ∙ by_bits_if (supposed t r) (stored_here t r) (stores r) (≡→T (storing t r) (right (reading t r) _ rest)) ρ (supposing, tt))
          ∙ stores_is c h o v again r f

-- ---- the register's read and write

module _ (t : List Row) (r : Csr) (p : register t r ≡ true) (e : csr_at (address_of r) ≡ Some r) where
  abbrev at : ℕ
  at = address_of r

  abbrev first : Row
  first = (first_here t r p).0

  abbrev found : first_at at t ≡ Some first
  found = (first_here t r p).1

  abbrev worded_so : first.word ≡ (definition r).word
  worded_so = (first_here t r p).2

  decoded : (c : Caps) → decode_of c at ≡ cond (is_present c r) (Ok r) (Err CsrAbsent)
  decoded c = ap (decode_found c at) e

  -- what is read and written by a word and a rule
  abbrev read_with : Caps → Hart → Host → Source → Answer
  read_with c h o x =
      let q = asked (asked_of c h o x 0) in
      cond (eqb (present_at plain q at t) 0) (Err CsrAbsent)
      (cond (is_line o.line) (Ok (shows_at plain q at t, Nothing)) (Err BadLine))

  abbrev write_with : Caps → Hart → ℕ → Source → Rule → Step
  write_with c h v x rule =
      let q = asked (asked_of c h no_host x v) in
      cond (eqb (present_at plain q at t) 0) (refused h CsrAbsent)
      (step_to h (put_word x (stores_at plain q (ltb c.highest) rule at t) h))

  -- of the word that the definition names
  fits_here : (c : Caps) (h : Hart) (o : Host) (v : ℕ) → Fitting c h o v (first_at at t) → FitsAsked (asked_of c h o (definition r).word v)
  fits_here c h o v f = subst (λ (x : Source). FitsAsked (asked_of c h o x v)) worded_so (subst (Fitting c h o v) found f)

  pub read_here : (c : Caps) (h : Hart) (o : Host) → Fitting c h o 0 (first_at at t) → plain_read t c h o at ≡ read_at c h o at
  read_here c h o f =
      ap (plain_read_by t c h o at) found
      ∙ ap (read_with c h o) worded_so
      ∙ rw (present_here t r p c h o 0 g) (go (is_present c r) (is_line o.line) refl refl)
      ∙ ap (λ (d : Decoded). read_to c h o (line_to o.line d)) (sym (decoded c))
    where
      g : FitsAsked (asked_of c h o (definition r).word 0)
      g = fits_here c h o 0 f

      go : (b l : Bool) → is_present c r ≡ b → is_line o.line ≡ l
          → cond (eqb (cond b 1 0) 0) (Err CsrAbsent) (cond (is_line o.line) (Ok (shows_at plain (asked (asked_of c h o (definition r).word 0)) at t, Nothing)) (Err BadLine))
          ≡ read_to c h o (line_to o.line (cond b (Ok r) (Err CsrAbsent)))
      go false l x y = refl
      go true true x y = rw (y, shows_here t r p c h o 0 g x)
      go true false x y = rw y

  pub write_here : (c : Caps) (h : Hart) (v : ℕ) → Fitting c h no_host v (first_at at t) → plain_write t c h at v ≡ write_at c h at v
  write_here c h v f =
      ap (plain_write_by t c h at v) found
      ∙ ap₂ (write_with c h v) worded_so (sym (ap rule_of found))
      ∙ rw (present_here t r p c h no_host v g) (go (is_present c r) refl)
      ∙ ap (write_to c h v) (sym (decoded c))
    where
      g : FitsAsked (asked_of c h no_host (definition r).word v)
      g = fits_here c h no_host v f

      go : (b : Bool) → is_present c r ≡ b
          → cond (eqb (cond b 1 0) 0) (refused h CsrAbsent) (step_to h (put_word (definition r).word (stores_at plain (asked (asked_of c h no_host (definition r).word v)) (ltb c.highest) (rule_of (first_at at t)) at t) h))
          ≡ write_to c h v (cond b (Ok r) (Err CsrAbsent))
      go false x = refl
      go true x = ap (step_to h) (stores_here t r p c h no_host v g x)

-- ---- every address

-- an address of a run that passes is known
in_run : (t : List Row) (a n b : ℕ) → run t a n ≡ true → a ≤ b → b < a + n → is_known t (csr_at b) ≡ true
in_run t a zero b p low high = absurd (omega arith)
in_run t a (suc n) b p low high = go (eqb a b) refl (in_run t (suc a) n b (right (is_known t (csr_at a)) _ p))
  where
    go : (d : Bool) → eqb a b ≡ d → (suc a ≤ b → b < suc a + n → is_known t (csr_at b) ≡ true) → is_known t (csr_at b) ≡ true
    go true e later = subst (λ (x : ℕ). is_known t (csr_at x) ≡ true) (eqb-true a b e) (left (is_known t (csr_at a)) _ p)
    go false e later = let apart = eqb-false a b e in later (omega arith) (omega arith)

-- where there is a row, there is a register
known : (t u : List Row) (a : ℕ) → every (row t) u ≡ true → is_some (first_at a u) ≡ true → is_known t (csr_at a) ≡ true
known t [] a p e = absurd (subst T (sym e) tt)
known t (r ∷ u) a p e = go (is_at r a) refl e (known t u a (right (row t r) _ p))
  where
    go : (d : Bool) → is_at r a ≡ d → is_some (cond d (Some r) (first_at a u)) ≡ true → (is_some (first_at a u) ≡ true → is_known t (csr_at a) ≡ true) → is_known t (csr_at a) ≡ true
    go true q f later =
        let low : r.first ≤ a = leb-true r.first a (left (leb r.first a) _ q) in
        let high : a ≤ r.last = leb-true a r.last (right (leb r.first a) _ q) in
        in_run t r.first (suc r.last - r.first) a (left (row t r) _ p) low (omega arith)
    go false q f later = later f

module _ (t : List Row) (p : passes t ≡ true) where
  -- at the address of no register there is no row
  missed : (a : ℕ) → csr_at a ≡ None → first_at a t ≡ None
  missed a e = go (first_at a t) refl
    where
      go : (found : Option Row) → first_at a t ≡ found → found ≡ None
      go None q = refl
      go (Some r) q = absurd (subst T (sym (known t t a (right (each_found (register t)) _ p) (ap is_some q)) ∙ ap (is_known t) e) tt)

  registered : (a : ℕ) (r : Csr) → csr_at a ≡ Some r → register t r ≡ true
  registered = every_found (register t) (left (each_found (register t)) _ p)

  is_right : Right t
  is_right =
      record {
        reads = λ c h o a. reads c h o a (csr_at a) refl;
        writes = λ c h a v. writes c h a v (csr_at a) refl;
      }
    where
      reads : (c : Caps) (h : Hart) (o : Host) (a : ℕ) (d : Option Csr) → csr_at a ≡ d → Fitting c h o 0 (first_at a t) → plain_read t c h o a ≡ read_at c h o a
      reads c h o a None e = λ f. ap (plain_read_by t c h o a) (missed a e) ∙ (ap (λ (d : Option Csr). read_to c h o (line_to o.line (decode_found c a d))) (sym e))
      reads c h o a (Some r) e =
          subst (λ (x : ℕ). Fitting c h o 0 (first_at x t) → plain_read t c h o x ≡ read_at c h o x) (found_at_its_address a r e)
          (read_here t r (registered a r e) (stands a r e) c h o)

      writes : (c : Caps) (h : Hart) (a v : ℕ) (d : Option Csr) → csr_at a ≡ d → Fitting c h no_host v (first_at a t) → plain_write t c h a v ≡ write_at c h a v
      writes c h a v None e = λ f. ap (plain_write_by t c h a v) (missed a e) ∙ (ap (λ (d : Option Csr). write_to c h v (decode_found c a d)) (sym e))
      writes c h a v (Some r) e =
          subst (λ (x : ℕ). Fitting c h no_host v (first_at x t) → plain_write t c h x v ≡ write_at c h x v) (found_at_its_address a r e)
          (write_here t r (registered a r e) (stands a r e) c h v)

-- ---- the table

table_passes : passes table ≡ true
unfolding csr_at table
table_passes = refl

pub table_is_right : TableIsRight
table_is_right = is_right table table_passes
