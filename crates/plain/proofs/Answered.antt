-- What a read and a write give, by the first row at the address and what was summed up of all.
use Prim.Native.Nat.{ℕ}
use mathlib.Core.Bool.{Bool, cond}
use mathlib.Core.Path.{◌≡◌, sym, ap, ap₂, ◌∙◌, subst}
use lib.Dec.{eqb, ltb}
use Rattle.std.specs.Prelude.{Some, None, Ok, Err}
use Rattle.bits.specs.Alg.{plain}
use Rattle.hart.specs.Answers.{refused}
use Rattle.hart.specs.declared.caps.Caps.{Caps}
use Rattle.hart.specs.declared.record.Hart.{Hart}
use Rattle.hart.specs.declared.record.Host.{Host}
use Rattle.hart.specs.declared.answer.Refusal.TheVariants.{NoSuchCsr, CsrAbsent, BadLine}
use Rattle.hart.specs.declared.answer.Effect.{Effect}
use Rattle.hart.specs.declared.answer.Step.{Step}
use Rattle.hart.specs.declared.answer.Effect.TheVariants.{Nothing}
use Rattle.csr.specs.Line.{is_line}
use Rattle.csr.specs.Access.{read_at, seip_change, step_to, write_at}
use Rattle.plain.specs.Row.{asked}
use Rattle.plain.specs.Words.{put_word}
use Rattle.plain.specs.Engine.{first_at, present_at, shows_at, takes_at, stores_at, asked_of, plain_read_by, no_host, plain_write_by}
use Rattle.plain.specs.Laws.{FitsAsked, Fitting}
use Rattle.plain.specs.Inner.{stored_by, with_rows}
use Rattle.plain.specs.Table.{table}
use Rattle.plain.specs.declared.row.Row.{Row}
use Rattle.plain.specs.declared.row.Asked as declared
use Rattle.plain.specs.declared.engine.Sum.{Sum}
use Rattle.plain.specs.declared.words.Source.{Source}
use Rattle.plain.proofs.Right.{table_is_right}
use Rattle.plain.proofs.Rows.{present_sum, shows_sum, takes_sum}

-- what was asked with, and the sum of the rows
module _ (q : declared.Asked) (a : ℕ) (s : Sum) (sums : s ≡ with_rows q a table) where
  absent : eqb s.present 0 ≡ eqb (present_at plain (asked q) a table) 0
  absent = ap (λ (x : Sum). eqb x.present 0) sums ∙ ap (λ (n : ℕ). eqb n 0) (present_sum q a table)

  shows : s.shows ≡ shows_at plain (asked q) a table
  shows = ap (λ (x : Sum). x.shows) sums ∙ shows_sum q a table

  takes : s.takes ≡ takes_at plain (asked q) a table
  takes = ap (λ (x : Sum). x.takes) sums ∙ takes_sum q a table

fitting : (c : Caps) (h : Hart) (o : Host) (a v : ℕ) (first : Row) (q : declared.Asked) → Some first ≡ first_at a table → q ≡ asked_of c h o first.word v → FitsAsked q → Fitting c h o v (first_at a table)
fitting c h o a v first q e asks f = subst (Fitting c h o v) e (subst FitsAsked asks f)

module _ (c : Caps) (h : Hart) (o : Host) (a : ℕ) where
  pub read_none : None ≡ first_at a table → read_at c h o a ≡ Err NoSuchCsr
  read_none e = sym (table_is_right.reads c h o a (subst (Fitting c h o 0) e tt)) ∙ ap (plain_read_by table c h o a) (sym e)

  pub read_some : (first : Row) (q : declared.Asked) (s : Sum) → Some first ≡ first_at a table → q ≡ asked_of c h o first.word 0 → FitsAsked q → s ≡ with_rows q a table
      → (p l : Bool) → eqb s.present 0 ≡ p → is_line o.line ≡ l → cond p (Err CsrAbsent) (cond l (Ok (s.shows, Nothing)) (Err BadLine)) ≡ read_at c h o a
  read_some first q s e asks f sums p l none_applies up =
      ap₂ (λ (x y : Bool). cond x (Err CsrAbsent) (cond y (Ok (s.shows, Nothing)) (Err BadLine))) (sym none_applies) (sym up)
      ∙ ap₂ (λ (b : Bool) (n : ℕ). cond b (Err CsrAbsent) (cond (is_line o.line) (Ok (n, Nothing)) (Err BadLine))) (absent (asked_of c h o first.word 0) a s same) (shows (asked_of c h o first.word 0) a s same)
      ∙ ap (plain_read_by table c h o a) e
      ∙ table_is_right.reads c h o a (fitting c h o a 0 first q e asks f)
    where
      same : s ≡ with_rows (asked_of c h o first.word 0) a table
      same = sums ∙ ap (λ (x : declared.Asked). with_rows x a table) asks

module _ (c : Caps) (h : Hart) (a v : ℕ) where
  pub write_none : None ≡ first_at a table → write_at c h a v ≡ refused h NoSuchCsr
  write_none e = sym (table_is_right.writes c h a v (subst (Fitting c h no_host v) e tt)) ∙ ap (plain_write_by table c h a v) (sym e)

  pub write_some : (first : Row) (q : declared.Asked) (s : Sum) → Some first ≡ first_at a table → q ≡ asked_of c h no_host first.word v → FitsAsked q → s ≡ with_rows q a table
      → (p : Bool) → eqb s.present 0 ≡ p → cond p (refused h CsrAbsent) (step_to h (put_word first.word (stored_by table q first.rule s.takes) h)) ≡ write_at c h a v
  write_some first q s e asks f sums p none_applies =
      ap (λ (x : Bool). cond x (refused h CsrAbsent) (step_to h (put_word first.word (stored_by table q first.rule s.takes) h))) (sym none_applies)
      ∙ ap₂ (λ (b : Bool) (n : ℕ). cond b (refused h CsrAbsent) (step_to h (put_word first.word n h))) (absent (asked_of c h no_host first.word v) a s same) stores
      ∙ ap (plain_write_by table c h a v) e
      ∙ table_is_right.writes c h a v (fitting c h no_host a v first q e asks f)
    where
      same : s ≡ with_rows (asked_of c h no_host first.word v) a table
      same = sums ∙ ap (λ (x : declared.Asked). with_rows x a table) asks

      stores : stored_by table q first.rule s.takes ≡ stores_at plain (asked (asked_of c h no_host first.word v)) (ltb c.highest) first.rule a table
      stores =
          ap (λ (x : declared.Asked). stored_by table x first.rule s.takes) asks
          ∙ ap (stored_by table (asked_of c h no_host first.word v) first.rule) (takes (asked_of c h no_host first.word v) a s same)

-- the step that the code makes of the record that it stored
pub stepped : (h next : Hart) (w : Source) (x y : ℕ) (e : Effect) → e ≡ seip_change h.mip next.mip → next ≡ put_word w x h → x ≡ y → ◌≡◌ {A = Step} (record { hart = next; answer = Ok (0, e) }) (step_to h (put_word w y h))
stepped h next w x y e asks puts stores = ap (λ (k : Effect). record { hart = next; answer = Ok (0, k) }) asks ∙ ap (step_to h) (puts ∙ ap (λ (z : ℕ). put_word w z h) stores)
