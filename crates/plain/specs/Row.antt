-- What a row of the table means, for any row. Source: docs/RULES.md, "Registers".
use Rattle.std.specs.Prelude.{ℕ, Bool, ◌&&◌, leb, ltb}
use Rattle.bits.specs.Alg.{Alg, plain}
use Rattle.plain.specs.declared.row.Row.{Row}
use Rattle.plain.specs.declared.row.Rule.{Rule}
use Rattle.plain.specs.declared.row.Rule.TheVariants.{Copied, Mpp, Cbie, Dirty, Interrupts, Tvec, Epc, Translation, Pending, Sstatus, Sie, Sip, Inverted, ReadOnly}
use Rattle.plain.specs.declared.row.Asked as declared

-- the row stands at this address
abbrev pub is_at : Row → ℕ → Bool
is_at r a = leb r.first a && leb a r.last

-- what a row is asked with
pub record Asked (A : Alg) : Type 0 where
  pub has : A.Word  -- the extensions that the hart has
  pub raised : A.Word  -- SEIP, if the interrupt controller raises it, else 0
  pub above : A.Test  -- the value lies above the highest valid address
  pub interrupts : A.Word
  pub mideleg : A.Word
  pub menvcfg : A.Word
  pub old : A.Word  -- the register's word, as it is stored
  pub value : A.Word  -- the value written

module _ (A : Alg) where
  open A use {Word, Test, num, ◌∣◌, ◌&◌, compl, ◌≐◌, merged, when, choose, both, either, isnt}

  -- the hart has each extension of the set
  abbrev pub has_all : Word → ℕ → Test
  has_all has set = has & num set ≐ num set

  -- the row applies: the hart has all that it asks for
  abbrev pub applies : Word → Row → Test
  applies has r = has_all has r.extensions

  -- what a row shows of the register's word: the rule, the kept bits
  abbrev pub shows_by : Asked A → Rule → ℕ → Word
  shows_by q Sstatus kept = q.old & num kept
  shows_by q Sie kept = q.old & (q.mideleg & num kept)
  shows_by q Sip kept = (q.old ∣ q.raised) & (q.mideleg & num 0x222)
  shows_by q Pending kept = q.old ∣ q.raised
  shows_by q Inverted kept = compl q.old
  shows_by q _ kept = q.old

  abbrev pub shows : Asked A → Row → Word
  shows q r = shows_by q r.rule r.kept

  -- what a row makes of the value: the rule, the value's kept bits, the kept bits, the forced bits
  abbrev pub takes_by : Asked A → Rule → Word → ℕ → ℕ → Word
  takes_by q Copied v kept forced = v ∣ num forced
  takes_by q Inverted v kept forced = v ∣ num forced
  -- 2 becomes 0, and 1 without S
  takes_by q Mpp v kept forced =
      choose (either (v ≐ num 0x1000) (both (v ≐ num 0x800) (isnt (has_all q.has 1)))) (num 0) v
  -- 2 becomes 0
  takes_by q Cbie v kept forced = choose (v ≐ num 0x20) (num 0) v
  -- the bits are forced if the field is 3
  takes_by q Dirty v kept forced = v ∣ when (v ≐ num kept) (num forced)
  -- those that the hart has
  takes_by q Interrupts v kept forced = v & q.interrupts ∣ num forced
  -- a reserved mode keeps the old one
  takes_by q Tvec v kept forced = choose (v & num 2 ≐ num 0) v (v & compl (num 3) ∣ q.old & num 3)
  -- a value above the highest valid address is ignored
  takes_by q Epc v kept forced = choose q.above q.old v
  -- a mode that is neither Bare nor Sv39 is ignored, with the whole value
  takes_by q Translation v kept forced =
      choose (either (v & num 0xF000000000000000 ≐ num 0) (v & num 0xF000000000000000 ≐ num 0x8000000000000000)) v q.old
  -- those that the hart has, but not STIP while STCE is 1; the others stay
  takes_by q Pending v kept forced =
      merged q.old q.value
      (num kept & q.interrupts & compl (when (q.menvcfg & num 0x8000000000000000 ≐ num 0x8000000000000000) (num 0x20)))
  -- the delegated ones; the others stay
  takes_by q Sie v kept forced = merged q.old q.value (q.mideleg & num kept)
  -- the bits that aren't kept stay
  takes_by q Sip v kept forced = merged q.old q.value (num kept)
  takes_by q Sstatus v kept forced = merged q.old q.value (num kept)
  -- a write is ignored
  takes_by q ReadOnly v kept forced = q.old

  abbrev pub takes : Asked A → Row → Word
  takes q r = takes_by q r.rule (q.value & num r.kept) r.kept r.forced

-- what the code asks with, in its own words
abbrev pub asked : declared.Asked → Asked plain
asked q =
    record {
      has = q.has;
      raised = q.raised;
      above = ltb q.highest q.value;
      interrupts = q.interrupts;
      mideleg = q.mideleg;
      menvcfg = q.menvcfg;
      old = q.old;
      value = q.value;
    }

abbrev pub applies_to : ℕ → Row → Bool
applies_to = applies plain

unfoldable pub shows_of : declared.Asked → Row → ℕ
shows_of q r = shows plain (asked q) r

unfoldable pub takes_of : declared.Asked → Row → ℕ
takes_of q r = takes plain (asked q) r
