-- A chain of changes to single words, each legal, keeps a record legal: what a step is.
use mathlib.Core.Path.{◌≡◌}
use mathlib.Core.Bool.{true}
use mathlib.Core.List.{List, [], ◌∷◌, map}
use Prim.Native.Nat.{ℕ}
use Rattle.bits.specs.Word.{Fits}
use Rattle.hart.specs.Words.{puts}
use Rattle.hart.specs.Legal.{legal_word}
use Rattle.hart.specs.Laws.{Legal}
use Rattle.hart.proofs.Laws.{put_keeps_legal}
use Rattle.hart.specs.declared.caps.Caps.{Caps}
use Rattle.hart.specs.declared.record.Hart.{Hart}
use Rattle.hart.specs.declared.record.Word.{Word}

-- a legal value for a word
pub record LegalChange (c : Caps) : Type 0 where
  pub word : Word
  pub value : ℕ
  pub fits : Fits value
  pub legal : legal_word c word value ≡ true

abbrev pub change : {c : Caps} (w : Word) (v : ℕ) → Fits v → legal_word c w v ≡ true → LegalChange c
change w v f l = record { word = w; value = v; fits = f; legal = l }

module _ (c : Caps) (h : Hart) where
  -- the last of the list comes first
  abbrev pub changed : List (LegalChange c) → Hart
  changed ks = puts (map (λ k. (k.word, k.value)) ks) h

  pub chain_keeps_legal : (ks : List (LegalChange c)) → Legal c h → Legal c (changed ks)
  chain_keeps_legal [] l = l
  chain_keeps_legal (k ∷ ks) l = put_keeps_legal c (changed ks) k.word k.value (chain_keeps_legal ks l) k.fits k.legal
