-- What is so of each word of the list `words` is so of every word: the list has all of them.
use mathlib.Core.Path.{◌≡◌, subst}
use mathlib.Core.Bool.{Bool, true}
use mathlib.Core.List.{List, [], ◌∷◌, map}
use mathlib.Core.Logic.{inl, inr}
use denote.Enum.Declared.{Choice}
use denote.Struct.Field.{Field}
use Rattle.bits.proofs.Bools.{left, right, every}
use Rattle.first.specs.Laws.{Each}
use Rattle.hart.specs.Words.{words}
use Rattle.hart.specs.declared.record.Word.{Word}
use Rattle.hart.specs.contracts.record.Word.{the_parts as parts, as_values, the_make as make, the_eta as eta}

-- of each variant of an enum, where none holds a value
abbrev EachVariant : (Fss : List (List Field)) → (Choice Fss → Type 0) → Type 0
EachVariant [] P = Unit {0}
EachVariant ([] ∷ Fss) P = P (inl tt) × EachVariant Fss (λ v. P (inr v))
EachVariant ((F ∷ Fs) ∷ Fss) P = ⊥

every_variant : (Fss : List (List Field)) (P : Choice Fss → Type 0) → EachVariant Fss P → (v : Choice Fss) → P v
every_variant [] P e v = absurd v
every_variant ([] ∷ Fss) P e (inl xs) = e.0
every_variant ([] ∷ Fss) P e (inr v) = every_variant Fss (λ u. P (inr u)) e.1 v
every_variant ((F ∷ Fs) ∷ Fss) P e v = absurd e

of_every : (P : Word → Type 0) → Each P words → (w : Word) → P w
of_every P e w = subst P (eta w) (every_variant parts (λ v. P (make v)) e (as_values w))

-- two functions with the same values there are the same
pub by_words : {A : Type 0} (f g : Word → A) → map f words ≡ map g words → (w : Word) → f w ≡ g w
by_words {A} f g e = of_every (λ w. f w ≡ g w) (each words e)
  where
    each : (ws : List Word) → map f ws ≡ map g ws → Each (λ w. f w ≡ g w) ws
    each [] q = tt
    each (w ∷ ws) q = (cc, each ws (cc))

-- a test that each passes, every word passes
pub every_word : (t : Word → Bool) → every t words ≡ true → (w : Word) → t w ≡ true
every_word t p = of_every (λ w. t w ≡ true) (each words p)
  where
    each : (ws : List Word) → every t ws ≡ true → Each (λ w. t w ≡ true) ws
    each [] q = tt
    each (w ∷ ws) q = (left (t w) (every t ws) q, each ws (right (t w) (every t ws) q))
