-- The laws of the record's words, each for any word: what is read after a change, and what two
-- changes leave.
use mathlib.Core.Path.{◌≡◌, refl, sym, ap, ◌∙◌, subst}
use mathlib.Core.Bool.{Bool, true, false, cond}
use mathlib.Core.List.{List, [], ◌∷◌}
use Prim.Native.Nat.{ℕ, zero, suc, ◌≤◌, ◌<◌}
use lib.Dec.{eqb, ltb, leb}
use lib.ListN.{get_or, set}
use lib.Seq.{set-set}
use borrow.Author.Tests.{eqb-true, eq-eqb, leb-true, ltb-true}
use Rattle.bits.specs.Word.{Fits}
use Rattle.first.specs.Laws.{Each}
use Rattle.hart.specs.Words.{place_of, name_at, image_words, get, hart_of, put, puts, with_x, set_x}
use Rattle.hart.specs.Laws.{word_after, FitsHart, GetPuts, PutsX, IsPuts, SamePuts, PutGet, PutPut, SetSet}
use Rattle.hart.proofs.EveryWord.{by_words, every_word}
use Rattle.hart.specs.declared.record.Hart.{Hart}
use Rattle.hart.specs.declared.record.Word.{Word}

pub word_back : (w : Word) → name_at (place_of w) ≡ w
word_back = by_words (λ w. name_at (place_of w)) (λ w. w) refl

-- a place is one word's
pub place_same : (w u : Word) → place_of w ≡ place_of u → w ≡ u
place_same w u e = sym (word_back w) ∙ ap name_at e ∙ word_back u

-- behind x0 to x31, and among the image's words
pub place_from : (w : Word) → 32 ≤ place_of w
place_from w = leb-true 32 (place_of w) (every_word (λ u. leb 32 (place_of u)) refl w)

pub place_below : (w : Word) → place_of w < image_words
place_below w = ltb-true (place_of w) image_words (every_word (λ u. ltb (place_of u) image_words) refl w)

-- what is read of the record of these words
pub get_of : (u : Word) (xs : List ℕ) (f : Word → ℕ) → get u (hart_of xs f) ≡ f u
get_of u xs f = by_words (λ w. get w (hart_of xs f)) f refl u

-- what is read after a change of a word ..
pub get_put : (u w : Word) (v : ℕ) (h : Hart) → get u (put w v h) ≡ cond (eqb (place_of w) (place_of u)) v (get u h)
unfolding put
get_put u w v h = get_of u h.x (λ x. cond (eqb (place_of w) (place_of x)) v (get x h))

-- .. which leaves the general registers ..
pub put_x : (w : Word) (v : ℕ) (h : Hart) → (put w v h).x ≡ h.x
unfolding put
put_x w v h = refl

-- .. and after a change of these
pub get_x : (u : Word) (xs : List ℕ) (h : Hart) → get u (with_x xs h) ≡ get u h
get_x u xs h = get_of u xs (λ x. get x h)

-- records with the same registers and the same words are the same
pub same_words : (h next : Hart) → h.x ≡ next.x → ((w : Word) → get w h ≡ get w next) → h ≡ next
same_words h next r e = λ i. hart_of (r i) (λ w. e w i)

-- by whether a word is the one that was changed
pub by_place : (P : ℕ → Type 0) (w u : Word) {a b : ℕ} → (w ≡ u → P a) → P b → P (cond (eqb (place_of w) (place_of u)) a b)
by_place P w u {a} {b} p q = go (eqb (place_of w) (place_of u)) refl
  where
    go : (t : Bool) → eqb (place_of w) (place_of u) ≡ t → P (cond t a b)
    go true e = p (place_same w u (eqb-true (place_of w) (place_of u) e))
    go false e = q

pub get_same : (w : Word) (v : ℕ) (h : Hart) → get w (put w v h) ≡ v
get_same w v h = get_put w w v h ∙ ap (λ (t : Bool). cond t v (get w h)) (eq-eqb (place_of w) (place_of w) refl)

-- a word changed to what it is
pub put_get : PutGet
put_get w h =
    same_words (put w (get w h) h) h (put_x w (get w h) h)
    (λ u. get_put u w (get w h) h ∙ by_place (λ (n : ℕ). n ≡ get u h) w u (λ e. ap (λ (x : Word). get x h) e) refl)

-- a word changed twice
pub put_put : PutPut
put_put w a b h =
    same_words (put w a (put w b h)) (put w a h) (put_x w a (put w b h) ∙ put_x w b h ∙ sym (put_x w a h))
    (λ u. get_put u w a (put w b h) ∙ ap (cond (eqb (place_of w) (place_of u)) a) (get_put u w b h) ∙ twice (eqb (place_of w) (place_of u)) (get u h) ∙ sym (get_put u w a h))
  where
    twice : (t : Bool) (n : ℕ) → cond t a (cond t b n) ≡ cond t a n
    twice true n = refl
    twice false n = refl

pub fits_put : (w : Word) (v : ℕ) (h : Hart) → FitsHart h → Fits v → FitsHart (put w v h)
fits_put w v h f q = record {
  words = λ u. subst Fits (sym (get_put u w v h)) (by_place Fits w u (λ e. q) (f.words u));
  registers = λ i. subst (λ (xs : List ℕ). Fits (get_or xs i 0)) (sym (put_x w v h)) (f.registers i);
}

-- ---- many changes

pub get_puts : GetPuts
get_puts [] u h = refl
get_puts (k ∷ ks) u h = get_put u k.0 k.1 (puts ks h) ∙ ap (cond (eqb (place_of k.0) (place_of u)) k.1) (get_puts ks u h)

pub puts_x : PutsX
puts_x [] h = refl
puts_x (k ∷ ks) h = put_x k.0 k.1 (puts ks h) ∙ puts_x ks h

-- where each new value has 64 bits
pub fits_puts : (ks : List (Word × ℕ)) (h : Hart) → Each (λ k. Fits k.1) ks → FitsHart h → FitsHart (puts ks h)
fits_puts [] h e f = f
fits_puts (k ∷ ks) h e f = fits_put k.0 k.1 (puts ks h) (fits_puts ks h e.1 f) e.0

pub is_puts : IsPuts
is_puts h next ks r e =
    same_words next (puts ks h) (r ∙ sym (puts_x ks h))
    (λ u. by_words (λ w. get w next) (λ w. word_after ks w (get w h)) e u ∙ sym (get_puts ks u h))

pub same_puts : SamePuts
same_puts h ks js e =
    same_words (puts ks h) (puts js h) (puts_x ks h ∙ sym (puts_x js h))
    (λ u. get_puts ks u h ∙ by_words (λ w. word_after ks w (get w h)) (λ w. word_after js w (get w h)) e u ∙ sym (get_puts js u h))

-- ---- general registers

-- what is read of a list with one place changed
fits_set : (xs : List ℕ) (n v i : ℕ) → Fits v → ((j : ℕ) → Fits (get_or xs j 0)) → Fits (get_or (set xs n v) i 0)
fits_set [] n v i q f = f i
fits_set (x ∷ xs) zero v zero q f = q
fits_set (x ∷ xs) zero v (suc i) q f = f (suc i)
fits_set (x ∷ xs) (suc n) v zero q f = f zero
fits_set (x ∷ xs) (suc n) v (suc i) q f = fits_set xs n v i q (λ j. f (suc j))

-- by whether a general register is changed, and which
pub by_register : (P : Hart → Type 0) (n v : ℕ) (h : Hart) → P h → ((eqb n 0 ≡ false) → P (with_x (set h.x n v) h)) → P (set_x n v h)
by_register P n v h p q = go (eqb n 0) (ltb n 32) refl
  where
    go : (a b : Bool) → eqb n 0 ≡ a → P (cond a h (cond b (with_x (set h.x n v) h) h))
    go true b e = p
    go false true e = q e
    go false false e = p

pub set_set : SetSet
set_set n v w h = go (eqb n 0) (ltb n 32)
  where
    changed : Bool → Bool → ℕ → Hart → Hart
    changed a b u g = cond a g (cond b (with_x (set g.x n u) g) g)

    go : (a b : Bool) → changed a b v (changed a b w h) ≡ changed a b v h
    go true b = refl
    go false true = ap (λ (ys : List ℕ). with_x ys h) (set-set h.x n w v)
    go false false = refl

pub fits_set_x : (n v : ℕ) (h : Hart) → FitsHart h → Fits v → FitsHart (set_x n v h)
fits_set_x n v h f q =
    by_register FitsHart n v h f
    (λ e. record { words = words_same; registers = λ i. fits_set h.x n v i q f.registers })
  where
    next : Hart
    next = with_x (set h.x n v) h

    words_same : (w : Word) → Fits (get w next)
    words_same w = subst Fits (sym (get_x w (set h.x n v) h)) (f.words w)
