-- An explanation is refused as the write is, lists nothing then, and else explains that write.
use Prim.Native.Nat.{ℕ}
use mathlib.Core.Bool.{Bool, true, false, cond}
use mathlib.Core.List.{List}
use mathlib.Core.Path.{◌≡◌, refl, sym, ap, ◌∙◌, subst}
use lib.Dec.{eqb, T}
use Rattle.std.specs.Prelude.{Ok, Err}
use Rattle.bits.specs.Word.{Fits}
use Rattle.image.specs.Inner.{Bytes}
use Rattle.hart.specs.Answers.{refusal_number}
use Rattle.hart.specs.declared.record.Host.{Host}
use Rattle.hart.specs.declared.answer.Refusal.{Refusal}
use Rattle.hart.specs.declared.answer.Refusal.TheVariants.{BadCaps, BadHart}
use Rattle.csr.specs.Access.{write_to}
use Rattle.csr.specs.Address.{Decoded, decode_of}
use Rattle.csr.proofs.Decoded.{stands_there}
use Rattle.csr.proofs.Laws.{decoded_is_present}
use Rattle.lent.specs.Images.{caps_at, hart_at, is_caps, is_hart}
use Rattle.lent.specs.Outcome.{refused_by}
use Rattle.lent.specs.declared.outcome.Outcome.{Outcome}
use Rattle.calls.specs.Calls.{Write}
use Rattle.calls.specs.Entries.{given, entry_of}
use Rattle.explain.specs.Explain.{listed, refused_with, listing, found_to, found_of, explain_of}
use Rattle.explain.specs.declared.listing.Listing.{Listing}
use Rattle.laws.specs.Laws.{RefusedAsWrite, ExplainInOrder, ExplainLowestRefused, ListsNothing, RefusedListsNothing, OfWrite, ExplainedIsWritten, InOrder, IsLowest}
use Rattle.laws.specs.Refusals.{refusals}
use Rattle.laws.proofs.InOrder.{refused_not, refused_in_order, lowest_refused}
use Rattle.laws.proofs.CallsKeepLegal.{record_legal}

module _ (o : Host) (a v : ℕ) (c s : List ℕ) where
  -- what is given by the tests of the images, and by what the address gives
  abbrev explain_by : Bool → Bool → Decoded → Listing
  explain_by p q d = listing (cond p (cond q (found_to (caps_at c) (hart_at s) o v d) (Err BadHart)) (Err BadCaps))

  abbrev write_by : Bool → Bool → Decoded → Outcome × List ℕ
  write_by p q d = cond p (cond q (given s (write_to (caps_at c) (hart_at s) v d)) (refused_by BadHart s)) (refused_by BadCaps s)

  -- where the tests pass and the address gives this
  by_tests : {A : Type 0} (f : Bool → Bool → Decoded → A) {d : Decoded} → is_caps c ≡ true → is_hart (caps_at c) s ≡ true → decode_of (caps_at c) a ≡ d
      → f (is_caps c) (is_hart (caps_at c) s) (decode_of (caps_at c) a) ≡ f true true d
  by_tests f p q e = rw (p, q, e)

  as_write : (explain_of o a v c s).refusal ≡ (entry_of (Write a v) c s).0.refusal
  unfolding explain_of found_of entry_of given listed
  as_write = go (is_caps c) (is_hart (caps_at c) s) (decode_of (caps_at c) a)
    where
      go : (p q : Bool) (d : Decoded) → (explain_by p q d).refusal ≡ (write_by p q d).0.refusal
      go true true (Ok r) = refl
      go true true (Err why) = refl
      go true false d = refl
      go false q d = refl

  nothing : ((explain_of o a v c s).refusal ≡ 0 → ⊥) → ListsNothing (explain_of o a v c s)
  unfolding explain_of found_of listed
  nothing = go (is_caps c) (is_hart (caps_at c) s) (decode_of (caps_at c) a)
    where
      refused : (why : Refusal) → ListsNothing (refused_with (refusal_number why))
      refused why = record { count = refl; bits = refl; reasons = refl }

      go : (p q : Bool) (d : Decoded) → ((explain_by p q d).refusal ≡ 0 → ⊥) → ListsNothing (explain_by p q d)
      go true true (Ok r) z = absurd (z refl)
      go true true (Err why) z = refused why
      go true false d z = refused BadHart
      go false q d z = refused BadCaps

  of_write : Bytes c → Bytes s → Fits v → (explain_of o a v c s).refusal ≡ 0 → OfWrite o a v c s
  unfolding explain_of found_of entry_of given listed
  of_write bc bs fv z = go (is_caps c) (is_hart (caps_at c) s) (decode_of (caps_at c) a) refl refl refl z
    where
      go : (p q : Bool) (d : Decoded) → is_caps c ≡ p → is_hart (caps_at c) s ≡ q → decode_of (caps_at c) a ≡ d → (explain_by p q d).refusal ≡ 0 → OfWrite o a v c s
      go true true (Ok r) e f g y =
          let there = decoded_is_present (caps_at c) a r g in
          record {
            csr = r;
            accepted =
                record {
                  legal = record_legal c bc e s (record { bytes = bs; legal = f });
                  value = fv;
                  found = stands_there (caps_at c) a r g;
                  present = there.1;
                };
            listing = by_tests explain_by e f g;
            written = ap (λ (t : Outcome × List ℕ). t.1) (by_tests write_by e f g);
          }
      go true true (Err why) e f g y = refused_not why y
      go true false d e f g y = refused_not BadHart y
      go false q d e f g y = refused_not BadCaps y

pub refused_as_write : RefusedAsWrite
refused_as_write = as_write

pub explain_in_order : ExplainInOrder
explain_in_order o a v c s = subst (λ (n : ℕ). InOrder n (refusals (Write a v) c s)) (sym (as_write o a v c s)) (refused_in_order (Write a v) c s)

pub explain_lowest_refused : ExplainLowestRefused
explain_lowest_refused o a v c s = subst (λ (n : ℕ). IsLowest n (refusals (Write a v) c s)) (sym (as_write o a v c s)) (lowest_refused (Write a v) c s)

pub refused_lists_nothing : RefusedListsNothing
refused_lists_nothing = nothing

pub explained_is_written : ExplainedIsWritten
explained_is_written = of_write
