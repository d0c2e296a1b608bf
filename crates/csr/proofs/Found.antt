-- A CSR that is found at an address is of the table or of a run of counters: so what is claimed of
-- it is shown of each.
use mathlib.Core.Path.{◌≡◌, refl, sym, ap, ◌∙◌, subst}
use mathlib.Core.Bool.{Bool, true, false, cond, ◌&&◌}
use mathlib.Core.List.{List, [], ◌∷◌}
use Prim.Native.Nat.{ℕ, zero, suc, ◌+◌, ◌-◌, ◌≤◌, ◌<◌}
use native.Mathlib.Omega.{arith}
use lib.Dec.{eqb, leb}
use borrow.Author.Tests.{eqb-true, eqb-false, leb-true}
use Rattle.std.specs.Prelude.{Option, Some, None}
use Rattle.bits.proofs.Bools.{left, right, every}
use Rattle.first.specs.Laws.{Each}
use Rattle.csr.specs.Address.{address_of, csrs, find, counter_at, csr_at, is_present_with}
use Rattle.csr.specs.Laws.{FoundAtItsAddress}
use Rattle.csr.specs.declared.address.Csr.{Csr}
use Rattle.csr.specs.declared.address.Csr.TheVariants.{Mhpmcounter, Mhpmevent}

module _ (a : ℕ) (Q : Csr → Type 0) where
  -- the claim of each of these, if it stands here
  abbrev pub EachHere : List Csr → Type 0
  EachHere = Each (λ s. a ≡ address_of s → Q s)

  in_table : (r : Csr) (rs : List Csr) (other : Option Csr) → EachHere rs → (other ≡ Some r → Q r) → find a rs other ≡ Some r → Q r
  in_table r [] other each k e = k e
  in_table r (s ∷ rs) other each k e = go (eqb a (address_of s)) refl e (in_table r rs other each.1 k)
    where
      go : (b : Bool) → eqb a (address_of s) ≡ b → cond b (Some s) (find a rs other) ≡ Some r → (find a rs other ≡ Some r → Q r) → Q r
      go true q f next = let same : s ≡ r = cc in subst Q same (each.0 (eqb-true a (address_of s) q))
      go false q f next = next f

  module _ (counter : 0xB03 ≤ a → a ≤ 0xB1F → Q (Mhpmcounter (a - 0xB00))) (event : 0x323 ≤ a → a ≤ 0x33F → Q (Mhpmevent (a - 0x320))) where
    in_runs : (r : Csr) → counter_at a ≡ Some r → Q r
    in_runs r e = go (leb 0xB03 a && leb a 0xB1F) (leb 0x323 a && leb a 0x33F) refl refl e
      where
        bounds : (m n : ℕ) → (leb m a && leb a n) ≡ true → (m ≤ a) × (a ≤ n)
        bounds m n p = (leb-true m a (left (leb m a) (leb a n) p), leb-true a n (right (leb m a) (leb a n) p))

        go : (b d : Bool) → (leb 0xB03 a && leb a 0xB1F) ≡ b → (leb 0x323 a && leb a 0x33F) ≡ d
            → cond b (Some (Mhpmcounter (a - 0xB00))) (cond d (Some (Mhpmevent (a - 0x320))) None) ≡ Some r → Q r
        go true d p q f =
            let is : Mhpmcounter (a - 0xB00) ≡ r = cc in
            let within = bounds 0xB03 0xB1F p in
            subst Q is (counter within.0 within.1)
        go false true p q f =
            let is : Mhpmevent (a - 0x320) ≡ r = cc in
            let within = bounds 0x323 0x33F q in
            subst Q is (event within.0 within.1)
        go false false p q f = let z : ◌≡◌ {A = ℕ} 0 1 = cc in absurd (omega arith)

    pub of_found : EachHere csrs → (r : Csr) → csr_at a ≡ Some r → Q r
    unfolding csr_at
    of_found each r e = in_table r csrs (counter_at a) each (in_runs r) e

pub found_at_its_address : FoundAtItsAddress
found_at_its_address a = of_found a (λ r. address_of r ≡ a) (λ low high. omega arith) (λ low high. omega arith) (each csrs)
  where
    each : (rs : List Csr) → EachHere a (λ r. address_of r ≡ a) rs
    each [] = tt
    each (s ∷ rs) = (λ e. sym e, each rs)

-- it is found at its own address
pub stands : (a : ℕ) (r : Csr) → csr_at a ≡ Some r → csr_at (address_of r) ≡ Some r
stands a r e = ap csr_at (found_at_its_address a r e) ∙ e

-- so its own address answers for the one that it was found at
pub present_there : (has_s has_sstc : Bool) (a : ℕ) (r : Csr) → csr_at a ≡ Some r → is_present_with has_s has_sstc (address_of r) ≡ is_present_with has_s has_sstc a
present_there has_s has_sstc a r e = ap (is_present_with has_s has_sstc) (found_at_its_address a r e)

-- n, n + 1 .. as the numbers of k counters
abbrev run : (ℕ → Csr) → ℕ → ℕ → List Csr
run f n zero = []
run f n (suc k) = f n ∷ run f (suc n) k

in_run : (t : Csr → Bool) (f : ℕ → Csr) (n k : ℕ) → every t (run f n k) ≡ true → (m : ℕ) → n ≤ m → m < n + k → t (f m) ≡ true
in_run t f n zero p m low high = absurd (omega arith)
in_run t f n (suc k) p m low high = go (eqb n m) refl (in_run t f (suc n) k (right (t (f n)) _ p) m)
  where
    go : (b : Bool) → eqb n m ≡ b → (suc n ≤ m → m < suc n + k → t (f m) ≡ true) → t (f m) ≡ true
    go true e later = subst (λ (x : ℕ). t (f x) ≡ true) (eqb-true n m e) (left (t (f n)) _ p)
    go false e later = let apart = eqb-false n m e in later (omega arith) (omega arith)

-- each CSR that stands at an address passes the test
abbrev pub each_found : (Csr → Bool) → Bool
each_found t = every t csrs && (every t (run Mhpmcounter 3 29) && every t (run Mhpmevent 3 29))

pub every_found : (t : Csr → Bool) → each_found t ≡ true → (a : ℕ) (r : Csr) → csr_at a ≡ Some r → t r ≡ true
every_found t p a =
    of_found a (λ r. t r ≡ true)
    (λ low high. in_run t Mhpmcounter 3 29 (left _ _ runs) (a - 0xB00) (omega arith) (omega arith))
    (λ low high. in_run t Mhpmevent 3 29 (right (every t (run Mhpmcounter 3 29)) _ runs) (a - 0x320) (omega arith) (omega arith))
    (each csrs (left (every t csrs) _ p))
  where
    runs : (every t (run Mhpmcounter 3 29) && every t (run Mhpmevent 3 29)) ≡ true
    runs = right (every t csrs) _ p

    each : (rs : List Csr) → every t rs ≡ true → EachHere a (λ r. t r ≡ true) rs
    each [] q = tt
    each (s ∷ rs) q = (λ e. left (t s) (every t rs) q, each rs (right (t s) (every t rs) q))

-- each CSR that there is: but for the counters, all stand at an address
pub every_csr : (t : Csr → Bool) → each_found t ≡ true → ((n : ℕ) → t (Mhpmcounter n) ≡ true) → ((n : ℕ) → t (Mhpmevent n) ≡ true) → (r : Csr) → t r ≡ true
unfolding csr_at
every_csr t p q e (Mhpmcounter n) = q n
every_csr t p q e (Mhpmevent n) = e n
every_csr t p q e r = every_found t p (address_of r) r refl
