-- Registers of threads, and what stays when they change.
use Rattle.std.proofs.Common.{◌∙◌, cond, Option, Some, None, ◌≡◌, ℕ, ◌%◌, List, [], ◌∷◌, ◌++◌, map, Bool, true, false, not, ap, refl}
use Rattle.std.specs.Prelude.{◌==◌, ◌||◌, is_some}
use Rattle.std.specs.List.{list_any}
use Rattle.std.specs.Option.{unwrap_or}
use Rattle.std.proofs.lemmas.Bool.{eq-eqb}
use Rattle.guest_words.specs.ByThread.{value_of}
use Rattle.guest_words.proofs.ThreadTables.{numbers-with, value_of-with, with_own}
use Rattle.rv_exec.specs.Registers.{Registers}
use Rattle.guest_machine.specs.Machine.{Hart, no_registers, registers_of, with_registers, without_hart}
use Rattle.guest_machine.specs.Sound.{AreAligned, OfEachPc}

-- the threads stay
pub tids-with_registers : (harts : List Hart) (tid : ℕ) (r : Registers) → map (λ g. g.0) (with_registers harts tid r) ≡ map (λ g. g.0) harts
tids-with_registers harts tid r = numbers-with harts tid r

-- a thread that lives has registers
pub lives_here : (harts : List Hart) (tid : ℕ) → list_any (λ h. h.0 == tid) harts ≡ is_some (value_of harts tid)
lives_here [] tid = refl
lives_here (h ∷ harts) tid = by (h.0 == tid) (lives_here harts tid)
  where
    by : (b : Bool) → list_any (λ h. h.0 == tid) harts ≡ is_some (value_of harts tid) → (b || list_any (λ h. h.0 == tid) harts) ≡ is_some (cond b (Some h.1) (value_of harts tid))
    by true rest = refl
    by false rest = rest

pub has_registers : (harts : List Hart) (tid : ℕ) → is_some (value_of harts tid) ≡ true → value_of harts tid ≡ Some (registers_of harts tid)
has_registers harts tid lives = by (value_of harts tid) lives
  where
    by : (o : Option Registers) → is_some o ≡ true → o ≡ Some (unwrap_or o no_registers)
    by None lives = absurd (cc)
    by (Some r) lives = refl

pub registers_are : (harts : List Hart) (tid : ℕ) (r : Registers) → value_of harts tid ≡ Some r → registers_of harts tid ≡ r
registers_are harts tid r here = ap (λ (o : Option Registers). unwrap_or o no_registers) here

-- and new ones after a change
pub value-with_registers : (harts : List Hart) (tid : ℕ) (r : Registers) → is_some (value_of harts tid) ≡ true → value_of (with_registers harts tid r) tid ≡ Some r
value-with_registers harts tid r lives =
    value_of-with harts tid r (registers_of harts tid) (has_registers harts tid lives) tid ∙ ap (λ b. cond b (Some r) (value_of harts tid)) (eq-eqb tid tid refl)

-- the registers that a thread has change nothing
pub same_harts : (harts : List Hart) (tid : ℕ) → is_some (value_of harts tid) ≡ true → with_registers harts tid (registers_of harts tid) ≡ harts
same_harts harts tid lives = with_own harts tid (registers_of harts tid) (has_registers harts tid lives)

-- ---- a fact of each pc
module _ (Holds : ℕ → Type 0) where
  -- registers of whose pc it holds leave it so
  put_by : (h : Hart) (harts : List Hart) (tid : ℕ) (r : Registers) (b : Bool) → (h.0 == tid) ≡ b → OfEachPc Holds (h ∷ harts) → Holds r.pc →
      OfEachPc Holds (with_registers harts tid r) → OfEachPc Holds (with_registers (h ∷ harts) tid r)
  put_by h harts tid r true is all new rest = rw is (new, all.1)
  put_by h harts tid r false is all new rest = rw is (all.0, rest)

  pub each-with_registers : (harts : List Hart) (tid : ℕ) (r : Registers) → OfEachPc Holds harts → Holds r.pc → OfEachPc Holds (with_registers harts tid r)
  each-with_registers [] tid r all new = tt
  each-with_registers (h ∷ harts) tid r all new = put_by h harts tid r (h.0 == tid) refl all new (each-with_registers harts tid r all.1 new)

  pc_by : (h : Hart) (harts : List Hart) (tid : ℕ) (b : Bool) → (h.0 == tid) ≡ b → OfEachPc Holds (h ∷ harts) → Holds (registers_of harts tid).pc →
      Holds (registers_of (h ∷ harts) tid).pc
  pc_by h harts tid true is all rest = rw is all.0
  pc_by h harts tid false is all rest = rw is rest

  -- it holds of a thread's pc, and of that of a thread that does not live where it holds of 0
  pub pc_of_each : Holds 0 → (harts : List Hart) (tid : ℕ) → OfEachPc Holds harts → Holds (registers_of harts tid).pc
  pc_of_each none [] tid all = none
  pc_of_each none (h ∷ harts) tid all = pc_by h harts tid (h.0 == tid) refl all (pc_of_each none harts tid all.1)

  -- so it does with a thread more, and with a thread less
  pub each-append : (harts : List Hart) (h : Hart) → OfEachPc Holds harts → Holds h.1.pc → OfEachPc Holds (harts ++ h ∷ [])
  each-append [] h all new = (new, tt)
  each-append (g ∷ harts) h all new = (all.0, each-append harts h all.1 new)

  kept_by : (h : Hart) (harts : List Hart) (tid : ℕ) (b : Bool) → not (h.0 == tid) ≡ b → OfEachPc Holds (h ∷ harts) → OfEachPc Holds (without_hart harts tid) →
      OfEachPc Holds (without_hart (h ∷ harts) tid)
  kept_by h harts tid true is all rest = rw is (all.0, rest)
  kept_by h harts tid false is all rest = rw is rest

  pub each-without : (harts : List Hart) (tid : ℕ) → OfEachPc Holds harts → OfEachPc Holds (without_hart harts tid)
  each-without [] tid all = tt
  each-without (h ∷ harts) tid all = kept_by h harts tid (not (h.0 == tid)) refl all (each-without harts tid all.1)

pub pc_aligned : (harts : List Hart) (tid : ℕ) → AreAligned harts → (registers_of harts tid).pc % 4 ≡ 0
pc_aligned harts tid all = pc_of_each (λ pc. pc % 4 ≡ 0) refl harts tid all

pub aligned-with_registers : (harts : List Hart) (tid : ℕ) (r : Registers) → AreAligned harts → r.pc % 4 ≡ 0 → AreAligned (with_registers harts tid r)
aligned-with_registers harts tid r all even = each-with_registers (λ pc. pc % 4 ≡ 0) harts tid r all even
