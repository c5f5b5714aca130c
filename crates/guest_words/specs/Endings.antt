-- The numbers of the kinds of a fault, by which texts name them.
use Rattle.std.specs.Prelude.{ℕ}
use Rattle.guest_words.specs.declared.endings.FaultKind.{FaultKind}
use Rattle.guest_words.specs.declared.endings.FaultKind.TheVariants.{Illegal, Fetch, Load, Store, JumpAlign, AtomicAlign, Break}

abbrev pub kind_number : FaultKind → ℕ
kind_number Illegal = 1
kind_number Fetch = 2
kind_number Load = 3
kind_number Store = 4
kind_number JumpAlign = 5
kind_number AtomicAlign = 6
kind_number Break = 7
