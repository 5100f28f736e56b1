-- Capabilities that are looked up by their prints: only the private functions and their proofs speak of this.
use Rattle.std.specs.Prelude.{ℕ, List, IsSome}
use Rattle.std.specs.List.{AllByRecursion}
use Rattle.std.specs.Ordering.{nat_cmp}
use Rattle.std.specs.BTreeMap.{BTreeMap, get}
use Rattle.typing_spec.specs.Capability.{Capability, print_of}

-- the print of the capability is a key
abbrev pub HasPrint : BTreeMap ℕ ℕ → Capability → Type 0
HasPrint places k = IsSome (get nat_cmp places (print_of k))

-- the print of each of the capabilities is a key
abbrev pub HasPrints : BTreeMap ℕ ℕ → List Capability → Type 0
HasPrints places cs = AllByRecursion (HasPrint places) cs
