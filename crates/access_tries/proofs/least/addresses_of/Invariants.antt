use Rattle.std.proofs.Common.{◌≡◌, ◌||◌, map, drop}
use Rattle.std.specs.List.{list_any}
use Rattle.access_tries.specs.Edges.{Address}
use Rattle.access_tries.specs.Walks.{addresses_in}
use Rattle.access_tries.specs.Paths.{address_of, is_prefix_of}
use Rattle.access_tries.proofs.least.addresses_of.Given as goal

-- what is left, and what is gathered
abbrev pub invariant-loop-i : goal.invariant-loop-i
invariant-loop-i l = (es : Address) → (list_any (is_prefix_of es) (addresses_in l.addresses.items) || list_any (is_prefix_of es) (map address_of (drop l.i l.paths))) ≡ list_any (is_prefix_of es) (map address_of l.paths)
