use Rattle.std.proofs.Common.{◌≡◌, drop, Ok}
use Rattle.type_relations.specs.Join.{join_rest, join_all}
use Rattle.type_relations.proofs.join.join_list.Given as goal

-- what is left is still to be joined
abbrev pub invariant-loop-t : goal.invariant-loop-t
invariant-loop-t l = join_rest l.mode (Ok l.joined) (drop l.t-index l.types) ≡ join_all l.mode l.types
