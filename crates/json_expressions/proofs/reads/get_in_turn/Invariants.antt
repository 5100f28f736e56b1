use Rattle.std.proofs.Common.{◌≡◌, fold, length}
use Rattle.std.specs.Vec.Iter.{into_iter_items, into_iter_len}
use Rattle.json_expressions.specs.Forms.{get_tree}
use Rattle.json_expressions.specs.Reads.{on_name}
use Rattle.json_expressions.proofs.reads.get_in_turn.Given as goal

-- the names that are left, behind what there is, are all
abbrev pub invariant-loop-name : goal.invariant-loop-name
invariant-loop-name l = record {
  all : fold (on_name get_tree) l.all (into_iter_items l.name-iterator) ≡ fold (on_name get_tree) l.fn.x l.fn.names.items;
  len : into_iter_len l.name-iterator ≡ length (into_iter_items l.name-iterator);
}
