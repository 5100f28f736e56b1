use Rattle.std.proofs.Common.{◌≡◌, Some, fold, length}
use Rattle.std.specs.Vec.Iter.{into_iter_items, into_iter_len}
use Rattle.json_expressions.specs.Forms.{folded, join_tree}
use Rattle.json_expressions.specs.Reads.{on_two}
use Rattle.json_expressions.proofs.reads.fold_all.Given as goal

-- what is left, joined to what there is, is the whole
abbrev pub invariant-loop-next : goal.invariant-loop-next
invariant-loop-next l = record {
  all : Some (fold (on_two (join_tree l.junction)) l.all (into_iter_items l.rest)) ≡ folded (on_two (join_tree l.junction)) l.fn.reads.items;
  len : into_iter_len l.rest ≡ length (into_iter_items l.rest);
}

abbrev pub decreases-loop-next : goal.decreases-loop-next
decreases-loop-next l = into_iter_len l.rest
