use Rattle.std.proofs.Common.{◌≡◌}
use Rattle.std.specs.Prelude.{Some}
use Rattle.std.specs.BTreeMap.{get}
use Rattle.policy_values.specs.Uid.{text_cmp}
use Rattle.access_tries.specs.Views.{children_of}
use Rattle.table_loader.specs.RowsState.{RowsContinue, attribute_at}
use Rattle.table_loader.specs.Tables.{Tables}
use Rattle.table_loader.proofs.Attributes.{IsTaking}
use Rattle.table_loader.proofs.entities.attributes.Given as goal

abbrev pub invariant-loop-key : goal.invariant-loop-key
invariant-loop-key g l = record {
  goes_on : RowsContinue (g.R.Rows.state l.fn.rows) (g.R.Rows.state l.rows);
  found : (t : Tables) → (g.R.Rows.state l.rows).known ≡ Some t →
      IsTaking (attribute_at t l.uid) (children_of l.trie) l.key-iterator (get text_cmp l.attrs);
}
