use Rattle.std.proofs.Common.{◌≡◌, ◌++◌}
use Rattle.table_loader.proofs.lookups.copied_entries.Given as goal

-- the entries so far, and then those that are left
abbrev pub invariant-loop-key : goal.invariant-loop-key
invariant-loop-key l = l.entries.items ++ l.key-iterator ≡ l.fields.entries
