use Rattle.std.proofs.Common.{◌≡◌, ◌++◌, string_bytes}
use Rattle.edit_service.proofs.Compared.{lines_from}
use Rattle.edit_service.proofs.text.edit_text.Given as goal

-- the lines so far, and then those that are left
abbrev pub invariant-loop-i : goal.invariant-loop-i
invariant-loop-i l = string_bytes l.text ++ lines_from l.envs.items l.changes.items l.i ≡ lines_from l.envs.items l.changes.items 0
