use Rattle.std.proofs.Common.{◌≡◌, map}
use Rattle.serde_json.specs.View.{members_view}
use Rattle.json_values.specs.Json.{has_only}
use Rattle.json_values.proofs.members.has_only.Given as goal

-- the members that are left decide
abbrev pub invariant-loop-key : goal.invariant-loop-key
invariant-loop-key l = has_only (map (λ s. s.now) l.names) (members_view l.key-iterator) ≡ has_only (map (λ s. s.now) l.names) (members_view l.members.entries)
