use Rattle.std.proofs.Common.{◌≡◌}
use Rattle.std.specs.List.{list_all}
use Rattle.type_relations.specs.Join.{text_eq}
use Rattle.typecheck_rules.proofs.attributes.are_all.Given as goal

-- what is left decides
abbrev pub invariant-loop-name : goal.invariant-loop-name
invariant-loop-name l = list_all (text_eq l.n) l.name-iterator ≡ list_all (text_eq l.n) l.lub
