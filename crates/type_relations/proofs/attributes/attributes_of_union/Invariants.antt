use Rattle.std.proofs.Common.{◌≡◌}
use Rattle.type_relations.specs.Attributes.{shared_with, union_attrs}
use Rattle.type_relations.proofs.attributes.attributes_of_union.Given as goal

-- what is left is still to be joined
abbrev pub invariant-loop-name : goal.invariant-loop-name
invariant-loop-name g l = shared_with (g.S.DeclaredAttributes.declared l.schema) l.attrs l.name-iterator ≡ union_attrs (g.S.DeclaredAttributes.declared l.schema) l.lub
