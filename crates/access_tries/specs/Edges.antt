-- The order of edges: fields by their names, then any tag, then roots: ids in their order, and then the
-- variables.
use Rattle.std.specs.Prelude.{ℕ, ◌+◌, Bool, List, []}
use Rattle.std.specs.declared.cmp.Ordering.{Ordering}
use Rattle.std.specs.Ordering.{nat_cmp, ordering_then, is_eq}
use Rattle.policy_values.specs.Uid.{text_cmp}
use Rattle.policy_expressions.specs.declared.kinds.Var.{Var}
use Rattle.policy_expressions.specs.declared.kinds.Var.TheVariants.{Principal, Action, Resource, Context}
use Rattle.access_tries.specs.declared.edge.EntityRoot.{EntityRoot}
use Rattle.access_tries.specs.declared.edge.EntityRoot.TheVariants.{Literal, Var as Variable}
use Rattle.access_tries.specs.declared.edge.Edge.{Edge}
use Rattle.access_tries.specs.declared.edge.Edge.TheVariants.{Field, AnyTag, Root}

-- where a path leads on, edge by edge
abbrev pub Address : Type 0
Address = List Edge

abbrev pub variable_rank : Var → ℕ
variable_rank Principal = 0
variable_rank Action = 1
variable_rank Resource = 2
variable_rank Context = 3

-- the kind of an edge, and the texts by which edges of its kind are ordered
abbrev pub rank : Edge → ℕ
rank (Field n) = 0
rank AnyTag = 1
rank (Root (Literal u)) = 2
rank (Root (Variable v)) = 3 + variable_rank v

abbrev pub first_text : Edge → List ℕ
first_text (Field n) = n
first_text (Root (Literal u)) = u.entity_type
first_text e = []

abbrev pub second_text : Edge → List ℕ
second_text (Root (Literal u)) = u.eid
second_text e = []

abbrev pub edge_cmp : Edge → Edge → Ordering
edge_cmp a b = ordering_then (nat_cmp (rank a) (rank b))
    (ordering_then (text_cmp (first_text a) (first_text b)) (text_cmp (second_text a) (second_text b)))

-- the two edges are one
abbrev pub edge_eq : Edge → Edge → Bool
edge_eq a b = is_eq (edge_cmp a b)

-- the order of roots
abbrev pub root_cmp : EntityRoot → EntityRoot → Ordering
root_cmp a b = edge_cmp (Root a) (Root b)
