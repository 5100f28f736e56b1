use Rattle.std.proofs.Common.{◌≡◌, ◌+◌, ◌*◌, ◌≤◌}
use Rattle.std.specs.Prelude.{is_some}
use Rattle.std.specs.Option.{option_copied}
use Rattle.policy_values.specs.Reaches.{at}
use Rattle.policy_values.specs.Uid.{text_cmp}
use Rattle.schema_types.specs.Ty.{size_of, size_of_attrs}
use Rattle.schema_types.specs.TyView.{kind_of, attrs_of}
use Rattle.schema_core.specs.Lowest.{lowest_within, undeclared_next}
use Rattle.schema_core.proofs.inside.+undeclared.Given as goal

abbrev pub decreases-undeclared_in : goal.decreases-undeclared_in
decreases-undeclared_in l = 3 * size_of_attrs l.a.now + 2

abbrev pub decreases-undeclared_in_type : goal.decreases-undeclared_in_type
decreases-undeclared_in_type l = 3 * size_of l.t.now + 1

abbrev pub decreases-undeclared_in_part : goal.decreases-undeclared_in_part
decreases-undeclared_in_part l = 3 * size_of (kind_of l.k.now)

-- what is left, from what is found
abbrev pub invariant-undeclared_in-loop-x : goal.invariant-undeclared_in-loop-x
invariant-undeclared_in-loop-x l =
    let next = undeclared_next (λ n. is_some (at text_cmp l.types.entries n)) in
    record {
      left : lowest_within next (option_copied l.low) (attrs_of l.x-iterator) ≡ lowest_within next (option_copied l.fn.low) l.a;
      size : size_of_attrs (attrs_of l.x-iterator) ≤ size_of_attrs l.a;
    }
