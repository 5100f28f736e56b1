use Rattle.std.proofs.Common.{sym, ◌∙◌, ap, arith}
use Rattle.std.specs.Prelude.{is_some}
use Rattle.std.specs.Option.{option_copied}
use Rattle.policy_values.specs.Reaches.{at}
use Rattle.policy_values.specs.Uid.{text_cmp}
use Rattle.schema_types.specs.Ty.{size_of_attrs}
use Rattle.schema_types.specs.TyView.{attrs_of}
use Rattle.schema_core.specs.Lowest.{Next, lowest_within, undeclared_next}
use Rattle.schema_core.proofs.inside.+undeclared.Goals as goal

pub undeclared_in-loop-x-preserved : goal.undeclared_in-loop-x-preserved
undeclared_in-loop-x-preserved t c =
    let next : Next = undeclared_next (λ n. is_some (at text_cmp c.args.types.now.entries n)) in
    record {
      left = ap (λ r. lowest_within next r (attrs_of c.next.new.self)) c.undeclared_in_type-low.ensures ∙ sym (ap (λ es. lowest_within next (option_copied c.loop-x.low) (attrs_of es)) c.in-Some.ensures.steps) ∙ c.loop-x.invariant.left;
      size = omega (arith, c.loop-x.invariant.size, ap (λ es. size_of_attrs (attrs_of es)) c.in-Some.ensures.steps);
    }
