use Rattle.std.proofs.Common.{◌++◌, option_map, ap, subst, sym, ◌∙◌}
use Rattle.std.specs.List.Sorted.{IsStrictlySortedBy}
use Rattle.std.specs.Map.{keys_of}
use Rattle.policy_values.specs.Uid.{text_cmp}
use Rattle.policy_values.proofs.MapSteps.{next-seam}
use Rattle.json_expressions.specs.Nesting.{fields_within, within}
use Rattle.json_values.proofs.Ascending.{field_more, keys_more}
use Rattle.json_expressions.proofs.nesting.take_fields.Goals as goal

pub push_entry-requires : goal.push_entry-requires
push_entry-requires g c =
    let done = keys_of c.loop-name.all.entries in
    let keys = c.loop-name.invariant.keys ∙ ap (λ es. done ++ keys_of es) c.in-Some.ensures.steps in
    next-seam done c.in-Some.name (keys_of c.next.new.self)
    (subst (IsStrictlySortedBy text_cmp) keys c.into_iter-name-iterator.ensures.into_iter_gives.5)

pub loop-name-preserved : goal.loop-name-preserved
loop-name-preserved g c =
    let done = c.loop-name.all.entries in
    let name = c.in-Some.name in
    let rest = c.next.new.self in
    record {
      all = field_more done _ name c.in-Within.x (within c.in-Some.read) (fields_within rest) _ c.in_ok-push_entry.ensures.added (ap within c.in-Within.is)
          (ap (λ es. option_map (λ ys. done ++ ys) (fields_within es)) (sym c.in-Some.ensures.steps) ∙ c.loop-name.invariant.all);
      keys = keys_more (keys_of c.args.reads.entries) done _ name c.in-Within.x (keys_of rest) c.in_ok-push_entry.ensures.added
          (c.loop-name.invariant.keys ∙ ap (λ es. keys_of done ++ keys_of es) c.in-Some.ensures.steps);
    }
