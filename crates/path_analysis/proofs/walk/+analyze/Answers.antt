use Rattle.std.proofs.Common.{◌++◌, sym, ap, ◌∙◌, subst, arith}
use Rattle.std.proofs.lemmas.Grind.{common_steps}
use Rattle.std.specs.List.Sorted.{IsStrictlySortedBy}
use Rattle.std.specs.Map.{keys_of}
use Rattle.policy_values.specs.Uid.{text_cmp}
use Rattle.policy_values.specs.Maps.{IsNext}
use Rattle.policy_values.proofs.MapSteps.{next-seam}
use Rattle.schema_core.specs.RequestEnvs.{env_data_of}
use Rattle.policy_expressions.specs.Tree.{named_of}
use Rattle.reads_spec.specs.Reads.{demands, demands_named}
use Rattle.path_analysis.specs.PathOrder.{with_demands}
use Rattle.path_analysis.proofs.Covers.{binary_added, named_next}
use Rattle.path_analysis.proofs.SetSteps.{demands_more}
use Rattle.path_analysis.proofs.walk.+analyze.Goals as goal

pub analyze_binary-returns-clause-reads : goal.analyze_binary-returns-clause-reads
analyze_binary-returns-clause-reads t c =
    let left = c.in_ok-left.ensures in
    let right = c.in_ok-right.ensures in
    binary_added c.args.at.now.schema.now (env_data_of c.args.at.now.env.now) c.args.op c.args.x.now c.args.y.now _ _ _ _ _ _ left.reads right.reads left.shape right.shape c.in_ok-result.ensures.reads

pub analyze_named-loop-name-preserved : goal.analyze_named-loop-name-preserved
analyze_named-loop-name-preserved t c =
    let it = c.loop-name.name-iterator in
    let rest = c.next.new.self in
    let item = c.in-Some.item.now in
    let found = c.in_ok-shape.ensures in
    let old = c.loop-name.demands.keys in
    record {
      reads = named_next c.args.at.now.schema.now (env_data_of c.args.at.now.env.now) it rest c.in-Some.name.now item c.in-Some.ensures.steps _ _ _ _ c.loop-name.invariant.reads found.reads;
      demands = ap (λ l. with_demands l (demands_named (named_of rest))) found.demands ∙ demands_more old (demands item) (demands_named (named_of rest))
          ∙ ap (λ es. with_demands old (demands_named (named_of es))) (sym c.in-Some.ensures.steps) ∙ c.loop-name.invariant.demands;
      shapes = grind (arith, common_steps);
      keys = grind (arith, common_steps);
      depth = grind (arith, common_steps);
    }

pub analyze_named-push_entry-requires : goal.analyze_named-push_entry-requires
analyze_named-push_entry-requires t c =
    let done = keys_of c.loop-name.shapes.entries in
    let keys = c.loop-name.invariant.keys ∙ ap (λ es. done ++ keys_of es) c.in-Some.ensures.steps in
    let next = next-seam done c.in-Some.name.now (keys_of c.next.new.self) (subst (IsStrictlySortedBy text_cmp) keys c.iter-name-items.ensures.ordered) in
    subst (λ k. IsNext k done) (sym c.in_ok-try_clone.ensures) next
