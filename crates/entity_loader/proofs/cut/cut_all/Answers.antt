use Rattle.std.proofs.Common.{subst}
use Rattle.reads_spec.specs.Paths.{Chain}
use Rattle.std.specs.Prelude.{Bool}
use Rattle.entity_loader.specs.Asked.{by_tag, some_along}
use Rattle.entity_loader.proofs.CutSteps.{IsCutting, cut_more, cut_done}
use Rattle.entity_loader.proofs.cut.cut_all.Goals as goal

pub loop-key-preserved : goal.loop-key-preserved
loop-key-preserved c =
    let k : Chain → Bool = by_tag (some_along c.args.nodes.now c.args.numbers.now) in
    rw (c.in_ok-push_entry.ensures.added, c.in_ok-try_clone.ensures)
    (cut_more k c.args.values.now.entries c.loop-key.key-iterator c.loop-key.kept.entries c.in-Some.key.now c.in-Some.value.now c.next.new.self c.in-Some.ensures.steps c.loop-key.invariant
    c.requires.there c.in_ok-value.value c.in_ok-value.ensures)

pub returns : goal.returns
returns c =
    let k : Chain → Bool = by_tag (some_along c.args.nodes.now c.args.numbers.now) in
    cut_done k c.args.values.now.entries c.loop-key.kept.entries (subst (λ l. IsCutting k c.args.values.now.entries l c.loop-key.kept.entries) c.in-None.ensures.steps.0 c.loop-key.invariant)
