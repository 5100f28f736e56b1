use Rattle.std.proofs.Common.{◌≡◌, sym, ap, ◌∙◌}
use Rattle.std.specs.Option.{option_and_then}
use Rattle.std.proofs.lemmas.Result.{IfOk-weaker}
use Rattle.access_tries.specs.Table.{links_at}
use Rattle.access_tries.specs.Trees.{branches_by, branch_at}
use Rattle.access_tries.proofs.Branching.{branch_is}
use Rattle.manifest_core.specs.Mismatches.{type_behind, first_fault, first_among}
use Rattle.manifest_core.proofs.faults.+faults.Goals as goal

pub first_behind-returns-in-Some : goal.first_behind-returns-in-Some
first_behind-returns-in-Some t c =
    let s = c.args.schema.now in
    let r = c.args.request_type.now in
    let ns = c.args.nodes.now in
    let n = c.args.link.now.number in
    let u = c.in-Some.behind in
    let is = sym c.in_ok-behind.ensures ∙ c.in-Some.is in
    IfOk-weaker c.first_below-fault.result (λ o. o ≡ first_among s r u (branches_by (branch_at ns) (links_at ns n))) (λ o. o ≡ option_and_then (λ v. first_fault s r v (branch_at ns n)) (type_behind s r c.args.t.now c.args.link.now.edge))
    (λ o h. h ∙ sym (ap (first_fault s r u) (branch_is ns c.requires.closed n)) ∙ sym (ap (option_and_then (λ v. first_fault s r v (branch_at ns n))) is))
    c.first_below-fault.ensures
