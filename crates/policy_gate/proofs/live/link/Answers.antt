use Rattle.std.proofs.Common.{◌≡◌, None, IfErr, OnOk, subst}
use Rattle.json_document.specs.Policies.{slot_pairs}
use Rattle.live_manifest.specs.Edits.{link, refusal}
use Rattle.live_manifest.specs.Kept.{IsRefusedFor}
use Rattle.policy_gate.proofs.Lives.{taken_where}
use Rattle.policy_gate.proofs.live.link.Goals as goal

pub returns-clause-refused : goal.returns-clause-refused
returns-clause-refused g c =
    let l = c.args.link in let s = c.args.live.now in let pairs = c.in_ok-pairs.ensures in
    c.why_not_added.ensures.reported (refusal s.schema s.policies (link l.template l.id (slot_pairs l.values)))
    (subst (λ vs. OnOk c.link-added.result (refusal s.schema s.policies (link l.template l.id vs) ≡ None)) pairs (taken_where _ _ _ _ c.link-added.ensures.made))
    (subst (λ vs. IfErr c.link-added.result (IsRefusedFor (refusal s.schema s.policies (link l.template l.id vs)))) pairs c.link-added.ensures.refused)
