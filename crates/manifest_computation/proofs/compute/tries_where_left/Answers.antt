use Rattle.std.proofs.Common.{length, ap, sym, ◌∙◌, arith}
use Rattle.schema_core.specs.EnvData.{unlinked_envs}
use Rattle.policy_validate.specs.Accepted.{IsAccepted}
use Rattle.manifest_computation.specs.Computed.{IsManifestOf}
use Rattle.manifest_computation.specs.Found.{AreEntries}
use Rattle.manifest_computation.proofs.Entries.{all_left, each_some, no_manifest, nothing_left, whole_manifest}
use Rattle.plain_lemmas.proofs.Lists.{empty_of_length}
use Rattle.manifest_computation.proofs.compute.tries_where_left.Goals as goal

pub returns-then-len-eq0-clause-tries : goal.returns-then-len-eq0-clause-tries
returns-then-len-eq0-clause-tries c =
    let schema = c.args.schema.now in
    let s = c.args.policies.now in
    let none = empty_of_length s.policies (sym c.len.ensures ∙ c.if-len-eq0.true) in
    (c.accepted_exactly.ensures.0 (c.requires, nothing_left schema s.policies (unlinked_envs schema) none), no_manifest schema s.policies c.new.result.entries none c.new.ensures.empty)

pub returns-clause-tries : goal.returns-clause-tries
returns-clause-tries c =
    let schema = c.args.schema.now in
    let s = c.args.policies.now in
    each_some (λ m. AreEntries schema s.policies (unlinked_envs schema) m.entries) (λ m. IsAccepted schema s × IsManifestOf schema s.policies m.entries)
    (λ m entries.
    let accepted = c.accepted_exactly.ensures.0 (c.requires, all_left schema s.policies (unlinked_envs schema) m.entries entries) in
    (accepted, whole_manifest schema s.policies m.entries (λ e. absurd (omega (arith, c.if-len-eq0.false, c.len.ensures, ap length e))) (c.entries_where_accepted.ensures accepted m.entries entries)))
    c.tries_of.result c.tries_of.ensures.entries
