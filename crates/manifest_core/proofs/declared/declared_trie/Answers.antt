use Rattle.std.proofs.Common.{[], sym, subst, ◌∙◌}
use Rattle.manifest_core.specs.Mismatches.{KeepsDeclared}
use Rattle.manifest_core.proofs.Keeping.{no_nodes, none_typed}
use Rattle.manifest_core.proofs.declared.declared_trie.Goals as goal

pub returns-then-given-eq0 : goal.returns-then-given-eq0
returns-then-given-eq0 c =
    let s = c.args.schema.now in
    let t = c.args.request_type.now in
    rw c.new.ensures (subst (λ ns. KeepsDeclared s t ns []) (sym (no_nodes c.nodes-given.result.now c.if-given-eq0.true) ∙ c.nodes-given.ensures.nodes) (none_typed s t))
