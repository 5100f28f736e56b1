use Rattle.std.proofs.Common.{◌++◌, [], sym, subst, ap, ◌∙◌}
use Rattle.std.specs.Map.{keys_of}
use Rattle.std.specs.List.Sorted.{IsStrictlySortedBy}
use Rattle.std.proofs.lemmas.List.{append-nil}
use Rattle.entity_store.specs.Request.{request_type_cmp}
use Rattle.manifest_core.specs.Mismatches.{AreTyped}
use Rattle.manifest_core.proofs.Entries.{next_seam}
use Rattle.manifest_core.proofs.declared.declared_tries.Goals as goal

pub push_trie-requires : goal.push_trie-requires
push_trie-requires c =
    let made = c.loop-request_type.tries.entries in
    let left = sym c.loop-request_type.invariant.same_keys ∙ ap (λ es. keys_of made ++ keys_of es) c.in-Some.ensures.steps in
    rw c.in_ok-try_clone.ensures (next_seam (keys_of made) c.in-Some.request_type.now _ (subst (IsStrictlySortedBy request_type_cmp) left c.iter-request_type-items.ensures.ordered))

pub returns : goal.returns
returns c =
    let s = c.args.schema.now in
    let made = c.loop-request_type.tries.entries in
    subst (AreTyped s c.args.per_action.now.entries) (append-nil made) (c.loop-request_type.invariant.typed [] (subst (λ es. AreTyped s es []) (sym c.in-None.ensures.steps.0) tt))
