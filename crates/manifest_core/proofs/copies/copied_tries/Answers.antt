use Rattle.std.proofs.Common.{◌∷◌, ◌++◌, sym, subst, ap, ◌∙◌}
use Rattle.std.specs.Map.{keys_of}
use Rattle.std.specs.List.Sorted.{IsStrictlySortedBy}
use Rattle.entity_store.specs.Request.{request_type_cmp}
use Rattle.manifest_core.specs.Manifest.{IsNextType}
use Rattle.manifest_core.proofs.Entries.{next_seam, keys_append}
use Rattle.manifest_core.proofs.copies.copied_tries.Goals as goal

pub push_trie-requires : goal.push_trie-requires
push_trie-requires c =
    let made = c.loop-request_type.tries.entries in
    let all = c.loop-request_type.invariant ∙ ap (λ es. made ++ es) c.in-Some.ensures.steps in
    let keys = ap keys_of all ∙ keys_append made ((c.in-Some.request_type.now, c.in-Some.trie.now) ∷ c.next.new.self) in
    let next = next_seam (keys_of made) c.in-Some.request_type.now (keys_of c.next.new.self) (subst (IsStrictlySortedBy request_type_cmp) keys c.iter-request_type-items.ensures.ordered) in
    subst (λ k. IsNextType k (keys_of made)) (sym c.in_ok-request_type.ensures) next
