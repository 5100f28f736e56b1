-- When manifests are equal.
use Rattle.std.specs.Prelude.{Bool, ◌&&◌}
use Rattle.std.specs.Str.{bytes_eq}
use Rattle.std.specs.Cmp.{IsEquivalence, and_equiv, on_equiv}
use Rattle.std.specs.Cmp.Lexicographic.{pointwise, lists_equiv}
use Rattle.std.proofs.lemmas.Cmp.{nat_list_eq_equiv}
use Rattle.entity_store.specs.declared.request.RequestType.{RequestType}
use Rattle.access_tries.specs.Same.{same_roots}
use Rattle.access_tries.specs.SameLaws.{same_roots_equiv}
use Rattle.manifest_core.specs.Manifest.{Manifest}

-- one request type
abbrev pub same_request_types : RequestType → RequestType → Bool
same_request_types a b =
    (bytes_eq a.action.entity_type b.action.entity_type && bytes_eq a.action.eid b.action.eid) &&
    (bytes_eq a.principal b.principal && bytes_eq a.resource b.resource)

-- the same request types, each with an equal trie
abbrev pub same_manifests : Manifest → Manifest → Bool
same_manifests m n = pointwise (λ p q. same_request_types p.0 q.0 && same_roots p.1 q.1) m n

same_request_types_equiv : IsEquivalence same_request_types
same_request_types_equiv =
    and_equiv (and_equiv (on_equiv (λ t. t.action.entity_type) nat_list_eq_equiv)
    (on_equiv (λ t. t.action.eid) nat_list_eq_equiv))
    (and_equiv (on_equiv (λ t. t.principal) nat_list_eq_equiv) (on_equiv (λ t. t.resource) nat_list_eq_equiv))

pub same_manifests_equiv : IsEquivalence same_manifests
same_manifests_equiv = lists_equiv
    (and_equiv (on_equiv (λ p. p.0) same_request_types_equiv) (on_equiv (λ p. p.1) same_roots_equiv))
