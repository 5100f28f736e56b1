-- Which attributes and tags rows are asked for, by the trie of a request.
use Rattle.std.specs.Prelude.{◌≡◌, Bool, true, false, [], ◌∷◌, Some}
use Rattle.access_tries.specs.Views.{ViewData}
use Rattle.entity_store.specs.Store.{StoredEntity, Store, entity_at}
use Rattle.reads_spec.specs.Paths.{Chain, along, any_tag}
use Rattle.reads_spec.specs.Restrict.{Keep, cut_entity}
use Rattle.entity_loader.specs.Answers.{IsHonestEntity}
use Rattle.entity_loader.specs.Asked.{asks}
use Rattle.entity_loader.specs.declared.loader.EntityRequest.{EntityRequest}

-- the entity itself, and each attribute with which the trie goes on, whole
abbrev pub attributes_asked : ViewData → Chain → Bool
attributes_asked v [] = true
attributes_asked v (n ∷ c) = asks v (along n ∷ [])

-- all tags, whole, where the trie goes on with any tag
abbrev pub tags_asked : ViewData → Chain → Bool
tags_asked v [] = false
tags_asked v (k ∷ c) = asks v (any_tag ∷ [])

-- these attributes and tags, and no ancestors
abbrev pub by_rows : ViewData → Keep
by_rows v = record { chains = λ x. attributes_asked v; ancestors = λ x y. false; tags = λ x. tags_asked v }

-- what this choice leaves of an entity of the store is an honest answer
abbrev pub RowAnswersAreHonest : Type 0
RowAnswersAreHonest =
    (s : Store) (r : EntityRequest) (e : StoredEntity) → entity_at s r.entity_id ≡ Some e →
    IsHonestEntity false s r (cut_entity (by_rows r.access_trie) e)
