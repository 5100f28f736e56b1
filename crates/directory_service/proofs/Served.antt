-- Lines that were answered by the store of all rows.
use Rattle.std.proofs.Common.{◌≡◌, ℕ, List, Option, subst}
use Rattle.byte_streams.specs.Answering.{AreAnswered}
use Rattle.byte_streams.specs.declared.answering.Ended.{Ended}
use Rattle.byte_streams.proofs.Served.{answered_map}
use Rattle.entity_store.specs.Store.{Store}
use Rattle.policy_set.specs.PolicySet.{PolicySetData}
use Rattle.schema_core.specs.Schema.{SchemaData}
use Rattle.directory_service.specs.Attempts.{OfStore}
use Rattle.directory_service.specs.Lines.{IsLineOn}

-- what is an answer where the store conforms is one by the store that is so
pub by_store : (told : Option Store) (from to : ℕ) (left old new : Option (List ℕ)) (e : Ended) (schema now : SchemaData) (policies held : PolicySetData) → now ≡ schema → held ≡ policies
    → AreAnswered (λ n asked text. OfStore now told (λ w. IsLineOn now held.policies w n asked text)) from to left old new e
    → OfStore schema told (λ w. AreAnswered (IsLineOn schema policies.policies w) from to left old new e)
by_store told from to left old new e schema now policies held same alike h w is conforms =
    let P : SchemaData → PolicySetData → ℕ → Option (List ℕ) → List ℕ → Type 0 = λ s p n asked text. OfStore s told (λ w. IsLineOn s p.policies w n asked text) in
    let first = subst (λ s. AreAnswered (P s held) from to left old new e) same h in
    let both = subst (λ p. AreAnswered (P schema p) from to left old new e) alike first in
    answered_map (P schema policies) (IsLineOn schema policies.policies w) (λ n asked text g. g w is conforms) from to left old new e both
