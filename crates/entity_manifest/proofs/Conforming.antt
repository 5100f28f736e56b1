-- Nothing blocks where request and store conform and the paths of the trie are declared.
use Rattle.std.proofs.Common.{[], inl, inr}
use Rattle.schema_core.specs.EnvData.{declared_action}
use Rattle.reads_spec.proofs.Conforming.{store_types, store_keeps_types}
use Rattle.entity_manifest.specs.Sticking.{NothingBlocks, NothingIsBlocked}
use Rattle.entity_manifest.proofs.Having.{store_has, root_has}
use Rattle.entity_manifest.proofs.Sticking.{no_root_blocks, none_stops, none_blocked}

pub nothing_blocks : NothingBlocks
nothing_blocks schema valid env q request of s store t trie v h =
    let types = store_keeps_types schema valid env q request of [] s store in
    elim h [
      | inl k ↦ no_root_blocks schema (declared_action env) t trie q (root_has schema (declared_action env) [] q s types) v k
      | inr k ↦ none_stops schema (declared_action env) t trie q s (store_has schema valid s (store_types schema s store)) (root_has schema (declared_action env) [] q s types) v k
    ]

pub nothing_is_blocked : NothingIsBlocked
nothing_is_blocked schema valid env q request of s store t trie v h =
    let types = store_keeps_types schema valid env q request of [] s store in
    elim h [
      | inl k ↦ no_root_blocks schema (declared_action env) t trie q (root_has schema (declared_action env) [] q s types) v k
      | inr k ↦ none_blocked schema (declared_action env) t trie q s (store_has schema valid s (store_types schema s store)) (root_has schema (declared_action env) [] q s types) v k
    ]
