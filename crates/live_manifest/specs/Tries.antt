-- The tries that are kept of each policy.
use Rattle.std.specs.Prelude.{◌≡◌, ℕ, false, List, [], ◌∷◌, map, slice_get, Option, Some, None, IsSomeAnd}
use Rattle.std.specs.List.{AllByRecursion, AllZip, list_any}
use Rattle.std.specs.Option.{option_map_or}
use Rattle.std.specs.BTreeMap.{BTreeMap, get}
use Rattle.std.specs.declared.vec.Vec.{Vec}
use Rattle.std.specs.declared.alloc.Global.{Global}
use Rattle.policy_values.specs.Uid.{text_cmp}
use Rattle.access_tries.specs.Paths.{IsLeast, IsUnion}
use Rattle.access_tries.specs.Edges.{Address}
use Rattle.access_tries.specs.Table.{Table, IsTable, is_marked, leads}
use Rattle.entity_store.specs.declared.request.RequestType.{RequestType}
use Rattle.schema_core.specs.EnvData.{EnvData, request_type_in, unlinked_envs}
use Rattle.schema_core.specs.Schema.{SchemaData}
use Rattle.policy_set.specs.Data.{PolicyData}
use Rattle.policy_set.specs.PolicySet.{PolicySetData, policy_at}
use Rattle.reads_spec.specs.Reads.{declared_reads, declared_demands}
use Rattle.policy_validate.specs.Found.{found_conditions}
use Rattle.manifest_core.specs.Manifest.{Manifest}
use Rattle.live_manifest.specs.Unions.{IsTrieOfPolicies}

-- the trie of exactly what the condition that checks leave of a policy reads and asks for
abbrev pub IsFoundTrie : SchemaData → PolicyData → EnvData → Table → Type 0
IsFoundTrie schema p env t = IsLeast (declared_reads schema env (found_conditions schema env (p ∷ [])))
    (declared_demands schema env (found_conditions schema env (p ∷ []))) t

abbrev pub AreFoundTries : SchemaData → PolicyData → List Table → Type 0
AreFoundTries schema p ts = AllZip (IsFoundTrie schema p) (unlinked_envs schema) ts

-- of policies the trie for each environment of the schema
abbrev pub AreTriesOf : SchemaData → List PolicyData → List Table → Type 0
AreTriesOf schema ps ts = AllZip (λ env t. IsTrieOfPolicies schema env ps t) (unlinked_envs schema) ts

-- a policy's own tries
abbrev pub HasTriesOf : SchemaData → PolicyData → Vec Table Global → Type 0
HasTriesOf schema p v = AreTriesOf schema (p ∷ []) v.items

-- under the id of each policy its own tries
abbrev pub HaveTries : SchemaData → BTreeMap (List ℕ) (Vec Table Global) → List PolicyData → Type 0
HaveTries schema m ps = AllByRecursion (λ p. IsSomeAnd (get text_cmp m p.id) (HasTriesOf schema p)) ps

-- of an environment: its request type with a table
pub record IsPlaced (env : EnvData) (e : RequestType × Table) : Type 0 where
  pub request_type : request_type_in env ≡ Some e.0
  pub table : IsTable e.1

-- the manifest has these tries, each under the request type of its environment
pub record IsBuiltOf (schema : SchemaData) (ts : List Table) (m : Manifest) : Type 0 where
  pub placed : AllZip IsPlaced (unlinked_envs schema) m
  pub tries : map (λ e. e.1) m ≡ ts

-- each of the tries is the union of those at its place
abbrev pub AreUnionsOf : List Table → List Table → List Table → Type 0
AreUnionsOf [] us vs = vs ≡ []
AreUnionsOf (t ∷ ts) [] vs = vs ≡ []
AreUnionsOf (t ∷ ts) (u ∷ us) [] = ⊥
AreUnionsOf (t ∷ ts) (u ∷ us) (v ∷ vs) = IsUnion t u v × AreUnionsOf ts us vs

-- those of a manifest and of one more policy; a manifest without entries is that of no policies
abbrev pub AreUnited : Manifest → List Table → List Table → Type 0
AreUnited [] us vs = vs ≡ us
AreUnited (e ∷ m) us vs = AreUnionsOf (map (λ d. d.1) (e ∷ m)) us vs

-- the tries that checks leave of a policy of the set are its own
abbrev pub AreTypedTries : SchemaData → PolicySetData → Type 0
AreTypedTries schema s = (id : List ℕ) (p : PolicyData) → policy_at s id ≡ Some p → (ts : List Table) →
    AreFoundTries schema p ts → AreTriesOf schema (p ∷ []) ts

-- a trie with the paths and the marks of all those with the number, and no others
pub record IsUnionAt (i : ℕ) (vs : List (Vec Table Global)) (t : Table) : Type 0 where
  pub paths : (es : Address) →
      leads t es ≡ list_any (λ v. option_map_or (λ u. leads u es) (slice_get v.items i) false) vs
  pub marks : (es : Address) →
      is_marked t es ≡ list_any (λ v. option_map_or (λ u. is_marked u es) (slice_get v.items i) false) vs

-- this one, or that of nothing where there is none
abbrev pub IsTrieOr : Option Table → Table → Type 0
IsTrieOr (Some u) t = t ≡ u
IsTrieOr None t = t ≡ []
