-- The trie that a computed manifest has for a request is the one of the request's environment.
use Rattle.std.proofs.Common.{◌≡◌, Bool, true, false, List, [], ◌∷◌, cond, Option, Some, None, IfSome, option_map, refl, sym, ap, ◌∙◌, subst, inl, inr}
use Rattle.std.specs.BTreeMap.{is_at}
use Rattle.std.specs.List.{AllZip}
use Rattle.std.specs.Map.{lookup}
use Rattle.std.specs.Option.{option_and_then}
use Rattle.plain_lemmas.proofs.Options.{some_injective}
use Rattle.policy_values.specs.Ties.{equal_of}
use Rattle.entity_store.specs.declared.request.Request.{Request}
use Rattle.entity_store.specs.declared.request.RequestType.{RequestType}
use Rattle.entity_store.specs.Request.{request_type_of, request_type_cmp, exact_request_type}
use Rattle.access_tries.specs.Paths.{IsLeast}
use Rattle.access_tries.specs.Table.{Table, IsTable}
use Rattle.entity_store.specs.Store.{Store}
use Rattle.schema_core.specs.EnvData.{EnvData, LinkedEnvironment, declared_action, request_type_in, unlinked_envs}
use Rattle.schema_core.specs.Faults.{IsSchema}
use Rattle.schema_core.specs.Schema.{SchemaData}
use Rattle.typing_spec.specs.Conforms.{RequestConforms, IsOf}
use Rattle.link_spec.proofs.Statics.{env_for, for_request}
use Rattle.policy_set.specs.Data.{PolicyData}
use Rattle.reads_spec.specs.Reached.{ReachedConforms}
use Rattle.reads_spec.specs.Reads.{declared_reads, declared_demands}
use Rattle.reads_spec.proofs.Lists.{IsIn}
use Rattle.policy_validate.specs.Typed.{typed_conditions}
use Rattle.manifest_core.specs.Manifest.{Manifest, trie_for}
use Rattle.manifest_computation.specs.Computed.{IsEntryOf, IsManifestOf}
use Rattle.manifest_computation.specs.Laws.{IsTrieFor, TriesAreOfReads}
use Rattle.manifest_computation.specs.Rules.{ReachedConform}
use Rattle.manifest_computation.specs.Slice.{env_of}
use Rattle.manifest_computation.proofs.Environments.{of_types}

-- an environment that the entry is of
pub record IsOfEntry (d : SchemaData) (ps : List PolicyData) (envs : List EnvData) (rt : RequestType) (t : Table) : Type 0 where
  pub env : EnvData
  pub among : IsIn env envs
  pub request_type : request_type_in env ≡ Some rt
  pub trie : IsLeast (declared_reads d env (typed_conditions d env ps)) (declared_demands d env (typed_conditions d env ps)) t
  pub table : IsTable t

same_type : (rt k : RequestType) → is_at (request_type_cmp rt) k ≡ true → rt ≡ k
same_type rt k h = exact_request_type rt k (equal_of (request_type_cmp rt k) h)

pub entry_found : (d : SchemaData) (ps : List PolicyData) (envs : List EnvData) (m : Manifest) (rt : RequestType) (t : Table) →
    AllZip (λ env e. IsEntryOf d env (typed_conditions d env ps) e) envs m → lookup (is_at (request_type_cmp rt)) m ≡ Some t → IsOfEntry d ps envs rt t
entry_found d ps [] [] rt t z h = absurd (cc)
entry_found d ps [] (e ∷ m) rt t z h = absurd z
entry_found d ps (env ∷ envs) [] rt t z h = absurd z
entry_found d ps (env ∷ envs) (e ∷ m) rt t z h = by (is_at (request_type_cmp rt) e.0) refl h (entry_found d ps envs m rt t z.1)
  where
    by : (b : Bool) → is_at (request_type_cmp rt) e.0 ≡ b → cond b (Some e.1) (lookup (is_at (request_type_cmp rt)) m) ≡ Some t → (lookup (is_at (request_type_cmp rt)) m ≡ Some t → IsOfEntry d ps envs rt t) → IsOfEntry d ps (env ∷ envs) rt t
    by true f k rest =
        let same : e.1 ≡ t = cc in
        record {
          env = env;
          among = inl refl;
          request_type = z.0.request_type ∙ ap Some (sym (same_type rt e.0 f));
          trie = subst (IsLeast (declared_reads d env (typed_conditions d env ps)) (declared_demands d env (typed_conditions d env ps))) same z.0.trie;
          table = subst IsTable same z.0.table;
        }
    by false f k rest = let r = rest k in record { env = r.env; among = inr r.among; request_type = r.request_type; trie = r.trie; table = r.table }

-- an entry is of an environment of the schema
pub entry_of : (d : SchemaData) (ps : List PolicyData) (m : Manifest) → IsManifestOf d ps m → (rt : RequestType) (t : Table) → lookup (is_at (request_type_cmp rt)) m ≡ Some t → IsOfEntry d ps (unlinked_envs d) rt t
entry_of d [] m none rt t k = absurd (let no : None ≡ Some t = sym (ap (lookup (is_at (request_type_cmp rt))) none) ∙ k in cc)
entry_of d (p ∷ ps) m entries rt t k = entry_found d (p ∷ ps) (unlinked_envs d) m rt t entries k

pub tries_of_reads : TriesAreOfReads
tries_of_reads d valid ps m is q t h = by (request_type_of q) refl h
  where
    by : (o : Option RequestType) → request_type_of q ≡ o → option_and_then (λ rt. lookup (is_at (request_type_cmp rt)) m) o ≡ Some t → IsTrieFor d ps q t
    by None e k = absurd (cc)
    by (Some rt) e k = let o = entry_of d ps m is rt t k in record { env = o.env; is = of_types d valid o.env o.among q rt o.request_type e; trie = o.trie; table = o.table }

-- the linked environment of a request, where the trie is of what the policies read there, and what they reach
-- conforms
pub record IsTrieReached (d : SchemaData) (ps : List PolicyData) (q : Request) (s : Store) (t : Table) : Type 0 where
  pub env : LinkedEnvironment
  pub of : IsOf d q env
  pub trie : IsLeast (declared_reads d (declared_action env) (typed_conditions d (declared_action env) ps)) (declared_demands d (declared_action env) (typed_conditions d (declared_action env) ps)) t
  pub reached : ReachedConforms d (declared_action env) (typed_conditions d (declared_action env) ps) q s

pub trie_reached : (d : SchemaData) → IsSchema d → (ps : List PolicyData) (m : Manifest) → IsManifestOf d ps m → (q : Request) → RequestConforms d q → (s : Store) → ReachedConform d ps q s → (t : Table) → trie_for m q ≡ Some t → IsTrieReached d ps q s t
trie_reached d valid ps m is q request s reached t at = for_request d q request (λ a action applies of.
    let found = tries_of_reads d valid ps m is q t at in
    let is_env : env_of d q ≡ Some (declared_action (env_for a q)) = ap (option_map (λ b. declared_action (env_for b q))) action in
    let same : found.env ≡ declared_action (env_for a q) = some_injective (sym found.is ∙ is_env) in
    record {
      env = env_for a q;
      of = of;
      trie = subst (λ g. IsLeast (declared_reads d g (typed_conditions d g ps)) (declared_demands d g (typed_conditions d g ps)) t) same found.trie;
      reached = subst (λ o. IfSome o (λ g. ReachedConforms d g (typed_conditions d g ps) q s)) is_env reached;
    })
