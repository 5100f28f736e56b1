-- Steps of the walk through environments.
use Rattle.std.proofs.Common.{◌≡◌, ℕ, suc, ◌+◌, ◌<◌, arith, List, [], ◌∷◌, ◌++◌, map, take, drop, length, get_or, Option, Some, None, IsSome, IfSome, Result, Ok, Err, IfOk, refl, sym, ap, ◌∙◌, subst}
use Rattle.std.specs.Cmp.{IsTotalOrder, on_total, then_total}
use Rattle.std.specs.List.{AllByRecursion, AllZip}
use Rattle.std.specs.Map.{keys_of}
use Rattle.std.specs.Ordering.{ordering_reverse}
use Rattle.std.specs.declared.cmp.Ordering.TheVariants.{Greater}
use Rattle.std.proofs.lemmas.Cmp.{nat_list_cmp_total}
use Rattle.std.proofs.lemmas.List.{map-append, take-append-drop, at_drop_more}
use Rattle.std.proofs.Math.Seq.{take-suc}
use Rattle.policy_values.specs.Uid.{uid_cmp_total}
use Rattle.access_tries.specs.Table.{Table}
use Rattle.entity_store.specs.Request.{request_type_cmp}
use Rattle.entity_store.specs.declared.request.RequestType.{RequestType}
use Rattle.schema_core.specs.EnvData.{EnvData, declared_action, undeclared_action, request_type_in, unlinked_envs}
use Rattle.schema_core.specs.Faults.{IsSchema}
use Rattle.schema_core.specs.RequestEnvs.{env_data_of}
use Rattle.schema_core.specs.declared.request_env.RequestEnv.{RequestEnv}
use Rattle.schema_core.specs.Schema.{SchemaData}
use Rattle.policy_set.specs.Data.{PolicyData}
use Rattle.manifest_core.specs.Manifest.{Manifest, IsNextType}
use Rattle.link_spec.specs.Accepted.{IsTyped, IsTypedIn}
use Rattle.policy_validate.specs.AcceptanceLaws.{LeavesAll}
use Rattle.policy_validate.specs.Found.{found_conditions}
use Rattle.policy_validate.specs.Typed.{typed_conditions}
use Rattle.manifest_computation.specs.Computed.{IsEntryOf, IsManifestOf}
use Rattle.manifest_computation.specs.Found.{AreEntries}
use Rattle.manifest_computation.proofs.Ascending.{Pairwise, IsBefore, all_more, envs_ascend, envs_declared}

request_types_total : IsTotalOrder request_type_cmp
request_types_total = then_total (on_total (λ t. t.action) uid_cmp_total) (then_total (on_total (λ t. t.principal) nat_list_cmp_total) (on_total (λ t. t.resource) nat_list_cmp_total))

pub at_seam : {X : Type 0} (P : X → Type 0) (xs : List X) (y : X) (ys : List X) → AllByRecursion P (xs ++ y ∷ ys) → P y
at_seam P [] y ys h = h.0
at_seam P (x ∷ xs) y ys h = at_seam P xs y ys h.1

pub zip_last : {X Y : Type 0} (R : X → Y → Type 0) (xs : List X) (ys : List Y) (x : X) (y : Y) → AllZip R xs ys → R x y → AllZip R (xs ++ x ∷ []) (ys ++ y ∷ [])
zip_last R [] [] x y h r = (r, tt)
zip_last R [] (v ∷ ys) x y h r = absurd h
zip_last R (u ∷ xs) [] x y h r = absurd h
zip_last R (u ∷ xs) (v ∷ ys) x y h r = (h.0, zip_last R xs ys x y h.1 r)

pub before_types : (e f : EnvData) (p q : RequestType) → request_type_in e ≡ Some p → request_type_in f ≡ Some q → IsBefore e f → request_type_cmp q p ≡ Greater
before_types (declared_action e) (declared_action f) p q h k b =
    let ep : record { action = e.environment.action; principal = e.environment.principal; resource = e.environment.resource } ≡ p = cc h in
    let fq : record { action = f.environment.action; principal = f.environment.principal; resource = f.environment.resource } ≡ q = cc k in
    request_types_total.antisymm q p ∙ ap ordering_reverse ((λ i. request_type_cmp (sym ep i) (sym fq i)) ∙ b)
before_types (declared_action e) undeclared_action p q h k b = absurd b
before_types undeclared_action f p q h k b = absurd b

-- the request type of the next environment comes behind those of the entries so far
pub next_behind : (schema : SchemaData) (ps : List PolicyData) (done : List EnvData) (m : Manifest) (env : EnvData) (rest : List EnvData) (q : RequestType) →
    request_type_in env ≡ Some q → AreEntries schema ps done m → Pairwise IsBefore (done ++ env ∷ rest) → IsNextType q (keys_of m)
next_behind schema ps [] [] env rest q is h b = tt
next_behind schema ps [] (x ∷ m) env rest q is h b = absurd h
next_behind schema ps (e ∷ done) [] env rest q is h b = absurd h
next_behind schema ps (e ∷ done) (x ∷ m) env rest q is h b =
    (before_types e env x.0 q h.0.0.request_type is (at_seam (IsBefore e) done env rest b.0), next_behind schema ps done m env rest q is h.1 b.1)

pub split_at : {X : Type 0} (xs : List X) (i : ℕ) (d : X) → i < length xs → xs ≡ take i xs ++ get_or xs i d ∷ drop (i + 1) xs
split_at xs i d h = sym (take-append-drop i xs) ∙ ap (λ l. take i xs ++ l) (at_drop_more (λ ys. ys) xs i d h)

pub taken_one_more : {X : Type 0} (xs : List X) (i : ℕ) (d : X) → i < length xs → take (i + 1) xs ≡ take i xs ++ get_or xs i d ∷ []
taken_one_more xs i d h = let e : i + 1 ≡ suc i = omega arith in ap (λ n. take n xs) e ∙ take-suc xs i d h

-- the environment at a place of a list in which those of a schema stand
module _ (schema : SchemaData) (ok : IsSchema schema) (ps : List PolicyData) (items : List RequestEnv) (same : map env_data_of items ≡ unlinked_envs schema) (i : ℕ) (env : RequestEnv) (is : env ≡ get_or items i env) (h : i < length items) where
  abbrev pub done : List EnvData
  done = map env_data_of (take i items)

  abbrev pub rest : List EnvData
  rest = map env_data_of (drop (i + 1) items)

  pub whole : unlinked_envs schema ≡ done ++ env_data_of env ∷ rest
  whole =
      sym same ∙ ap (map env_data_of) (split_at items i env h ∙ ap (λ e. take i items ++ e ∷ drop (i + 1) items) (sym is))
      ∙ map-append env_data_of (take i items) (env ∷ drop (i + 1) items)

  pub declared_here : IsSome (request_type_in (env_data_of env))
  declared_here = at_seam (λ e. IsSome (request_type_in e)) done (env_data_of env) rest (subst (AllByRecursion (λ e. IsSome (request_type_in e))) whole (envs_declared schema))

  pub left_here : AllByRecursion (LeavesAll schema ps) (unlinked_envs schema) → LeavesAll schema ps (env_data_of env)
  left_here left = at_seam (LeavesAll schema ps) done (env_data_of env) rest (subst (AllByRecursion (LeavesAll schema ps)) whole left)

  pub behind_here : (m : Manifest) → AreEntries schema ps done m → IfSome (request_type_in (env_data_of env)) (λ q. IsNextType q (keys_of m))
  behind_here m entries = by (request_type_in (env_data_of env)) refl
    where
      by : (o : Option RequestType) → request_type_in (env_data_of env) ≡ o → IfSome o (λ q. IsNextType q (keys_of m))
      by None e = tt
      by (Some q) e = next_behind schema ps done m (env_data_of env) rest q e entries (subst (Pairwise IsBefore) whole (envs_ascend schema ok))

  pub entries_here : (m new : Manifest) (x : RequestType × Table) → AreEntries schema ps done m → new ≡ m ++ x ∷ [] → IsEntryOf schema (env_data_of env) (found_conditions schema (env_data_of env) ps) x →
      LeavesAll schema ps (env_data_of env) → AreEntries schema ps (map env_data_of (take (i + 1) items)) new
  entries_here m new x entries added entry left =
      let more : map env_data_of (take (i + 1) items) ≡ done ++ env_data_of env ∷ [] =
      ap (map env_data_of) (taken_one_more items i env h ∙ ap (λ e. take i items ++ e ∷ []) (sym is)) ∙ map-append env_data_of (take i items) (env ∷ []) in
      subst (λ es. AreEntries schema ps es new) (sym more)
      (subst (λ n. AreEntries schema ps (done ++ env_data_of env ∷ []) n) (sym added)
      (zip_last (λ e y. IsEntryOf schema e (found_conditions schema e ps) y × LeavesAll schema ps e) done m (env_data_of env) x entries (entry, left)))

-- where there is an entry for each environment, checks leave each condition
pub all_left : (schema : SchemaData) (ps : List PolicyData) (envs : List EnvData) (m : Manifest) → AreEntries schema ps envs m → AllByRecursion (LeavesAll schema ps) envs
all_left schema ps [] [] h = tt
all_left schema ps [] (e ∷ m) h = absurd h
all_left schema ps (env ∷ envs) [] h = absurd h
all_left schema ps (env ∷ envs) (e ∷ m) h = (h.0.1, all_left schema ps envs m h.1)

pub each_some : {X E : Type 0} (P Q : X → Type 0) → ((x : X) → P x → Q x) → (r : Result (Option X) E) → IfOk r (λ o. IfSome o P) → IfOk r (λ o. IfSome o Q)
each_some P Q f (Err e) h = tt
each_some P Q f (Ok None) h = tt
each_some P Q f (Ok (Some x)) h = f x h

-- where there are no policies, nothing is left out
pub nothing_left : (schema : SchemaData) (ps : List PolicyData) (envs : List EnvData) → ps ≡ [] → AllByRecursion (LeavesAll schema ps) envs
nothing_left schema ps [] h = tt
nothing_left schema ps (env ∷ envs) h = (subst (λ qs. LeavesAll schema qs env) (sym h) refl, nothing_left schema ps envs h)

pub no_manifest : (schema : SchemaData) (ps : List PolicyData) (m : Manifest) → ps ≡ [] → m ≡ [] → IsManifestOf schema ps m
no_manifest schema ps m h k = subst (λ qs. IsManifestOf schema qs m) (sym h) k

-- where there are policies, their entries make their manifest
pub whole_manifest : (schema : SchemaData) (ps : List PolicyData) (m : Manifest) → (ps ≡ [] → ⊥) → AllZip (λ env e. IsEntryOf schema env (typed_conditions schema env ps) e) (unlinked_envs schema) m → IsManifestOf schema ps m
whole_manifest schema [] m some h = absurd (some refl)
whole_manifest schema (p ∷ ps) m some h = h

-- the entries of what checks leave are those of what typing gives, where each condition has a type in each environment
pub entries_same : (schema : SchemaData) (ps : List PolicyData) → ((env : EnvData) → AllByRecursion (λ p. IsTyped schema p.condition env) ps → found_conditions schema env ps ≡ typed_conditions schema env ps) →
    (envs : List EnvData) (m : Manifest) → AllByRecursion (λ p. IsTypedIn schema p.condition envs) ps → AreEntries schema ps envs m → AllZip (λ env e. IsEntryOf schema env (typed_conditions schema env ps) e) envs m
entries_same schema ps same [] [] typed h = tt
entries_same schema ps same [] (e ∷ m) typed h = absurd h
entries_same schema ps same (env ∷ envs) [] typed h = absurd h
entries_same schema ps same (env ∷ envs) (e ∷ m) typed h = (
  subst (λ ts. IsEntryOf schema env ts e) (same env (all_more (λ p. IsTypedIn schema p.condition (env ∷ envs)) (λ p. IsTyped schema p.condition env) (λ p t. t.0) ps typed)) h.0.0,
  entries_same schema ps same envs m (all_more (λ p. IsTypedIn schema p.condition (env ∷ envs)) (λ p. IsTypedIn schema p.condition envs) (λ p t. t.1) ps typed) h.1,
)
