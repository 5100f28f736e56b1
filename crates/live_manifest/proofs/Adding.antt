-- One policy more: its tries, and the manifest.
use Rattle.std.proofs.Common.{◌≡◌, ℕ, Bool, true, false, cond, List, [], ◌∷◌, length, map, Option, Some, None, IfSome, refl, sym, ap, ◌∙◌, subst}
use Rattle.std.specs.Prelude.{filter, find, not, IsSomeAnd}
use Rattle.std.specs.List.{AllByRecursion, AllZip}
use Rattle.std.specs.BTreeMap.{UpdatesBy, get}
use Rattle.std.specs.declared.vec.Vec.{Vec}
use Rattle.std.specs.declared.alloc.Global.{Global}
use Rattle.std.specs.Ordering.{is_eq}
use Rattle.policy_values.specs.Keyed.{has_key, value_at, with_value}
use Rattle.plain_lemmas.proofs.Lists.{zip_length}
use Rattle.policy_values.specs.Uid.{text_cmp}
use Rattle.access_tries.specs.Table.{Table}
use Rattle.schema_core.specs.EnvData.{EnvData, unlinked_envs}
use Rattle.schema_core.specs.Faults.{IsSchema}
use Rattle.schema_core.specs.Schema.{SchemaData}
use Rattle.policy_set.specs.Data.{PolicyData}
use Rattle.policy_set.specs.PolicySet.{IsPolicySet, PolicySetData, policy_at}
use Rattle.policy_set.specs.Removal.{is_another_policy}
use Rattle.policy_set.proofs.Each.{each_with}
use Rattle.reads_spec.specs.Reads.{declared_demands, declared_reads}
use Rattle.access_tries.specs.Paths.{IsLeast}
use Rattle.link_spec.specs.Accepted.{IsTyped, IsTypedIn}
use Rattle.policy_validate.specs.Accepted.{IsAccepted}
use Rattle.policy_validate.specs.ConditionLaws.{EachFoundIsTyped}
use Rattle.policy_validate.specs.Laws.{AcceptedAreTyped}
use Rattle.policy_validate.specs.Typed.{typed_conditions}
use Rattle.manifest_core.specs.Manifest.{Manifest}
use Rattle.manifest_computation.specs.Computed.{IsEntryOf, IsManifestOf}
use Rattle.manifest_computation.proofs.Ascending.{all_more}
use Rattle.manifest_computation.proofs.Entries.{whole_manifest}
use Rattle.live_manifest.specs.Adding.{AddsTo, Tries}
use Rattle.live_manifest.specs.Tries.{AreFoundTries, AreTriesOf, AreTypedTries, AreUnionsOf, AreUnited, HasTriesOf, HaveTries, IsBuiltOf, IsFoundTrie, IsPlaced}
use Rattle.live_manifest.specs.Unions.{IsTrieOfPolicies}
use Rattle.live_manifest.proofs.Taking.{no_policy, put_found}
use Rattle.live_manifest.proofs.Unions.{tries_unions}

abbrev put : PolicyData → List PolicyData → List PolicyData
put p ps = with_value text_cmp (λ q. q.id) p ps

abbrev at_id : List PolicyData → List ℕ → Option PolicyData
at_id ps id = value_at text_cmp (λ q. q.id) ps id

-- the tries that checks leave are those that typing gives
module _ (schema : SchemaData) (ok : IsSchema schema) (s : PolicySetData) (set : IsPolicySet s) (accepted : IsAccepted schema s) (each : EachFoundIsTyped) (typed : AcceptedAreTyped) where
  pub own_typed : (id : List ℕ) (p : PolicyData) → policy_at s id ≡ Some p → (ts : List Table) → AreFoundTries schema p ts → AreTriesOf schema (p ∷ []) ts
  own_typed id p is ts h = by (unlinked_envs schema) ts (typed schema ok s set accepted) h
    where
      by : (envs : List EnvData) (us : List Table) → AllByRecursion (λ q. IsTypedIn schema q.condition envs) s.policies → AllZip (IsFoundTrie schema p) envs us → AllZip (λ env t. IsTrieOfPolicies schema env (p ∷ []) t) envs us
      by [] [] k z = tt
      by [] (u ∷ us) k z = absurd z
      by (env ∷ envs) [] k z = absurd z
      by (env ∷ envs) (u ∷ us) k z = (
        subst (λ cs. IsLeast (declared_reads schema env cs) (declared_demands schema env cs) u) (each schema s set accepted id p is env (all_more (λ q. IsTypedIn schema q.condition (env ∷ envs)) (λ q. IsTyped schema q.condition env) (λ q t. t.0) s.policies k)) z.0,
        by envs us (all_more (λ q. IsTypedIn schema q.condition (env ∷ envs)) (λ q. IsTypedIn schema q.condition envs) (λ q t. t.1) s.policies k) z.1,
      )

-- the tries of a set with one more policy
module _ (schema : SchemaData) (p : PolicyData) where
  abbrev IsOwn : EnvData → Table → Type 0
  IsOwn env t = IsTrieOfPolicies schema env (p ∷ []) t

  abbrev IsNew : List PolicyData → EnvData → Table → Type 0
  IsNew ps env t = IsTrieOfPolicies schema env (put p ps) t

  zipped : (ps : List PolicyData) → at_id ps p.id ≡ None → (envs : List EnvData) (m : Manifest) (us vs : List Table) →
      AllZip (λ env e. IsEntryOf schema env (typed_conditions schema env ps) e) envs m → AllZip IsOwn envs us → AreUnionsOf (map (λ e. e.1) m) us vs → AllZip (IsNew ps) envs vs
  zipped ps new [] [] us vs h k n = subst (AllZip (IsNew ps) []) (sym n) tt
  zipped ps new [] (e ∷ m) us vs h k n = absurd h
  zipped ps new (env ∷ envs) [] us vs h k n = absurd h
  zipped ps new (env ∷ envs) (e ∷ m) [] vs h k n = absurd k
  zipped ps new (env ∷ envs) (e ∷ m) (u ∷ us) [] h k n = absurd n
  zipped ps new (env ∷ envs) (e ∷ m) (u ∷ us) (v ∷ vs) h k n = (tries_unions schema env ps p new e.1 u v h.0.trie k.0 n.0, zipped ps new envs m us vs h.1 k.1 n.1)

  nowhere : (ps : List PolicyData) (envs : List EnvData) (us vs : List Table) → AllZip (λ env e. IsEntryOf schema env (typed_conditions schema env ps) e) envs [] → AllZip IsOwn envs us → vs ≡ us → AllZip (IsNew ps) envs vs
  nowhere ps [] [] vs h k n = subst (AllZip (IsNew ps) []) (sym n) tt
  nowhere ps [] (u ∷ us) vs h k n = absurd k
  nowhere ps (env ∷ envs) us vs h k n = absurd h

  pub all_united : (ps : List PolicyData) (m : Manifest) (us vs : List Table) → at_id ps p.id ≡ None → IsManifestOf schema ps m → AreTriesOf schema (p ∷ []) us → AreUnited m us vs → AreTriesOf schema (put p ps) vs
  all_united [] m us vs new h k n = subst (AreTriesOf schema (p ∷ [])) (sym (subst (λ l. AreUnited l us vs) h n)) k
  all_united (q ∷ qs) [] us vs new h k n = nowhere (q ∷ qs) (unlinked_envs schema) us vs h k n
  all_united (q ∷ qs) (e ∷ m) us vs new h k n = zipped (q ∷ qs) new (unlinked_envs schema) (e ∷ m) us vs h k n

-- the manifest that is built of tries
module _ (schema : SchemaData) (ps : List PolicyData) where
  entries : (envs : List EnvData) (m : Manifest) → AllZip IsPlaced envs m → AllZip (λ env t. IsTrieOfPolicies schema env ps t) envs (map (λ e. e.1) m) → AllZip (λ env e. IsEntryOf schema env (typed_conditions schema env ps) e) envs m
  entries [] [] h k = tt
  entries [] (e ∷ m) h k = absurd h
  entries (env ∷ envs) [] h k = absurd h
  entries (env ∷ envs) (e ∷ m) h k = (record { request_type = h.0.request_type; trie = k.0; table = h.0.table }, entries envs m h.1 k.1)

  pub built : (ts : List Table) (m : Manifest) → ¬ (ps ≡ []) → AreTriesOf schema ps ts → IsBuiltOf schema ts m → IsManifestOf schema ps m
  built ts m some h b = whole_manifest schema ps m some (entries (unlinked_envs schema) m b.placed (subst (AreTriesOf schema ps) (sym b.tries) h))

pub some_put : (p : PolicyData) (ps : List PolicyData) → ¬ (put p ps ≡ [])
some_put p ps h = absurd (cc (sym (put_found (λ q. q.id) p ps) ∙ ap (λ qs. at_id qs p.id) h))

-- the tries that are kept
module _ (schema : SchemaData) (before after : Tries) (id : List ℕ) (w : Option (Vec Table Global)) (updates : UpdatesBy text_cmp (text_cmp id) before after w) where
  abbrev Has : Tries → PolicyData → Type 0
  Has m q = IsSomeAnd (get text_cmp m q.id) (HasTriesOf schema q)

  same_at : (q : PolicyData) → is_eq (text_cmp id q.id) ≡ false → Has before q → Has after q
  same_at q other h = subst (λ o. IsSomeAnd o (HasTriesOf schema q)) (sym (updates.2 q.id other)) h

  others_have : (ps : List PolicyData) → at_id ps id ≡ None → AllByRecursion (Has before) ps → AllByRecursion (Has after) ps
  others_have [] new h = tt
  others_have (q ∷ qs) new h = by (is_eq (text_cmp id q.id)) refl new (λ k. others_have qs k h.1)
    where
      by : (b : Bool) → is_eq (text_cmp id q.id) ≡ b → cond b (Some q) (find (has_key text_cmp (λ q. q.id) id) qs) ≡ None → (at_id qs id ≡ None → AllByRecursion (Has after) qs) →
          Has after q × AllByRecursion (Has after) qs
      by true e k rest = absurd (cc k)
      by false e k rest = (same_at q e h.0, rest k)

  -- with the tries of one more policy, and without those of one
  pub more_tries : (p : PolicyData) (v : Vec Table Global) → p.id ≡ id → w ≡ Some v → HasTriesOf schema p v → (ps : List PolicyData) → at_id ps p.id ≡ None → HaveTries schema before ps → HaveTries schema after (put p ps)
  more_tries p v same is own ps new h =
      each_with text_cmp (λ q. q.id) (Has after) p
      (subst (λ o. IsSomeAnd o (HasTriesOf schema p)) (sym (ap (get text_cmp after) same ∙ updates.1 ∙ is)) own)
      ps (others_have ps (ap (at_id ps) (sym same) ∙ new) h)

  pub fewer_tries : (ps : List PolicyData) → HaveTries schema before ps → HaveTries schema after (filter (is_another_policy id) ps)
  fewer_tries [] h = tt
  fewer_tries (q ∷ qs) h = by (is_eq (text_cmp id q.id)) refl (fewer_tries qs h.1)
    where
      by : (b : Bool) → is_eq (text_cmp id q.id) ≡ b → AllByRecursion (Has after) (filter (is_another_policy id) qs) → AllByRecursion (Has after) (cond (not b) (q ∷ filter (is_another_policy id) qs) (filter (is_another_policy id) qs))
      by true e k = k
      by false e k = (same_at q e h.0, k)

-- what one policy more makes of the manifest and of the tries
pub adds : (schema : SchemaData) (new : PolicySetData) (id : List ℕ) (before after : Tries) (m n : Manifest) (own : Vec Table Global) (all : List Table) →
    (IsAccepted schema new → AreTypedTries schema new) → IfSome (policy_at new id) (λ p. AreFoundTries schema p own.items) → AreUnited m own.items all →
    (length all ≡ length (unlinked_envs schema) → IsBuiltOf schema all n) → UpdatesBy text_cmp (text_cmp id) before after (Some own) → AddsTo schema new id before after m n
adds schema new id before after m n own all typed found united is_built updates = λ s p same w kept have.
    let there : policy_at new id ≡ Some p = ap (λ x. policy_at x id) w.policies ∙ ap (at_id (put p s.policies)) (sym same) ∙ put_found (λ q. q.id) p s.policies in
    let mine : AreTriesOf schema (p ∷ []) own.items = typed w.accepted id p there own.items (subst (λ o. IfSome o (λ q. AreFoundTries schema q own.items)) there found) in
    let none : at_id s.policies p.id ≡ None = no_policy s p.id w.free in
    let is : new.policies ≡ put p s.policies = ap (λ x. x.policies) w.policies in
    let whole : AreTriesOf schema (put p s.policies) all = all_united schema p s.policies m own.items all none kept mine united in
    let length_is = zip_length (λ env t. IsTrieOfPolicies schema env (put p s.policies) t) (unlinked_envs schema) all whole in (
      subst (λ ps. IsManifestOf schema ps n) (sym is) (built schema (put p s.policies) all n (some_put p s.policies) whole (is_built (sym length_is))),
      subst (HaveTries schema after) (sym is) (more_tries schema before after id (Some own) updates p own same refl mine s.policies none have),
    )
