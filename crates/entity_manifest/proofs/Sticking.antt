-- Nothing blocks where paths are declared.
-- The plan. A walk along a trie blocks at a value that is neither an id nor a record. Where the value has its declared type
-- and the trie's paths are declared from there, no step comes to such a value: first one value, then an entity, whole or
-- cut, then each root of the request, then each place that a path reaches (`none_stuck`, `none_blocked`).
use Rattle.std.proofs.Common.{◌≡◌, ◌⊎◌, ℕ, Bool, true, false, ◌&&◌, List, [], ◌∷◌, ◌++◌, map, Option, Some, None, IsTrue, is_some, refl, sym, ap, ◌∙◌, subst, IfSome, inl, inr, append_assoc}
use Rattle.std.specs.List.{AllByRecursion}
use Rattle.std.specs.Option.{option_map}
use Rattle.std.proofs.lemmas.Bool.{and_parts}
use Rattle.policy_values.specs.declared.entity_uid.EntityUID.{EntityUID}
use Rattle.policy_values.specs.Value.{Val, truth, long, string, entity as id, set, rec, decimal, ip, datetime, duration, Fields, no_fields, field}
use Rattle.entity_store.specs.declared.request.Request.{Request}
use Rattle.entity_store.specs.Store.{StoredEntity, Store, entity_at}
use Rattle.type_relations.specs.Attributes.{or_none}
use Rattle.type_relations.specs.Member.{Member}
use Rattle.schema_types.specs.Attrs.{attr_at}
use Rattle.schema_types.specs.declared.kinds.OpenTag.{OpenTag}
use Rattle.schema_types.specs.Ty.{Ty, true_type, false_type, primitive, any_set, set_of, record_of, entity, extension, Attrs}
use Rattle.schema_core.specs.EnvData.{EnvData}
use Rattle.schema_core.specs.Schema.{SchemaData}
use Rattle.access_tries.specs.declared.edge.Edge.TheVariants.{Field, AnyTag, Root}
use Rattle.access_tries.specs.declared.edge.EntityRoot.{EntityRoot}
use Rattle.access_tries.specs.Edges.{Address}
use Rattle.access_tries.specs.Paths.{AccessPath, edge_of, address_of}
use Rattle.access_tries.specs.Table.{Table, leads, is_marked}
use Rattle.access_tries.specs.Views.{whole}
use Rattle.typing_spec.specs.Environment.{declared_attributes, declared_tags}
use Rattle.reads_spec.specs.Paths.{Step, along, any_tag, beyond}
use Rattle.reads_spec.specs.PathTypes.{type_along, step_on, types_along, is_declared, root_type}
use Rattle.reads_spec.specs.Restrict.{Keep, cut_entity, root_value, values_in, reach}
use Rattle.reads_spec.specs.Cover.{IsMemberOf}
use Rattle.reads_spec.proofs.Cuts.{uid_at, all_at}
use Rattle.reads_spec.proofs.Fitting.{types_along-append}
use Rattle.reads_spec.proofs.Lists.{IsIn}
use Rattle.entity_loading.specs.Begun.{SomeRootBlocks}
use Rattle.entity_loading.specs.CannotGoOn.{Tests, tests_of, behind, GoesOn, Demands, Sticks, FieldsBlock, SomeBlocks, EntityBlocks}
use Rattle.entity_loading.specs.Needs.{Test}
use Rattle.entity_loading.specs.Reached.{IsReached}
use Rattle.entity_loading.specs.Right.{CannotStep}
use Rattle.entity_loading.specs.Blocked.{IsBlockedInStore}
use Rattle.entity_manifest.specs.DeclaredPaths.{is_of_ids, IsDeclaredTrie}
use Rattle.entity_manifest.proofs.Below.{is_plain}
use Rattle.entity_manifest.proofs.Having.{Has, HaveAll, HaveOne, EntityHas, have_cut, one_cut, walk_has}
use Rattle.entity_loading.proofs.LeastSteps.{map_append}

-- ---- a value that is neither an id nor a record

abbrev IsPlainValue : Val → Type 0
IsPlainValue (id u) = ⊥
IsPlainValue (rec fs) = ⊥
IsPlainValue v = Unit {0}

-- its type has such values alone
plain_type : (t : Ty) (v : Val) → IsPlainValue v → Member t v → is_plain t ≡ true
plain_type t (id u) p m = absurd p
plain_type t (rec fs) p m = absurd p
plain_type true_type v p m = refl
plain_type false_type v p m = refl
plain_type (primitive q) v p m = refl
plain_type any_set v p m = refl
plain_type (set_of t) v p m = refl
plain_type (extension n) v p m = refl
plain_type t v p m = absurd m

plain_ends : (d : SchemaData) (t : Ty) (n : Step) → is_plain t ≡ true → is_some (type_along d t n) ≡ true → ⊥
plain_ends d true_type (along n) e h = cc
plain_ends d true_type any_tag e h = cc
plain_ends d false_type (along n) e h = cc
plain_ends d false_type any_tag e h = cc
plain_ends d (primitive q) (along n) e h = cc
plain_ends d (primitive q) any_tag e h = cc
plain_ends d any_set (along n) e h = cc
plain_ends d any_set any_tag e h = cc
plain_ends d (set_of t) (along n) e h = cc
plain_ends d (set_of t) any_tag e h = cc
plain_ends d (extension m) (along n) e h = cc
plain_ends d (extension m) any_tag e h = cc
plain_ends d t n e h = cc

plain_no_ids : (t : Ty) → is_plain t ≡ true → is_of_ids t ≡ true → ⊥
plain_no_ids true_type e h = cc
plain_no_ids false_type e h = cc
plain_no_ids (primitive q) e h = cc
plain_no_ids any_set e h = cc
plain_no_ids (set_of t) e h = cc
plain_no_ids (extension m) e h = cc
plain_no_ids t e h = cc

module _ (d : SchemaData) where
  -- from what is of the type, paths that the tests pass are declared, and ancestors are asked for of ids alone
  pub record TestsFit (o : Option Ty) (t : Tests) : Type 0 where
    pub leads : (ns : List Step) → t.leads (map edge_of ns) ≡ true → is_declared d o ns ≡ true
    pub marks : (ns : List Step) (r : EntityRoot) (ms : List Step) → t.marks (map edge_of ns ++ (Root r ∷ map edge_of ms)) ≡ true → IfSome (types_along d o ns) (λ u. IsTrue (is_of_ids u))

  behind_fits : (o : Option Ty) (n : Step) (t : Tests) → TestsFit o t → TestsFit (step_on d o n) (behind (edge_of n) t)
  behind_fits o n t f = record {
    leads = λ ns h. (and_parts (is_some (step_on d o n)) (is_declared d (step_on d o n) ns) (f.leads (n ∷ ns) h)).1;
    marks = λ ns r ms h. f.marks (n ∷ ns) r ms h;
  }

  plain_blocks : (o : Option Ty) (v : Val) (t : Tests) → IsPlainValue v → IsMemberOf o v → TestsFit o t → GoesOn t ⊎ Demands t → ⊥
  plain_blocks None v t p m f s = absurd m
  plain_blocks (Some w) v t p m f (inl (n, h)) = plain_ends d w n (plain_type w v p m) (and_parts (is_some (type_along d w n)) true (f.leads (n ∷ []) h)).0
  plain_blocks (Some w) v t p m f (inr (r, ns, h)) = plain_no_ids w (plain_type w v p m) (f.marks [] r ns h)

  record_demands : (xs : Attrs) (p : OpenTag) (t : Tests) → TestsFit (Some (record_of xs p)) t → Demands t → ⊥
  record_demands xs p t f (r, ns, h) = let no : false ≡ true = f.marks [] r ns h in cc

  mutual
    pub never_blocks : (o : Option Ty) (v : Val) (t : Tests) (u : Val) → Has d o v → TestsFit o t → Sticks v t u → ⊥
    never_blocks o (id y) t u h f s = s
    never_blocks (Some (record_of xs p)) (rec fs) t u h f (inl (e, k)) = record_demands xs p t f k
    never_blocks (Some (record_of xs p)) (rec fs) t u h f (inr s) = never_fields (Some (record_of xs p)) xs (λ n. refl) fs t u h f s
    never_blocks o (rec fs) t u h f s = absurd h
    never_blocks o (truth b) t u h f (e, s) = plain_blocks o (truth b) t tt h f s
    never_blocks o (long b) t u h f (e, s) = plain_blocks o (long b) t tt h f s
    never_blocks o (string b) t u h f (e, s) = plain_blocks o (string b) t tt h f s
    never_blocks o (set b) t u h f (e, s) = plain_blocks o (set b) t tt h f s
    never_blocks o (decimal b) t u h f (e, s) = plain_blocks o (decimal b) t tt h f s
    never_blocks o (ip b) t u h f (e, s) = plain_blocks o (ip b) t tt h f s
    never_blocks o (datetime b) t u h f (e, s) = plain_blocks o (datetime b) t tt h f s
    never_blocks o (duration b) t u h f (e, s) = plain_blocks o (duration b) t tt h f s

    never_fields : (o : Option Ty) (xs : Attrs) → ((n : List ℕ) → step_on d o (along n) ≡ option_map (λ a. a.attr_type) (attr_at xs n)) → (fs : Fields) (t : Tests) (u : Val) → HaveAll d xs fs → TestsFit o t → FieldsBlock fs t u → ⊥
    never_fields o xs is no_fields t u h f s = s
    never_fields o xs is (field n v fs) t u h f (inl s) =
        never_blocks (Some h.0.0.attr_type) v (behind (Field n) t) u h.0.2
        (subst (λ p. TestsFit p (behind (Field n) t)) (is n ∙ ap (option_map (λ a. a.attr_type)) h.0.1) (behind_fits o (along n) t f)) s
    never_fields o xs is (field n v fs) t u h f (inr s) = never_fields o xs is fs t u h.1 f s

  never_tags : (o : Option Ty) (fs : Fields) (t : Tests) (u : Val) → HaveOne d o fs → TestsFit o t → SomeBlocks (values_in fs) t u → ⊥
  never_tags o no_fields t u h f s = s
  never_tags o (field n v fs) t u h f (inl s) = never_blocks o v t u h.0 f s
  never_tags o (field n v fs) t u h f (inr s) = never_tags o fs t u h.1 f s

  -- in what is left of an entity
  pub entity_never : (e : StoredEntity) (k : Keep) (t : Tests) (u : Val) → EntityHas d e → TestsFit (Some (entity (e.uid.entity_type ∷ []))) t → EntityBlocks (cut_entity k e) t u → ⊥
  entity_never e k t u h f (inl s) =
      never_fields (Some (entity (e.uid.entity_type ∷ []))) (or_none (declared_attributes d e.uid.entity_type)) (λ n. refl) (cut_entity k e).attrs t u
      (have_cut d (or_none (declared_attributes d e.uid.entity_type)) e.attrs (k.chains e.uid) h.0) f s
  entity_never e k t u h f (inr s) =
      never_tags (declared_tags d e.uid.entity_type) (cut_entity k e).tags (behind AnyTag t) u
      (one_cut d (declared_tags d e.uid.entity_type) e.tags (k.tags e.uid) h.1) (behind_fits (Some (entity (e.uid.entity_type ∷ []))) any_tag t f) s

  -- in a whole entity
  pub whole_never : (e : StoredEntity) (t : Tests) (u : Val) → EntityHas d e → TestsFit (Some (entity (e.uid.entity_type ∷ []))) t → EntityBlocks e t u → ⊥
  whole_never e t u h f (inl s) =
      never_fields (Some (entity (e.uid.entity_type ∷ []))) (or_none (declared_attributes d e.uid.entity_type)) (λ n. refl) e.attrs t u h.0 f s
  whole_never e t u h f (inr s) =
      never_tags (declared_tags d e.uid.entity_type) e.tags (behind AnyTag t) u h.1 (behind_fits (Some (entity (e.uid.entity_type ∷ []))) any_tag t f) s

-- ---- tests below paths

module _ (d : SchemaData) (g : EnvData) (ns : Table) (trie : IsDeclaredTrie d g ns) where
  -- a path of the trie that goes on is declared
  path_declared : (p : AccessPath) (ms : List Step) → leads ns (address_of p ++ map edge_of ms) ≡ true → is_declared d (root_type d g p.root) (p.steps ++ ms) ≡ true
  path_declared p ms h = trie.paths (beyond p ms) (subst (λ es. leads ns (Root p.root ∷ es) ≡ true) (sym (map_append p.steps ms)) h)

  path_to_ids : (p : AccessPath) (ms : List Step) (r : EntityRoot) (ls : List Step) → is_marked ns (address_of p ++ (map edge_of ms ++ (Root r ∷ map edge_of ls))) ≡ true →
      IfSome (types_along d (types_along d (root_type d g p.root) p.steps) ms) (λ u. IsTrue (is_of_ids u))
  path_to_ids p ms r ls h =
      subst (λ o. IfSome o (λ u. IsTrue (is_of_ids u))) (types_along-append d (root_type d g p.root) p.steps ms)
      (trie.asked (beyond p ms) (record { root = r; steps = ls })
      (subst (λ es. is_marked ns (Root p.root ∷ es) ≡ true) (sym (ap (λ es. es ++ (Root r ∷ map edge_of ls)) (map_append p.steps ms) ∙ append_assoc (map edge_of p.steps) (map edge_of ms) (Root r ∷ map edge_of ls))) h))

  declared_prefix : (o : Option Ty) (ms ls : List Step) → is_declared d o (ms ++ ls) ≡ true → is_declared d (types_along d o ms) ls ≡ true
  declared_prefix o [] ls h = h
  declared_prefix o (m ∷ ms) ls h = declared_prefix (step_on d o m) ms ls (and_parts (is_some (step_on d o m)) (is_declared d (step_on d o m) (ms ++ ls)) h).1

  -- of a root
  root_tests : (r : EntityRoot) → TestsFit d (root_type d g r) (behind (Root r) (tests_of (whole ns)))
  root_tests r = record {
    leads = λ ms h. path_declared (record { root = r; steps = [] }) ms h;
    marks = λ ms k ls h. path_to_ids (record { root = r; steps = [] }) ms k ls h;
  }

  pub no_root_blocks : (q : Request) → ((r : EntityRoot) → Has d (root_type d g r) (root_value q r)) → (u : Val) → SomeRootBlocks ns q u → ⊥
  no_root_blocks q has u (r, s) = never_blocks d (root_type d g r) (root_value q r) (behind (Root r) (tests_of (whole ns))) u (has r) (root_tests r) s

  module _ (q : Request) (s : Store) (all : AllByRecursion (EntityHas d) s) (has : (r : EntityRoot) → Has d (root_type d g r) (root_value q r)) where
    -- what a path that reaches an id says of its type
    at_id : (p : AccessPath) (x : EntityUID) → IsIn (id x) (reach s q p) → (n : Step) → step_on d (types_along d (root_type d g p.root) p.steps) n ≡ type_along d (entity (x.entity_type ∷ [])) n
    at_id p x i n = walk_has d s all p.steps (root_type d g p.root) (root_value q p.root) (id x) (has p.root) i n

    id_declared : (p : AccessPath) (x : EntityUID) → IsIn (id x) (reach s q p) → (ms : List Step) → is_declared d (types_along d (root_type d g p.root) p.steps) ms ≡ true → is_declared d (Some (entity (x.entity_type ∷ []))) ms ≡ true
    id_declared p x i [] h = refl
    id_declared p x i (m ∷ ms) h = subst (λ o. (is_some o && is_declared d o ms) ≡ true) (at_id p x i m) h

    id_marked : (p : AccessPath) (x : EntityUID) → IsIn (id x) (reach s q p) → (ms : List Step) → IfSome (types_along d (types_along d (root_type d g p.root) p.steps) ms) (λ u. IsTrue (is_of_ids u)) → IfSome (types_along d (Some (entity (x.entity_type ∷ []))) ms) (λ u. IsTrue (is_of_ids u))
    id_marked p x i [] h = refl
    id_marked p x i (m ∷ ms) h = subst (λ o. IfSome (types_along d o ms) (λ u. IsTrue (is_of_ids u))) (at_id p x i m) h

    reached_tests : (x : EntityUID) (below : Bool → Test) → ((b : Bool) (a : Address) → below b a ≡ true → IsReached b ns q s x a) → TestsFit d (Some (entity (x.entity_type ∷ []))) (record { leads = below false; marks = below true })
    reached_tests x below reached = record {
      leads = λ ms h. let r = reached false (map edge_of ms) h in
          id_declared r.path x r.reached ms (declared_prefix (root_type d g r.path.root) r.path.steps ms (path_declared r.path ms r.passes));
      marks = λ ms k ls h. let r = reached true (map edge_of ms ++ (Root k ∷ map edge_of ls)) h in
          id_marked r.path x r.reached ms (path_to_ids r.path ms k ls r.passes);
    }

    stored_tests : (x : EntityUID) (e : StoredEntity) → entity_at s x ≡ Some e → (below : Bool → Test) → ((b : Bool) (a : Address) → below b a ≡ true → IsReached b ns q s x a) →
        TestsFit d (Some (entity (e.uid.entity_type ∷ []))) (record { leads = below false; marks = below true })
    stored_tests x e i below reached = subst (λ y. TestsFit d (Some (entity (y.entity_type ∷ []))) (record { leads = below false; marks = below true })) (sym (uid_at s x e i)) (reached_tests x below reached)

    pub none_stops : (u : Val) → CannotStep ns q s u → ⊥
    none_stops u k =
        entity_never d k.stored k.keep (record { leads = k.below false; marks = k.below true }) u (all_at (EntityHas d) s k.id k.stored all k.at)
        (stored_tests k.id k.stored k.at k.below k.reached) k.sticks

    pub none_blocked : (u : Val) → IsBlockedInStore ns q s u → ⊥
    none_blocked u k =
        whole_never d k.stored (record { leads = k.below false; marks = k.below true }) u (all_at (EntityHas d) s k.id k.stored all k.at)
        (stored_tests k.id k.stored k.at k.below k.reached) k.sticks
