-- The part of a store that is reached: each entity on which a path stands, as far as it is asked for.
use Rattle.std.proofs.Common.{◌≡◌, Bool, true, false, ◌&&◌, ◌||◌, List, [], ◌∷◌, ◌++◌, Option, Some, None, refl, sym, ap, ◌∙◌, subst, inl, inr}
use Rattle.std.specs.Prelude.{filter, if◌then◌else◌, IsSomeAnd}
use Rattle.std.specs.List.{AllByRecursion, list_any, flat_map}
use Rattle.std.specs.Option.{option_map}
use Rattle.std.proofs.lemmas.Bool.{and_parts}
use Rattle.policy_values.specs.Basename.{is_action_type}
use Rattle.policy_values.specs.Reaches.{has}
use Rattle.policy_values.specs.Uid.{uid_cmp}
use Rattle.policy_values.specs.declared.entity_uid.EntityUID.{EntityUID}
use Rattle.policy_values.specs.Value.{Val, entity as id}
use Rattle.entity_store.specs.declared.request.Request.{Request}
use Rattle.entity_store.specs.FromParents.{without_links}
use Rattle.entity_store.specs.Store.{StoredEntity, Store, entity_at}
use Rattle.policy_expressions.specs.Tree.{Tree}
use Rattle.schema_core.specs.EnvData.{LinkedEnvironment, declared_action}
use Rattle.schema_core.specs.Faults.{IsSchema}
use Rattle.schema_core.specs.Schema.{TypeData, ActionData, SchemaData, type_at, action_at}
use Rattle.typing_spec.specs.Conforms.{IsAllowedAncestor, TypedConforms, ActionConforms, ConformsAs, EntityConforms, StoreConforms, RequestConforms, IsOf}
use Rattle.reads_spec.specs.Among.{IsPrefixOfRead}
use Rattle.reads_spec.specs.Cover.{HasTypes, KeepsTypes}
use Rattle.reads_spec.specs.Paths.{Step, along, any_tag, AccessPath, Demand, beyond}
use Rattle.reads_spec.specs.Reads.{reads_of, demands_of, declared_reads, declared_demands}
use Rattle.reads_spec.specs.Reached.{as_asked, ReachedConforms, StoresConformWhereReached, AreAlikeWhereReached, ReachedPartsConform}
use Rattle.reads_spec.specs.Restrict.{Keep, cut_fields, cut_entity, part, is_id, is_prefix, root_value, step_in_entity, step, walk, reach, keeps, kept_steps, kept_chain, kept_ancestor, needed}
use Rattle.reads_spec.proofs.Conforming.{entity_types, keeps_types}
use Rattle.reads_spec.proofs.Cuts.{uid_at, entity_at-part, cut_fields_all, keeps_first, keeps_here}
use Rattle.reads_spec.proofs.Demanded.{demands_are_read}
use Rattle.reads_spec.proofs.Dropping.{alike, nothing_lost, same_ancestors}
use Rattle.reads_spec.proofs.Lists.{IsIn, any_in}
use Rattle.reads_spec.proofs.Order.{filter_all, needed_well_formed, part_twice}
use Rattle.plain_lemmas.proofs.Booleans.{or_right_true, or_weaker_right}
use Rattle.plain_lemmas.proofs.Lists.{any_weaker}

-- ---- fewer ancestors

kept_all : (P : EntityUID → Type 0) (t : EntityUID → Bool) (us : List EntityUID) → AllByRecursion P us → AllByRecursion P (filter t us)
kept_all P t [] h = tt
kept_all P t (u ∷ us) h = here (t u) (kept_all P t us h.1)
  where
    here : (b : Bool) → AllByRecursion P (filter t us) → AllByRecursion P (if b then u ∷ filter t us else filter t us)
    here true r = (h.0, r)
    here false r = r

-- what is allowed of an entity's ancestors is asked of its id
same_ids : (d : SchemaData) (e f : StoredEntity) → e.uid ≡ f.uid → (us : List EntityUID) → AllByRecursion (IsAllowedAncestor d e) us → AllByRecursion (IsAllowedAncestor d f) us
same_ids d e f same [] h = tt
same_ids d e f same (u ∷ us) h = (record { below = rw (← same) h.0.below; listed = h.0.listed }, same_ids d e f same us h.1)

module _ (ps : List AccessPath) (ds : List Demand) (q : Request) (s : Store) where
  -- with those of its ancestors that are asked for an entity conforms that conforms
  asked_conforms : (d : SchemaData) (e : StoredEntity) → EntityConforms d e → EntityConforms d (as_asked ps ds q s e)
  asked_conforms d e h = here (is_action_type e.uid.entity_type) h
    where
      kept : Bool → EntityUID → Bool
      kept b y = b || kept_ancestor ps ds q s e.uid y

      here : (b : Bool) → ConformsAs d b e → ConformsAs d b (record e { ancestors = filter (kept b) e.ancestors })
      here true h = of_action (action_at d e.uid) h
        where
          of_action : (o : Option ActionData) → IsSomeAnd o (λ a. ActionConforms d e) → IsSomeAnd o (λ a. ActionConforms d (record e { ancestors = filter (kept true) e.ancestors }))
          of_action None h = h
          of_action (Some a) h = record { attributes = h.attributes; tags = h.tags; ancestors = λ u. ap (λ us. has uid_cmp us u) (filter_all e.ancestors) ∙ h.ancestors u }
      here false h = of_type (type_at d e.uid.entity_type) h
        where
          of_type : (o : Option TypeData) → IsSomeAnd o (TypedConforms d e) → IsSomeAnd o (TypedConforms d (record e { ancestors = filter (kept false) e.ancestors }))
          of_type None h = h
          of_type (Some t) h = record {
            listed = h.listed;
            attributes = h.attributes;
            attribute_ids = h.attribute_ids;
            tags = h.tags;
            tag_ids = h.tag_ids;
            ancestors = same_ids d e (record e { ancestors = filter (kept false) e.ancestors }) refl (filter (kept false) e.ancestors) (kept_all (IsAllowedAncestor d e) (kept false) e.ancestors h.ancestors);
          }

pub conform_where_reached : {B : Type 0} → StoresConformWhereReached B
conform_where_reached d g ts q whole store = each whole store
  where
    each : (s : Store) → StoreConforms d s → AllByRecursion (λ e. kept_chain (declared_reads d g ts) q whole e.uid [] ≡ true → EntityConforms d (as_asked (declared_reads d g ts) (declared_demands d g ts) q whole e)) s
    each [] h = tt
    each (e ∷ es) h = (λ k. asked_conforms (declared_reads d g ts) (declared_demands d g ts) q whole d e h.0, each es h.1)

-- ---- the part

-- the entities that are reached, each with the ancestors that are asked for
abbrev pub reached : List AccessPath → List Demand → Request → Store → Keep
reached ps ds q s = record {
  chains = λ x c. kept_steps ps q s x [];
  ancestors = λ x y. is_action_type x.entity_type || kept_ancestor ps ds q s x y;
  tags = λ x c. true;
}

module _ (ps : List AccessPath) (ds : List Demand) (q : Request) (s : Store) where
  all_attrs : (e : StoredEntity) → kept_steps ps q s e.uid [] ≡ true → cut_fields e.attrs (λ c. kept_steps ps q s e.uid []) ≡ e.attrs
  all_attrs e k = ap (λ b. cut_fields e.attrs (λ c. b)) k ∙ cut_fields_all e.attrs

  stays : (e : StoredEntity) → kept_steps ps q s e.uid [] ≡ true → cut_entity (reached ps ds q s) e ≡ as_asked ps ds q s e
  stays e k = λ i. record { uid = e.uid; attrs = all_attrs e k i; ancestors = filter (λ y. is_action_type e.uid.entity_type || kept_ancestor ps ds q s e.uid y) e.ancestors; tags = cut_fields_all e.tags i }

  all_of_part : (P : StoredEntity → Type 0) (es : Store) → AllByRecursion (λ e. kept_steps ps q s e.uid [] ≡ true → P (as_asked ps ds q s e)) es → AllByRecursion P (part (reached ps ds q s) es)
  all_of_part P [] h = tt
  all_of_part P (e ∷ es) h = here (kept_steps ps q s e.uid []) refl (all_of_part P es h.1)
    where
      here : (b : Bool) → kept_steps ps q s e.uid [] ≡ b → AllByRecursion P (part (reached ps ds q s) es) → AllByRecursion P (if b then cut_entity (reached ps ds q s) e ∷ part (reached ps ds q s) es else part (reached ps ds q s) es)
      here true k r = (subst P (sym (stays e k)) (h.0 k), r)
      here false k r = r

  -- it has what is needed
  has_needed : part (needed ps ds q s) (part (reached ps ds q s) s) ≡ part (needed ps ds q s) s
  has_needed = part_twice (needed ps ds q s) (reached ps ds q s) s
      (λ x c h. (needed_well_formed ps ds q s).of_chains x c h)
      (λ x y h. or_right_true (is_action_type x.entity_type) (kept_ancestor ps ds q s x y) (and_parts (kept_chain ps q s x []) (kept_ancestor ps ds q s x y) h).1)
      (λ x c h. refl)

  entity_alike : (x : EntityUID) → kept_steps ps q s x [] ≡ true → option_map without_links (entity_at (part (reached ps ds q s) s) x) ≡ option_map without_links (entity_at s x)
  entity_alike x k = ap (option_map without_links) (entity_at-part (reached ps ds q s) s x k) ∙ here (entity_at s x) refl
    where
      here : (o : Option StoredEntity) → entity_at s x ≡ o → option_map without_links (option_map (cut_entity (reached ps ds q s)) o) ≡ option_map without_links o
      here None e = refl
      here (Some f) e = let a = all_attrs f (rw (uid_at s x f e) k) in λ i. Some (record { uid = f.uid; attrs = a i; ancestors = []; tags = cut_fields_all f.tags i })

-- ---- paths lead to the same where what they stand on is alike

module _ (s t : Store) where
  -- each entity that steps from a value stand on is the same in both stores, but for its ancestors
  abbrev pub AlongAlike : List Step → Val → Type 0
  AlongAlike ns v = (y : EntityUID) → keeps s y [] ns v ≡ true → option_map without_links (entity_at t y) ≡ option_map without_links (entity_at s y)

  step_links : (o : Option StoredEntity) (n : Step) → step_in_entity (option_map without_links o) n ≡ step_in_entity o n
  step_links None n = refl
  step_links (Some e) (along m) = refl
  step_links (Some e) any_tag = refl

  pub step_same : (v : Val) (n : Step) (ns : List Step) → AlongAlike (n ∷ ns) v → step t v n ≡ step s v n
  step_same (id x) n ns at =
      sym (step_links (entity_at t x) n)
      ∙ ap (λ o. step_in_entity o n) (at x (keeps_here s x [] (n ∷ ns) [] (id x) (inl refl)))
      ∙ step_links (entity_at s x) n
  step_same v n ns at = refl

  pub next_alike : (n : Step) (ns : List Step) (v w : Val) → AlongAlike (n ∷ ns) v → IsIn w (step s v n) → AlongAlike ns w
  next_alike n ns v w at i y k = at y (or_right_true (is_id y v && is_prefix [] (n ∷ ns)) (list_any (keeps s y [] ns) (step s v n)) (any_in (keeps s y [] ns) w (step s v n) i k))

  flat_same : (f g : Val → List Val) (vs : List Val) → ((v : Val) → IsIn v vs → f v ≡ g v) → flat_map f vs ≡ flat_map g vs
  flat_same f g [] h = refl
  flat_same f g (v ∷ vs) h = λ i. h v (inl refl) i ++ flat_same f g vs (λ w j. h w (inr j)) i

  walk_same : (ns : List Step) (v : Val) → AlongAlike ns v → walk t v ns ≡ walk s v ns
  walk_same [] v at = refl
  walk_same (n ∷ ns) v at =
      ap (λ ws. flat_map (λ w. walk t w ns) ws) (step_same v n ns at)
      ∙ flat_same (λ w. walk t w ns) (λ w. walk s w ns) (step s v n) (λ w i. walk_same ns w (next_alike n ns v w at i))

-- a longer path stands on the same entities
keeps_longer : (s : Store) (y : EntityUID) (ns ms : List Step) (v : Val) → keeps s y [] ns v ≡ true → keeps s y [] (ns ++ ms) v ≡ true
keeps_longer s y [] ms v h = keeps_first s y [] ms v h
keeps_longer s y (n ∷ ns) ms v h =
    or_weaker_right (is_id y v && true) (list_any (keeps s y [] ns) (step s v n)) (list_any (keeps s y [] (ns ++ ms)) (step s v n))
    (any_weaker (keeps s y [] ns) (keeps s y [] (ns ++ ms)) (step s v n) (λ w. keeps_longer s y ns ms w)) h

-- a path that is read, or a prefix of one, leads to the same
pub leads_alike : (ps : List AccessPath) (q : Request) (s t : Store) → AreAlikeWhereReached ps q s t → (p : AccessPath) → IsPrefixOfRead ps p → reach t q p ≡ reach s q p
leads_alike ps q s t alike p r = walk_same s t p.steps (root_value q p.root) (λ y k.
    alike y (any_in (λ z. keeps s y [] z.steps (root_value q z.root)) (beyond p r.rest) ps r.among (keeps_longer s y p.steps r.rest (root_value q p.root) k)))

-- ---- what is reached conforms

module _ {B : Type 0} (d : SchemaData) (schema : IsSchema d) (g : LinkedEnvironment) (q : Request) (request : RequestConforms d q) (of : IsOf d q g) (whole : Store) (ts : List (Tree B)) (conforms : ReachedConforms d (declared_action g) ts q whole) where
  abbrev Declared : List AccessPath
  Declared = declared_reads d (declared_action g) ts

  abbrev All : List AccessPath
  All = reads_of d (declared_action g) ts

  pub reached_types : KeepsTypes d (declared_action g) Declared q whole
  reached_types = keeps_types d schema g q request of Declared whole (each whole conforms)
    where
      each : (s : Store) → AllByRecursion (λ e. kept_chain Declared q whole e.uid [] ≡ true → EntityConforms d (as_asked Declared (declared_demands d (declared_action g) ts) q whole e)) s → AllByRecursion (λ e. kept_chain Declared q whole e.uid [] ≡ true → HasTypes d e) s
      each [] h = tt
      each (e ∷ es) h = (λ k. let t = entity_types d (as_asked Declared (declared_demands d (declared_action g) ts) q whole e) (h.0 k) in record { attributes = t.attributes; tags = t.tags }, each es h.1)

  asked_alike : (e : StoredEntity) → as_asked Declared (declared_demands d (declared_action g) ts) q whole e ≡ as_asked All (demands_of ts) q whole e
  asked_alike e =
      ap (λ (t : EntityUID → Bool). record e { ancestors = filter (λ y. is_action_type e.uid.entity_type || t y) e.ancestors })
      (λ i y. same_ancestors d (declared_action g) q whole All reached_types (demands_of ts) (demands_are_read d (declared_action g) ts) e.uid y i)

  pub part_conforms : StoreConforms d (part (reached All (demands_of ts) q whole) whole)
  part_conforms = all_of_part All (demands_of ts) q whole (EntityConforms d) whole (each whole conforms)
    where
      each : (s : Store) → AllByRecursion (λ e. kept_chain Declared q whole e.uid [] ≡ true → EntityConforms d (as_asked Declared (declared_demands d (declared_action g) ts) q whole e)) s → AllByRecursion (λ e. kept_steps All q whole e.uid [] ≡ true → EntityConforms d (as_asked All (demands_of ts) q whole e)) s
      each [] h = tt
      each (e ∷ es) h = (λ k. subst (EntityConforms d) (asked_alike e) (h.0 (alike d (declared_action g) q whole All reached_types e.uid [] refl ∙ k)), each es h.1)

  part_alike : AreAlikeWhereReached Declared q whole (part (reached All (demands_of ts) q whole) whole)
  part_alike x k = entity_alike All (demands_of ts) q whole x (sym (alike d (declared_action g) q whole All reached_types x [] refl) ∙ k)

pub reached_parts : {B : Type 0} → ReachedPartsConform B
reached_parts d schema g q request of whole ts conforms = record {
  store = part (reached (reads_of d (declared_action g) ts) (demands_of ts) q whole) whole;
  conforms = part_conforms d schema g q request of whole ts conforms;
  low = (
    needed (reads_of d (declared_action g) ts) (demands_of ts) q whole,
    nothing_lost d (declared_action g) q whole (reads_of d (declared_action g) ts) (reached_types d schema g q request of whole ts conforms) (demands_of ts) (demands_are_read d (declared_action g) ts)
        ∙ sym (has_needed (reads_of d (declared_action g) ts) (demands_of ts) q whole),
  );
  high = (reached (reads_of d (declared_action g) ts) (demands_of ts) q whole, refl);
  alike = part_alike d schema g q request of whole ts conforms;
}
