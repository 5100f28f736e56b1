-- What blocks in a store blocks in each store that is the same where paths of the trie stand.
use Rattle.std.proofs.Common.{◌≡◌, ◌⊎◌, Bool, true, false, List, [], ◌∷◌, ◌++◌, map, Option, Some, None, is_some, refl, sym, ap, ◌∙◌, subst, inl, inr}
use Rattle.std.specs.Option.{option_map}
use Rattle.policy_values.specs.declared.entity_uid.EntityUID.{EntityUID}
use Rattle.policy_values.specs.Value.{Val, entity as id, rec, Fields, no_fields, field}
use Rattle.entity_store.specs.declared.request.Request.{Request}
use Rattle.entity_store.specs.FromParents.{without_links}
use Rattle.entity_store.specs.Store.{StoredEntity, Store, entity_at}
use Rattle.access_tries.specs.declared.edge.Edge.{Edge}
use Rattle.access_tries.specs.declared.edge.Edge.TheVariants.{Field, AnyTag, Root}
use Rattle.access_tries.specs.Edges.{Address}
use Rattle.access_tries.specs.Paths.{AccessPath, address_of, edge_of}
use Rattle.access_tries.specs.Table.{Table, has_mark}
use Rattle.access_tries.specs.Views.{whole}
use Rattle.reads_spec.specs.Among.{IsIn, IsPrefixOfRead}
use Rattle.reads_spec.specs.Paths.{Demand}
use Rattle.reads_spec.specs.Reached.{AreAlikeWhereReached}
use Rattle.reads_spec.specs.Restrict.{cut_entity, values_in, kept_chain}
use Rattle.reads_spec.proofs.Cuts.{steps_kept}
use Rattle.reads_spec.proofs.Reaching.{leads_alike}
use Rattle.entity_loading.specs.Blocked.{IsBlocked, IsBlockedInStore}
use Rattle.entity_loading.specs.CannotGoOn.{Tests, behind, GoesOn, Demands, Sticks, FieldsBlock, SomeBlocks, EntityBlocks}
use Rattle.entity_loading.specs.Reached.{IsReached}
use Rattle.entity_loading.specs.Right.{CannotStep, BlocksAt}
use Rattle.entity_loading.specs.Tries.{IsTrieOf}
use Rattle.entity_loading.specs.Needs.{Test, sees}
use Rattle.entity_loading.proofs.Prefixes.{prefix_leads}

-- ---- where a value blocks, some address passes the tests

abbrev SomePasses : Tests → Type 0
SomePasses t = ((a : Address) × (t.leads a ≡ true)) ⊎ ((a : Address) × (t.marks a ≡ true))

behind_passes : (e : Edge) (t : Tests) → SomePasses (behind e t) → SomePasses t
behind_passes e t (inl (a, h)) = inl (e ∷ a, h)
behind_passes e t (inr (a, h)) = inr (e ∷ a, h)

goes_on : (t : Tests) → GoesOn t ⊎ Demands t → SomePasses t
goes_on t (inl (n, h)) = inl (edge_of n ∷ [], h)
goes_on t (inr (r, ns, h)) = inr (Root r ∷ map edge_of ns, h)

mutual
  value_passes : (v : Val) (t : Tests) (u : Val) → Sticks v t u → SomePasses t
  value_passes (id y) t u h = absurd h
  value_passes (rec fs) t u (inl h) = goes_on t (inr h.1)
  value_passes (rec fs) t u (inr h) = fields_pass fs t u h
  value_passes v t u h = goes_on t h.1

  fields_pass : (fs : Fields) (t : Tests) (u : Val) → FieldsBlock fs t u → SomePasses t
  fields_pass no_fields t u h = absurd h
  fields_pass (field n v fs) t u (inl h) = behind_passes (Field n) t (value_passes v (behind (Field n) t) u h)
  fields_pass (field n v fs) t u (inr h) = fields_pass fs t u h

values_pass : (vs : List Val) (t : Tests) (u : Val) → SomeBlocks vs t u → SomePasses t
values_pass [] t u h = absurd h
values_pass (v ∷ vs) t u (inl h) = value_passes v t u h
values_pass (v ∷ vs) t u (inr h) = values_pass vs t u h

entity_passes : (e : StoredEntity) (t : Tests) (u : Val) → EntityBlocks e t u → SomePasses t
entity_passes e t u (inl h) = fields_pass e.attrs t u h
entity_passes e t u (inr h) = behind_passes AnyTag t (values_pass (values_in e.tags) (behind AnyTag t) u h)

-- ---- what is reached is alike in both stores

-- an entity that is the given one but for its ancestors
record HasAlike (s : Store) (x : EntityUID) (e : StoredEntity) : Type 0 where
  stored : StoredEntity
  at : entity_at s x ≡ Some stored
  same : without_links e ≡ without_links stored

alike_at : (s : Store) (x : EntityUID) (e : StoredEntity) → option_map without_links (entity_at s x) ≡ Some (without_links e) → HasAlike s x e
alike_at s x e h = by (entity_at s x) refl h
  where
    by : (o : Option StoredEntity) → entity_at s x ≡ o → option_map without_links o ≡ Some (without_links e) → HasAlike s x e
    by None at k = absurd (cc)
    by (Some f) at k = record { stored = f; at = at; same = cc }

module _ (reads : List AccessPath) (demands : List Demand) (ns : Table) (fits : IsTrieOf reads demands ns) (q : Request) (s t : Store) (alike : AreAlikeWhereReached reads q s t) where
  path_read : (b : Bool) (p : AccessPath) (a : Address) → sees b (whole ns) (address_of p ++ a) ≡ true → IsPrefixOfRead reads p
  path_read true p a h = (fits.paths p).0 (prefix_leads has_mark refl ns (address_of p) a 0 h)
  path_read false p a h = (fits.paths p).0 (prefix_leads is_some refl ns (address_of p) a 0 h)

  reached_there : (b : Bool) (x : EntityUID) (a : Address) → IsReached b ns q s x a → IsReached b ns q t x a
  reached_there b x a r = record {
    path = r.path;
    reached = subst (λ vs. IsIn (id x) vs) (sym (leads_alike reads q s t alike r.path (path_read b r.path a r.passes))) r.reached;
    passes = r.passes;
  }

  kept_there : (b : Bool) (x : EntityUID) (a : Address) → IsReached b ns q s x a → kept_chain reads q s x [] ≡ true
  kept_there b x a r = let p = path_read b r.path a r.passes in steps_kept s q reads r.path x [] p.rest r.reached p.among

  stored_there : (x : EntityUID) (e : StoredEntity) → entity_at s x ≡ Some e → (below : Bool → Test) → ((b : Bool) (a : Address) → below b a ≡ true → IsReached b ns q s x a) →
      SomePasses (record { leads = below false; marks = below true }) → HasAlike t x e
  stored_there x e at below reached some = alike_at t x e (alike x (kept some) ∙ ap (option_map without_links) at)
    where
      kept : SomePasses (record { leads = below false; marks = below true }) → kept_chain reads q s x [] ≡ true
      kept (inl (a, h)) = kept_there false x a (reached false a h)
      kept (inr (a, h)) = kept_there true x a (reached true a h)

  pub blocks_there : (u : Val) → BlocksAt ns q s u → BlocksAt ns q t u
  blocks_there u (inl h) = inl h
  blocks_there u (inr k) = inr (here (stored_there k.id k.stored k.at k.below k.reached (entity_passes (cut_entity k.keep k.stored) tests u k.sticks)))
    where
      tests : Tests
      tests = record { leads = k.below false; marks = k.below true }

      here : HasAlike t k.id k.stored → CannotStep ns q t u
      here f = record {
        id = k.id;
        stored = f.stored;
        at = f.at;
        keep = k.keep;
        below = k.below;
        reached = λ b a h. reached_there b k.id a (k.reached b a h);
        sticks = subst (λ (e : StoredEntity). EntityBlocks (cut_entity k.keep e) tests u) f.same k.sticks;
      }

  pub blocked_there : (u : Val) → IsBlocked ns q s u → IsBlocked ns q t u
  blocked_there u (inl h) = inl h
  blocked_there u (inr k) = inr (here (stored_there k.id k.stored k.at k.below k.reached (entity_passes k.stored tests u k.sticks)))
    where
      tests : Tests
      tests = record { leads = k.below false; marks = k.below true }

      here : HasAlike t k.id k.stored → IsBlockedInStore ns q t u
      here f = record {
        id = k.id;
        stored = f.stored;
        at = f.at;
        below = k.below;
        reached = λ b a h. reached_there b k.id a (k.reached b a h);
        sticks = subst (λ (e : StoredEntity). EntityBlocks e tests u) f.same k.sticks;
      }
