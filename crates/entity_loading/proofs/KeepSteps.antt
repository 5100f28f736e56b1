-- Steps of keeping.
use Rattle.std.proofs.Common.{◌≡◌, ◌<◌, List, [], ◌∷◌, length, arith, Bool, true, false, cond, Option, Some, None, refl, sym, ap, ◌∙◌}
use Rattle.std.specs.Prelude.{IsSomeAnd}
use Rattle.std.specs.BTreeMap.{BTreeMap, get, is_at}
use Rattle.std.specs.Map.{lookup}
use Rattle.std.specs.Option.{option_map, option_and_then}
use Rattle.policy_values.specs.declared.entity_uid.EntityUID.{EntityUID}
use Rattle.policy_values.specs.Uid.{uid_cmp, uid_eq}
use Rattle.entity_store.specs.Store.{StoredEntity}
use Rattle.policy_values.specs.Value.{Fields}
use Rattle.reads_spec.specs.Merge.{merge_fields, united, merge_entities}
use Rattle.reads_spec.proofs.Lists.{same_uid}
use Rattle.entity_loader.specs.Kept.{kept_with}
use Rattle.entity_loading.specs.declared.error.EntitySliceError.{EntitySliceError}
use Rattle.entity_loading.specs.declared.error.EntitySliceError.TheVariants as error
use Rattle.entity_loading.specs.Answering.{AreUnderIds}
use Rattle.entity_loading.specs.Keeping.{kept_and, Keeps, IsNotKept, AreNotKept}

-- what merges keeps its id
pub merged_uid : (a b d : StoredEntity) → merge_entities a b ≡ Some d → d.uid ≡ a.uid
merged_uid a b d h = on_attrs (merge_fields a.attrs b.attrs) h
  where
    whole : Fields → Fields → StoredEntity
    whole fs ts = record { uid = a.uid; attrs = fs; ancestors = united a.ancestors b.ancestors; tags = ts }

    on_tags : (fs : Fields) (o : Option Fields) → option_map (whole fs) o ≡ Some d → d.uid ≡ a.uid
    on_tags fs None e = absurd (cc)
    on_tags fs (Some ts) e = let same : whole fs ts ≡ d = cc in ap (λ z. z.uid) (sym same)

    on_attrs : (o : Option Fields) → option_and_then (λ fs. option_map (whole fs) (merge_fields a.tags b.tags)) o ≡ Some d → d.uid ≡ a.uid
    on_attrs None e = absurd (cc)
    on_attrs (Some fs) e = on_tags fs (merge_fields a.tags b.tags) e

kept_uid : (o : Option StoredEntity) (e d : StoredEntity) (x : EntityUID) → ((k : StoredEntity) → o ≡ Some k → k.uid ≡ x) → e.uid ≡ x → kept_with o e ≡ Some d → d.uid ≡ x
kept_uid None e d x f is h = let same : e ≡ d = cc in ap (λ z. z.uid) (sym same) ∙ is
kept_uid (Some k) e d x f is h = merged_uid k e d h ∙ f k refl

pub record IsKeeping (old all kept found : BTreeMap EntityUID StoredEntity) : Type 0 where
  pub found_ids : AreUnderIds found
  pub kept_ids : AreUnderIds kept
  pub each : (x : EntityUID) → kept_and (get uid_cmp kept x) (get uid_cmp found x) ≡ kept_and (get uid_cmp old x) (get uid_cmp all x)
  pub untouched : (x : EntityUID) (e : StoredEntity) → get uid_cmp found x ≡ Some e → (get uid_cmp kept x ≡ get uid_cmp old x) × (get uid_cmp all x ≡ Some e)

pub keeping_start : (old all : BTreeMap EntityUID StoredEntity) → AreUnderIds all → AreUnderIds old → IsKeeping old all old all
keeping_start old all f k = record { found_ids = f; kept_ids = k; each = λ x. refl; untouched = λ x e h. (refl, h) }

module _ (old all kept found rest : BTreeMap EntityUID StoredEntity) (t : IsKeeping old all kept found) (k : EntityUID) (e : StoredEntity)
    (at_k : get uid_cmp found k ≡ Some e) (out : (q : EntityUID) → get uid_cmp rest q ≡ cond (uid_eq k q) None (get uid_cmp found q)) where
  is : e.uid ≡ k
  is = t.found_ids k e at_k

  left : (x : EntityUID) (b : Bool) → uid_eq k x ≡ b → get uid_cmp rest x ≡ cond b None (get uid_cmp found x)
  left x b h = out x ∙ ap (λ c. cond c None (get uid_cmp found x)) h

  pub keeping_more : (new : BTreeMap EntityUID StoredEntity) → Keeps e (get uid_cmp kept) (get uid_cmp new) → IsKeeping old all new rest
  keeping_more new put = record {
    found_ids = λ x d h. ids x d (uid_eq k x) refl h;
    kept_ids = λ x d h. under x d (uid_eq k x) refl h;
    each = λ x. one x (uid_eq k x) refl;
    untouched = λ x d h. same x d (uid_eq k x) refl h;
  }
    where
      now : (x : EntityUID) (b : Bool) → uid_eq k x ≡ b → get uid_cmp new x ≡ cond b (kept_with (get uid_cmp kept k) e) (get uid_cmp kept x)
      now x b h = put.each x ∙ (λ i. cond (uid_eq (is i) x) (kept_with (get uid_cmp kept (is i)) e) (get uid_cmp kept x)) ∙ ap (λ c. cond c (kept_with (get uid_cmp kept k) e) (get uid_cmp kept x)) h

      ids : (x : EntityUID) (d : StoredEntity) (b : Bool) → uid_eq k x ≡ b → get uid_cmp rest x ≡ Some d → d.uid ≡ x
      ids x d true h g = let none = left x true h in absurd (cc)
      ids x d false h g = t.found_ids x d (sym (left x false h) ∙ g)

      under : (x : EntityUID) (d : StoredEntity) (b : Bool) → uid_eq k x ≡ b → get uid_cmp new x ≡ Some d → d.uid ≡ x
      under x d true h g = kept_uid (get uid_cmp kept k) e d k (λ j i. t.kept_ids k j i) is (sym (now x true h) ∙ g) ∙ same_uid k x h
      under x d false h g = t.kept_ids x d (sym (now x false h) ∙ g)

      one : (x : EntityUID) (b : Bool) → uid_eq k x ≡ b → kept_and (get uid_cmp new x) (get uid_cmp rest x) ≡ kept_and (get uid_cmp old x) (get uid_cmp all x)
      one x true h =
          (λ i. kept_and (now x true h i) (left x true h i)) ∙ ap (kept_and (get uid_cmp kept k)) (sym at_k) ∙ ap (λ z. kept_and (get uid_cmp kept z) (get uid_cmp found z)) (same_uid k x h) ∙ t.each x
      one x false h = (λ i. kept_and (now x false h i) (left x false h i)) ∙ t.each x

      same : (x : EntityUID) (d : StoredEntity) (b : Bool) → uid_eq k x ≡ b → get uid_cmp rest x ≡ Some d → (get uid_cmp new x ≡ get uid_cmp old x) × (get uid_cmp all x ≡ Some d)
      same x d true h g = let none = left x true h in absurd (cc)
      same x d false h g = let u = t.untouched x d (sym (left x false h) ∙ g) in (now x false h ∙ u.0, u.1)

  pub not_kept : (c : EntitySliceError) → IsNotKept k (get uid_cmp kept e.uid) e c → AreNotKept (get uid_cmp old) (get uid_cmp all) c
  not_kept (error.InconsistentLoader uid o got) h = by o h
    where
      by : (o : Option StoredEntity) → (uid ≡ k) × (got ≡ e) × IsSomeAnd o (λ j. (get uid_cmp kept e.uid ≡ Some j) × (merge_entities j e ≡ None)) → (get uid_cmp all uid ≡ Some got) × IsSomeAnd o (λ j. (get uid_cmp old uid ≡ Some j) × (merge_entities j got ≡ None))
      by None p = absurd (p.2)
      by (Some j) p =
          let u = t.untouched k e at_k in
          let at_uid = p.0 in (
            ap (get uid_cmp all) at_uid ∙ u.1 ∙ ap Some (sym p.1),
            (ap (get uid_cmp old) at_uid ∙ sym u.0 ∙ ap (get uid_cmp kept) (sym is) ∙ p.2.0, ap (merge_entities j) p.1 ∙ p.2.1),
          )
  not_kept error.OutOfMemory h = tt
  not_kept c h = absurd h

pub keeping_done : (old all kept found : BTreeMap EntityUID StoredEntity) → IsKeeping old all kept found → ((x : EntityUID) → get uid_cmp found x ≡ None) → (x : EntityUID) → get uid_cmp kept x ≡ kept_and (get uid_cmp old x) (get uid_cmp all x)
keeping_done old all kept found t none x = ap (kept_and (get uid_cmp kept x)) (sym (none x)) ∙ t.each x

none_left : (es : List (EntityUID × StoredEntity)) → (0 < length es → ⊥) → (x : EntityUID) → lookup (is_at (uid_cmp x)) es ≡ None
none_left [] h x = refl
none_left (e ∷ es) h x = absurd (h (omega arith))

pub none_found : (m : BTreeMap EntityUID StoredEntity) → (0 < length m.entries → ⊥) → (x : EntityUID) → get uid_cmp m x ≡ None
none_found m h = none_left m.entries h

pub none_there : (m : BTreeMap EntityUID StoredEntity) → m.entries ≡ [] → (x : EntityUID) → get uid_cmp m x ≡ None
none_there m e x = ap (lookup (is_at (uid_cmp x))) e
