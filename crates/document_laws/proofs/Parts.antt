-- Declarations make one schema or have one first fault, and so do entities and their store.
use Rattle.std.proofs.Common.{◌∙◌, ℕ, List, inl, inr, Option, Some, None, Result, Ok, Err, refl, sym, ap}
use Rattle.std.specs.Prelude.{IfSome, IsSomeAnd}
use Rattle.std.specs.Cmp.{nat_cmp_total}
use Rattle.std.specs.Cmp.Lexicographic.{nat_list_cmp_total}
use Rattle.std.specs.Ordering.{nat_cmp}
use Rattle.std.proofs.lemmas.Map.Lookups.{exact_bytes, exact_unsigned}
use Rattle.policy_values.proofs.Repeated.{earlier_at}
use Rattle.policy_values.specs.Repeated.{IsRepeated, StandsEarlier}
use Rattle.policy_values.specs.declared.entity_uid.EntityUID.{EntityUID}
use Rattle.policy_values.specs.Uid.{text_cmp, uid_cmp, uid_cmp_total, exact_uid}
use Rattle.entity_store.specs.Store.{StoredEntity, Store}
use Rattle.entity_store.specs.FromParents.{IsFromParents, IsOwnAncestor, ids_of}
use Rattle.entity_store.proofs.OneStore.{one_store}
use Rattle.schema_core.specs.Schema.{SchemaData}
use Rattle.schema_core.specs.Entries.{Declarations}
use Rattle.schema_core.specs.Outline.{HasSoundNames, IsDeclaredActionType, IsEmptyEnum, IsNoAction, IsUndeclaredType, IsUndeclaredAction, IsListingEnum, IsBadType, IsBadContext, IsUnknownExtension}
use Rattle.schema_core.specs.Declarations.{IsSchemaOf, IsDeclaredTwice, IsInCycle, declared_outline}
use Rattle.schema_core.proofs.OneSchema.{one_schema}
use Rattle.schema_core.specs.declared.fault.SchemaFault.{SchemaFault}
use Rattle.schema_core.specs.declared.fault.SchemaFault.TheVariants as refused
use Rattle.json_document.specs.Entities.{index_from}
use Rattle.json_document.specs.Reading.{IsSchemaFrom}
use Rattle.json_document.specs.Store.{IsStoreFrom}
use Rattle.json_document.specs.declared.place.Place.{Place}
use Rattle.json_document.specs.declared.place.Place.TheVariants as place
use Rattle.document_laws.proofs.Rules.{IsUnique, Rule, Made, unique_made, unique_rule}

abbrev Read : Type 0
Read = Result SchemaData Place

-- a rule that types keep, a rule that actions keep
abbrev Types : (List ℕ → Type 0) → (List ℕ → SchemaFault) → (Read → Type 0) → Read → Type 0
Types Breaks fault = Rule text_cmp Breaks (λ x. place.SchemaFault (fault x))

abbrev Actions : (EntityUID → Type 0) → (EntityUID → SchemaFault) → (Read → Type 0) → Read → Type 0
Actions Breaks fault = Rule uid_cmp Breaks (λ u. place.SchemaFault (fault u))

types : (Breaks : List ℕ → Type 0) (fault : List ℕ → SchemaFault) (Rest : Read → Type 0) → IsUnique Rest → IsUnique (Types Breaks fault Rest)
types Breaks fault = unique_rule nat_list_cmp_total exact_bytes Breaks (λ x. place.SchemaFault (fault x))

actions : (Breaks : EntityUID → Type 0) (fault : EntityUID → SchemaFault) (Rest : Read → Type 0) → IsUnique Rest → IsUnique (Actions Breaks fault Rest)
actions Breaks fault = unique_rule uid_cmp_total exact_uid Breaks (λ u. place.SchemaFault (fault u))

never : {A : Type 0} {P Q : A → Type 0} (o : Option A) → IfSome o P → ((x : A) → P x → Q x → ⊥) → IsSomeAnd o Q → ⊥
never None p both q = q
never (Some x) p both q = both x p q

module _ (d : Declarations) where
  -- the rules about types inside, those about members, those about names, and all
  abbrev Typed : Read → Type 0
  Typed = let o = declared_outline d in Types (IsBadType o) refused.BadType (Actions (IsBadContext o) refused.BadContext (Types (IsUnknownExtension o) refused.UnknownExtension (Made (IsSchemaOf d))))

  abbrev Members : Read → Type 0
  Members = Actions (IsInCycle d) refused.ActionCycle (Types (IsListingEnum (declared_outline d)) refused.EnumHasAncestor Typed)

  abbrev Named : Read → Type 0
  Named = let o = declared_outline d in Types (IsDeclaredActionType o) refused.ActionTypeDeclared (Types (IsEmptyEnum o) refused.EmptyEnum (Actions (IsNoAction o) refused.NotAnAction (Types (IsUndeclaredType o) refused.UndeclaredType (Actions (IsUndeclaredAction o) refused.UndeclaredAction Members))))

  abbrev Ruled : Read → Type 0
  Ruled = Actions (IsDeclaredTwice d) refused.DuplicateAction Named

  ruled : IsUnique Ruled
  ruled = actions _ _ _ (types _ _ _ (types _ _ _ (actions _ _ _ (types _ _ _ (actions _ _ _ (actions _ _ _ (types _ _ _ (types _ _ _ (actions _ _ _ (types _ _ _ (unique_made _ (one_schema d))))))))))))

  past_names : HasSoundNames (declared_outline d) → (r : Read) → Members r → Named r
  past_names names r rest = inr (λ x h. cc (names.types x h.0, h.1), inr (λ x. never ((declared_outline d).kind_at x) (names.enums x) (λ k p q. cc (p, q)), inr (λ u h. cc (names.actions u h.0, h.1), inr (λ x h. cc (names.named_types x h.1, h.0), inr (λ u h. cc (names.named_actions u h.1, h.0), rest)))))

  by_rules : (r : Read) → IsSchemaFrom (Some d) r → Ruled r
  by_rules (Ok s) is = inr (is.once, past_names is.names _ (inr (is.no_cycle, inr (is.no_enum, inr (λ x. never ((declared_outline d).kind_at x) (is.types.kinds x) (λ k p q. cc (p, q)), inr (λ u. never ((declared_outline d).context_at u) (is.types.contexts u) (λ xs p q. cc (p, q)), inr (λ n h. cc (is.types.extensions n h.1, h.0), (s, is, refl))))))))
  by_rules (Err (place.SchemaFault (refused.DuplicateAction u))) least = inl (u, least, refl)
  by_rules (Err (place.SchemaFault (refused.ActionTypeDeclared x))) (once, least) = inr (once, inl (x, least, refl))
  by_rules (Err (place.SchemaFault (refused.EmptyEnum x))) (once, (a, least)) = inr (once, inr (a, inl (x, least, refl)))
  by_rules (Err (place.SchemaFault (refused.NotAnAction u))) (once, (a, b, least)) = inr (once, inr (a, inr (b, inl (u, least, refl))))
  by_rules (Err (place.SchemaFault (refused.UndeclaredType x))) (once, (a, b, e, least)) = inr (once, inr (a, inr (b, inr (e, inl (x, least, refl)))))
  by_rules (Err (place.SchemaFault (refused.UndeclaredAction u))) (once, (a, b, e, g, least)) = inr (once, inr (a, inr (b, inr (e, inr (g, inl (u, least, refl))))))
  by_rules (Err (place.SchemaFault (refused.ActionCycle u))) ((once, names), least) = inr (once, past_names names _ (inl (u, least, refl)))
  by_rules (Err (place.SchemaFault (refused.EnumHasAncestor x))) ((once, names), a, least) = inr (once, past_names names _ (inr (a, inl (x, least, refl))))
  by_rules (Err (place.SchemaFault (refused.BadType x))) (((once, names), a, b), least) = inr (once, past_names names _ (inr (a, inr (b, inl (x, least, refl)))))
  by_rules (Err (place.SchemaFault (refused.BadContext u))) (((once, names), a, b), (e, least)) = inr (once, past_names names _ (inr (a, inr (b, inr (e, inl (u, least, refl))))))
  by_rules (Err (place.SchemaFault (refused.UnknownExtension n))) (((once, names), a, b), (e, g, least)) = inr (once, past_names names _ (inr (a, inr (b, inr (e, inr (g, inl (n, least, refl)))))))
  by_rules (Err p) broken = absurd (assumption)

pub unique_schema : (o : Option Declarations) → IsUnique (IsSchemaFrom o)
unique_schema None r s f g = f ∙ sym g
unique_schema (Some d) r s f g = ruled d r s (by_rules d r f) (by_rules d s g)

module _ (es : List StoredEntity) where
  abbrev Linked : Result Store Place → Type 0
  Linked = Rule nat_cmp (StandsEarlier (ids_of es)) place.EntityDuplicate (Rule uid_cmp (IsOwnAncestor es) (λ u. place.EntityCycle (index_from 0 u (ids_of es))) (Made (IsFromParents es)))

  linked : IsUnique Linked
  linked = unique_rule nat_cmp_total exact_unsigned _ _ _ (unique_rule uid_cmp_total exact_uid _ _ _ (unique_made _ (one_store es)))

  none_earlier : ((u : EntityUID) → ¬ IsRepeated (ids_of es) u) → (i : ℕ) → ¬ StandsEarlier (ids_of es) i
  none_earlier once i h = let (k, at, earlier) = earlier_at (ids_of es) i h in once k (i, at, earlier)

  by_links : (r : Result Store Place) → IsStoreFrom (Ok es) r → Linked r
  by_links (Ok s) is = inr (none_earlier is.once, inr (is.no_cycle, (s, is, refl)))
  by_links (Err (place.EntityDuplicate i)) least = inl (i, least, refl)
  by_links (Err (place.EntityCycle i)) (u, (once, least), at) = inr (none_earlier once, inl (u, least, ap (λ j. Err (place.EntityCycle j)) at))
  by_links (Err p) broken = absurd broken

pub unique_store : (o : Result (List StoredEntity) Place) → IsUnique (IsStoreFrom o)
unique_store (Err p) r s f g = f ∙ sym g
unique_store (Ok es) r s f g = linked es r s (by_links es r f) (by_links es s g)
