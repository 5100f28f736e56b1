-- Members by one or more steps, as descendants.
use Rattle.std.proofs.Common.{◌≡◌, ℕ, true, ◌↔◌, ◌⊎◌, inl, inr, List, IsTrue, is_some, sym, ◌∙◌, subst}
use Rattle.std.specs.Cmp.{IsTotalOrder, both_ways}
use Rattle.std.specs.declared.cmp.Ordering.{Ordering}
use Rattle.std.specs.BTreeSet.{BTreeSet}
use Rattle.std.specs.Cmp.Lexicographic.{nat_list_cmp_total}
use Rattle.std.proofs.lemmas.Map.Lookups.{CmpEqualImpliesEq, exact_bytes}
use Rattle.policy_values.specs.Reaches.{at, leads, Leads, Reaches, last, more}
use Rattle.policy_values.specs.Least.{IsLeast}
use Rattle.policy_values.proofs.Least.{IsLeast-same}
use Rattle.policy_values.proofs.Reaches.{leads-Leads, Reaches-join, Reaches-map, Leads-is_some}
use Rattle.policy_values.specs.declared.entity_uid.EntityUID.{EntityUID}
use Rattle.policy_values.specs.Uid.{uid_cmp, uid_cmp_total, exact_uid}
use Rattle.schema_core.specs.declared.listing.Listing.{Listing}
use Rattle.schema_core.specs.Outline.{Outline, HasSoundNames, HasSoundTypes, HasDescendants, IsClosed, IsNamedType, IsEnumType, IsListedEnum, IsListingEnum}
use Rattle.schema_core.specs.Faults.{Nowhere, IsTypeFault}
use Rattle.schema_core.specs.declared.fault.SchemaFault.{SchemaFault}
use Rattle.schema_core.specs.declared.fault.SchemaFault.TheVariants.{DuplicateAction, ActionTypeDeclared, EmptyEnum, NotAnAction, UndeclaredType, UndeclaredAction, ActionCycle, EnumHasAncestor, NotClosed, ActionNotClosed, BadType, BadContext, UnknownExtension, OutOfMemory}
use Rattle.schema_core.specs.Kinds.{is_enum}
use Rattle.schema_core.specs.Listing.{listed_outline}
use Rattle.schema_core.proofs.Rules.{not_true, if_some}

module _ {K : Type 0} {cmp : K → K → Ordering} (o : IsTotalOrder cmp) (exact : CmpEqualImpliesEq cmp) (steps below : List (K × BTreeSet K)) where
  -- descendants are kept at the keys that the steps have, where all that is led to has an entry
  pub same_keys : ((y : K) → ((x : K) × (leads cmp steps x y ≡ true)) → is_some (at cmp steps y) ≡ true)
      → ((q : K) → is_some (at cmp steps q) ≡ true → is_some (at cmp below q) ≡ true)
      → ((q : K) → is_some (at cmp below q) ≡ true → (is_some (at cmp steps q) ≡ true) ⊎ ((x : K) × Leads cmp steps x q))
      → (q : K) → is_some (at cmp below q) ≡ is_some (at cmp steps q)
  same_keys declared keys only q = both_ways _ _ (λ h. elim (only q h) [ inl there ↦ there | inr (x, led) ↦ declared q (x, (leads-Leads o exact steps x q).1 led) ]) (keys q)

  -- what stands at a key is what reaches it, by the tests
  pub same_reach : ((x y : K) → Leads cmp below x y ↔ Reaches (Leads cmp steps) y x) → (x y : K) → IsTrue (leads cmp below x y) ↔ Reaches (λ a b. IsTrue (leads cmp steps a b)) y x
  same_reach reach x y = (
    λ h. Reaches-map (λ a b. (leads-Leads o exact steps a b).1) ((reach x y).0 ((leads-Leads o exact below x y).0 h)),
    λ r. (leads-Leads o exact below x y).1 ((reach x y).1 (Reaches-map (λ a b. (leads-Leads o exact steps a b).0) r)),
  )

  -- what reaches has an entry
  pub reaches_from : {x y : K} → Reaches (λ a b. IsTrue (leads cmp steps a b)) x y → is_some (at cmp steps x) ≡ true
  reaches_from {x} (last {y = y} s) = Leads-is_some cmp steps x y ((leads-Leads o exact steps x y).0 s)
  reaches_from {x} (more {y = y} s r) = Leads-is_some cmp steps x y ((leads-Leads o exact steps x y).0 s)

-- with all members as descendants, the names keep their rules
pub members_names : (l : Listing) (o : Outline) → HasSoundNames (listed_outline l) → HasDescendants (listed_outline l) o → HasSoundNames o
members_names l o names d = record {
  types = λ x h. names.types x (sym (d.has_type x) ∙ h);
  enums = λ x. rw (d.kinds x) (names.enums x);
  actions = λ u h. names.actions u (sym (d.has_action u) ∙ h);
  named_types = λ y h. d.has_type y ∙ named_type y h;
  named_actions = λ v h. d.has_action v ∙ reaches_from uid_cmp_total exact_uid l.actions.entries l.actions.entries ((d.actions h.0 v).0 h.1);
} where
  named_type : (y : List ℕ) → IsNamedType o y → IsTrue ((listed_outline l).has_type y)
  named_type y (inl (inl (x, h))) = reaches_from nat_list_cmp_total exact_bytes l.types.entries l.types.entries ((d.types x y).0 h)
  named_type y (inl (inr (inl (u, h)))) = names.named_types y (inl (inr (inl (u, sym (d.principals u y) ∙ h))))
  named_type y (inl (inr (inr (u, h)))) = names.named_types y (inl (inr (inr (u, sym (d.resources u y) ∙ h))))
  named_type y (inr (inl (x, h))) = names.named_types y (inr (inl (x, rw (d.kinds x) at h)))
  named_type y (inr (inr (u, h))) = names.named_types y (inr (inr (u, rw (d.contexts u) at h)))

module _ (p o : Outline) (d : HasDescendants p o) where
  enum_same : (x : List ℕ) → IsEnumType o x ↔ IsEnumType p x
  enum_same x = rw (d.kinds x) (λ h. h, λ h. h)

  -- what reaches lists something
  lists_some : {x y : List ℕ} → Reaches (λ a b. IsTrue (p.type_lists a b)) x y → (z : List ℕ) × IsTrue (p.type_lists x z)
  lists_some (last {y = y} s) = (y, s)
  lists_some (more {y = y} s r) = (y, s)

  -- an enumerated type is a descendant where it is a member
  pub enum_member : (x : List ℕ) → IsListedEnum o x ↔ IsListingEnum p x
  enum_member x = (
    λ h. ((enum_same x).0 h.0, lists_some ((d.types h.1.0 x).0 h.1.1)),
    λ h. ((enum_same x).1 h.0, (h.1.0, (d.types h.1.0 x).1 (last h.1.1))),
  )

  -- the outlines have the same types inside
  pub same_inside : o ≡ record o { kind_at = p.kind_at; context_at = p.context_at }
  same_inside i = record o { kind_at = λ x. d.kinds x i; context_at = λ u. d.contexts u i }

  pub same_fault : (fault : SchemaFault) → IsTypeFault o fault → IsTypeFault p fault
  same_fault fault h = by_fault fault (subst (λ q. IsTypeFault q fault) same_inside h) where
    by_fault : (fault : SchemaFault) → IsTypeFault (record o { kind_at = p.kind_at; context_at = p.context_at }) fault → IsTypeFault p fault
    by_fault (BadType x) h = h
    by_fault (BadContext u) h = h
    by_fault (UnknownExtension n) h = h
    by_fault OutOfMemory h = tt
    by_fault (DuplicateAction u) h = absurd h
    by_fault (ActionTypeDeclared x) h = absurd h
    by_fault (EmptyEnum x) h = absurd h
    by_fault (NotAnAction u) h = absurd h
    by_fault (UndeclaredType x) h = absurd h
    by_fault (UndeclaredAction u) h = absurd h
    by_fault (ActionCycle u) h = absurd h
    by_fault (EnumHasAncestor x) h = absurd h
    by_fault (NotClosed x) h = absurd h
    by_fault (ActionNotClosed u) h = absurd h

  pub same_types : HasSoundTypes o → HasSoundTypes p
  same_types h = let same : HasSoundTypes (record o { kind_at = p.kind_at; context_at = p.context_at }) = subst HasSoundTypes same_inside h in record { kinds = same.kinds; contexts = same.contexts; extensions = same.extensions }

  -- and they are closed, where no action is its own member, and no enumerated type one of another
  pub members_closed : Nowhere (λ u. IsTrue (o.action_lists u u)) → Nowhere (IsListedEnum o) → IsClosed o
  members_closed none no_enum = record {
    types = λ x y z h k. (d.types x z).1 (Reaches-join ((d.types y z).0 k) ((d.types x y).0 h));
    actions = λ u v w h k. (d.actions u w).1 (Reaches-join ((d.actions v w).0 k) ((d.actions u v).0 h));
    no_own = λ u. not_true o (o.action_lists u u) (none u);
    no_enum = λ x y h. if_some o is_enum (o.kind_at y) (λ is. no_enum y (is, (x, h)));
  }

-- the least action that is its own descendant is in a cycle
pub cycle_least : (p o : Outline) → HasDescendants p o → (u : EntityUID) → IsLeast uid_cmp (λ v. IsTrue (o.action_lists v v)) u → IsLeast uid_cmp (λ v. Reaches (λ a b. IsTrue (p.action_lists a b)) v v) u
cycle_least p o d u h = IsLeast-same (λ v. d.actions v v) h
