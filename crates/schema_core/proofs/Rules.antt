-- The rules of a schema, from what a listing's maps are found to keep.
use Rattle.std.proofs.Common.{subst, Result, Ok, Err, MatchResult, ◌≡◌, ℕ, Bool, true, false, ◌↔◌, ◌⊎◌, inl, inr, List, Option, Some, None, IsTrue, Contains, refl, sym, ◌∙◌}
use Rattle.std.specs.Option.{option_map_or, IsSomeAnd, IfSome}
use Rattle.std.specs.Result.{IsErrAnd}
use Rattle.std.specs.BTreeSet.{BTreeSet}
use Rattle.std.specs.Cmp.Lexicographic.{nat_list_cmp_total}
use Rattle.std.proofs.lemmas.Bool.{false≢true}
use Rattle.std.proofs.lemmas.Map.Lookups.{exact_bytes}
use Rattle.std.proofs.lemmas.Map.Views.{btree_set_contains_iff}
use Rattle.policy_values.specs.Least.{IsLeast, IsLeastIfAny, lower_of}
use Rattle.policy_values.specs.Reaches.{at, has, leads, Leads, IsUnlisted, IsOutside, IsNotClosed}
use Rattle.policy_values.proofs.Least.{IsLeast-same, IsLeastIfAny-same, lower_least}
use Rattle.policy_values.proofs.Reaches.{leads-Leads}
use Rattle.policy_values.specs.declared.entity_uid.EntityUID.{EntityUID}
use Rattle.policy_values.specs.Basename.{is_action_type}
use Rattle.policy_values.specs.Uid.{text_cmp, uid_cmp, uid_cmp_total, exact_uid}
use Rattle.schema_core.specs.declared.listing.Listing.{Listing}
use Rattle.schema_core.specs.Outline.{Outline, outline_of, HasSoundNames, IsClosed, HasSoundTypes, IsListedType, IsTypeInside, IsDeclaredActionType, IsEmptyEnum, IsNoAction, IsUndeclaredType, IsUndeclaredAction, IsOwnMember, IsListedEnum, IsOpenType, IsOpenAction, IsBadType, IsBadContext, IsUnknownExtension}
use Rattle.schema_core.specs.declared.fault.SchemaFault.{SchemaFault}
use Rattle.schema_core.specs.declared.fault.SchemaFault.TheVariants.{DuplicateAction, ActionTypeDeclared, EmptyEnum, NotAnAction, UndeclaredType, UndeclaredAction, ActionCycle, EnumHasAncestor, NotClosed, ActionNotClosed, BadType, BadContext, UnknownExtension, OutOfMemory}
use Rattle.schema_core.specs.Schema.{SchemaData}
use Rattle.schema_core.specs.Entries.{Declarations}
use Rattle.schema_core.specs.Declarations.{declared_outline, IsDeclaredTwice, IsRefused, HasMembers}
use Rattle.schema_core.specs.Faults.{Nowhere, IsOnce, IsNameFault, IsTypeFault, IsRefusedData, HasOnceNamed, action_ids_of}
use Rattle.schema_core.specs.Inside.{are_held}
use Rattle.schema_core.specs.Kinds.{is_enum, is_empty_enum, is_held_kind}
use Rattle.schema_core.specs.Listing.{listed_outline, types_lead}

-- the test says what the map holds
types_lead-Leads : (sets : List (EntityUID × BTreeSet (List ℕ))) (u : EntityUID) (y : List ℕ) → (types_lead sets u y ≡ true) ↔ Leads uid_cmp sets u y
types_lead-Leads sets u y = elim (at uid_cmp sets u) as (λ r. (option_map_or (λ s. has text_cmp s.keys y) r false ≡ true) ↔ IsSomeAnd r (λ s. Contains s.keys y)) [
  | None ↦ (λ h. absurd (false≢true h), λ h. absurd h)
  | Some s ↦ btree_set_contains_iff nat_list_cmp_total exact_bytes s y
]

module _ (l : Listing) where
  leads_type : (x y : List ℕ) → (leads text_cmp l.types.entries x y ≡ true) ↔ Leads text_cmp l.types.entries x y
  leads_type = leads-Leads nat_list_cmp_total exact_bytes l.types.entries

  leads_action : (u v : EntityUID) → (leads uid_cmp l.actions.entries u v ≡ true) ↔ Leads uid_cmp l.actions.entries u v
  leads_action = leads-Leads uid_cmp_total exact_uid l.actions.entries

  -- a type that is listed and not declared, by the three maps
  undeclared_type : (q : List ℕ) → (IsUnlisted text_cmp l.types.entries q ⊎ (IsOutside uid_cmp text_cmp l.types.entries l.principals.entries q ⊎ IsOutside uid_cmp text_cmp l.types.entries l.resources.entries q)) ↔ (((listed_outline l).has_type q ≡ false) × IsListedType (listed_outline l) q)
  undeclared_type q = (to, from) where
    to : IsUnlisted text_cmp l.types.entries q ⊎ (IsOutside uid_cmp text_cmp l.types.entries l.principals.entries q ⊎ IsOutside uid_cmp text_cmp l.types.entries l.resources.entries q) → ((listed_outline l).has_type q ≡ false) × IsListedType (listed_outline l) q
    to (inl h) = (h.0, inl (h.1.0, (leads_type h.1.0 q).1 h.1.1))
    to (inr (inl h)) = (h.0, inr (inl (h.1.0, (types_lead-Leads l.principals.entries h.1.0 q).1 h.1.1)))
    to (inr (inr h)) = (h.0, inr (inr (h.1.0, (types_lead-Leads l.resources.entries h.1.0 q).1 h.1.1)))

    from : ((listed_outline l).has_type q ≡ false) × IsListedType (listed_outline l) q → IsUnlisted text_cmp l.types.entries q ⊎ (IsOutside uid_cmp text_cmp l.types.entries l.principals.entries q ⊎ IsOutside uid_cmp text_cmp l.types.entries l.resources.entries q)
    from (absent, inl (x, h)) = inl (absent, (x, (leads_type x q).0 h))
    from (absent, inr (inl (u, h))) = inr (inl (absent, (u, (types_lead-Leads l.principals.entries u q).0 h)))
    from (absent, inr (inr (u, h))) = inr (inr (absent, (u, (types_lead-Leads l.resources.entries u q).0 h)))

  -- or named inside a type
  undeclared_any : (q : List ℕ) → ((((listed_outline l).has_type q ≡ false) × IsListedType (listed_outline l) q) ⊎ (((listed_outline l).has_type q ≡ false) × IsTypeInside (listed_outline l) q)) ↔ IsUndeclaredType (listed_outline l) q
  undeclared_any q = (to, from) where
    to : (((listed_outline l).has_type q ≡ false) × IsListedType (listed_outline l) q) ⊎ (((listed_outline l).has_type q ≡ false) × IsTypeInside (listed_outline l) q) → IsUndeclaredType (listed_outline l) q
    to (inl h) = (h.0, inl h.1)
    to (inr h) = (h.0, inr h.1)

    from : IsUndeclaredType (listed_outline l) q → (((listed_outline l).has_type q ≡ false) × IsListedType (listed_outline l) q) ⊎ (((listed_outline l).has_type q ≡ false) × IsTypeInside (listed_outline l) q)
    from (absent, inl h) = inl (absent, h)
    from (absent, inr h) = inr (absent, h)

  pub least_undeclared : (a b c d : Option (List ℕ)) → IsLeastIfAny text_cmp (IsUnlisted text_cmp l.types.entries) a
      → IsLeastIfAny text_cmp (IsOutside uid_cmp text_cmp l.types.entries l.principals.entries) b
      → IsLeastIfAny text_cmp (IsOutside uid_cmp text_cmp l.types.entries l.resources.entries) c
      → IsLeastIfAny text_cmp (λ q. ((listed_outline l).has_type q ≡ false) × IsTypeInside (listed_outline l) q) d
      → IsLeastIfAny text_cmp (IsUndeclaredType (listed_outline l)) (lower_of text_cmp (lower_of text_cmp a (lower_of text_cmp b c)) d)
  least_undeclared a b c d la lb lc ld =
      let listed = IsLeastIfAny-same text_cmp _ (λ q. ((listed_outline l).has_type q ≡ false) × IsListedType (listed_outline l) q) undeclared_type (lower_of text_cmp a (lower_of text_cmp b c))
      (lower_least nat_list_cmp_total (IsUnlisted text_cmp l.types.entries) _ a (lower_of text_cmp b c) la
      (lower_least nat_list_cmp_total (IsOutside uid_cmp text_cmp l.types.entries l.principals.entries) (IsOutside uid_cmp text_cmp l.types.entries l.resources.entries) b c lb lc)) in
      IsLeastIfAny-same text_cmp _ (IsUndeclaredType (listed_outline l)) undeclared_any (lower_of text_cmp (lower_of text_cmp a (lower_of text_cmp b c)) d)
      (lower_least nat_list_cmp_total (λ q. ((listed_outline l).has_type q ≡ false) × IsListedType (listed_outline l) q) (λ q. ((listed_outline l).has_type q ≡ false) × IsTypeInside (listed_outline l) q) (lower_of text_cmp a (lower_of text_cmp b c)) d listed ld)

  pub undeclared_action : (q : EntityUID) → IsUnlisted uid_cmp l.actions.entries q ↔ IsUndeclaredAction (listed_outline l) q
  undeclared_action q = (λ h. (h.0, (h.1.0, (leads_action h.1.0 q).1 h.1.1)), λ h. (h.0, (h.1.0, (leads_action h.1.0 q).0 h.1.1)))

  pub own_member : (q : EntityUID) → Leads uid_cmp l.actions.entries q q ↔ IsOwnMember (listed_outline l) q
  own_member q = ((leads_action q q).1, (leads_action q q).0)

  absent : (b : Bool) → (b ≡ true → ⊥) → b ≡ false
  absent true h = absurd (h refl)
  absent false h = refl

  pub open_type : (q : List ℕ) → IsNotClosed text_cmp l.types.entries q ↔ IsOpenType (listed_outline l) q
  open_type q = (
    λ h. (h.0, h.1, (leads_type q h.0).1 h.2, (leads_type h.0 h.1).1 h.3, absent (leads text_cmp l.types.entries q h.1) (λ there. h.4 ((leads_type q h.1).0 there))),
    λ h. (h.0, h.1, (leads_type q h.0).0 h.2, (leads_type h.0 h.1).0 h.3, λ there. false≢true (sym h.4 ∙ (leads_type q h.1).1 there)),
  )

  pub open_action : (q : EntityUID) → IsNotClosed uid_cmp l.actions.entries q ↔ IsOpenAction (listed_outline l) q
  open_action q = (
    λ h. (h.0, h.1, (leads_action q h.0).1 h.2, (leads_action h.0 h.1).1 h.3, absent (leads uid_cmp l.actions.entries q h.1) (λ there. h.4 ((leads_action q h.1).0 there))),
    λ h. (h.0, h.1, (leads_action q h.0).0 h.2, (leads_action h.0 h.1).0 h.3, λ there. false≢true (sym h.4 ∙ (leads_action q h.1).1 there)),
  )

module _ (o : Outline) where
  by_test : (b : Bool) → (b ≡ false → ⊥) → b ≡ true
  by_test true h = refl
  by_test false h = absurd (h refl)

  pub not_true : (b : Bool) → (b ≡ true → ⊥) → b ≡ false
  not_true true h = absurd (h refl)
  not_true false h = refl

  -- what holds of no value that there is
  pub if_some : {X : Type 0} (p : X → Bool) (r : Option X) → (IsSomeAnd r (λ x. IsTrue (p x)) → ⊥) → IfSome r (λ x. p x ≡ false)
  if_some p None none = tt
  if_some p (Some x) none = not_true (p x) none

  if_good : {X : Type 0} (p : X → Bool) (r : Option X) → (IsSomeAnd r (λ x. p x ≡ false) → ⊥) → IfSome r (λ x. IsTrue (p x))
  if_good p None none = tt
  if_good p (Some x) none = by_test (p x) none

  -- where no rule about names is broken
  pub sound_names : Nowhere (IsDeclaredActionType o) → Nowhere (IsEmptyEnum o) → Nowhere (IsNoAction o) → Nowhere (IsUndeclaredType o) → Nowhere (IsUndeclaredAction o) → HasSoundNames o
  sound_names a e b c d = record {
    types = λ x h. not_true (is_action_type x) (λ is. a x (h, is));
    enums = λ x. if_some is_empty_enum (o.kind_at x) (e x);
    actions = λ u h. by_test (is_action_type u.entity_type) (λ is. b u (h, is));
    named_types = λ y h. by_test (o.has_type y) (λ is. c y (is, h));
    named_actions = λ v h. by_test (o.has_action v) (λ is. d v (is, h));
  }

  -- where no descendants are open
  pub closed_outline : Nowhere (IsOwnMember o) → Nowhere (IsListedEnum o) → Nowhere (IsOpenType o) → Nowhere (IsOpenAction o) → IsClosed o
  closed_outline a e b c = record {
    types = λ x y z h k. by_test (o.type_lists x z) (λ is. b x (y, z, h, k, is));
    actions = λ u v w h k. by_test (o.action_lists u w) (λ is. c u (v, w, h, k, is));
    no_own = λ u. not_true (o.action_lists u u) (a u);
    no_enum = λ x y h. if_some is_enum (o.kind_at y) (λ is. e y (is, (x, h)));
  }

  -- where no rule about types inside is broken
  pub sound_types : Nowhere (IsBadType o) → Nowhere (IsBadContext o) → Nowhere (IsUnknownExtension o) → HasSoundTypes o
  sound_types a b c = record {
    kinds = λ x. if_good is_held_kind (o.kind_at x) (a x);
    contexts = λ u. if_good are_held (o.context_at u) (b u);
    extensions = λ n h. by_test _ (λ is. c n (is, h));
  }

-- what the maps are found to keep, by an outline that says the same
module _ (l : Listing) (o : Outline) (e : listed_outline l ≡ o) where
  pub own_least : (u : EntityUID) → IsLeast uid_cmp (λ q. Leads uid_cmp l.actions.entries q q) u → IsLeast uid_cmp (IsOwnMember o) u
  own_least u h = subst (λ p. IsLeast uid_cmp (IsOwnMember p) u) e (IsLeast-same (own_member l) h)

  pub no_own : ((q : EntityUID) → Leads uid_cmp l.actions.entries q q → ⊥) → Nowhere (IsOwnMember o)
  no_own none = subst (λ p. Nowhere (IsOwnMember p)) e (λ q h. none q ((own_member l q).1 h))

  pub open_type_least : (x : List ℕ) → IsLeast text_cmp (IsNotClosed text_cmp l.types.entries) x → IsLeast text_cmp (IsOpenType o) x
  open_type_least x h = subst (λ p. IsLeast text_cmp (IsOpenType p) x) e (IsLeast-same (open_type l) h)

  pub no_open_type : ((q : List ℕ) → IsNotClosed text_cmp l.types.entries q → ⊥) → Nowhere (IsOpenType o)
  no_open_type none = subst (λ p. Nowhere (IsOpenType p)) e (λ q h. none q ((open_type l q).1 h))

  pub open_action_least : (u : EntityUID) → IsLeast uid_cmp (IsNotClosed uid_cmp l.actions.entries) u → IsLeast uid_cmp (IsOpenAction o) u
  open_action_least u h = subst (λ p. IsLeast uid_cmp (IsOpenAction p) u) e (IsLeast-same (open_action l) h)

  pub no_open_action : ((q : EntityUID) → IsNotClosed uid_cmp l.actions.entries q → ⊥) → Nowhere (IsOpenAction o)
  no_open_action none = subst (λ p. Nowhere (IsOpenAction p)) e (λ q h. none q ((open_action l q).1 h))

-- the same of enumerated types
module _ (p o : Outline) (e : p ≡ o) where
  pub enum_least : (x : List ℕ) → IsLeast text_cmp (IsListedEnum p) x → IsLeast text_cmp (IsListedEnum o) x
  enum_least x h = subst (λ q. IsLeast text_cmp (IsListedEnum q) x) e h

  pub no_enum : Nowhere (IsListedEnum p) → Nowhere (IsListedEnum o)
  no_enum h = subst (λ q. Nowhere (IsListedEnum q)) e h

-- a fault of the names refuses the schema
pub refused_data : (s : SchemaData) (o : Outline) (fault : SchemaFault) → o ≡ outline_of s → IsOnce (action_ids_of s) → IsNameFault o fault → IsRefusedData s fault
refused_data s o fault e once h = by_fault fault (subst (λ p. IsNameFault p fault) e h) where
  by_fault : (fault : SchemaFault) → IsNameFault (outline_of s) fault → IsRefusedData s fault
  by_fault (DuplicateAction u) h = absurd h
  by_fault (ActionTypeDeclared x) h = (once, h)
  by_fault (EmptyEnum x) h = (once, h)
  by_fault (NotAnAction u) h = (once, h)
  by_fault (UndeclaredType x) h = (once, h)
  by_fault (UndeclaredAction u) h = (once, h)
  by_fault (ActionCycle u) h = absurd h
  by_fault (EnumHasAncestor x) h = absurd h
  by_fault (NotClosed x) h = absurd h
  by_fault (ActionNotClosed u) h = absurd h
  by_fault (BadType x) h = absurd h
  by_fault (BadContext u) h = absurd h
  by_fault (UnknownExtension n) h = absurd h
  by_fault OutOfMemory h = tt

-- and so does one of the types inside
pub refused_types : (s : SchemaData) (o : Outline) (fault : SchemaFault) → o ≡ outline_of s → HasOnceNamed s → IsClosed (outline_of s) → IsTypeFault o fault → IsRefusedData s fault
refused_types s o fault e names closed h = by_fault fault (subst (λ p. IsTypeFault p fault) e h) where
  by_fault : (fault : SchemaFault) → IsTypeFault (outline_of s) fault → IsRefusedData s fault
  by_fault (BadType x) h = (names, closed, h)
  by_fault (BadContext u) h = (names, closed, h)
  by_fault (UnknownExtension n) h = (names, closed, h)
  by_fault OutOfMemory h = tt
  by_fault (DuplicateAction u) h = absurd h
  by_fault (ActionTypeDeclared x) h = absurd h
  by_fault (EmptyEnum x) h = absurd h
  by_fault (NotAnAction u) h = absurd h
  by_fault (UndeclaredType x) h = absurd h
  by_fault (UndeclaredAction u) h = absurd h
  by_fault (ActionCycle u) h = absurd h
  by_fault (EnumHasAncestor x) h = absurd h
  by_fault (NotClosed x) h = absurd h
  by_fault (ActionNotClosed u) h = absurd h

pub refused_declarations : (d : Declarations) (o : Outline) (fault : SchemaFault) → o ≡ declared_outline d → Nowhere (IsDeclaredTwice d) → IsNameFault o fault → IsRefused d fault
refused_declarations d o fault e once h = by_fault fault (subst (λ p. IsNameFault p fault) e h) where
  by_fault : (fault : SchemaFault) → IsNameFault (declared_outline d) fault → IsRefused d fault
  by_fault (DuplicateAction u) h = absurd h
  by_fault (ActionTypeDeclared x) h = (once, h)
  by_fault (EmptyEnum x) h = (once, h)
  by_fault (NotAnAction u) h = (once, h)
  by_fault (UndeclaredType x) h = (once, h)
  by_fault (UndeclaredAction u) h = (once, h)
  by_fault (ActionCycle u) h = absurd h
  by_fault (EnumHasAncestor x) h = absurd h
  by_fault (NotClosed x) h = (once, absurd h)
  by_fault (ActionNotClosed u) h = (once, absurd h)
  by_fault (BadType x) h = absurd h
  by_fault (BadContext u) h = absurd h
  by_fault (UnknownExtension n) h = absurd h
  by_fault OutOfMemory h = tt

pub refused_declared_types : (d : Declarations) (fault : SchemaFault) → HasMembers d → IsTypeFault (declared_outline d) fault → IsRefused d fault
refused_declared_types d (BadType x) m h = (m, h)
refused_declared_types d (BadContext u) m h = (m, h)
refused_declared_types d (UnknownExtension n) m h = (m, h)
refused_declared_types d OutOfMemory m h = tt
refused_declared_types d (DuplicateAction u) m h = absurd h
refused_declared_types d (ActionTypeDeclared x) m h = absurd h
refused_declared_types d (EmptyEnum x) m h = absurd h
refused_declared_types d (NotAnAction u) m h = absurd h
refused_declared_types d (UndeclaredType x) m h = absurd h
refused_declared_types d (UndeclaredAction u) m h = absurd h
refused_declared_types d (ActionCycle u) m h = absurd h
refused_declared_types d (EnumHasAncestor x) m h = absurd h
refused_declared_types d (NotClosed x) m h = absurd h
refused_declared_types d (ActionNotClosed u) m h = absurd h

-- a fault that `?` hands on
pub refused_by : {X : Type 0} (r : Result X SchemaFault) (fault : SchemaFault) (P : X → Type 0) (Q : SchemaFault → Type 0) → IsErrAnd r (λ e. e ≡ fault) → Q fault → MatchResult r P Q
refused_by (Ok x) fault P Q h q = absurd h
refused_by (Err e) fault P Q h q = subst Q (sym h) q
