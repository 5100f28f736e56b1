-- Types and actions under their names, with the sets of what is listed at each.
use Rattle.std.specs.Prelude.{◌≡◌, ℕ, Bool, false, cond, List, [], Option, Some, IfSome, is_some, option_map}
use Rattle.std.specs.Ordering.{is_eq}
use Rattle.std.specs.Option.{option_map_or}
use Rattle.std.specs.List.Sorted.{IsStrictlySortedBy}
use Rattle.std.specs.BTreeSet.{BTreeSet}
use Rattle.std.specs.declared.cmp.Ordering.{Ordering}
use Rattle.policy_values.specs.declared.entity_uid.EntityUID.{EntityUID}
use Rattle.policy_values.specs.Uid.{text_cmp, uid_cmp}
use Rattle.policy_values.specs.Reaches.{at, has, leads}
use Rattle.schema_types.specs.Ty.{Attrs}
use Rattle.schema_core.specs.Kinds.{Kind}
use Rattle.schema_core.specs.KindView.{kind_of}
use Rattle.schema_core.specs.Outline.{Outline}
use Rattle.schema_core.specs.declared.kind.ValidatorEntityTypeKind.{ValidatorEntityTypeKind}
use Rattle.schema_core.specs.declared.listing.Listing.{Listing}

-- whether the type is in the set at the action
abbrev pub types_lead : List (EntityUID × BTreeSet (List ℕ)) → EntityUID → List ℕ → Bool
types_lead sets u y = option_map_or (λ s. has text_cmp s.keys y) (at uid_cmp sets u) false

-- the kind under the name
abbrev pub kind_found : List (List ℕ × ValidatorEntityTypeKind) → List ℕ → Option Kind
kind_found kinds x = option_map kind_of (at text_cmp kinds x)

abbrev pub listed_outline : Listing → Outline
listed_outline l = record {
  has_type = λ x. is_some (at text_cmp l.types.entries x);
  type_lists = leads text_cmp l.types.entries;
  has_action = λ u. is_some (at uid_cmp l.actions.entries u);
  action_lists = leads uid_cmp l.actions.entries;
  principal_lists = types_lead l.principals.entries;
  resource_lists = types_lead l.resources.entries;
  kind_at = kind_found l.kinds.entries;
  context_at = at uid_cmp l.contexts.entries;
}

-- each set of the map ascends
abbrev pub HasAscending : {A K : Type 0} → (A → A → Ordering) →
    (K → K → Ordering) → List (A × BTreeSet K) → Type 0
HasAscending {A} cmp_a cmp sets = (x : A) → IfSome (at cmp_a sets x) (λ s. IsStrictlySortedBy cmp s.keys)

-- the listing has the types of the outline, with ascending sets of what they list, and no actions
pub record ListsTypes (o : Outline) (l : Listing) : Type 0 where
  pub has : (x : List ℕ) → is_some (at text_cmp l.types.entries x) ≡ o.has_type x
  pub lists : (x y : List ℕ) → leads text_cmp l.types.entries x y ≡ o.type_lists x y
  pub kinds : (x : List ℕ) → kind_found l.kinds.entries x ≡ o.kind_at x
  pub ascending : HasAscending text_cmp text_cmp l.types.entries
  pub with_kinds : (x : List ℕ) →
      is_some (at text_cmp l.kinds.entries x) ≡ is_some (at text_cmp l.types.entries x)
  pub actions : l.actions.entries ≡ []
  pub principals : l.principals.entries ≡ []
  pub resources : l.resources.entries ≡ []
  pub contexts : l.contexts.entries ≡ []

-- all sets ascend, each type has its kind, and each action has its types and its context
pub record IsListing (l : Listing) : Type 0 where
  pub types : HasAscending text_cmp text_cmp l.types.entries
  pub actions : HasAscending uid_cmp uid_cmp l.actions.entries
  pub principals : HasAscending uid_cmp text_cmp l.principals.entries
  pub resources : HasAscending uid_cmp text_cmp l.resources.entries
  pub with_kinds : (x : List ℕ) →
      is_some (at text_cmp l.kinds.entries x) ≡ is_some (at text_cmp l.types.entries x)
  pub with_principals : (u : EntityUID) →
      is_some (at uid_cmp l.principals.entries u) ≡ is_some (at uid_cmp l.actions.entries u)
  pub with_resources : (u : EntityUID) →
      is_some (at uid_cmp l.resources.entries u) ≡ is_some (at uid_cmp l.actions.entries u)
  pub with_contexts : (u : EntityUID) →
      is_some (at uid_cmp l.contexts.entries u) ≡ is_some (at uid_cmp l.actions.entries u)

-- n is m with the value at the key
abbrev pub Puts : {A X : Type 0} → (A → A → Ordering) → List (A × X) → List (A × X) → A → X → Type 0
Puts {A} cmp m n k x = (q : A) → at cmp n q ≡ cond (is_eq (cmp k q)) (Some x) (at cmp m q)

-- the listing n is m with the type, too
pub record AddsType (m n : Listing) (x : List ℕ)
    (k : ValidatorEntityTypeKind) (xs : BTreeSet (List ℕ)) : Type 0 where
  pub types : Puts text_cmp m.types.entries n.types.entries x xs
  pub kinds : Puts text_cmp m.kinds.entries n.kinds.entries x k
  pub actions : n.actions ≡ m.actions
  pub principals : n.principals ≡ m.principals
  pub resources : n.resources ≡ m.resources
  pub contexts : n.contexts ≡ m.contexts

-- the listing n is m with the action, too
pub record AddsAction (m n : Listing) (u : EntityUID) (ps rs : BTreeSet (List ℕ))
    (us : BTreeSet EntityUID) (xs : Attrs) : Type 0 where
  pub types : n.types ≡ m.types
  pub kinds : n.kinds ≡ m.kinds
  pub actions : Puts uid_cmp m.actions.entries n.actions.entries u us
  pub principals : Puts uid_cmp m.principals.entries n.principals.entries u ps
  pub resources : Puts uid_cmp m.resources.entries n.resources.entries u rs
  pub contexts : Puts uid_cmp m.contexts.entries n.contexts.entries u xs
