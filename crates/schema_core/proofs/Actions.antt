-- A listing that is filled with types, and then with actions.
use Rattle.std.proofs.Common.{◌≡◌, ℕ, List, [], ◌∷◌, map, is_some, refl, sym, ◌∙◌, ap}
use Rattle.std.specs.List.{IsDistinct, find}
use Rattle.std.specs.List.Sorted.{IsStrictlySortedBy}
use Rattle.std.specs.Option.{option_map}
use Rattle.std.specs.Ordering.{eq_by_cmp}
use Rattle.std.specs.BTreeSet.{BTreeSet}
use Rattle.std.specs.Cmp.Lexicographic.{nat_list_cmp_total}
use Rattle.std.proofs.lemmas.Map.Lookups.{exact_bytes}
use Rattle.policy_values.specs.Reaches.{has}
use Rattle.policy_values.specs.declared.entity_uid.EntityUID.{EntityUID}
use Rattle.policy_values.specs.Uid.{text_cmp, uid_cmp, uid_cmp_total, exact_uid}
use Rattle.schema_types.specs.Ty.{Attrs}
use Rattle.schema_core.specs.declared.kind.ValidatorEntityTypeKind.{ValidatorEntityTypeKind}
use Rattle.schema_core.specs.declared.listing.Listing.{Listing}
use Rattle.schema_core.specs.Kinds.{Kind}
use Rattle.schema_core.specs.KindView.{kind_of}
use Rattle.schema_core.specs.Outline.{Outline}
use Rattle.schema_core.specs.Listing.{listed_outline, IsListing, ListsTypes, AddsType, AddsAction}
use Rattle.schema_core.proofs.Mapped.{IsMapped, is_at_key, item_lists, mapped_more, mapped_first, mapped_keys, mapped_lists}
use Rattle.schema_core.proofs.Kept.{IsKept, kept_more, kept_first, kept_all, same_presence, as_it_is}

-- each type is in its two maps, or left; there are no actions
pub record AreTyped {X : Type 0} (name : X → List ℕ) (lists : X → List (List ℕ)) (kind : X → Kind) (all left : List X) (l : Listing) : Type 0 where
  pub types : IsMapped text_cmp text_cmp name lists all left l.types.entries
  pub kinds : IsKept text_cmp name kind_of kind all left l.kinds.entries
  pub actions : l.actions.entries ≡ []
  pub principals : l.principals.entries ≡ []
  pub resources : l.resources.entries ≡ []
  pub contexts : l.contexts.entries ≡ []

module _ {X : Type 0} (name : X → List ℕ) (lists : X → List (List ℕ)) (kind : X → Kind) (all : List X) where
  -- no type is in
  pub types_first : (l : Listing) → IsDistinct (eq_by_cmp text_cmp) (map name all) → l.types.entries ≡ [] → l.kinds.entries ≡ [] → l.actions.entries ≡ [] → l.principals.entries ≡ [] → l.resources.entries ≡ [] → l.contexts.entries ≡ []
      → AreTyped name lists kind all all l
  types_first l once a b c d e f = record {
    types = mapped_first nat_list_cmp_total exact_bytes name lists all l.types.entries a once;
    kinds = kept_first nat_list_cmp_total exact_bytes name kind_of kind all l.kinds.entries b once;
    actions = c;
    principals = d;
    resources = e;
    contexts = f;
  }

  -- the next type is in
  pub types_more : (left rest : List X) (l l' : Listing) (x : X) (k : ValidatorEntityTypeKind) (s : BTreeSet (List ℕ)) → AreTyped name lists kind all left l → left ≡ x ∷ rest → AddsType l l' (name x) k s
      → kind_of k ≡ kind x → ((y : List ℕ) → has text_cmp s.keys y ≡ has text_cmp (lists x) y) → IsStrictlySortedBy text_cmp s.keys → AreTyped name lists kind all rest l'
  types_more left rest l l' x k s t e added same h sorted = record {
    types = mapped_more nat_list_cmp_total exact_bytes name lists all left rest l.types.entries l'.types.entries x s t.types e added.types h sorted;
    kinds = kept_more nat_list_cmp_total exact_bytes name kind_of kind all left rest l.kinds.entries l'.kinds.entries x k t.kinds e added.kinds same;
    actions = ap (λ m. m.entries) added.actions ∙ t.actions;
    principals = ap (λ m. m.entries) added.principals ∙ t.principals;
    resources = ap (λ m. m.entries) added.resources ∙ t.resources;
    contexts = ap (λ m. m.entries) added.contexts ∙ t.contexts;
  }

  -- all types are in: what the listing says
  pub types_listed : (left : List X) (l : Listing) → AreTyped name lists kind all left l → left ≡ [] → (o : Outline)
      → ((x : List ℕ) → o.has_type x ≡ is_some (find (is_at_key text_cmp name x) all))
      → ((x y : List ℕ) → o.type_lists x y ≡ item_lists text_cmp text_cmp name lists all x y)
      → ((x : List ℕ) → o.kind_at x ≡ option_map kind (find (is_at_key text_cmp name x) all))
      → ListsTypes o l
  types_listed left l t e o a b c =
      let keys = mapped_keys nat_list_cmp_total exact_bytes name lists all left l.types.entries t.types e in
      let kinds = kept_all nat_list_cmp_total exact_bytes name kind_of kind all left l.kinds.entries t.kinds e in
      record {
        has = λ x. keys x ∙ sym (a x);
        lists = λ x y. mapped_lists nat_list_cmp_total exact_bytes name lists all left l.types.entries t.types e x y ∙ sym (b x y);
        kinds = λ x. kinds x ∙ sym (c x);
        ascending = t.types.ascending;
        with_kinds = λ x. same_presence kind_of kind _ _ (kinds x) ∙ sym (keys x);
        actions = t.actions;
        principals = t.principals;
        resources = t.resources;
        contexts = t.contexts;
      }

-- the same by an outline with other actions
pub other_actions : (l : Listing) (o p : Outline) → ListsTypes o l → ((x : List ℕ) → p.has_type x ≡ o.has_type x) → ((x y : List ℕ) → p.type_lists x y ≡ o.type_lists x y) → ((x : List ℕ) → p.kind_at x ≡ o.kind_at x) → ListsTypes p l
other_actions l o p t a b c = record {
  has = λ x. t.has x ∙ sym (a x);
  lists = λ x y. t.lists x y ∙ sym (b x y);
  kinds = λ x. t.kinds x ∙ sym (c x);
  ascending = t.ascending;
  with_kinds = t.with_kinds;
  actions = t.actions;
  principals = t.principals;
  resources = t.resources;
  contexts = t.contexts;
}

-- each action is in the four maps, or left; the types are those of `first`
pub record AreMapped {X : Type 0} (name : X → EntityUID) (ps rs : X → List (List ℕ)) (us : X → List EntityUID) (context : X → Attrs) (all left : List X) (first l : Listing) : Type 0 where
  pub types : l.types ≡ first.types
  pub kinds : l.kinds ≡ first.kinds
  pub actions : IsMapped uid_cmp uid_cmp name us all left l.actions.entries
  pub principals : IsMapped uid_cmp text_cmp name ps all left l.principals.entries
  pub resources : IsMapped uid_cmp text_cmp name rs all left l.resources.entries
  pub contexts : IsKept uid_cmp name (λ c. c) context all left l.contexts.entries

-- what an outline says of types and actions
pub same_outline : (o p : Outline)
    → ((x : List ℕ) → o.has_type x ≡ p.has_type x) → ((x y : List ℕ) → o.type_lists x y ≡ p.type_lists x y)
    → ((u : EntityUID) → o.has_action u ≡ p.has_action u) → ((u v : EntityUID) → o.action_lists u v ≡ p.action_lists u v)
    → ((u : EntityUID) (y : List ℕ) → o.principal_lists u y ≡ p.principal_lists u y) → ((u : EntityUID) (y : List ℕ) → o.resource_lists u y ≡ p.resource_lists u y)
    → ((x : List ℕ) → o.kind_at x ≡ p.kind_at x) → ((u : EntityUID) → o.context_at u ≡ p.context_at u)
    → o ≡ p
same_outline o p a b c d e f g h i = record {
  has_type = λ x. a x i;
  type_lists = λ x y. b x y i;
  has_action = λ u. c u i;
  action_lists = λ u v. d u v i;
  principal_lists = λ u y. e u y i;
  resource_lists = λ u y. f u y i;
  kind_at = λ x. g x i;
  context_at = λ u. h u i;
}

module _ {X : Type 0} (name : X → EntityUID) (ps rs : X → List (List ℕ)) (us : X → List EntityUID) (context : X → Attrs) (all : List X) (first : Listing) where
  -- no action is in
  pub actions_first : (o : Outline) → IsDistinct (eq_by_cmp uid_cmp) (map name all) → ListsTypes o first → AreMapped name ps rs us context all all first first
  actions_first o once t = record {
    types = refl;
    kinds = refl;
    actions = mapped_first uid_cmp_total exact_uid name us all first.actions.entries t.actions once;
    principals = mapped_first uid_cmp_total exact_uid name ps all first.principals.entries t.principals once;
    resources = mapped_first uid_cmp_total exact_uid name rs all first.resources.entries t.resources once;
    contexts = kept_first uid_cmp_total exact_uid name (λ c. c) context all first.contexts.entries t.contexts once;
  }

  -- the next action is in
  pub actions_more : (left rest : List X) (l l' : Listing) (x : X) (p r : BTreeSet (List ℕ)) (u : BTreeSet EntityUID) (c : Attrs) → AreMapped name ps rs us context all left first l
      → left ≡ x ∷ rest → AddsAction l l' (name x) p r u c → c ≡ context x
      → ((y : List ℕ) → has text_cmp p.keys y ≡ has text_cmp (ps x) y) → ((y : List ℕ) → has text_cmp r.keys y ≡ has text_cmp (rs x) y) → ((v : EntityUID) → has uid_cmp u.keys v ≡ has uid_cmp (us x) v)
      → IsStrictlySortedBy text_cmp p.keys → IsStrictlySortedBy text_cmp r.keys → IsStrictlySortedBy uid_cmp u.keys
      → AreMapped name ps rs us context all rest first l'
  actions_more left rest l l' x p r u c t e added same hp hr hu sp sr su = record {
    types = added.types ∙ t.types;
    kinds = added.kinds ∙ t.kinds;
    actions = mapped_more uid_cmp_total exact_uid name us all left rest l.actions.entries l'.actions.entries x u t.actions e added.actions hu su;
    principals = mapped_more uid_cmp_total exact_uid name ps all left rest l.principals.entries l'.principals.entries x p t.principals e added.principals hp sp;
    resources = mapped_more uid_cmp_total exact_uid name rs all left rest l.resources.entries l'.resources.entries x r t.resources e added.resources hr sr;
    contexts = kept_more uid_cmp_total exact_uid name (λ c. c) context all left rest l.contexts.entries l'.contexts.entries x c t.contexts e added.contexts same;
  }

  module _ (left : List X) (l : Listing) (t : AreMapped name ps rs us context all left first l) (e : left ≡ []) where
    contexts_kept : (u : EntityUID) → option_map (λ c. c) ((listed_outline l).context_at u) ≡ option_map context (find (is_at_key uid_cmp name u) all)
    contexts_kept = kept_all uid_cmp_total exact_uid name (λ c. c) context all left l.contexts.entries t.contexts e

    -- all actions are in: what the maps say
    pub actions_outline : (o : Outline) → ListsTypes o first
        → ((u : EntityUID) → o.has_action u ≡ is_some (find (is_at_key uid_cmp name u) all))
        → ((u v : EntityUID) → o.action_lists u v ≡ item_lists uid_cmp uid_cmp name us all u v)
        → ((u : EntityUID) (y : List ℕ) → o.principal_lists u y ≡ item_lists uid_cmp text_cmp name ps all u y)
        → ((u : EntityUID) (y : List ℕ) → o.resource_lists u y ≡ item_lists uid_cmp text_cmp name rs all u y)
        → ((u : EntityUID) → o.context_at u ≡ option_map context (find (is_at_key uid_cmp name u) all))
        → listed_outline l ≡ o
    actions_outline o types a b c d f = same_outline (listed_outline l) o
        (λ x. rw t.types (types.has x)) (λ x y. rw t.types (types.lists x y))
        (λ u. mapped_keys uid_cmp_total exact_uid name us all left l.actions.entries t.actions e u ∙ sym (a u))
        (λ u v. mapped_lists uid_cmp_total exact_uid name us all left l.actions.entries t.actions e u v ∙ sym (b u v))
        (λ u y. mapped_lists uid_cmp_total exact_uid name ps all left l.principals.entries t.principals e u y ∙ sym (c u y))
        (λ u y. mapped_lists uid_cmp_total exact_uid name rs all left l.resources.entries t.resources e u y ∙ sym (d u y))
        (λ x. rw t.kinds (types.kinds x))
        (λ u. sym (as_it_is _) ∙ contexts_kept u ∙ sym (f u))

    pub actions_listing : (o : Outline) → ListsTypes o first → IsListing l
    actions_listing o types =
        let keys = mapped_keys uid_cmp_total exact_uid name us all left l.actions.entries t.actions e in
        record {
          types = rw t.types types.ascending;
          actions = t.actions.ascending;
          principals = t.principals.ascending;
          resources = t.resources.ascending;
          with_kinds = rw (t.types, t.kinds) types.with_kinds;
          with_principals = λ u. mapped_keys uid_cmp_total exact_uid name ps all left l.principals.entries t.principals e u ∙ sym (keys u);
          with_resources = λ u. mapped_keys uid_cmp_total exact_uid name rs all left l.resources.entries t.resources e u ∙ sym (keys u);
          with_contexts = λ u. same_presence (λ c. c) context _ _ (contexts_kept u) ∙ sym (keys u);
        }
