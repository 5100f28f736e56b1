-- What walks through the maps of a listing find.
use Rattle.std.proofs.Common.{◌≡◌, ℕ, Bool, true, false, not, ◌↔◌, ◌⊎◌, inl, inr, List, [], ◌∷◌, Option, Some, None, IsTrue, is_some, refl, sym, ◌∙◌, ap, cond}
use Rattle.std.specs.Option.{option_map, option_map_or, IsSomeAnd}
use Rattle.std.specs.List.Sorted.{IsStrictlySortedBy}
use Rattle.std.specs.Map.{keys_of}
use Rattle.std.specs.BTreeSet.{BTreeSet}
use Rattle.std.specs.Cmp.Lexicographic.{nat_list_cmp_total}
use Rattle.std.proofs.lemmas.Bool.{false≢true}
use Rattle.std.proofs.lemmas.Map.Lookups.{exact_bytes}
use Rattle.policy_values.specs.Least.{IsLeastIfAny}
use Rattle.policy_values.specs.Reaches.{at, has, leads}
use Rattle.policy_values.proofs.Least.{IsLeastIfAny-same}
use Rattle.policy_values.specs.declared.entity_uid.EntityUID.{EntityUID}
use Rattle.policy_values.specs.Uid.{text_cmp, uid_cmp, uid_cmp_total, exact_uid}
use Rattle.schema_types.specs.Ty.{Attrs}
use Rattle.schema_core.specs.declared.kind.ValidatorEntityTypeKind.{ValidatorEntityTypeKind}
use Rattle.schema_core.specs.declared.listing.Listing.{Listing}
use Rattle.schema_core.specs.Inside.{are_held, some_within, is_of_entity, is_of_extension, is_known_extension}
use Rattle.schema_core.specs.Kinds.{Kind, is_enum, is_empty_enum, is_held_kind, some_of}
use Rattle.schema_core.specs.KindView.{kind_of}
use Rattle.schema_core.specs.Lowest.{lowest_names, lowest_within, lowest_of, undeclared_next, unknown_next}
use Rattle.schema_core.specs.Outline.{IsEmptyEnum, IsBadType, IsBadContext, IsTypeInside, IsUnknownExtension, IsListedEnum}
use Rattle.schema_core.specs.Listing.{listed_outline, kind_found}
use Rattle.schema_core.proofs.Lowest.{With, within_low, kind_low, names_low, undeclared_step, unknown_step}
use Rattle.schema_core.proofs.Entries.{first_key, lowest_at, some_entry, some_entry_at, first_key_least, lowest_least}

abbrev pub is_empty : ValidatorEntityTypeKind → Bool
is_empty k = is_empty_enum (kind_of k)

abbrev pub is_bad : ValidatorEntityTypeKind → Bool
is_bad k = not (is_held_kind (kind_of k))

abbrev pub are_bad : Attrs → Bool
are_bad xs = not (are_held xs)

-- a fact of a value, and the same of how it is seen
some_seen : {V W : Type 0} (view : V → W) (P : V → Type 0) (Q : W → Type 0) → ((v : V) → P v ↔ Q (view v)) → (r : Option V) → IsSomeAnd r P ↔ IsSomeAnd (option_map view r) Q
some_seen view P Q same None = (λ h. h, λ h. h)
some_seen view P Q same (Some v) = same v

is_not : (b : Bool) → IsTrue (not b) ↔ (b ≡ false)
is_not true = (λ h. absurd (false≢true h), λ h. absurd (false≢true (sym h)))
is_not false = (λ h. refl, λ h. refl)

-- the walk is at an entry that passes, at the end
pub key_here : {A V : Type 0} (p : V → Bool) (left rest all : List (A × V)) (e : A × V) → left ≡ e ∷ rest → first_key p left ≡ first_key p all → p e.1 ≡ true → Some e.0 ≡ first_key p all
key_here p left rest all e is inv passes = sym (ap (first_key p) is ∙ ap (λ b. cond b (Some e.0) (first_key p rest)) passes) ∙ inv

pub key_nowhere : {A V : Type 0} (p : V → Bool) (left all : List (A × V)) → left ≡ [] → first_key p left ≡ first_key p all → None ≡ first_key p all
key_nowhere p left all is inv = sym (ap (first_key p) is) ∙ inv

pub lowest_all : {A V : Type 0} (f : Option (List ℕ) → V → Option (List ℕ)) (left : List (A × V)) (low r : Option (List ℕ)) → left ≡ [] → lowest_at f low left ≡ r → low ≡ r
lowest_all f left low r is inv = sym (ap (lowest_at f low) is) ∙ inv

module _ (l : Listing) where
  abbrev pub is_declared : List ℕ → Bool
  is_declared n = is_some (at text_cmp l.types.entries n)

  abbrev pub kind_undeclared : Option (List ℕ) → ValidatorEntityTypeKind → Option (List ℕ)
  kind_undeclared low k = lowest_of (undeclared_next is_declared) low (kind_of k)

  abbrev pub attrs_undeclared : Option (List ℕ) → Attrs → Option (List ℕ)
  attrs_undeclared low xs = lowest_within (undeclared_next is_declared) low xs

  abbrev pub is_no_enum : List ℕ → Bool
  is_no_enum n = not (option_map_or is_enum (kind_found l.kinds.entries n) false)

  abbrev pub set_enums : Option (List ℕ) → BTreeSet (List ℕ) → Option (List ℕ)
  set_enums low s = lowest_names is_no_enum low s.keys

abbrev pub kind_unknown : Option (List ℕ) → ValidatorEntityTypeKind → Option (List ℕ)
kind_unknown low k = lowest_of unknown_next low (kind_of k)

abbrev pub attrs_unknown : Option (List ℕ) → Attrs → Option (List ℕ)
attrs_unknown low xs = lowest_within unknown_next low xs

-- of two kinds of entries, by their keys
module _ {V W : Type 0} (passes : List ℕ → Bool) (m : List ℕ → V → Bool) (n : List ℕ → W → Bool) (es : List (List ℕ × V)) (fs : List (EntityUID × W)) (es_ascend : IsStrictlySortedBy text_cmp (keys_of es)) (fs_ascend : IsStrictlySortedBy uid_cmp (keys_of fs)) where
  both_entries : (q : List ℕ) → With (With (λ _. ⊥) passes (λ r. some_entry (m r) es)) passes (λ r. some_entry (n r) fs) q
      ↔ ((passes q ≡ false) × (((x : List ℕ) × IsSomeAnd (at text_cmp es x) (λ v. IsTrue (m q v))) ⊎ ((u : EntityUID) × IsSomeAnd (at uid_cmp fs u) (λ v. IsTrue (n q v)))))
  both_entries q = (to, from) where
    to : With (With (λ _. ⊥) passes (λ r. some_entry (m r) es)) passes (λ r. some_entry (n r) fs) q → (passes q ≡ false) × (((x : List ℕ) × IsSomeAnd (at text_cmp es x) (λ v. IsTrue (m q v))) ⊎ ((u : EntityUID) × IsSomeAnd (at uid_cmp fs u) (λ v. IsTrue (n q v))))
    to (inl (inl h)) = absurd h
    to (inl (inr h)) = (h.0, inl ((some_entry_at nat_list_cmp_total exact_bytes (m q) es es_ascend).0 h.1))
    to (inr h) = (h.0, inr ((some_entry_at uid_cmp_total exact_uid (n q) fs fs_ascend).0 h.1))

    from : (passes q ≡ false) × (((x : List ℕ) × IsSomeAnd (at text_cmp es x) (λ v. IsTrue (m q v))) ⊎ ((u : EntityUID) × IsSomeAnd (at uid_cmp fs u) (λ v. IsTrue (n q v)))) → With (With (λ _. ⊥) passes (λ r. some_entry (m r) es)) passes (λ r. some_entry (n r) fs) q
    from (not, inl h) = inl (inr (not, (some_entry_at nat_list_cmp_total exact_bytes (m q) es es_ascend).1 h))
    from (not, inr h) = inr (not, (some_entry_at uid_cmp_total exact_uid (n q) fs fs_ascend).1 h)

-- a kind under a name, as it is seen
inside_seen : (kinds : List (List ℕ × ValidatorEntityTypeKind)) (contexts : List (EntityUID × Attrs)) (m : Kind → Bool) (n : Attrs → Bool)
    → (((x : List ℕ) × IsSomeAnd (at text_cmp kinds x) (λ v. IsTrue (m (kind_of v)))) ⊎ ((u : EntityUID) × IsSomeAnd (at uid_cmp contexts u) (λ v. IsTrue (n v))))
    ↔ (((x : List ℕ) × IsSomeAnd (kind_found kinds x) (λ k. IsTrue (m k))) ⊎ ((u : EntityUID) × IsSomeAnd (at uid_cmp contexts u) (λ v. IsTrue (n v))))
inside_seen kinds contexts m n = (to, from) where
  seen : (x : List ℕ) → IsSomeAnd (at text_cmp kinds x) (λ v. IsTrue (m (kind_of v))) ↔ IsSomeAnd (kind_found kinds x) (λ k. IsTrue (m k))
  seen x = some_seen kind_of (λ v. IsTrue (m (kind_of v))) (λ k. IsTrue (m k)) (λ v. (λ h. h, λ h. h)) (at text_cmp kinds x)

  to : ((x : List ℕ) × IsSomeAnd (at text_cmp kinds x) (λ v. IsTrue (m (kind_of v)))) ⊎ ((u : EntityUID) × IsSomeAnd (at uid_cmp contexts u) (λ v. IsTrue (n v))) → ((x : List ℕ) × IsSomeAnd (kind_found kinds x) (λ k. IsTrue (m k))) ⊎ ((u : EntityUID) × IsSomeAnd (at uid_cmp contexts u) (λ v. IsTrue (n v)))
  to (inl h) = inl (h.0, (seen h.0).0 h.1)
  to (inr h) = inr h

  from : ((x : List ℕ) × IsSomeAnd (kind_found kinds x) (λ k. IsTrue (m k))) ⊎ ((u : EntityUID) × IsSomeAnd (at uid_cmp contexts u) (λ v. IsTrue (n v))) → ((x : List ℕ) × IsSomeAnd (at text_cmp kinds x) (λ v. IsTrue (m (kind_of v)))) ⊎ ((u : EntityUID) × IsSomeAnd (at uid_cmp contexts u) (λ v. IsTrue (n v)))
  from (inl h) = inl (h.0, (seen h.0).1 h.1)
  from (inr h) = inr h

module _ (l : Listing) where
  pub empty_enum_least : IsStrictlySortedBy text_cmp (keys_of l.kinds.entries) → (r : Option (List ℕ)) → r ≡ first_key is_empty l.kinds.entries → IsLeastIfAny text_cmp (IsEmptyEnum (listed_outline l)) r
  empty_enum_least sorted r e = rw e (IsLeastIfAny-same text_cmp _ (IsEmptyEnum (listed_outline l)) (λ x. some_seen kind_of (λ v. IsTrue (is_empty v)) (λ k. IsTrue (is_empty_enum k)) (λ v. (λ h. h, λ h. h)) (at text_cmp l.kinds.entries x)) (first_key is_empty l.kinds.entries)
      (first_key_least nat_list_cmp_total exact_bytes is_empty l.kinds.entries sorted))

  pub bad_type_least : IsStrictlySortedBy text_cmp (keys_of l.kinds.entries) → (r : Option (List ℕ)) → r ≡ first_key is_bad l.kinds.entries → IsLeastIfAny text_cmp (IsBadType (listed_outline l)) r
  bad_type_least sorted r e = rw e (IsLeastIfAny-same text_cmp _ (IsBadType (listed_outline l)) (λ x. some_seen kind_of (λ v. IsTrue (is_bad v)) (λ k. is_held_kind k ≡ false) (λ v. is_not (is_held_kind (kind_of v))) (at text_cmp l.kinds.entries x)) (first_key is_bad l.kinds.entries)
      (first_key_least nat_list_cmp_total exact_bytes is_bad l.kinds.entries sorted))

  pub bad_context_least : IsStrictlySortedBy uid_cmp (keys_of l.contexts.entries) → (r : Option EntityUID) → r ≡ first_key are_bad l.contexts.entries → IsLeastIfAny uid_cmp (IsBadContext (listed_outline l)) r
  bad_context_least sorted r e = rw e (IsLeastIfAny-same uid_cmp _ (IsBadContext (listed_outline l)) (λ u. bad_at (at uid_cmp l.contexts.entries u)) (first_key are_bad l.contexts.entries)
      (first_key_least uid_cmp_total exact_uid are_bad l.contexts.entries sorted)) where
        bad_at : (r : Option Attrs) → IsSomeAnd r (λ v. IsTrue (are_bad v)) ↔ IsSomeAnd r (λ xs. are_held xs ≡ false)
        bad_at None = (λ h. h, λ h. h)
        bad_at (Some xs) = is_not (are_held xs)

  module _ (kinds_ascend : IsStrictlySortedBy text_cmp (keys_of l.kinds.entries)) (contexts_ascend : IsStrictlySortedBy uid_cmp (keys_of l.contexts.entries)) where
    pub undeclared_least : (r : Option (List ℕ)) → r ≡ lowest_at (attrs_undeclared l) (lowest_at (kind_undeclared l) None l.kinds.entries) l.contexts.entries
        → IsLeastIfAny text_cmp (λ q. (is_declared l q ≡ false) × IsTypeInside (listed_outline l) q) r
    undeclared_least r e = rw e (IsLeastIfAny-same text_cmp _ _ same _
        (lowest_least (is_declared l) (attrs_undeclared l) (λ q xs. some_within (is_of_entity q) xs) (λ P low xs h. within_low (is_declared l) (undeclared_next (is_declared l)) is_of_entity (undeclared_step (is_declared l)) P low xs h) _ _ l.contexts.entries
        (lowest_least (is_declared l) (kind_undeclared l) (λ q k. some_of (is_of_entity q) (kind_of k)) (λ P low k h. kind_low (is_declared l) (undeclared_next (is_declared l)) is_of_entity (undeclared_step (is_declared l)) P low (kind_of k) h) (λ _. ⊥) None l.kinds.entries (λ q h. h)))) where
          same : (q : List ℕ) → With (With (λ _. ⊥) (is_declared l) (λ r. some_entry (λ k. some_of (is_of_entity r) (kind_of k)) l.kinds.entries)) (is_declared l) (λ r. some_entry (λ xs. some_within (is_of_entity r) xs) l.contexts.entries) q ↔ ((is_declared l q ≡ false) × IsTypeInside (listed_outline l) q)
          same q =
              let both = both_entries (is_declared l) (λ r k. some_of (is_of_entity r) (kind_of k)) (λ r xs. some_within (is_of_entity r) xs) l.kinds.entries l.contexts.entries kinds_ascend contexts_ascend q in
              let seen = inside_seen l.kinds.entries l.contexts.entries (λ k. some_of (is_of_entity q) k) (λ xs. some_within (is_of_entity q) xs) in
              (λ h. ((both.0 h).0, seen.0 (both.0 h).1), λ h. both.1 (h.0, seen.1 h.1))

    pub unknown_least : (r : Option (List ℕ)) → r ≡ lowest_at attrs_unknown (lowest_at kind_unknown None l.kinds.entries) l.contexts.entries → IsLeastIfAny text_cmp (IsUnknownExtension (listed_outline l)) r
    unknown_least r e = rw e (IsLeastIfAny-same text_cmp _ _ same _
        (lowest_least is_known_extension attrs_unknown (λ q xs. some_within (is_of_extension q) xs) (λ P low xs h. within_low is_known_extension unknown_next is_of_extension unknown_step P low xs h) _ _ l.contexts.entries
        (lowest_least is_known_extension kind_unknown (λ q k. some_of (is_of_extension q) (kind_of k)) (λ P low k h. kind_low is_known_extension unknown_next is_of_extension unknown_step P low (kind_of k) h) (λ _. ⊥) None l.kinds.entries (λ q h. h)))) where
          same : (q : List ℕ) → With (With (λ _. ⊥) is_known_extension (λ r. some_entry (λ k. some_of (is_of_extension r) (kind_of k)) l.kinds.entries)) is_known_extension (λ r. some_entry (λ xs. some_within (is_of_extension r) xs) l.contexts.entries) q ↔ IsUnknownExtension (listed_outline l) q
          same q =
              let both = both_entries is_known_extension (λ r k. some_of (is_of_extension r) (kind_of k)) (λ r xs. some_within (is_of_extension r) xs) l.kinds.entries l.contexts.entries kinds_ascend contexts_ascend q in
              let seen = inside_seen l.kinds.entries l.contexts.entries (λ k. some_of (is_of_extension q) k) (λ xs. some_within (is_of_extension q) xs) in
              (λ h. ((both.0 h).0, seen.0 (both.0 h).1), λ h. both.1 (h.0, seen.1 h.1))

  -- an enumerated type that stands in a set
  pub listed_enum_least : IsStrictlySortedBy text_cmp (keys_of l.types.entries) → (r : Option (List ℕ)) → r ≡ lowest_at (set_enums l) None l.types.entries → IsLeastIfAny text_cmp (IsListedEnum (listed_outline l)) r
  listed_enum_least sorted r e = rw e (IsLeastIfAny-same text_cmp _ _ same _
      (lowest_least (is_no_enum l) (set_enums l) (λ q s. has text_cmp s.keys q) (λ P low s h. names_low (is_no_enum l) P low s.keys h) (λ _. ⊥) None l.types.entries (λ q h. h))) where
        enum_at : (r : Option Kind) → (not (option_map_or is_enum r false) ≡ false) ↔ IsSomeAnd r (λ k. IsTrue (is_enum k))
        enum_at None = (λ h. absurd (false≢true (sym h)), λ h. absurd h)
        enum_at (Some k) = elim (is_enum k) as (λ b. (not b ≡ false) ↔ IsTrue b) [ true ↦ (λ h. refl, λ h. refl) | false ↦ (λ h. absurd (false≢true (sym h)), λ h. absurd (false≢true h)) ]

        led : (q x : List ℕ) → IsSomeAnd (at text_cmp l.types.entries x) (λ s. IsTrue (has text_cmp s.keys q)) ↔ IsTrue (leads text_cmp l.types.entries x q)
        led q x = elim (at text_cmp l.types.entries x) as (λ r. IsSomeAnd r (λ s. IsTrue (has text_cmp s.keys q)) ↔ IsTrue (option_map_or (λ s. has text_cmp s.keys q) r false)) [ None ↦ (λ h. absurd h, λ h. absurd (false≢true h)) | Some s ↦ (λ h. h, λ h. h) ]

        same : (q : List ℕ) → With (λ _. ⊥) (is_no_enum l) (λ r. some_entry (λ s. has text_cmp s.keys r) l.types.entries) q ↔ IsListedEnum (listed_outline l) q
        same q = (to, from) where
          to : With (λ _. ⊥) (is_no_enum l) (λ r. some_entry (λ s. has text_cmp s.keys r) l.types.entries) q → IsListedEnum (listed_outline l) q
          to (inl h) = absurd h
          to (inr h) =
              let there = (some_entry_at nat_list_cmp_total exact_bytes (λ s. has text_cmp s.keys q) l.types.entries sorted).0 h.1 in
              ((enum_at (kind_found l.kinds.entries q)).0 h.0, (there.0, (led q there.0).0 there.1))

          from : IsListedEnum (listed_outline l) q → With (λ _. ⊥) (is_no_enum l) (λ r. some_entry (λ s. has text_cmp s.keys r) l.types.entries) q
          from h = inr ((enum_at (kind_found l.kinds.entries q)).1 h.0, (some_entry_at nat_list_cmp_total exact_bytes (λ s. has text_cmp s.keys q) l.types.entries sorted).1 (h.1.0, (led q h.1.0).1 h.1.1))
