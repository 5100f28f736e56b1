-- Where each name of an expression is known, all its literals have types.
use Rattle.std.proofs.Common.{◌≡◌, true≢false, sym, Bool, true, false, ◌&&◌, ◌||◌, not, List, ◌∷◌, [], ◌++◌, Option, Some, None, is_some, IsSome, refl, ◌∙◌}
use Rattle.std.specs.Prelude.{⊤}
use Rattle.std.specs.List.{list_all}
use Rattle.std.proofs.lemmas.List.Folds.{list_all-append}
use Rattle.policy_values.specs.declared.entity_uid.EntityUID.{EntityUID}
use Rattle.policy_values.specs.Basename.{is_action_type}
use Rattle.policy_expressions.specs.declared.kinds.Loc.{Loc}
use Rattle.policy_expressions.specs.declared.kinds.Literal.TheVariants as literal
use Rattle.policy_expressions.specs.Tree.{Tree, lit, var, slot, ite, conj, disj, unary, binary, attr, like, is_type, call, set, rec, Trees, no_trees, tree, Named, no_named, named, Mark}
use Rattle.policy_expressions.specs.Tree as core
use Rattle.schema_core.specs.Schema.{SchemaData, TypeData, ActionData, type_at, action_at}
use Rattle.schema_core.specs.EnvData.{id_type}
use Rattle.findings.specs.Mentioned.{Mentioned, a_type, names_in, names_in_all, names_in_named, is_known_type, is_known_action}
use Rattle.typing_spec.specs.Conforms.{is_listed}
use Rattle.typing_spec.specs.Environment.{type_of_literal}
use Rattle.typecheck_rules.specs.Names.{is_known_id, is_known_name}
use Rattle.plain_lemmas.proofs.Booleans.{and_parts_of}

-- all literals have types
module _ (schema : SchemaData) {A : Type 0} where
  abbrev mutual
    pub HasKnownNames : Tree A → Type 0
    HasKnownNames (lit l a) = IsSome (type_of_literal schema l)
    HasKnownNames (var v a) = ⊤
    HasKnownNames (slot i a) = ⊤
    HasKnownNames (ite x y z a) = HasKnownNames x × HasKnownNames y × HasKnownNames z
    HasKnownNames (conj x y a) = HasKnownNames x × HasKnownNames y
    HasKnownNames (disj x y a) = HasKnownNames x × HasKnownNames y
    HasKnownNames (unary o x a) = HasKnownNames x
    HasKnownNames (binary o x y a) = HasKnownNames x × HasKnownNames y
    HasKnownNames (attr x n a) = HasKnownNames x
    HasKnownNames (core.has x n a) = HasKnownNames x
    HasKnownNames (like x p a) = HasKnownNames x
    HasKnownNames (is_type x n a) = HasKnownNames x
    HasKnownNames (call f xs a) = HaveKnownNames xs
    HasKnownNames (set xs a) = HaveKnownNames xs
    HasKnownNames (rec xs a) = FieldsHaveKnownNames xs

    pub HaveKnownNames : Trees A → Type 0
    HaveKnownNames no_trees = ⊤
    HaveKnownNames (tree x xs) = HasKnownNames x × HaveKnownNames xs

    pub FieldsHaveKnownNames : Named A → Type 0
    FieldsHaveKnownNames no_named = ⊤
    FieldsHaveKnownNames (named k x xs) = HasKnownNames x × FieldsHaveKnownNames xs

id_known : (u : EntityUID) (a : Option ActionData) (t : Option TypeData) (b : Bool) → (is_some t || b) ≡ true → (not b || is_some a) ≡ true → IsSome (id_type u a t)
id_known u (Some a) t b h k = refl
id_known u None (Some t) b h k = refl
id_known u None None true h k = absurd (true≢false (sym k))
id_known u None None false h k = absurd (true≢false (sym h))

module _ (schema : SchemaData) where
  split : (xs ys : List (Mentioned × Option Loc)) → list_all (λ m. is_known_name schema m.0) (xs ++ ys) ≡ true → (list_all (λ m. is_known_name schema m.0) xs ≡ true) × (list_all (λ m. is_known_name schema m.0) ys ≡ true)
  split xs ys h = and_parts_of (list_all (λ m. is_known_name schema m.0) xs) (list_all (λ m. is_known_name schema m.0) ys) (sym (list_all-append (λ m. is_known_name schema m.0) xs ys) ∙ h)

  prefix : (xs ys : List (Mentioned × Option Loc)) → list_all (λ m. is_known_name schema m.0) (xs ++ ys) ≡ true → list_all (λ m. is_known_name schema m.0) xs ≡ true
  prefix xs ys h = (split xs ys h).0

  back : (xs ys : List (Mentioned × Option Loc)) → list_all (λ m. is_known_name schema m.0) (xs ++ ys) ≡ true → list_all (λ m. is_known_name schema m.0) ys ≡ true
  back xs ys h = (split xs ys h).1

  id_declared : (uid : EntityUID) → is_known_id schema uid ≡ true → IsSome (id_type uid (action_at schema uid) (type_at schema uid.entity_type))
  id_declared uid h =
      let k = and_parts_of (is_known_type schema uid.entity_type) (is_known_action schema uid && is_listed schema uid) h in
      id_known uid (action_at schema uid) (type_at schema uid.entity_type) (is_action_type uid.entity_type) k.0 (and_parts_of (is_known_action schema uid) (is_listed schema uid) k.1).0

  module _ {T : Type 0} where
    mutual
      pub names_known : (e : Tree (Mark T)) → list_all (λ m. is_known_name schema m.0) (names_in e) ≡ true → HasKnownNames schema e
      names_known (lit (literal.EntityUID uid) a) h = id_declared uid (and_parts_of (is_known_id schema uid) true h).0
      names_known (lit (literal.Bool b) a) h = refl
      names_known (lit (literal.Long n) a) h = refl
      names_known (lit (literal.String s) a) h = refl
      names_known (var v a) h = tt
      names_known (slot i a) h = tt
      names_known (ite x y z a) h =
          (names_known x (prefix (names_in x) (names_in y ++ names_in z) h), names_known y (prefix (names_in y) (names_in z) (back (names_in x) (names_in y ++ names_in z) h)), names_known z (back (names_in y) (names_in z) (back (names_in x) (names_in y ++ names_in z) h)))
      names_known (conj x y a) h = (names_known x (prefix (names_in x) (names_in y) h), names_known y (back (names_in x) (names_in y) h))
      names_known (disj x y a) h = (names_known x (prefix (names_in x) (names_in y) h), names_known y (back (names_in x) (names_in y) h))
      names_known (unary o x a) h = names_known x h
      names_known (binary o x y a) h = (names_known x (prefix (names_in x) (names_in y) h), names_known y (back (names_in x) (names_in y) h))
      names_known (attr x n a) h = names_known x h
      names_known (core.has x n a) h = names_known x h
      names_known (like x p a) h = names_known x h
      names_known (is_type x t a) h = names_known x (prefix (names_in x) ((a_type t, a.loc) ∷ []) h)
      names_known (call f xs a) h = all_known xs h
      names_known (set xs a) h = all_known xs h
      names_known (rec xs a) h = named_known xs h

      all_known : (xs : Trees (Mark T)) → list_all (λ m. is_known_name schema m.0) (names_in_all xs) ≡ true → HaveKnownNames schema xs
      all_known no_trees h = tt
      all_known (tree x xs) h = (names_known x (prefix (names_in x) (names_in_all xs) h), all_known xs (back (names_in x) (names_in_all xs) h))

      named_known : (xs : Named (Mark T)) → list_all (λ m. is_known_name schema m.0) (names_in_named xs) ≡ true → FieldsHaveKnownNames schema xs
      named_known no_named h = tt
      named_known (named k x xs) h = (names_known x (prefix (names_in x) (names_in_named xs) h), named_known xs (back (names_in x) (names_in_named xs) h))
