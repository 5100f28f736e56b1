-- What a scope asks of the action.
use Rattle.std.proofs.Common.{◌≡◌, inl, inr, ℕ, Bool, true, false, not, ◌&&◌, ◌||◌, List, [], ◌∷◌, ◌++◌, map, Option, Some, None, IsTrue, IsSome, is_some, refl, sym, ap, ◌∙◌, true≢false}
use Rattle.std.specs.Prelude.{if◌then◌else◌, option_map, cond, Ok, Err}
use Rattle.std.specs.Result.{result_ok}
use Rattle.std.specs.List.{list_all, list_any}
use Rattle.std.specs.Option.{option_and_then, option_map_or}
use Rattle.std.specs.declared.cmp.Ordering.{Ordering}
use Rattle.std.specs.declared.cmp.Ordering.TheVariants.{Less, Equal, Greater}
use Rattle.std.specs.Ordering.{is_eq, ordering_then, ordering_reverse}
use Rattle.policy_values.specs.declared.entity_uid.EntityUID.{EntityUID}
use Rattle.policy_values.specs.Basename.{is_action_type}
use Rattle.policy_values.specs.Uid.{text_cmp, uid_cmp, uid_eq, uid_cmp_total}
use Rattle.policy_expressions.specs.declared.kinds.BinaryOp.TheVariants.{Eq as IsEqual, In as IsIn}
use Rattle.policy_expressions.specs.declared.kinds.Literal.TheVariants as literal
use Rattle.policy_expressions.specs.declared.kinds.Var.TheVariants as variable
use Rattle.policy_expressions.specs.Tree.{lit, var, binary, set, trees_of}
use Rattle.policy_expressions.specs.Plain.{Plain, unmarked}
use Rattle.schema_types.specs.declared.kinds.LubHelp.TheVariants.{EntityType}
use Rattle.schema_types.specs.Ty.{Ty, false_type, set_of, entity, action, no_attrs}
use Rattle.schema_core.specs.EnvData.{EnvData, id_type, literal_type}
use Rattle.schema_core.specs.Environments.{environment}
use Rattle.schema_core.specs.Schema.{TypeData, ActionData, SchemaData, type_at, action_at}
use Rattle.schema_core.specs.Within.{is_action_within}
use Rattle.type_relations.specs.declared.mode.SubtypeMode.TheVariants.{Strict}
use Rattle.type_relations.specs.Join.{text_eq, join_rest}
use Rattle.typing_spec.specs.Capability.{Capability, has_cap}
use Rattle.typing_spec.specs.Environment.{truth_type, known_ids}
use Rattle.typing_spec.specs.Rules.{equal_type, possible, action_among, entity_among, set_type}
use Rattle.typing_spec.specs.Signatures.{bool_type}
use Rattle.typing_spec.specs.Typing.{Typed, Typing, typing, at, tag_known, types_in, trees_in}
use Rattle.policy_set.specs.declared.constraint.ActionConstraint.{ActionConstraint}
use Rattle.policy_set.specs.declared.constraint.ActionConstraint.TheVariants as asked
use Rattle.policy_set.specs.Condition.{id_literal, literals, action_part}
use Rattle.policy_scope.specs.Scope.{action_meets}
use Rattle.link_spec.specs.Linked.{linked_env}
use Rattle.typecheck_rules.specs.Walked.{Success, has_typing, ended, given_by_all, trees_walked, findings_of_all, lends}
use Rattle.findings.specs.Finding.{Finding}
use Rattle.typecheck_rules.specs.Own.{set_found}
use Rattle.typecheck_rules.specs.Operators.{leaf_walked, binary_given, binary_own, binary_typing, binary_walked, set_typing, set_walked}
use Rattle.typecheck_rules.specs.Walk.{walked_all}
use Rattle.policy_scope.specs.PlainScope.{is_action_of, are_plain_actions, is_plain_action}
use Rattle.plain_lemmas.proofs.Booleans.{and_parts_of}
use Rattle.link_spec.specs.Parts.{verdict, action_type, listed_type, typed_id, typed_ids, typed_action, action_part_of}
use Rattle.link_spec.proofs.Joins.{two_end, Comes}
use Rattle.link_spec.proofs.Sides.{IsTyped, id_typed}

reversed_eq : (o : Ordering) → is_eq (ordering_reverse o) ≡ is_eq o
reversed_eq Equal = refl
reversed_eq Less = refl
reversed_eq Greater = refl

uid_sym : (u w : EntityUID) → uid_eq u w ≡ uid_eq w u
uid_sym u w = ap is_eq (uid_cmp_total.antisymm u w) ∙ reversed_eq (uid_cmp w u)

-- two ids that are known
known_equal : (o q : Ordering) → (if not (is_eq o || false) && true then Some false_type else Some (truth_type (is_eq (ordering_then o q)))) ≡ Some (verdict (is_eq (ordering_then o q)) true)
known_equal Equal Equal = refl
known_equal Equal Less = refl
known_equal Equal Greater = refl
known_equal Less q = refl
known_equal Greater q = refl

possible_verdict : (b : Bool) → possible b ≡ verdict b false
possible_verdict true = refl
possible_verdict false = refl

module _ (schema : SchemaData) where
  pub declared_type : (u : EntityUID) → is_some (action_at schema u) ≡ true → literal_type schema u ≡ Some (action u.entity_type no_attrs)
  declared_type u h = by (action_at schema u) (type_at schema u.entity_type) h
    where
      by : (o : Option ActionData) (t : Option TypeData) → is_some o ≡ true → id_type u o t ≡ Some (action u.entity_type no_attrs)
      by (Some a) t k = refl
      by None t k = absurd (true≢false (sym k))

  abbrev id_typing : EntityUID → Typing
  id_typing u = typing (action_type schema u) [] (typed_id schema u)

  typed_leaf : (u : EntityUID) → is_some (action_at schema u) ≡ true → leaf_walked (lit (literal.EntityUID u)) unmarked (literal_type schema u) ≡ Success (id_typing u)
  typed_leaf u h =
      ap (leaf_walked (lit (literal.EntityUID u)) unmarked) (declared_type u h) ∙
      (λ j. Success (typing (action_type schema u) [] (lit (literal.EntityUID u) (record { note = sym (declared_type u h) j; loc = None }))))

  -- all are declared
  abbrev are_declared : List EntityUID → Bool
  are_declared us = list_all (λ u. is_some (action_at schema u)) us

  all_declared : (n : List ℕ) (us : List EntityUID) → list_all (is_action_of schema n) us ≡ true → are_declared us ≡ true
  all_declared n [] h = refl
  all_declared n (w ∷ us) h =
      let k = and_parts_of (is_action_of schema n w) (list_all (is_action_of schema n) us) h in
      λ j. (and_parts_of (is_some (action_at schema w)) (text_eq n w.entity_type) k.0).0 j && all_declared n us k.1 j

  same_types : (us : List EntityUID) → types_in (map id_typing us) ≡ map (action_type schema) us
  same_types [] = refl
  same_types (u ∷ us) = ap (λ ts. action_type schema u ∷ ts) (same_types us)

  same_trees : (us : List EntityUID) → trees_in (map id_typing us) ≡ typed_ids schema us
  same_trees us = ap trees_of (by us)
    where
      by : (us : List EntityUID) → map (λ a. a.tree) (map id_typing us) ≡ map (typed_id schema) us
      by [] = refl
      by (u ∷ us) = ap (λ ts. typed_id schema u ∷ ts) (by us)

  -- actions of one type have it for their join
  joined_likes : (u : EntityUID) (us : List EntityUID) → list_all (is_action_of schema u.entity_type) us ≡ true → join_rest Strict (Ok (action_type schema u)) (map (action_type schema) us) ≡ Ok (action_type schema u)
  joined_likes u [] h = refl
  joined_likes u (w ∷ us) h =
      let k = and_parts_of (is_action_of schema u.entity_type w) (list_all (is_action_of schema u.entity_type) us) h in
      (λ j. join_rest Strict (cond ((and_parts_of (is_some (action_at schema w)) (text_eq u.entity_type w.entity_type) k.0).1 j) (Ok (action_type schema u)) (Err EntityType)) (map (action_type schema) us)) ∙
      joined_likes u us k.1

  all_given : (ts : List Typing) → given_by_all (map Success ts) ≡ Some ts
  all_given [] = refl
  all_given (t ∷ ts) = ap (option_map (λ us. t ∷ us)) (all_given ts)

  all_typed : (ts : List Typing) → list_all has_typing (map Success ts) ≡ true
  all_typed [] = refl
  all_typed (t ∷ ts) = all_typed ts

  abbrev listed_typing : List EntityUID → Typing
  listed_typing us = typing (listed_type schema us) [] (set (typed_ids schema us) (at (listed_type schema us) unmarked))

  set_ends : (us : List EntityUID) → are_plain_actions schema us ≡ true → set_walked unmarked (map Success (map id_typing us)) ≡ Success (listed_typing us)
  set_ends [] h = absurd (true≢false (sym h))
  set_ends (u ∷ us) h =
      (λ j. ended (all_typed (map id_typing (u ∷ us)) j) (option_and_then (set_typing unmarked) (all_given (map id_typing (u ∷ us)) j)) failed found) ∙
      (λ j. ended true (option_map (λ t. typing t [] (set (same_trees (u ∷ us) j) (at t unmarked))) (set_type (same_types (u ∷ us) j))) failed found) ∙
      (λ j. ended true (option_map (λ t. typing t [] (set (typed_ids schema (u ∷ us)) (at t unmarked))) (option_map set_of (result_ok (joined_likes u us (and_parts_of (is_action_of schema u.entity_type u) (list_all (is_action_of schema u.entity_type) us) h).1 j)))) failed found)
    where
      failed : Typed
      failed = set (trees_walked (map Success (map id_typing (u ∷ us)))) (lends None unmarked)

      found : List Finding
      found = findings_of_all (map Success (map id_typing (u ∷ us))) ++ option_map_or (λ ys. set_found None (types_in ys)) (given_by_all (map Success (map id_typing (u ∷ us)))) []

  module _ (env : EnvData) where
    all_walk : (cs : List Capability) (us : List EntityUID) → are_declared us ≡ true → walked_all schema env cs (literals us) ≡ map Success (map id_typing us)
    all_walk cs [] h = refl
    all_walk cs (u ∷ us) h = λ j. typed_leaf u (and_parts_of (is_some (action_at schema u)) (are_declared us) h).0 j ∷ all_walk cs us (and_parts_of (is_some (action_at schema u)) (are_declared us) h).1 j

    ids_known : (us : List EntityUID) → known_ids env (literals us) ≡ Some us
    ids_known [] = refl
    ids_known (u ∷ us) = ap (option_map (λ ws. u ∷ ws)) (ids_known us)

module _ (schema : SchemaData) (actions : (u : EntityUID) → IsSome (action_at schema u) → is_action_type u.entity_type ≡ true) where
  all_actions : (x : EntityUID) (us : List EntityUID) → are_declared schema us ≡ true → action_among schema x us ≡ list_any (is_action_within schema x) us
  all_actions x [] h = refl
  all_actions x (u ∷ us) h =
      let k = and_parts_of (is_some (action_at schema u)) (are_declared schema us) h in
      λ j. (actions u k.0 j && is_action_within schema x u) || all_actions x us k.1 j

  plain_declared : (us : List EntityUID) → are_plain_actions schema us ≡ true → are_declared schema us ≡ true
  plain_declared [] h = absurd (true≢false (sym h))
  plain_declared (u ∷ us) h = all_declared schema u.entity_type (u ∷ us) h

  module _ (a : ActionData) (named : is_some (action_at schema a.name) ≡ true) (p r : List ℕ) (s s' : Option (List ℕ)) where
    abbrev env : EnvData
    env = linked_env a (environment p a.name r) s s'

    abbrev v : Typing
    v = typing (action_type schema a.name) [] (typed_action schema a)

    equal_ends : (u : EntityUID) (t : Ty) → literal_type schema u ≡ Some t → equal_type (Some a.name) (Some u) (action_type schema a.name) t ≡ Some (verdict (uid_eq u a.name) true) →
        Comes schema env (action_part (asked.Eq u)) (action_part_of schema a (asked.Eq u))
    equal_ends u t typed h cs =
        (λ j. binary_walked schema env IsEqual (has_cap cs (tag_known x y)) x y unmarked (leaf_walked (var variable.Action) unmarked (declared_type schema a.name named j)) (leaf_walked (lit (literal.EntityUID u)) unmarked (typed j))) ∙
        two_end (binary_typing schema env IsEqual (has_cap cs (tag_known x y)) x y unmarked) _ _ v (typing t [] (lit (literal.EntityUID u) (at t unmarked)))
        (typing (verdict b true) [] (binary IsEqual v.tree (lit (literal.EntityUID u) (at t unmarked)) (at (verdict b true) unmarked)))
        (ap (option_map (λ w. typing w [] (binary IsEqual v.tree (lit (literal.EntityUID u) (at t unmarked)) (at w unmarked)))) h) ∙
        (λ j. Success (typing (verdict b true) [] (binary IsEqual v.tree (lit (literal.EntityUID u) (record { note = sym typed j; loc = None })) (at (verdict b true) unmarked))))
      where
        x : Plain
        x = var variable.Action unmarked

        y : Plain
        y = id_literal u

        b : Bool
        b = uid_eq u a.name

    equal_known : (u : EntityUID) → IsTyped schema u → Comes schema env (action_part (asked.Eq u)) (action_part_of schema a (asked.Eq u))
    equal_known u (inl k) =
        equal_ends u (action u.entity_type no_attrs) k.0 (known_equal (text_cmp a.name.entity_type u.entity_type) (text_cmp a.name.eid u.eid) ∙ ap (λ b. Some (verdict b true)) (uid_sym a.name u))
    equal_known u (inr k) =
        equal_ends u (entity (u.entity_type ∷ [])) k (known_equal (text_cmp a.name.entity_type u.entity_type) (text_cmp a.name.eid u.eid) ∙ ap (λ b. Some (verdict b true)) (uid_sym a.name u))

    in_set : (us : List EntityUID) → are_plain_actions schema us ≡ true → option_map_or (λ ws. possible (if is_action_type a.name.entity_type then action_among schema a.name ws else entity_among schema a.name ws)) (known_ids env (literals us)) bool_type ≡ verdict (action_meets schema (asked.In us) a) false
    in_set us h =
        ap (λ o. option_map_or (λ ws. possible (if is_action_type a.name.entity_type then action_among schema a.name ws else entity_among schema a.name ws)) o bool_type) (ids_known schema env us) ∙
        (λ j. possible (if actions a.name named j then action_among schema a.name us else entity_among schema a.name us)) ∙
        ap possible (all_actions a.name us (plain_declared us h)) ∙
        possible_verdict (list_any (is_action_within schema a.name) us) ∙
        (λ j. verdict (sym (plain_declared us h) j && list_any (is_action_within schema a.name) us) false)

    in_ends : (us : List EntityUID) → are_plain_actions schema us ≡ true → Comes schema env (action_part (asked.In us)) (action_part_of schema a (asked.In us))
    in_ends [] h cs = absurd (true≢false (sym h))
    in_ends (u ∷ us) h cs =
        (λ j. binary_walked schema env IsIn (has_cap cs (tag_known x y)) x y unmarked (leaf_walked (var variable.Action) unmarked (declared_type schema a.name named j))
        (set_walked unmarked (all_walk schema env cs (u ∷ us) (plain_declared (u ∷ us) h) j))) ∙
        (λ j. binary_walked schema env IsIn (has_cap cs (tag_known x y)) x y unmarked (Success v) (set_ends schema (u ∷ us) h j)) ∙
        two_end (binary_typing schema env IsIn (has_cap cs (tag_known x y)) x y unmarked) (binary IsIn v.tree w.tree (lends (binary_given schema env IsIn x y (Some v.type)) unmarked))
        (binary_own schema env IsIn (has_cap cs (tag_known x y)) x y unmarked (Some v.type) (Some w.type)) v w
        (typing (verdict b false) [] (binary IsIn v.tree w.tree (at (verdict b false) unmarked)))
        (ap (λ z. Some (typing z [] (binary IsIn v.tree w.tree (at z unmarked)))) (in_set (u ∷ us) h))
      where
        x : Plain
        x = var variable.Action unmarked

        y : Plain
        y = set (literals (u ∷ us)) unmarked

        w : Typing
        w = listed_typing schema (u ∷ us)

        b : Bool
        b = action_meets schema (asked.In (u ∷ us)) a

    pub action_comes : (c : ActionConstraint) → IsTrue (is_plain_action schema c) → Comes schema env (action_part c) (action_part_of schema a c)
    action_comes asked.Any h = λ cs. refl
    action_comes (asked.Eq u) h = equal_known u (id_typed schema u h)
    action_comes (asked.In us) h = in_ends us h
