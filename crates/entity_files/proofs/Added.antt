-- What one look-up adds to what was looked up.
use Rattle.std.proofs.Common.{◌≡◌, ◌++◌, List, Bool, true, false, cond, Option, Some, None, refl, sym, ap, ◌∙◌, subst}
use Rattle.std.specs.Prelude.{IfSome}
use Rattle.std.specs.BTreeMap.{is_at}
use Rattle.std.specs.BTreeSet.{contains}
use Rattle.std.specs.Option.{option_or, option_to_list}
use Rattle.std.specs.Ordering.{is_eq}
use Rattle.std.proofs.lemmas.List.Folds.{find-append}
use Rattle.policy_values.specs.declared.entity_uid.EntityUID.{EntityUID}
use Rattle.policy_values.specs.Uid.{uid_cmp}
use Rattle.entity_store.specs.Store.{StoredEntity, entity_at, is_named}
use Rattle.entity_files.specs.Table.{Continues}
use Rattle.entity_files.specs.Fetched.{AreFetched}
use Rattle.entity_files.specs.declared.fetched.Fetched.{Fetched}
use Rattle.entity_files.proofs.Placed.{same_id, itself}
use Rattle.entity_files.proofs.Stores.{named}

listed : (u : EntityUID) (o : Option StoredEntity) → IfSome o (λ e. e.uid ≡ u) → entity_at (option_to_list o) u ≡ o
listed u None h = refl
listed u (Some e) h = ap (λ b. cond b (Some e) None) (named u e h)

unlisted : (u q : EntityUID) (o : Option StoredEntity) → IfSome o (λ e. e.uid ≡ u) → is_at (uid_cmp u) q ≡ false → entity_at (option_to_list o) q ≡ None
unlisted u q None h not = refl
unlisted u q (Some e) h not = by (is_named q e) refl
  where
    by : (b : Bool) → is_named q e ≡ b → cond b (Some e) None ≡ None
    by true is =
        let one : u ≡ q = sym h ∙ sym (same_id q e.uid is) in
        let both : true ≡ false = sym (ap (λ y. is_eq (uid_cmp u y)) (sym one) ∙ ap is_eq (itself u)) ∙ not in absurd (cc)
    by false is = refl

or_none : {X : Type 0} (o : Option X) → option_or o None ≡ o
or_none None = refl
or_none (Some x) = refl

module _ (old new : Option (List StoredEntity)) (before after : Fetched) (u : EntityUID) (o : Option StoredEntity)
    (goes_on : Continues old new) (fetched : AreFetched old before) (first : contains uid_cmp before.seen u ≡ false)
    (id : IfSome o (λ e. e.uid ≡ u)) (honest : (es : List StoredEntity) → new ≡ Some es → o ≡ entity_at es u)
    (seen : (q : EntityUID) → contains uid_cmp after.seen q ≡ cond (is_at (uid_cmp u) q) true (contains uid_cmp before.seen q))
    (found : after.found.items ≡ before.found.items ++ option_to_list o) where
  at : (q : EntityUID) → entity_at after.found.items q ≡ option_or (entity_at before.found.items q) (entity_at (option_to_list o) q)
  at q = ap (λ es. entity_at es q) found ∙ find-append (is_named q) before.found.items (option_to_list o)

  -- at the id that was looked up, what was found; and elsewhere what was there
  here : (q : EntityUID) → is_at (uid_cmp u) q ≡ true → entity_at after.found.items q ≡ o
  here q is = let one : u ≡ q = same_id u q is in
      subst (λ v. entity_at after.found.items v ≡ o) one
      (at u ∙ ap (λ p. option_or p (entity_at (option_to_list o) u)) (fetched.others u first) ∙ listed u o id)

  elsewhere : (q : EntityUID) → is_at (uid_cmp u) q ≡ false → entity_at after.found.items q ≡ entity_at before.found.items q
  elsewhere q not = at q ∙ ap (option_or (entity_at before.found.items q)) (unlisted u q o id not) ∙ or_none (entity_at before.found.items q)

  seen_by : (q : EntityUID) (b c : Bool) → contains uid_cmp after.seen q ≡ c → is_at (uid_cmp u) q ≡ b → cond b true (contains uid_cmp before.seen q) ≡ c
  seen_by q b c is at = ap (λ d. cond d true (contains uid_cmp before.seen q)) (sym at) ∙ sym (seen q) ∙ is

  pub added : AreFetched new after
  added = record {
    same = λ w told q is. same w told q is (is_at (uid_cmp u) q) refl;
    others = λ q is. others q is (is_at (uid_cmp u) q) refl;
  }
    where
      same : (w : List StoredEntity) → new ≡ Some w → (q : EntityUID) → contains uid_cmp after.seen q ≡ true → (b : Bool) → is_at (uid_cmp u) q ≡ b → entity_at after.found.items q ≡ entity_at w q
      same w told q is true at = here q at ∙ honest w told ∙ ap (entity_at w) (same_id u q at)
      same w told q is false at = elsewhere q at ∙ fetched.same w (goes_on w told) q (seen_by q false true is at)

      others : (q : EntityUID) → contains uid_cmp after.seen q ≡ false → (b : Bool) → is_at (uid_cmp u) q ≡ b → entity_at after.found.items q ≡ None
      others q is true at = let both : true ≡ false = seen_by q true false is at in absurd (cc)
      others q is false at = elsewhere q at ∙ fetched.others q (seen_by q false false is at)
