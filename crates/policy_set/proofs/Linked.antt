-- A link's condition is the condition of its own scope and the template's body.
use Rattle.std.proofs.Common.{◌≡◌, ℕ, Bool, true, false, ◌||◌, List, [], ◌∷◌, Option, Some, None, is_some, refl, sym, ◌∙◌, ap, arith}
use Rattle.std.specs.Prelude.{length, cond, nat_lt, slice_get}
use Rattle.std.specs.Option.{option_or}
use Rattle.std.proofs.lemmas.Bool.{ltb-false}
use Rattle.policy_values.specs.declared.entity_uid.EntityUID.{EntityUID}
use Rattle.policy_expressions.specs.declared.kinds.BinaryOp.TheVariants.{Eq as IsEqual, In as IsIn}
use Rattle.policy_expressions.specs.declared.kinds.SlotId.{SlotId}
use Rattle.policy_expressions.specs.declared.kinds.SlotId.TheVariants.{Principal, Resource}
use Rattle.policy_expressions.specs.declared.kinds.SlotValues.{SlotValues}
use Rattle.policy_expressions.specs.Plain.{Plain, unmarked}
use Rattle.policy_expressions.specs.Slots.{has_slot, some_has_slot, some_named_has_slot, filled, filled_all, filled_named, in_place, value_of}
use Rattle.policy_expressions.specs.Tree.{Tree, lit, var, slot, ite, conj, disj, unary, binary, attr, has, like, is_type, call, set, rec, Trees, no_trees, tree, Named, no_named, named}
use Rattle.policy_set.specs.declared.constraint.EntityReference.TheVariants.{EUID, Slot}
use Rattle.policy_set.specs.declared.constraint.PrincipalOrResourceConstraint.{PrincipalOrResourceConstraint}
use Rattle.policy_set.specs.declared.constraint.PrincipalOrResourceConstraint.TheVariants.{Any, Eq, In, Is, IsIn as IsWithin}
use Rattle.policy_set.specs.declared.constraint.ActionConstraint.{ActionConstraint}
use Rattle.policy_set.specs.declared.policy_set.PolicySetError.{PolicySetError}
use Rattle.policy_set.specs.Data.{TemplateData}
use Rattle.policy_set.specs.Condition.{variable_of, referred, of_type, scope_part, action_part, condition_of, asks_slot, has_scope_slot, right_of, template_with, IsTemplate}
use Rattle.policy_set.specs.Links.{with_id, linked, linked_of, own_condition, HasPlainBody, Fills}
use Rattle.policy_set.specs.PolicySet.{given, slot_values, slot_fault, fault_if, is_missing, is_extra}
use Rattle.policy_set.proofs.Plain.{action_slot}
use Rattle.plain_lemmas.proofs.Booleans.{or_false_left, or_false_right}

-- filling an expression without slots
module _ {A : Type 0} (w : SlotValues) where
  mutual
    pub kept : (x : Tree A) → has_slot x ≡ false → filled w x ≡ x
    kept (lit l m) h = refl
    kept (var v m) h = refl
    kept (slot i m) h = absurd (cc)
    kept (ite x y z m) h =
        let k = or_false_right (has_slot x) (has_slot y || has_slot z) h in
        λ i. ite (kept x (or_false_left (has_slot x) (has_slot y || has_slot z) h) i) (kept y (or_false_left (has_slot y) (has_slot z) k) i) (kept z (or_false_right (has_slot y) (has_slot z) k) i) m
    kept (conj x y m) h = λ i. conj (kept x (or_false_left (has_slot x) (has_slot y) h) i) (kept y (or_false_right (has_slot x) (has_slot y) h) i) m
    kept (disj x y m) h = λ i. disj (kept x (or_false_left (has_slot x) (has_slot y) h) i) (kept y (or_false_right (has_slot x) (has_slot y) h) i) m
    kept (unary o x m) h = ap (λ z. unary o z m) (kept x h)
    kept (binary o x y m) h = λ i. binary o (kept x (or_false_left (has_slot x) (has_slot y) h) i) (kept y (or_false_right (has_slot x) (has_slot y) h) i) m
    kept (attr x n m) h = ap (λ z. attr z n m) (kept x h)
    kept (has x n m) h = ap (λ z. has z n m) (kept x h)
    kept (like x p m) h = ap (λ z. like z p m) (kept x h)
    kept (is_type x n m) h = ap (λ z. is_type z n m) (kept x h)
    kept (call f xs m) h = ap (λ z. call f z m) (kept_all xs h)
    kept (set xs m) h = ap (λ z. set z m) (kept_all xs h)
    kept (rec xs m) h = ap (λ z. rec z m) (kept_named xs h)

    pub kept_all : (xs : Trees A) → some_has_slot xs ≡ false → filled_all w xs ≡ xs
    kept_all no_trees h = refl
    kept_all (tree x xs) h = λ i. tree (kept x (or_false_left (has_slot x) (some_has_slot xs) h) i) (kept_all xs (or_false_right (has_slot x) (some_has_slot xs) h) i)

    pub kept_named : (xs : Named A) → some_named_has_slot xs ≡ false → filled_named w xs ≡ xs
    kept_named no_named h = refl
    kept_named (named k x xs) h = λ i. named k (kept x (or_false_left (has_slot x) (some_named_has_slot xs) h) i) (kept_named xs (or_false_right (has_slot x) (some_named_has_slot xs) h) i)

-- filling the parts of a scope
place_filled : (i : SlotId) (o : Option EntityUID) → in_place o i unmarked ≡ referred i (with_id o Slot)
place_filled i None = refl
place_filled i (Some u) = refl

pub part_filled : (w : SlotValues) (i : SlotId) (c : PrincipalOrResourceConstraint) → filled w (scope_part i c) ≡ scope_part i (linked (value_of w i) c)
part_filled w i Any = refl
part_filled w i (Eq (EUID u)) = refl
part_filled w i (Eq Slot) = ap (λ x. binary IsEqual (var (variable_of i) unmarked) x unmarked) (place_filled i (value_of w i))
part_filled w i (In (EUID u)) = refl
part_filled w i (In Slot) = ap (λ x. binary IsIn (var (variable_of i) unmarked) x unmarked) (place_filled i (value_of w i))
part_filled w i (Is n) = refl
part_filled w i (IsWithin n (EUID u)) = refl
part_filled w i (IsWithin n Slot) = ap (λ x. conj (of_type i n) (binary IsIn (var (variable_of i) unmarked) x unmarked) unmarked) (place_filled i (value_of w i))

pub action_filled : (w : SlotValues) (c : ActionConstraint) → filled w (action_part c) ≡ action_part c
action_filled w c = kept w (action_part c) (action_slot c)

pub condition_filled : (w : SlotValues) (t : TemplateData) → HasPlainBody t → own_condition w t ≡ condition_of (linked_of w t)
condition_filled w t h = λ i. conj (conj (conj (part_filled w Principal t.principal i) (action_filled w t.action i) unmarked) (part_filled w Resource t.resource i) unmarked) (kept w t.body h i) unmarked

-- the link as a template of its own, under another id
module _ (w : SlotValues) (t : TemplateData) (whole : Plain) (keeps : IsTemplate t whole) (id : List ℕ) (p : PrincipalOrResourceConstraint) (a : ActionConstraint) (r : PrincipalOrResourceConstraint) (new : Plain)
    (principal : p ≡ linked w.principal t.principal) (act : a ≡ t.action) (resource : r ≡ linked w.resource t.resource) (made : new ≡ filled w whole) where
  own : new ≡ condition_of (linked_of w t)
  own = made ∙ ap (filled w) keeps.condition ∙ condition_filled w t keeps.body

  pub copied : template_with id t.effect p a r new ≡ record (linked_of w t) { id = id }
  copied = λ i. record { id = id; effect = t.effect; principal = principal i; action = act i; resource = resource i; body = right_of (own i) }

  pub copied_condition : condition_of (template_with id t.effect p a r new) ≡ own_condition w t
  copied_condition = ap condition_of copied ∙ sym (condition_filled w t keeps.body)

  pub copied_keeps : IsTemplate (template_with id t.effect p a r new) new
  copied_keeps = record { condition = own ∙ sym (ap condition_of copied); body = ap (λ e. has_slot (right_of e)) own ∙ keeps.body }

-- a link's scope has no slot
linked_plain : (o : Option EntityUID) (c : PrincipalOrResourceConstraint) → is_some o ≡ asks_slot c → asks_slot (linked o c) ≡ false
linked_plain o Any h = refl
linked_plain o (Is n) h = refl
linked_plain o (Eq (EUID u)) h = refl
linked_plain o (In (EUID u)) h = refl
linked_plain o (IsWithin n (EUID u)) h = refl
linked_plain None (Eq Slot) h = cc
linked_plain None (In Slot) h = cc
linked_plain None (IsWithin n Slot) h = cc
linked_plain (Some v) (Eq Slot) h = refl
linked_plain (Some v) (In Slot) h = refl
linked_plain (Some v) (IsWithin n Slot) h = refl

pub scope_filled : (w : SlotValues) (t : TemplateData) → Fills w t → has_scope_slot (linked_of w t) ≡ false
scope_filled w t f = λ i. linked_plain w.principal t.principal f.principal i || linked_plain w.resource t.resource f.resource i

-- what a test of the slots passes fills them
no_fault : (b : Bool) (e : PolicySetError) (o : Option PolicySetError) → option_or (fault_if b e) o ≡ None → (b ≡ false) × (o ≡ None)
no_fault true e o h = cc
no_fault false e o h = (refl, h)

given_once : (b : Bool) (us : List EntityUID) → nat_lt (length us) (cond b 1 0) ≡ false → nat_lt (cond b 1 0) (length us) ≡ false → is_some (slice_get us 0) ≡ b
given_once true [] h k = cc
given_once true (u ∷ us) h k = refl
given_once false [] h k = refl
given_once false (u ∷ us) h k = absurd (omega (arith, ltb-false 0 (length (u ∷ us)) k))

pub passed_fills : (t : TemplateData) (values : List (SlotId × EntityUID)) → slot_fault t values ≡ None → Fills (slot_values values) t
passed_fills t values h =
    let p = no_fault (is_missing t.principal (given values Principal)) _ _ h in
    let r = no_fault (is_missing t.resource (given values Resource)) _ _ p.1 in
    let q = no_fault (is_extra t.principal (given values Principal)) _ _ r.1 in
    let s = no_last (is_extra t.resource (given values Resource)) _ q.1 in
    record {
      principal = given_once (asks_slot t.principal) (given values Principal) p.0 q.0;
      resource = given_once (asks_slot t.resource) (given values Resource) r.0 s;
    }
  where
    no_last : (b : Bool) (e : PolicySetError) → fault_if b e ≡ None → b ≡ false
    no_last true e k = cc
    no_last false e k = refl
