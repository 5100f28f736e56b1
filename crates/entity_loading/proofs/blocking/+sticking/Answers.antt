use Rattle.std.proofs.Common.{◌≡◌, inl, inr, sym, ap, ◌∙◌, subst, arith}
use Rattle.std.specs.Option.{option_copied}
use Rattle.access_tries.specs.declared.edge.Edge.TheVariants.{Field}
use Rattle.policy_values.specs.Value.{rec, size_of_fields, fields_of}
use Rattle.policy_values.specs.ValueView.{val_of}
use Rattle.entity_loading.specs.CannotGoOn.{tests_of, Sticks, FieldsBlock, CannotStep}
use Rattle.entity_loading.proofs.FollowSteps.{tests_behind}
use Rattle.entity_loading.proofs.CannotGoOnSteps.{blocked_record, field_later, none_block, nowhere_behind}
use Rattle.entity_loading.proofs.blocking.+sticking.Goals as goal

pub blocked_in-returns-else-is_demanded : goal.blocked_in-returns-else-is_demanded
blocked_in-returns-else-is_demanded t c =
    let fs = fields_of c.in-Record.fields.entries in
    let is : rec fs ≡ c.args.value.now = ap val_of (sym c.in-Record.is) ∙ c.kind.ensures.content in
    subst (λ v. CannotStep (Sticks v (tests_of c.args.trie.now)) (option_copied c.blocked_in_fields.result)) is
    (blocked_record fs (tests_of c.args.trie.now) (option_copied c.blocked_in_fields.result) (λ d. let yes = c.is_demanded.ensures.1 d in cc (yes, c.if-is_demanded.false)) c.blocked_in_fields.ensures)

pub blocked_in_fields-returns-in-Some-blocked_in : goal.blocked_in_fields-returns-in-Some-blocked_in
blocked_in_fields-returns-in-Some-blocked_in t c =
    let v = c.args.trie.now in
    let u = c.in-Some-blocked_in.blocked.now in
    c.loop-key.invariant.blocked u (subst (λ es. FieldsBlock (fields_of es) (tests_of v) u) (sym c.in-Some.ensures.steps) (inl (subst (λ w. Sticks c.in-Some.value.now w u) (tests_behind (Field c.in-Some.key.now) v c.in-Some-field.below c.in-Some-field.ensures) c.in-Some-blocked_in.ensures)))

pub blocked_in_fields-loop-key-preserved-in_default-blocked_in : goal.blocked_in_fields-loop-key-preserved-in_default-blocked_in
blocked_in_fields-loop-key-preserved-in_default-blocked_in t c =
    let v = c.args.trie.now in
    let key = c.in-Some.key.now in
    let value = c.in-Some.value.now in
    let steps = c.in-Some.ensures.steps in
    record {
      left = λ u h. field_later key value (fields_of c.next.new.self) (tests_of v) u (λ k. c.in_default-blocked_in.ensures u (subst (λ w. Sticks value w u) (sym (tests_behind (Field key) v c.in-Some-field.below c.in-Some-field.ensures)) k))
          (subst (λ es. FieldsBlock (fields_of es) (tests_of v) u) steps (c.loop-key.invariant.left u h));
      blocked = λ u h. c.loop-key.invariant.blocked u (subst (λ es. FieldsBlock (fields_of es) (tests_of v) u) (sym steps) (inr h));
      within = omega (arith, c.loop-key.invariant.within, ap (λ es. size_of_fields (fields_of es)) steps);
    }

pub blocked_in_fields-loop-key-preserved : goal.blocked_in_fields-loop-key-preserved
blocked_in_fields-loop-key-preserved t c =
    let v = c.args.trie.now in
    let key = c.in-Some.key.now in
    let value = c.in-Some.value.now in
    let steps = c.in-Some.ensures.steps in
    record {
      left = λ u h. field_later key value (fields_of c.next.new.self) (tests_of v) u (none_block value _ (nowhere_behind (Field key) v c.in_default.ensures) u)
          (subst (λ es. FieldsBlock (fields_of es) (tests_of v) u) steps (c.loop-key.invariant.left u h));
      blocked = λ u h. c.loop-key.invariant.blocked u (subst (λ es. FieldsBlock (fields_of es) (tests_of v) u) (sym steps) (inr h));
      within = omega (arith, c.loop-key.invariant.within, ap (λ es. size_of_fields (fields_of es)) steps);
    }
