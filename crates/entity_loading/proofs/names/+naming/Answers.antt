use Rattle.std.proofs.Common.{◌≡◌, sym, ap, ◌∙◌, subst, arith, Some, None}
use Rattle.std.specs.Option.{option_copied}
use Rattle.std.proofs.lemmas.Result.{on_ok_weaker}
use Rattle.entity_store.proofs.FieldsFound.{field_found}
use Rattle.policy_values.specs.Value.{entity, rec, set, fields_of, vals_of, field_at}
use Rattle.policy_values.specs.ValueView.{val_of}
use Rattle.access_tries.specs.declared.edge.Edge.TheVariants.{Field}
use Rattle.entity_loading.specs.Names.{Names}
use Rattle.entity_loading.specs.Waiting.{Has, Gives, Adds}
use Rattle.entity_loading.proofs.NameSteps.{adds_none, naming_start, naming_more, naming_skip, naming_done, ChildNames, names_nothing, names_children, children_names, child_first, child_skipped, no_child_names, fewer_below}
use Rattle.entity_loading.proofs.ValueSteps.{plain}
use Rattle.entity_loading.proofs.WaitSteps.{gives_more, gives_also, adds_in, later_in}
use Rattle.entity_loading.proofs.names.+naming.Goals as goal

pub name_at-returns-in-EntityUID-clause-named : goal.name_at-returns-in-EntityUID-clause-named
name_at-returns-in-EntityUID-clause-named t c =
    let w = c.args.trie.now in
    let is : entity c.in-EntityUID.uid ≡ c.args.value.now = ap val_of (sym c.in-EntityUID.is) ∙ c.kind.ensures.content in
    on_ok_weaker c.name_later.result
    (λ f s. gives_also s w c.args.ids.now (entity c.in-EntityUID.uid) c.args.value.now is c.args.waiting.now c.name_later.new.waiting (f s))
    c.name_later.ensures.named

pub name_at-returns-in-Record-clause-named : goal.name_at-returns-in-Record-clause-named
name_at-returns-in-Record-clause-named t c =
    let w = c.args.trie.now in
    let is : rec (fields_of c.in-Record.fields.entries) ≡ c.args.value.now = ap val_of (sym c.in-Record.is) ∙ c.kind.ensures.content in
    on_ok_weaker c.name_fields.result
    (λ f s. subst (λ v. Adds (Names s v w) (Gives s w c.args.ids.now c.args.waiting.now) (Gives s w c.name_fields.new.ids c.name_fields.new.waiting)) is (f s))
    c.name_fields.ensures.named

pub name_at-returns-in-Record-clause-later : goal.name_at-returns-in-Record-clause-later
name_at-returns-in-Record-clause-later t c = on_ok_weaker c.name_fields.result (λ f k low. f k (omega (arith, low))) c.name_fields.ensures.later

pub name_at-returns-in-Set-clause-named : goal.name_at-returns-in-Set-clause-named
name_at-returns-in-Set-clause-named t c =
    let w = c.args.trie.now in
    let is : set (vals_of c.in-Set.values.items) ≡ c.args.value.now = ap val_of (sym c.in-Set.is) ∙ c.kind.ensures.content in
    on_ok_weaker c.name_set.result
    (λ f s. gives_more s w c.args.waiting.now (Names s c.args.value.now w) c.args.ids.now c.name_set.new.ids (subst (λ v. Adds (Names s v w) (Has c.args.ids.now) (Has c.name_set.new.ids)) is (f s)))
    c.name_set.ensures

pub name_at-returns-in_default-clause-named : goal.name_at-returns-in_default-clause-named
name_at-returns-in_default-clause-named t c = λ s.
    let w = c.args.trie.now in
    adds_none (Names s c.args.value.now w) (Gives s w c.args.ids.now c.args.waiting.now) (λ y.
    let p = plain c.kind.result.now c.in_default.not-EntityUID c.in_default.not-Set c.in_default.not-Record s y in
    subst (λ v. Names s v w y → ⊥) c.kind.ensures.content (names_nothing s _ w y p.0 p.1))

pub name_fields-loop-name-init : goal.name_fields-loop-name-init
name_fields-loop-name-init t c =
    let same = c.into_iter-name-iterator.ensures.into_iter_gives ∙ c.children-name-items.ensures.children in
    let lead = c.children-name-items.ensures.lead in
    let fs = fields_of c.args.fields.now.entries in
    let w = c.args.trie.now in
    record {
      naming = λ s.
          naming_start (Names s (rec fs) w) (ChildNames s fs c.into_iter-name-iterator.result) (Gives s w c.args.ids.now c.args.waiting.now) (λ y. rw same (children_names s fs w y (rw c.children-name-items.ensures.children at lead), names_children s fs w y));
      later = λ k low h. h;
      lead = rw c.into_iter-name-iterator.ensures.into_iter_gives lead;
    }

pub name_fields-name_at-requires : goal.name_fields-name_at-requires
name_fields-name_at-requires t c =
    let all = rw c.in-Some.ensures.steps at c.loop-name.invariant.lead in
    (omega (arith, fewer_below (Field c.in-Some.name.now) c.args.trie.now c.in-Some.below all.0), all.0.there)

pub name_fields-loop-name-preserved-in-Continue-1 :
    goal.name_fields-loop-name-preserved-in-Continue-1
name_fields-loop-name-preserved-in-Continue-1 t c =
    let fs = fields_of c.args.fields.now.entries in
    let w = c.args.trie.now in
    let n = c.in-Some.name.now in
    let v = c.in-Some-get.value.now in
    let below = c.in-Some.below in
    let steps = c.in-Some.ensures.steps in
    let there : field_at fs n ≡ Some v = sym (field_found n c.args.fields.now.entries) ∙ sym c.get.ensures.value ∙ ap option_copied c.in-Some-get.is in
    let all = rw steps at c.loop-name.invariant.lead in
    let mid = c.loop-name.waiting in
    let new = c.name_at.new.waiting in
    record {
      naming = λ s. naming_more (Names s (rec fs) w) (ChildNames s fs c.loop-name.name-iterator) (Names s v below) (ChildNames s fs c.next.new.self)
          (Gives s w c.args.ids.now c.args.waiting.now) (Gives s w c.loop-name.ids mid) (Gives s w c.name_at.new.ids new)
          (λ y. rw steps (child_first s fs n below c.next.new.self y v there)) (c.loop-name.invariant.naming s)
          (adds_in s w below all.0.table (Names s v below) c.loop-name.ids c.name_at.new.ids mid new (c.in_ok-name_at.ensures.named s));
      later = λ k low h. later_in (Field n) w below all.0 mid new c.in_ok-name_at.ensures.later k low (c.loop-name.invariant.later k low h);
      lead = all.1;
    }

pub name_fields-loop-name-preserved : goal.name_fields-loop-name-preserved
name_fields-loop-name-preserved t c =
    let fs = fields_of c.args.fields.now.entries in
    let w = c.args.trie.now in
    let n = c.in-Some.name.now in
    let steps = c.in-Some.ensures.steps in
    let none : field_at fs n ≡ None = sym (field_found n c.args.fields.now.entries) ∙ sym c.get.ensures.value ∙ ap option_copied c.in_default.is in
    let all = rw steps at c.loop-name.invariant.lead in
    record {
      naming = λ s. naming_skip (Names s (rec fs) w) (ChildNames s fs c.loop-name.name-iterator) (ChildNames s fs c.next.new.self)
          (Gives s w c.args.ids.now c.args.waiting.now) (Gives s w c.loop-name.ids c.loop-name.waiting)
          (λ y. rw steps (child_skipped s fs n c.in-Some.below c.next.new.self y none)) (c.loop-name.invariant.naming s);
      later = c.loop-name.invariant.later;
      lead = all.1;
    }

pub name_fields-returns-clause-named : goal.name_fields-returns-clause-named
name_fields-returns-clause-named t c = λ s.
    let fs = fields_of c.args.fields.now.entries in
    let w = c.args.trie.now in
    naming_done (Names s (rec fs) w) (ChildNames s fs c.loop-name.name-iterator) (Gives s w c.args.ids.now c.args.waiting.now) (Gives s w c.loop-name.ids c.loop-name.waiting)
    (λ y n. no_child_names s fs y (subst (λ l. ChildNames s fs l y) c.in-None.ensures.steps.0 n)) (c.loop-name.invariant.naming s)
