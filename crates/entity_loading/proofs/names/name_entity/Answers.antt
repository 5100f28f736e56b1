use Rattle.std.proofs.Common.{◌≡◌, sym, ap, ◌∙◌, subst, ◌⊎◌, Some, None}
use Rattle.std.specs.Option.{option_copied}
use Rattle.std.proofs.lemmas.Result.{on_ok_weaker}
use Rattle.entity_store.specs.Store.{entity_at}
use Rattle.policy_values.specs.Value.{entity, rec}
use Rattle.access_tries.specs.declared.edge.Edge.TheVariants.{AnyTag}
use Rattle.reads_spec.specs.Restrict.{values_in}
use Rattle.entity_loading.specs.Names.{Names, SomeNames}
use Rattle.entity_loading.specs.Waiting.{Gives, Adds}
use Rattle.entity_loading.proofs.NameSteps.{adds_same, adds_both, NamesHere, absent_names, entity_names, untagged_names}
use Rattle.entity_loading.proofs.ValueSteps.{no_mark_behind}
use Rattle.entity_loading.proofs.WaitSteps.{gives_more, adds_in, later_in}
use Rattle.entity_loading.proofs.names.name_entity.Goals as goal

pub returns-in_default-clause-named : goal.returns-in_default-clause-named
returns-in_default-clause-named c = λ s kept.
    let x = c.args.uid.now in
    let w = c.args.trie.now in
    let ids = c.args.ids.now in
    let at_start = c.args.waiting.now in
    let none : entity_at s x ≡ None = kept x ∙ sym c.get.ensures.value ∙ ap option_copied c.in_default.is in
    adds_same (NamesHere (entity x) w) (Names s (entity x) w) (Gives s w ids at_start) (Gives s w c.name_here.new.ids at_start)
    (λ y. let f = absent_names s x w y none in (f.1, f.0)) (gives_more s w at_start (NamesHere (entity x) w) ids c.name_here.new.ids c.in_ok-name_here.ensures)

pub returns-in-Some-tags-clause-named : goal.returns-in-Some-tags-clause-named
returns-in-Some-tags-clause-named c =
    let x = c.args.uid.now in
    let w = c.args.trie.now in
    let e = c.in-Some.entity.now in
    let ids = c.args.ids.now in
    let at_start = c.args.waiting.now in
    let below = c.in-Some-tags.below in
    let leads = c.in-Some-tags.ensures in
    let some_ids = c.name_fields.new.ids in
    let some_wait = c.name_fields.new.waiting in
    let new_ids = c.name_each.new.ids in
    let new_wait = c.name_each.new.waiting in
    on_ok_weaker c.name_each.result (λ f s kept.
    let there : entity_at s x ≡ Some e = kept x ∙ sym c.get.ensures.value ∙ ap option_copied c.in-Some.is in
    let here : Adds (NamesHere (entity x) w) (Gives s w ids at_start) (Gives s w c.name_here.new.ids at_start) = gives_more s w at_start (NamesHere (entity x) w) ids c.name_here.new.ids c.in_ok-name_here.ensures in
    let fields : Adds (Names s (rec e.attrs) w) (Gives s w c.name_here.new.ids at_start) (Gives s w some_ids some_wait) =
    subst (λ fs. Adds (Names s (rec fs) w) (Gives s w c.name_here.new.ids at_start) (Gives s w some_ids some_wait)) c.attrs.ensures (c.in_ok-name_fields.ensures.named s) in
    let tags : Adds (SomeNames s (values_in e.tags) below) (Gives s w some_ids some_wait) (Gives s w new_ids new_wait) =
    adds_in s w below leads.table (SomeNames s (values_in e.tags) below) some_ids new_ids some_wait new_wait
    (subst (λ fs. Adds (SomeNames s (values_in fs) below) (Gives s below some_ids some_wait) (Gives s below new_ids new_wait)) c.tags-in-Some-tags.ensures (f s)) in
    adds_both (λ y. NamesHere (entity x) w y ⊎ Names s (rec e.attrs) w y) (SomeNames s (values_in e.tags) below) (Names s (entity x) w) (Gives s w ids at_start) (Gives s w some_ids some_wait) (Gives s w new_ids new_wait)
    (λ y. entity_names s x w y e there below leads)
    (adds_both (NamesHere (entity x) w) (Names s (rec e.attrs) w) (λ y. NamesHere (entity x) w y ⊎ Names s (rec e.attrs) w y) (Gives s w ids at_start) (Gives s w c.name_here.new.ids at_start) (Gives s w some_ids some_wait)
    (λ y. ((λ n. n), (λ n. n))) here fields) tags)
    c.name_each.ensures.named

pub returns-in-Some-tags-clause-later : goal.returns-in-Some-tags-clause-later
returns-in-Some-tags-clause-later c =
    on_ok_weaker c.name_each.result
    (λ f k low h. later_in AnyTag c.args.trie.now c.in-Some-tags.below c.in-Some-tags.ensures c.name_fields.new.waiting c.name_each.new.waiting f k low (c.in_ok-name_fields.ensures.later k low h))
    c.name_each.ensures.later

pub returns-in-None-clause-named : goal.returns-in-None-clause-named
returns-in-None-clause-named c = λ s kept.
    let x = c.args.uid.now in
    let w = c.args.trie.now in
    let e = c.in-Some.entity.now in
    let ids = c.args.ids.now in
    let at_start = c.args.waiting.now in
    let there : entity_at s x ≡ Some e = kept x ∙ sym c.get.ensures.value ∙ ap option_copied c.in-Some.is in
    let here : Adds (NamesHere (entity x) w) (Gives s w ids at_start) (Gives s w c.name_here.new.ids at_start) = gives_more s w at_start (NamesHere (entity x) w) ids c.name_here.new.ids c.in_ok-name_here.ensures in
    let fields : Adds (Names s (rec e.attrs) w) (Gives s w c.name_here.new.ids at_start) (Gives s w c.name_fields.new.ids c.name_fields.new.waiting) =
    subst (λ fs. Adds (Names s (rec fs) w) (Gives s w c.name_here.new.ids at_start) (Gives s w c.name_fields.new.ids c.name_fields.new.waiting)) c.attrs.ensures (c.in_ok-name_fields.ensures.named s) in
    adds_both (NamesHere (entity x) w) (Names s (rec e.attrs) w) (Names s (entity x) w) (Gives s w ids at_start) (Gives s w c.name_here.new.ids at_start) (Gives s w c.name_fields.new.ids c.name_fields.new.waiting)
    (λ y. untagged_names s x w y e there (no_mark_behind AnyTag w c.in-None.ensures)) here fields
