use Rattle.std.proofs.Common.{◌≡◌, true, refl, sym, ◌∙◌}
use Rattle.std.proofs.lemmas.Bool.{false≢true}
use Rattle.reads_spec.specs.Restrict.{lists_id}
use Rattle.policy_values.specs.Value.{set, vals_of}
use Rattle.entity_loading.specs.Names.{Names}
use Rattle.entity_loading.specs.Waiting.{Has}
use Rattle.entity_loading.proofs.NameSteps.{adds_same, adds_none, names_alone, here_names}
use Rattle.entity_loading.proofs.names.name_set.Goals as goal

pub returns-in_ok-add_ids : goal.returns-in_ok-add_ids
returns-in_ok-add_ids c = λ s.
    let v = set (vals_of c.args.values.now.items) in
    let t = c.args.trie.now in
    adds_same (λ y. lists_id y (vals_of c.args.values.now.items) ≡ true) (Names s v t) (Has c.args.ids.now) (Has c.add_ids.new.ids)
    (λ y. (λ h. here_names s v t y (sym c.is_ancestor.ensures ∙ c.if-is_ancestor.true, h), λ n. (names_alone s v t y (λ k. refl) n).1))
    c.in_ok-add_ids.ensures

pub returns-else-is_ancestor : goal.returns-else-is_ancestor
returns-else-is_ancestor c = λ s.
    let v = set (vals_of c.args.values.now.items) in
    let t = c.args.trie.now in
    adds_none (Names s v t) (Has c.args.ids.now) (λ y n. false≢true (sym c.if-is_ancestor.false ∙ c.is_ancestor.ensures ∙ (names_alone s v t y (λ k. refl) n).0))
