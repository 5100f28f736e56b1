use Rattle.std.proofs.Common.{rules, ◌≡◌, ◌<◌, ap, ◌∙◌, [], length}
use Rattle.access_tries.specs.declared.edge.Edge.TheVariants.{AnyTag}
use Rattle.policy_values.specs.Value.{fields_of}
use Rattle.entity_loader.specs.Asked.{some_leads}
use Rattle.entity_loader.proofs.CutSteps.{cut_no_field, there_behind, not_chosen}
use Rattle.plain_lemmas.proofs.Lists.{empty_of_length}
use Rattle.entity_loader.proofs.cut.cut_tags.Goals as goal

pub returns-then-is_empty : goal.returns-then-is_empty
returns-then-is_empty c =
    let js = c.in_ok-below.below.items in
    let none : length js ≡ 0 = search rules in
    ap fields_of c.new.ensures.empty ∙ cut_no_field c.args.tags.now.entries _ (λ n. not_chosen AnyTag c.args.nodes.now c.args.numbers.now js c.in_ok-below.ensures (empty_of_length js none) [])

pub cut_all-requires-clause-there : goal.cut_all-requires-clause-there
cut_all-requires-clause-there c =
    let js = c.in_ok-below.below.items in
    let some : 0 < length js = search rules in
    ap (λ ks. some_leads c.args.nodes.now ks []) c.deref.ensures.value ∙ there_behind AnyTag c.args.nodes.now c.args.numbers.now js c.in_ok-below.ensures some
