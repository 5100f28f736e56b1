use Rattle.std.proofs.Common.{◌≡◌, ℕ, List, Option, Some, ap, sym, ◌∙◌}
use Rattle.std.specs.Prelude.{if◌then◌else◌}
use Rattle.std.specs.BTreeMap.{get}
use Rattle.std.specs.Option.{option_or}
use Rattle.std.specs.Ordering.{is_eq}
use Rattle.policy_values.specs.Uid.{text_cmp}
use Rattle.policy_values.specs.Value.{Val}
use Rattle.table_loader.specs.RowsState.{attribute_at}
use Rattle.table_loader.proofs.Attributes.{put_found}
use Rattle.table_loader.proofs.Loading.{at_ok}
use Rattle.table_loader.proofs.entities.put_attribute.Goals as goal

pub returns-in_ok-put-in-Some-clause-put : goal.returns-in_ok-put-in-Some-clause-put
returns-in_ok-put-in-Some-clause-put g c = λ t known k.
    let key = c.args.key.now in
    let old = get text_cmp c.args.attrs.now k in
    let a = attribute_at t c.args.uid.now key in
    let read : c.in_ok-value.field-0 ≡ a = at_ok (λ o. o ≡ a) c.attribute.result c.in_ok-value.field-0 c.in_ok-value.ensures.ok (c.attribute.ensures.answer t known) in
    let there : Some c.in-Some.value ≡ a = sym c.in-Some.is ∙ read in
    c.in_ok-put-in-Some.ensures k ∙
    ap (λ (n : List ℕ). if is_eq (text_cmp n k) then Some c.in-Some.value else old) c.in_ok-try_clone-in-Some.ensures ∙
    ap (λ (o : Option Val). if is_eq (text_cmp key k) then option_or o old else old) there

pub returns-in-None-clause-put : goal.returns-in-None-clause-put
returns-in-None-clause-put g c = λ t known k.
    let a = attribute_at t c.args.uid.now c.args.key.now in
    let read : c.in_ok-value.field-0 ≡ a = at_ok (λ o. o ≡ a) c.attribute.result c.in_ok-value.field-0 c.in_ok-value.ensures.ok (c.attribute.ensures.answer t known) in
    put_found (is_eq (text_cmp c.args.key.now k)) a (get text_cmp c.args.attrs.now k) (sym read ∙ c.in-None.is)
