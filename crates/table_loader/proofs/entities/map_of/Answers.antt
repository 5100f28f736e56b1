use Rattle.std.proofs.Common.{arith}
use Rattle.std.specs.BTreeMap.{get}
use Rattle.plain_lemmas.proofs.Lists.{empty_of_length}
use Rattle.policy_values.specs.Uid.{text_cmp}
use Rattle.entity_store.proofs.FieldsFound.{field_found}
use Rattle.table_loader.proofs.Entries.{filling_more, filling_done}
use Rattle.table_loader.proofs.entities.map_of.Goals as goal

pub loop-key-preserved : goal.loop-key-preserved
loop-key-preserved c =
    filling_more c.args.entries.items c.pop.new.self.items c.loop-key.entries.items (c.in-Some.key, c.in-Some.value)
    (get text_cmp c.loop-key.map) (get text_cmp c.put.new.attrs) c.in-Some.ensures.items c.loop-key.invariant c.in_ok-put.ensures

pub returns : goal.returns
returns c =
    let es = c.loop-key.map.entries in
    filling_done c.args.entries.items c.loop-key.entries.items es (get text_cmp c.loop-key.map)
    (empty_of_length c.loop-key.entries.items (omega (arith, c.loop-key.entries.ok, c.in_default.ensures.cases.0)))
    c.loop-key.invariant (λ k. field_found k es) c.len-count.ensures.ordered
