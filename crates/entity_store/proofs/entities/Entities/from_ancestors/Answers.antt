use Rattle.entity_store.proofs.entities.Entities.from_ancestors.Goals as goal

pub returns-in-Some : goal.returns-in-Some
returns-in-Some c = rw (c.in-Some.is, c.deref.ensures.value) at c.in_ok-repeated.ensures

pub under_ids-requires : goal.under_ids-requires
under_ids-requires c = rw (c.in_default.is, c.deref.ensures.value) at c.in_ok-repeated.ensures

pub returns : goal.returns
returns c = record {
  once = rw (c.in_default.is, c.deref.ensures.value) at c.in_ok-repeated.ensures;
  ordered = c.in_ok-under_ids.ensures.ordered;
  kept = c.in_ok-under_ids.ensures.kept;
  ascending = c.in_ok-under_ids.ensures.ascending;
}
