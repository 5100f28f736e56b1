use Rattle.std.proofs.Common.{◌≡◌, length, vec_len}
use Rattle.std.specs.Option.{option_copied}
use Rattle.principal_listing.specs.Allowed.{passed_over, is_allowed}
use Rattle.principal_listing.proofs.Listed.{IsWalk}
use Rattle.principal_listing.proofs.listing.page_of.Given as goal

abbrev pub invariant-loop-entity : goal.invariant-loop-entity
invariant-loop-entity l = record {
  walk : IsWalk (is_allowed l.listing.schema.now l.listing.policies.now.policies l.fn.asked l.listing.entities.now) (option_copied l.after)
      l.listing.entities.now l.limit l.ids.items l.entity-iterator;
  asked : passed_over l.asked ≡ passed_over l.fn.asked;
  len : vec_len l.ids ≡ length l.ids.items;
}
