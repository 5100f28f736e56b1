use Rattle.std.proofs.Common.{inl, refl, sym, ◌∙◌}
use Rattle.std.specs.Cmp.Lexicographic.{nat_list_cmp_total}
use Rattle.std.proofs.lemmas.Map.Lookups.{exact_bytes}
use Rattle.policy_values.specs.Uid.{uid_cmp_total, exact_uid}
use Rattle.schema_core.proofs.Members.{same_keys, same_reach}
use Rattle.schema_core.proofs.parts.with_descendants.Goals as goal

pub returns-clause-descendants : goal.returns-clause-descendants
returns-clause-descendants c = record {
  has_type = same_keys nat_list_cmp_total exact_bytes c.args.listing.types.entries c.in_ok-types.types.entries (λ y h. c.requires.names.named_types y (inl (inl h))) c.in_ok-types.ensures.keys.each c.in_ok-types.ensures.keys.only;
  has_action = same_keys uid_cmp_total exact_uid c.args.listing.actions.entries c.in_ok-actions.actions.entries c.requires.names.named_actions c.in_ok-actions.ensures.keys.each c.in_ok-actions.ensures.keys.only;
  types = same_reach nat_list_cmp_total exact_bytes c.args.listing.types.entries c.in_ok-types.types.entries c.in_ok-types.ensures.below;
  actions = same_reach uid_cmp_total exact_uid c.args.listing.actions.entries c.in_ok-actions.actions.entries c.in_ok-actions.ensures.below;
  principals = λ u y. refl;
  resources = λ u y. refl;
  kinds = λ x. refl;
  contexts = λ u. refl;
}

pub returns-clause-listing : goal.returns-clause-listing
returns-clause-listing c =
    let types = same_keys nat_list_cmp_total exact_bytes c.args.listing.types.entries c.in_ok-types.types.entries (λ y h. c.requires.names.named_types y (inl (inl h))) c.in_ok-types.ensures.keys.each c.in_ok-types.ensures.keys.only in
    let actions = same_keys uid_cmp_total exact_uid c.args.listing.actions.entries c.in_ok-actions.actions.entries c.requires.names.named_actions c.in_ok-actions.ensures.keys.each c.in_ok-actions.ensures.keys.only in
    record {
      types = c.in_ok-types.ensures.ordered;
      actions = c.in_ok-actions.ensures.ordered;
      principals = c.requires.listing.principals;
      resources = c.requires.listing.resources;
      with_kinds = λ x. c.requires.listing.with_kinds x ∙ sym (types x);
      with_principals = λ u. c.requires.listing.with_principals u ∙ sym (actions u);
      with_resources = λ u. c.requires.listing.with_resources u ∙ sym (actions u);
      with_contexts = λ u. c.requires.listing.with_contexts u ∙ sym (actions u);
    }
