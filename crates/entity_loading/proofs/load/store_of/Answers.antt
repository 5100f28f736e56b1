use Rattle.std.proofs.Common.{◌≡◌}
use Rattle.std.proofs.lemmas.Bool.{false≢true}
use Rattle.std.proofs.lemmas.List.{nil_from_length}
use Rattle.std.proofs.lemmas.List.Elements.{recursion_from_All}
use Rattle.std.specs.Map.{keys_of}
use Rattle.std.specs.declared.cmp.Ordering.TheVariants.{Less}
use Rattle.policy_values.specs.Uid.{uid_cmp}
use Rattle.entity_loading.proofs.StoreSteps.{filling_start, filling_more, filling_done, found_in, next_above, none_long}
use Rattle.entity_loading.proofs.load.store_of.Goals as goal

pub loop-uid-init : goal.loop-uid-init
loop-uid-init c = filling_start c.args.kept c.new-store.result c.new-store.ensures c.requires

pub loop-uid-preserved : goal.loop-uid-preserved
loop-uid-preserved c =
    filling_more c.args.kept c.loop-uid.kept c.pop_first.new.self c.loop-uid.store c.loop-uid.invariant c.in-Some._uid c.in-Some.entity c.in-Some.ensures.removal c.in-Some.ensures.value
    c.push.new.self c.in_ok-push.ensures.ok (recursion_from_All (λ u. uid_cmp c.in-Some._uid u ≡ Less) (keys_of c.pop_first.new.self.entries) c.in-Some.ensures.all_above) c.in-Some.ensures.updates.0

pub push-requires : goal.push-requires
push-requires c = next_above c.args.kept c.loop-uid.kept c.pop_first.new.self c.loop-uid.store c.loop-uid.invariant c.in-Some._uid c.in-Some.entity c.in-Some.ensures.removal c.in-Some.ensures.value

pub returns-clause-at : goal.returns-clause-at
returns-clause-at c = found_in c.args.kept c.loop-uid.kept c.loop-uid.store (nil_from_length c.loop-uid.kept.entries (none_long c.loop-uid.kept (λ h. false≢true (c.in_default.ensures.variant.1 h)))) c.loop-uid.invariant

pub returns-clause-values : goal.returns-clause-values
returns-clause-values c = filling_done c.args.kept c.loop-uid.kept c.loop-uid.store (nil_from_length c.loop-uid.kept.entries (none_long c.loop-uid.kept (λ h. false≢true (c.in_default.ensures.variant.1 h)))) c.loop-uid.invariant
