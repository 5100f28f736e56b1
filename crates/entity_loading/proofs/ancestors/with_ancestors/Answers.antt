use Rattle.std.proofs.Common.{arith, sym, ◌∙◌}
use Rattle.std.specs.BTreeMap.{get}
use Rattle.policy_values.specs.Uid.{uid_cmp}
use Rattle.entity_loading.specs.Joining.{IsAskedFor}
use Rattle.entity_loading.proofs.MoreSteps.{joined, joined_none, none_counted, some_counted}
use Rattle.entity_loading.proofs.UnaskedSteps.{none_requested}
use Rattle.entity_loading.proofs.ancestors.with_ancestors.Goals as goal

pub returns-clause-honest : goal.returns-clause-honest
returns-clause-honest g c = λ s known t kept.
    joined (g.D.EntityLoader.state c.args.loader.now).exact s (IsAskedFor c.args.nodes.now c.args.request.now c.args.loaded.asked.keys t) c.in_ok-requests.requests.items (c.in_ok-requests.ensures.asked t kept) (get uid_cmp c.args.loaded.kept)
    c.in_ok-lists.lists.items (get uid_cmp c.add_all.new.kept) (c.in_ok-lists.ensures.honest s known) c.in_ok-add_all.ensures.more

pub returns-then-is_empty-clause-honest : goal.returns-then-is_empty-clause-honest
returns-then-is_empty-clause-honest g c = λ s known t kept.
    joined_none (g.D.EntityLoader.state c.args.loader.now).exact s (IsAskedFor c.args.nodes.now c.args.request.now c.args.loaded.asked.keys t) c.in_ok-requests.requests.items (c.in_ok-requests.ensures.asked t kept) (get uid_cmp c.args.loaded.kept)
    (none_counted c.in_ok-requests.requests.items c.in_ok-requests.requests.len (omega (arith, c.in_ok-requests.requests.ok)) (sym c.is_empty.ensures ∙ c.if-is_empty.true))

pub returns-in_err-lists-clause-unasked : goal.returns-in_err-lists-clause-unasked
returns-in_err-lists-clause-unasked g c = λ none.
    absurd (some_counted c.in_ok-requests.requests.items c.in_ok-requests.requests.len (omega (arith, c.in_ok-requests.requests.ok)) (sym c.is_empty.ensures ∙ c.if-is_empty.false)
    (none_requested c.args.nodes.now c.args.request.now c.args.loaded.asked.keys c.args.loaded.kept c.in_ok-requests.requests.items none c.requires.ids c.in_ok-requests.ensures.some c.in_ok-requests.ensures.asked))

pub returns-in_err-add_all-clause-unasked : goal.returns-in_err-add_all-clause-unasked
returns-in_err-add_all-clause-unasked g c = λ none.
    absurd (some_counted c.in_ok-requests.requests.items c.in_ok-requests.requests.len (omega (arith, c.in_ok-requests.requests.ok)) (sym c.is_empty.ensures ∙ c.if-is_empty.false)
    (none_requested c.args.nodes.now c.args.request.now c.args.loaded.asked.keys c.args.loaded.kept c.in_ok-requests.requests.items none c.requires.ids c.in_ok-requests.ensures.some c.in_ok-requests.ensures.asked))

pub returns-clause-unasked : goal.returns-clause-unasked
returns-clause-unasked g c = λ none.
    absurd (some_counted c.in_ok-requests.requests.items c.in_ok-requests.requests.len (omega (arith, c.in_ok-requests.requests.ok)) (sym c.is_empty.ensures ∙ c.if-is_empty.false)
    (none_requested c.args.nodes.now c.args.request.now c.args.loaded.asked.keys c.args.loaded.kept c.in_ok-requests.requests.items none c.requires.ids c.in_ok-requests.ensures.some c.in_ok-requests.ensures.asked))
