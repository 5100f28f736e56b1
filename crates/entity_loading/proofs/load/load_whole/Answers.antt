use Rattle.std.proofs.Common.{inr, [], refl, sym, ap, ◌∙◌, subst, arith}
use Rattle.std.proofs.lemmas.Result.{err_from_is_err_and}
use Rattle.std.specs.BTreeMap.{get}
use Rattle.std.specs.Option.{option_map}
use Rattle.policy_values.specs.Uid.{uid_cmp}
use Rattle.reads_spec.specs.Restrict.{part}
use Rattle.entity_loading.specs.Joining.{IsAskedFor, IsJoined}
use Rattle.entity_loading.specs.KeptPart.{IsState, IsBegun}
use Rattle.entity_store.specs.FromParents.{without_links}
use Rattle.entity_loading.specs.Causes.{IsRight}
use Rattle.entity_loading.specs.Right.{CannotStep, BlocksAt}
use Rattle.entity_loading.specs.Unasked.{DemandNothing}
use Rattle.entity_loading.proofs.BetweenSteps.{part_at, left_ascends, loaded_between}
use Rattle.entity_loading.proofs.RightSteps.{right_later}
use Rattle.entity_loading.proofs.RoundSteps.{goes_on_here}
use Rattle.entity_loading.proofs.StateSteps.{loaded}
use Rattle.entity_loading.proofs.UnaskedSteps.{nothing_begun, undemanding_begun}
use Rattle.entity_loading.specs.Begun.{PathsWithin, IsFirst}
use Rattle.entity_loading.proofs.load.load_whole.Goals as goal

pub load_rounds-requires-clause-start : goal.load_rounds-requires-clause-start
load_rounds-requires-clause-start g c = λ q h. subst (λ ns. IsFirst ns q) (sym c.nodes.ensures.nodes) (c.in-Ok.ensures.first q h)

pub returns-in_err-loaded-clause-nothing : goal.returns-in_err-loaded-clause-nothing
returns-in_err-loaded-clause-nothing g c = λ bare.
    let none = c.load_rounds.ensures.none (nothing_begun c.args.trie.now c.args.request.now c.in-Ok.start.keys c.in-Ok.ensures.asked c.in-Ok.ensures.leads bare c.in-Ok.ensures.first) in
    (none.0, none.1)

pub returns-in_err-kept-clause-nothing : goal.returns-in_err-kept-clause-nothing
returns-in_err-kept-clause-nothing g c = λ bare.
    let none = c.in_ok-loaded.ensures.none (nothing_begun c.args.trie.now c.args.request.now c.in-Ok.start.keys c.in-Ok.ensures.asked c.in-Ok.ensures.leads bare c.in-Ok.ensures.first) in
    (c.with_ancestors.ensures.unasked (subst (DemandNothing c.nodes-2.result.now) (sym none.2) (λ x ms r. refl)) ∙ none.0, none.1)

pub returns-in_err-store_of-clause-nothing : goal.returns-in_err-store_of-clause-nothing
returns-in_err-store_of-clause-nothing g c = λ bare.
    let none = c.in_ok-loaded.ensures.none (nothing_begun c.args.trie.now c.args.request.now c.in-Ok.start.keys c.in-Ok.ensures.asked c.in-Ok.ensures.leads bare c.in-Ok.ensures.first) in
    (c.with_ancestors.ensures.unasked (subst (DemandNothing c.nodes-2.result.now) (sym none.2) (λ x ms r. refl)) ∙ none.0, none.1)

pub returns-clause-nothing : goal.returns-clause-nothing
returns-clause-nothing g c = λ bare.
    let none = c.in_ok-loaded.ensures.none (nothing_begun c.args.trie.now c.args.request.now c.in-Ok.start.keys c.in-Ok.ensures.asked c.in-Ok.ensures.leads bare c.in-Ok.ensures.first) in
    (c.with_ancestors.ensures.unasked (subst (DemandNothing c.nodes-2.result.now) (sym none.2) (λ x ms r. refl)) ∙ none.0, none.1)

pub returns-in_err-kept-clause-undemanded : goal.returns-in_err-kept-clause-undemanded
returns-in_err-kept-clause-undemanded g c = λ none.
    let begun = undemanding_begun c.args.trie.now c.args.request.now c.in-Ok.start.keys c.in-Ok.ensures.asked c.in-Ok.ensures.leads none in
    let quiet = c.in_ok-loaded.ensures.quiet (subst (λ t. DemandNothing t c.in-Ok.start.keys) (sym c.nodes.ensures.nodes) begun) in
    ap (λ s. s.lists) (c.with_ancestors.ensures.unasked (subst (λ t. DemandNothing t c.in_ok-loaded.loaded.asked.keys) (c.nodes.ensures.nodes ∙ sym c.nodes-2.ensures.nodes) quiet))
    ∙ c.load_rounds.ensures.lists

pub returns-in_err-store_of-clause-undemanded : goal.returns-in_err-store_of-clause-undemanded
returns-in_err-store_of-clause-undemanded g c = λ none.
    let begun = undemanding_begun c.args.trie.now c.args.request.now c.in-Ok.start.keys c.in-Ok.ensures.asked c.in-Ok.ensures.leads none in
    let quiet = c.in_ok-loaded.ensures.quiet (subst (λ t. DemandNothing t c.in-Ok.start.keys) (sym c.nodes.ensures.nodes) begun) in
    ap (λ s. s.lists) (c.with_ancestors.ensures.unasked (subst (λ t. DemandNothing t c.in_ok-loaded.loaded.asked.keys) (c.nodes.ensures.nodes ∙ sym c.nodes-2.ensures.nodes) quiet))
    ∙ c.load_rounds.ensures.lists

pub returns-clause-undemanded : goal.returns-clause-undemanded
returns-clause-undemanded g c = λ none.
    let begun = undemanding_begun c.args.trie.now c.args.request.now c.in-Ok.start.keys c.in-Ok.ensures.asked c.in-Ok.ensures.leads none in
    let quiet = c.in_ok-loaded.ensures.quiet (subst (λ t. DemandNothing t c.in-Ok.start.keys) (sym c.nodes.ensures.nodes) begun) in
    ap (λ s. s.lists) (c.with_ancestors.ensures.unasked (subst (λ t. DemandNothing t c.in_ok-loaded.loaded.asked.keys) (c.nodes.ensures.nodes ∙ sym c.nodes-2.ensures.nodes) quiet))
    ∙ c.load_rounds.ensures.lists

pub returns-in_err-loaded-clause-rounds : goal.returns-in_err-loaded-clause-rounds
returns-in_err-loaded-clause-rounds g c = λ n w. c.load_rounds.ensures.rounds n (subst (λ ns. PathsWithin ns n) (sym c.nodes.ensures.nodes) w)

pub returns-in_err-loaded-clause-steps : goal.returns-in_err-loaded-clause-steps
returns-in_err-loaded-clause-steps g c = λ n w. c.load_rounds.ensures.steps n (subst (λ ns. PathsWithin ns n) (sym c.nodes.ensures.nodes) w)

pub returns-in_err-kept-clause-rounds : goal.returns-in_err-kept-clause-rounds
returns-in_err-kept-clause-rounds g c = λ n w.
    let a = c.load_rounds.ensures.rounds n (subst (λ ns. PathsWithin ns n) (sym c.nodes.ensures.nodes) w) in
    let b = c.with_ancestors.ensures.rounds in
    omega (arith, a, b)

pub returns-in_err-kept-clause-steps : goal.returns-in_err-kept-clause-steps
returns-in_err-kept-clause-steps g c = λ n w. c.load_rounds.ensures.steps n (subst (λ ns. PathsWithin ns n) (sym c.nodes.ensures.nodes) w)

pub returns-in_err-store_of-clause-rounds : goal.returns-in_err-store_of-clause-rounds
returns-in_err-store_of-clause-rounds g c = λ n w.
    let a = c.load_rounds.ensures.rounds n (subst (λ ns. PathsWithin ns n) (sym c.nodes.ensures.nodes) w) in
    let b = c.with_ancestors.ensures.rounds in
    omega (arith, a, b)

pub returns-in_err-store_of-clause-steps : goal.returns-in_err-store_of-clause-steps
returns-in_err-store_of-clause-steps g c = λ n w. c.load_rounds.ensures.steps n (subst (λ ns. PathsWithin ns n) (sym c.nodes.ensures.nodes) w)

pub returns-clause-rounds : goal.returns-clause-rounds
returns-clause-rounds g c = λ n w.
    let a = c.load_rounds.ensures.rounds n (subst (λ ns. PathsWithin ns n) (sym c.nodes.ensures.nodes) w) in
    let b = c.with_ancestors.ensures.rounds in
    omega (arith, a, b)

pub returns-clause-steps : goal.returns-clause-steps
returns-clause-steps g c = λ n w. c.load_rounds.ensures.steps n (subst (λ ns. PathsWithin ns n) (sym c.nodes.ensures.nodes) w)

pub returns-clause-honest : goal.returns-clause-honest
returns-clause-honest g c = λ s known order.
    let ns = c.args.trie.now in
    let q = c.args.request.now in
    let exact = (g.D.EntityLoader.state c.args.loader.now).exact in
    let begun : IsBegun ns q s c.in-Ok.start.keys = record { asked = c.in-Ok.ensures.asked; leads = c.in-Ok.ensures.leads; order = order } in
    let state = subst (λ t. IsState exact t q s c.in_ok-loaded.loaded.asked.keys [] (get uid_cmp c.in_ok-loaded.loaded.kept)) c.nodes.ensures.nodes
    (c.in_ok-loaded.ensures.honest s known q (subst (λ t. IsBegun t q s c.in-Ok.start.keys) (sym c.nodes.ensures.nodes) begun)) in
    loaded exact ns q s c.in_ok-store_of.field-0 c.in_ok-loaded.loaded.asked.keys (get uid_cmp c.in_ok-loaded.loaded.kept) state
    (λ x. ap (option_map without_links) (c.in_ok-store_of.ensures.at x) ∙ c.in_ok-kept.ensures.alike x)

pub returns-clause-between : goal.returns-clause-between
returns-clause-between g c = λ s known order ids reads demands fit.
    let ns = c.args.trie.now in
    let q = c.args.request.now in
    let exact = (g.D.EntityLoader.state c.args.loader.now).exact in
    let loaded = c.in_ok-loaded.loaded in
    let kept = get uid_cmp loaded.kept in
    let new = get uid_cmp c.in_ok-kept.kept in
    let begun : IsBegun ns q s c.in-Ok.start.keys = record { asked = c.in-Ok.ensures.asked; leads = c.in-Ok.ensures.leads; order = order } in
    let state = subst (λ t. IsState exact t q s loaded.asked.keys [] kept) c.nodes.ensures.nodes
    (c.in_ok-loaded.ensures.honest s known q (subst (λ t. IsBegun t q s c.in-Ok.start.keys) (sym c.nodes.ensures.nodes) begun)) in
    let joined = subst (λ e. IsJoined e s (IsAskedFor c.nodes-2.result.now q loaded.asked.keys (part state.part.choice s)) kept new) c.load_rounds.ensures.goes_on.exact
    (c.in_ok-kept.ensures.honest s (c.load_rounds.ensures.goes_on.known s known) (part state.part.choice s) (λ x. part_at state.part.choice s x ∙ sym (state.part.is x))) in
    loaded_between exact ns q s loaded.asked.keys kept new state order
    (subst (λ t. IsJoined exact s (IsAskedFor t q loaded.asked.keys (part state.part.choice s)) kept new) c.nodes-2.ensures.nodes joined)
    c.in_ok-kept.ensures.alike (c.in_ok-kept.ensures.ascending (left_ascends state.part.choice s kept order state.part.is))
    reads demands fit ids c.in_ok-store_of.field-0 c.in_ok-store_of.ensures.at c.in_ok-store_of.ensures.ascending

pub returns-in_err-loaded-clause-right : goal.returns-in_err-loaded-clause-right
returns-in_err-loaded-clause-right g c = λ s known order.
    let ns = c.args.trie.now in
    let q = c.args.request.now in
    let old = g.D.EntityLoader.state c.args.loader.now in
    let new = g.D.EntityLoader.state c.load_rounds.new.loader in
    let begun : IsBegun ns q s c.in-Ok.start.keys = record { asked = c.in-Ok.ensures.asked; leads = c.in-Ok.ensures.leads; order = order } in
    let exit = err_from_is_err_and c.from_residual.result c.from_residual.ensures.1 in
    rw (exit.1, exit.2)
    (right_later (CannotStep ns q s) (BlocksAt ns q s) old old new (goes_on_here old) (λ v h. inr h) c.in_err-loaded.field-0.0
    (subst (λ t. IsRight (CannotStep t q s) old new c.in_err-loaded.field-0.0) c.nodes.ensures.nodes (c.in_err-loaded.ensures.right s known q (subst (λ t. IsBegun t q s c.in-Ok.start.keys) (sym c.nodes.ensures.nodes) begun))))

pub returns-in_err-kept-clause-right : goal.returns-in_err-kept-clause-right
returns-in_err-kept-clause-right g c = λ s known order.
    let old = g.D.EntityLoader.state c.args.loader.now in
    let mid = g.D.EntityLoader.state c.load_rounds.new.loader in
    let exit = err_from_is_err_and c.from_residual-in_err-kept.result c.from_residual-in_err-kept.ensures.1 in
    rw (exit.1, exit.2)
    (right_later (λ v. ⊥) (BlocksAt c.args.trie.now c.args.request.now s) old mid (g.D.EntityLoader.state c.with_ancestors.new.loader) c.load_rounds.ensures.goes_on (λ v h. absurd h) c.in_err-kept.field-0.0
    (c.in_err-kept.ensures.right s (c.load_rounds.ensures.goes_on.known s known)))

pub returns-in_err-kept-clause-counted : goal.returns-in_err-kept-clause-counted
returns-in_err-kept-clause-counted g c = let a = c.load_rounds.ensures.counted in let b = c.with_ancestors.ensures.rounds in omega (arith, a, b)

pub returns-in_err-store_of-clause-counted : goal.returns-in_err-store_of-clause-counted
returns-in_err-store_of-clause-counted g c = let a = c.load_rounds.ensures.counted in let b = c.with_ancestors.ensures.rounds in omega (arith, a, b)

pub returns-clause-counted : goal.returns-clause-counted
returns-clause-counted g c = let a = c.load_rounds.ensures.counted in let b = c.with_ancestors.ensures.rounds in omega (arith, a, b)
