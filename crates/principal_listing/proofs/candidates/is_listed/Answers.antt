use Rattle.std.proofs.Common.{◌≡◌, true, sym, ap, ◌∙◌, subst}
use Rattle.std.specs.Option.{option_copied}
use Rattle.std.proofs.lemmas.Result.{IfOk-weaker}
use Rattle.policy_set.specs.Response.{response}
use Rattle.entity_store.specs.Request.{IsWhole}
use Rattle.principal_listing.specs.Allowed.{asked_by, passed_over, is_allow}
use Rattle.principal_listing.specs.Ready.{is_candidate}
use Rattle.principal_listing.proofs.Ready.{listed, no_candidate, a_candidate, applies_there}
use Rattle.principal_listing.proofs.Unmet.{denied}
use Rattle.principal_listing.proofs.candidates.is_listed.Goals as goal

pub is_allowed-requires : goal.is_allowed-requires
is_allowed-requires c =
    let l = c.args.listing.now in
    let q = c.args.asked.now in
    let e = c.args.entity.now in
    let same : c.in_ok-principal.principal ≡ e.uid = c.in_ok-principal.ensures ∙ c.uid-uid.ensures in
    let test : is_candidate (option_copied l.action) (option_copied c.args.after) e.uid ≡ true =
    ap (is_candidate (option_copied l.action) (option_copied c.args.after)) (sym c.uid-uid.ensures) ∙ sym c.is_candidate.ensures ∙ c.if-not-is_candidate.false in
    subst (λ u. IsWhole (asked_by q u)) (sym same)
    (c.candidates_keep_rules.ensures l.schema.now c.requires.ready.schema l.policies.now (passed_over q) l.entities.now c.requires.ready.rules e c.requires.entity
    (applies_there l q c.requires.ready (option_copied c.args.after) e.uid test)).whole

pub returns-clause-listed : goal.returns-clause-listed
returns-clause-listed c =
    let l = c.args.listing.now in
    let q = c.args.asked.now in
    let e = c.args.entity.now in
    let same : c.in_ok-principal.principal ≡ e.uid = c.in_ok-principal.ensures ∙ c.uid-uid.ensures in
    let test : is_candidate (option_copied l.action) (option_copied c.args.after) e.uid ≡ true =
    ap (is_candidate (option_copied l.action) (option_copied c.args.after)) (sym c.uid-uid.ensures) ∙ sym c.is_candidate.ensures ∙ c.if-not-is_candidate.false in
    IfOk-weaker c.is_allowed.result
    (λ b. b ≡ is_allow (response l.policies.now.policies (asked_by q c.in_ok-principal.principal) l.entities.now).decision)
    (λ b. b ≡ listed l q c.requires.ready (option_copied c.args.after) e.uid)
    (λ b h. h ∙ ap (λ u. is_allow (response l.policies.now.policies (asked_by q u) l.entities.now).decision) same
    ∙ a_candidate l q c.requires.ready (option_copied c.args.after) e.uid test)
    c.is_allowed.ensures

pub returns-then-not-some_lets_in-clause-listed : goal.returns-then-not-some_lets_in-clause-listed
returns-then-not-some_lets_in-clause-listed c =
    let l = c.args.listing.now in
    let q = c.args.asked.now in
    let e = c.args.entity.now in
    let test : is_candidate (option_copied l.action) (option_copied c.args.after) e.uid ≡ true =
    ap (is_candidate (option_copied l.action) (option_copied c.args.after)) (sym c.uid-uid.ensures) ∙ sym c.is_candidate.ensures ∙ c.if-not-is_candidate.false in
    denied q l.entities.now e l.policies.now.policies c.requires.ready.store.ids c.requires.entity c.requires.ready.set.policies
    (sym c.some_lets_in.ensures ∙ c.if-not-some_lets_in.true)
    ∙ a_candidate l q c.requires.ready (option_copied c.args.after) e.uid test
