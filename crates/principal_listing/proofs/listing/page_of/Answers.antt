use Rattle.std.proofs.Common.{◌≡◌, ◌+◌, ◌&&◌, true, false, [], ◌∷◌, ◌++◌, length, refl, sym, ap, ◌∙◌, subst, inl, length-append}
use Rattle.std.specs.Option.{option_copied}
use Rattle.principal_listing.specs.Allowed.{is_allowed}
use Rattle.principal_listing.specs.Pages.{comes_after}
use Rattle.principal_listing.proofs.Listed.{IsWalk, walk_start, walk_skipped, walk_taken, full_page, last_page}
use Rattle.principal_listing.proofs.listing.page_of.Goals as goal

pub loop-entity-init : goal.loop-entity-init
loop-entity-init c =
    let l = c.args.listing.now in
    rw (c.into_iter-entity-iterator.ensures.into_iter_gives, c.iter-entity-items.ensures.rest, c.new-ids.ensures.items, c.new-ids.ensures.len) (record {
      walk = walk_start (is_allowed l.schema.now l.policies.now.policies c.args.asked.now l.entities.now) (option_copied c.args.after) l.entities.now c.args.limit;
      asked = refl;
      len = refl;
    })

pub is_listed-requires-clause-entity : goal.is_listed-requires-clause-entity
is_listed-requires-clause-entity c = (rw c.in-Some.ensures.steps at c.loop-entity.invariant.walk).among c.in-Some.entity.now (inl refl)

pub loop-entity-preserved-then-not-listed : goal.loop-entity-preserved-then-not-listed
loop-entity-preserved-then-not-listed c =
    let l = c.args.listing.now in
    let x = option_copied c.args.after in
    let e = c.in-Some.entity.now in
    let test : (comes_after x e.uid && is_allowed l.schema.now l.policies.now.policies c.args.asked.now l.entities.now e.uid) ≡ false =
    ap (λ q. comes_after x e.uid && is_allowed l.schema.now l.policies.now.policies q l.entities.now e.uid) (sym c.loop-entity.invariant.asked)
    ∙ sym c.in_ok-listed.ensures.listed ∙ c.if-not-listed.true in
    record {
      walk = walk_skipped (is_allowed l.schema.now l.policies.now.policies c.args.asked.now l.entities.now) x l.entities.now c.args.limit
          c.loop-entity.ids.items e c.next.new.self (rw c.in-Some.ensures.steps at c.loop-entity.invariant.walk) test;
      asked = c.is_listed.ensures.asked ∙ c.loop-entity.invariant.asked;
      len = c.loop-entity.invariant.len;
    }

pub loop-entity-preserved : goal.loop-entity-preserved
loop-entity-preserved c =
    let l = c.args.listing.now in
    let x = option_copied c.args.after in
    let e = c.in-Some.entity.now in
    let ids = c.loop-entity.ids.items in
    let p = is_allowed l.schema.now l.policies.now.policies c.args.asked.now l.entities.now in
    let test : (comes_after x e.uid && p e.uid) ≡ true =
    ap (λ q. comes_after x e.uid && is_allowed l.schema.now l.policies.now.policies q l.entities.now e.uid) (sym c.loop-entity.invariant.asked)
    ∙ sym c.in_ok-listed.ensures.listed ∙ c.if-not-listed.false in
    let items : c.push.new.self.items ≡ ids ++ e.uid ∷ [] = c.in_ok-push.ensures.items ∙ ap (λ u. ids ++ u ∷ []) (c.in_ok-uid.ensures ∙ c.uid.ensures) in
    record {
      walk = subst (λ us. IsWalk p x l.entities.now c.args.limit us c.next.new.self) (sym items)
          (walk_taken p x l.entities.now c.args.limit ids e c.next.new.self (rw c.in-Some.ensures.steps at c.loop-entity.invariant.walk) test
          (λ full. c.if-len-limit.false (c.len.ensures ∙ c.loop-entity.invariant.len ∙ full)));
      asked = c.is_listed.ensures.asked ∙ c.loop-entity.invariant.asked;
      len = c.in_ok-push.ensures.len ∙ ap (λ k. k + 1) c.loop-entity.invariant.len ∙ sym (ap length items ∙ length-append ids (e.uid ∷ []));
    }

pub returns-then-len-limit : goal.returns-then-len-limit
returns-then-len-limit c =
    let l = c.args.listing.now in
    let x = option_copied c.args.after in
    let e = c.in-Some.entity.now in
    let p = is_allowed l.schema.now l.policies.now.policies c.args.asked.now l.entities.now in
    let test : (comes_after x e.uid && p e.uid) ≡ true =
    ap (λ q. comes_after x e.uid && is_allowed l.schema.now l.policies.now.policies q l.entities.now e.uid) (sym c.loop-entity.invariant.asked)
    ∙ sym c.in_ok-listed.ensures.listed ∙ c.if-not-listed.false in
    full_page p x l.entities.now c.args.limit c.loop-entity.ids.items e c.next.new.self (rw c.in-Some.ensures.steps at c.loop-entity.invariant.walk) test
    (sym c.loop-entity.invariant.len ∙ sym c.len.ensures ∙ c.if-len-limit.true) (record { ids = c.loop-entity.ids; more = true }) refl refl
