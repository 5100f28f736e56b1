use Rattle.std.proofs.Common.{◌≡◌, ◌∙◌, sym, subst, true, cond}
use Rattle.std.specs.BTreeMap.{is_at}
use Rattle.std.specs.BTreeSet.{contains}
use Rattle.policy_values.specs.declared.entity_uid.EntityUID.{EntityUID}
use Rattle.policy_values.specs.Uid.{uid_cmp}
use Rattle.sqlite.specs.Held.{state}
use Rattle.entity_files.specs.Rows.{known_entities}
use Rattle.entity_files.proofs.Added.{added}
use Rattle.entity_files.proofs.fetched.Fetched.fetch.Goals as goal

pub returns-clause-fetched : goal.returns-clause-fetched
returns-clause-fetched g c =
    added (known_entities (state g.S.Store c.args.conn.now)) (known_entities (state g.S.Store c.find_entity.new.conn)) c.args.self.now c.add.new.self c.args.uid.now c.in_ok-entity.entity
    c.find_entity.ensures.goes_on c.requires.fetched (sym c.contains.ensures ∙ c.if-contains.false) c.in_ok-entity.ensures.id c.in_ok-entity.ensures.honest
    (subst (λ v. (q : EntityUID) → contains uid_cmp c.add.new.self.seen q ≡ cond (is_at (uid_cmp v) q) true (contains uid_cmp c.args.self.now.seen q)) c.in_ok-try_clone.ensures c.in_ok-add.ensures.seen)
    c.in_ok-add.ensures.found
