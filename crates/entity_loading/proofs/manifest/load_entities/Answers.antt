use Rattle.std.proofs.Common.{◌≡◌, Option, Some, sym, ap, ◌∙◌, subst}
use Rattle.std.specs.Option.{option_copied}
use Rattle.access_tries.specs.Table.{Table}
use Rattle.entity_loading.specs.Begun.{PathsWithin}
use Rattle.manifest_core.specs.Manifest.{trie_for}
use Rattle.entity_loading.specs.Unasked.{DemandsNothing, ReadsNothing}
use Rattle.entity_loading.proofs.manifest.load_entities.Goals as goal

same_trie : (t u : Table) (o : Option Table) → Some t ≡ o → o ≡ Some u → u ≡ t
same_trie t u o e f = let both : Some t ≡ Some u = e ∙ f in cc

pub returns-in-Some-clause-rounds : goal.returns-in-Some-clause-rounds
returns-in-Some-clause-rounds g c = λ t chosen n within.
    c.load_trie.ensures.rounds n (subst (λ u. PathsWithin u n) (same_trie c.in-Some.trie.now t (trie_for c.args.manifest.now c.args.request.now) (sym (ap option_copied c.in-Some.is) ∙ c.in_ok-trie.ensures) chosen) within)

pub returns-in-Some-clause-steps : goal.returns-in-Some-clause-steps
returns-in-Some-clause-steps g c = λ t chosen n within.
    c.load_trie.ensures.steps n (subst (λ u. PathsWithin u n) (same_trie c.in-Some.trie.now t (trie_for c.args.manifest.now c.args.request.now) (sym (ap option_copied c.in-Some.is) ∙ c.in_ok-trie.ensures) chosen) within)

pub returns-in-Some-clause-nothing : goal.returns-in-Some-clause-nothing
returns-in-Some-clause-nothing g c = λ t chosen bare.
    c.load_trie.ensures.nothing (subst ReadsNothing (same_trie c.in-Some.trie.now t (trie_for c.args.manifest.now c.args.request.now) (sym (ap option_copied c.in-Some.is) ∙ c.in_ok-trie.ensures) chosen) bare)

pub returns-in-Some-clause-undemanded : goal.returns-in-Some-clause-undemanded
returns-in-Some-clause-undemanded g c = λ t chosen none.
    c.load_trie.ensures.undemanded (subst DemandsNothing (same_trie c.in-Some.trie.now t (trie_for c.args.manifest.now c.args.request.now) (sym (ap option_copied c.in-Some.is) ∙ c.in_ok-trie.ensures) chosen) none)
