use Rattle.std.proofs.Common.{rules, ◌≡◌, sym, ap, arith}
use Rattle.std.proofs.lemmas.Result.{on_ok_weaker}
use Rattle.access_tries.specs.declared.edge.EntityRoot.TheVariants.{Var}
use Rattle.policy_expressions.specs.declared.kinds.Var.TheVariants.{Principal, Action, Resource}
use Rattle.reads_spec.specs.Restrict.{root_value}
use Rattle.entity_loading.proofs.WaitSteps.{gives_also}
use Rattle.entity_loading.proofs.roots.name_root.Goals as goal

pub returns-in-Literal-clause-named : goal.returns-in-Literal-clause-named
returns-in-Literal-clause-named c =
    on_ok_weaker c.name_later.result
    (λ f s. gives_also s c.args.trie.now c.args.ids.now _ _ (ap (root_value c.args.request.now) (sym c.in-Literal.is)) c.args.waiting.now c.name_later.new.waiting (f s))
    c.name_later.ensures.named

pub returns-in-Literal-clause-later : goal.returns-in-Literal-clause-later
returns-in-Literal-clause-later c = on_ok_weaker c.name_later.result (λ f. f 0 (omega arith)) c.name_later.ensures.later

pub returns-in-Var-Principal-clause-named : goal.returns-in-Var-Principal-clause-named
returns-in-Var-Principal-clause-named c =
    let is : c.args.root.now ≡ Var Principal = search rules in
    on_ok_weaker c.name_entry.result
    (λ f s. gives_also s c.args.trie.now c.args.ids.now _ _ (ap (root_value c.args.request.now) (sym is)) c.args.waiting.now c.name_entry.new.waiting (f s))
    c.name_entry.ensures.named

pub returns-in-Var-Action-clause-named : goal.returns-in-Var-Action-clause-named
returns-in-Var-Action-clause-named c =
    let is : c.args.root.now ≡ Var Action = search rules in
    on_ok_weaker c.name_entry-in-Var-Action.result
    (λ f s. gives_also s c.args.trie.now c.args.ids.now _ _ (ap (root_value c.args.request.now) (sym is)) c.args.waiting.now c.name_entry-in-Var-Action.new.waiting (f s))
    c.name_entry-in-Var-Action.ensures.named

pub returns-in-Var-Resource-clause-named : goal.returns-in-Var-Resource-clause-named
returns-in-Var-Resource-clause-named c =
    let is : c.args.root.now ≡ Var Resource = search rules in
    on_ok_weaker c.name_entry-in-Var-Resource.result
    (λ f s. gives_also s c.args.trie.now c.args.ids.now _ _ (ap (root_value c.args.request.now) (sym is)) c.args.waiting.now c.name_entry-in-Var-Resource.new.waiting (f s))
    c.name_entry-in-Var-Resource.ensures.named
