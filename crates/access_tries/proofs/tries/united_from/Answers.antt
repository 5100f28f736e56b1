use Rattle.std.proofs.Common.{arith, length, subst, sym, ap, ◌∙◌}
use Rattle.access_tries.specs.Views.{IsWith}
use Rattle.access_tries.proofs.With.{with_nothing, with_united}
use Rattle.access_tries.proofs.tries.united_from.Goals as goal
use Rattle.access_tries.proofs.tries.united_from.Goals.{then-a-gt0+in_ok-unite, else-a-gt0+else-number-b}

pub returns-clause-with : goal.returns-clause-with
returns-clause-with c =
    elim c.if-a-gt0.branch [
      | then-a-gt0+in_ok-unite w ↦
          let e = w.in_ok-unite.ensures in
          subst (λ v. IsWith c.args.a.now (record { nodes = c.args.b.now; number = c.args.number }) v.items) (sym w.nodes-is)
          (with_united c.args.a.now c.args.b.now w.unite.new.nodes.items c.args.number w.in_ok-unite.field-0 (e.number.0 ∙ ap (λ l. length l) c.new-nodes.ensures.items) e.present e.marked)
      | else-a-gt0+else-number-b w ↦
          subst (λ ns. IsWith c.args.a.now (record { nodes = c.args.b.now; number = c.args.number }) ns) (sym (ap (λ v. v.items) w.nodes-is ∙ c.new-nodes.ensures.items))
          (with_nothing c.args.a.now c.args.b.now c.args.number (omega (arith, w.if-a-gt0.false)) w.if-number-b.false)
    ]
