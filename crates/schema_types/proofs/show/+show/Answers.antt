use Rattle.std.proofs.Common.{ap, ◌∙◌, sym, subst, arith, true, refl}
use Rattle.schema_types.specs.Ty.{size_of_attrs}
use Rattle.schema_types.specs.TyView.{attrs_of}
use Rattle.schema_types.specs.TyText.{attrs_text}
use Rattle.schema_types.proofs.ShowSteps.{IsLeft, left_all, left_less}
use Rattle.schema_types.proofs.show.+show.Goals as goal

pub show_attributes-loop-key-preserved : goal.show_attributes-loop-key-preserved
show_attributes-loop-key-preserved g t c = record {
  left = λ p.
      let before = c.loop-key.invariant.left p in
      left_less g.W.Write.write_str_gives c.args.f.now c.loop-key.f c.show_attribute.new.f (attrs_text c.args.a.now) (attrs_text (attrs_of c.loop-key.key-iterator)) (attrs_text (attrs_of c.next.new.self)) _ before (ap (λ es. attrs_text (attrs_of es)) c.in-Some.ensures.steps) (c.in_ok-show_attribute.ensures before.wrote.plain (refl {a = true}));
  size = omega (arith, c.loop-key.invariant.size, ap (λ es. size_of_attrs (attrs_of es)) c.in-Some.ensures.steps);
}

pub show_attributes-loop-key-init : goal.show_attributes-loop-key-init
show_attributes-loop-key-init g t c =
    let whole = ap attrs_of (c.into_iter-key-iterator.ensures.into_iter_gives ∙ c.iter-key-items.ensures.rest) ∙ c.entries.ensures in
    record {
      left = λ p. subst (λ xs. IsLeft g.W.Write.write_str_gives c.args.f.now (attrs_text c.args.a.now) (attrs_text xs) c.args.f.now) (sym whole) (left_all g.W.Write.write_str_gives c.args.f.now (attrs_text c.args.a.now) p);
      size = omega (arith, ap size_of_attrs whole);
    }
