use Rattle.std.proofs.Common.{ap, arith, true, refl}
use Rattle.schema_types.specs.Ty.{size_of_attrs}
use Rattle.schema_types.specs.TyView.{attrs_of}
use Rattle.type_relations.specs.Subtype.{Covers}
use Rattle.type_relations.proofs.Pending.{pending, pending_next, covers_turn, one_walk}
use Rattle.type_relations.proofs.subtype.+subtype.Goals as goal

pub covers-loop-key-preserved-then-is_below : goal.covers-loop-key-preserved-then-is_below
covers-loop-key-preserved-then-is_below t c = record {
  left = covers_turn c.args.mode (Covers c.args.mode c.args.a.now c.args.b.now) (attrs_of c.loop-key.key-iterator) (attrs_of (pending c.loop-key.expected c.loop-key.rest)) (attrs_of (pending c.next-expected-then-is_below.result c.next-expected-then-is_below.new.self))
      c.in-Some.key.now c.in-Some.x.now.attr_type c.in-Some.x.now.is_required (attrs_of c.next.new.self) c.in-Some-expected.other.now c.in-Some-expected.y.now.attr_type c.in-Some-expected.y.now.is_required (attrs_of c.loop-key.rest)
      c.loop-key.invariant.left (ap attrs_of c.in-Some.ensures.steps) (ap (λ o. attrs_of (pending o c.loop-key.rest)) c.in-Some-expected.is)
      (ap attrs_of (pending_next c.next-expected-then-is_below.result c.loop-key.rest c.next-expected-then-is_below.new.self c.next-expected-then-is_below.ensures.steps))
      (c.if-same_text.ensures.0 refl) (c.if-is_below.ensures.0 refl);
  size = omega (arith, c.loop-key.invariant.size, ap (λ es. size_of_attrs (attrs_of es)) c.in-Some.ensures.steps);
}

pub is_sub_attributes-returns-then-is_open : goal.is_sub_attributes-returns-then-is_open
is_sub_attributes-returns-then-is_open t c =
    one_walk c.args.mode c.args.p c.args.a.now c.args.b.now _ (c.if-is_permissive.ensures.0 (refl {a = true})) (c.if-is_open.ensures.0 (refl {a = true})) c.covers.ensures
