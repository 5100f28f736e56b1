use Rattle.std.proofs.Common.{◌≡◌, IfOk, [], ◌∷◌, ◌++◌, sym, ap, ◌∙◌, subst}
use Rattle.std.specs.List.Sorted.{IsStrictlySortedBy}
use Rattle.std.specs.Map.{keys_of}
use Rattle.policy_values.specs.Uid.{text_cmp}
use Rattle.policy_values.specs.Maps.{IsNext}
use Rattle.policy_values.proofs.MapSteps.{next-seam}
use Rattle.typing_spec.specs.Capability.{has_cap}
use Rattle.typing_spec.specs.Typing.{attribute_known, tag_known}
use Rattle.schema_core.specs.RequestEnvs.{env_data_of}
use Rattle.policy_expressions.specs.Tree.{mark_of, ite, conj, disj, unary, binary, attr, has, like, is_type, call, set, rec, trees_of, named_of}
use Rattle.policy_expressions.specs.TreeView.{tree_of}
use Rattle.typecheck_rules.specs.Walk.{walked}
use Rattle.typecheck_rules.specs.Operators.{attr_walked, has_walked, binary_walked, unary_walked, like_walked, is_walked, set_walked, record_walked, if_parts, reached_after, reached_besides}
use Rattle.typecheck_operators.specs.Reported.{mark, walked_of}
use Rattle.typecheck_walk.proofs.Asks.{asks_tag}
use Rattle.typecheck_walk.proofs.WalkSteps.{so_far_more, keys_more, depth_more}
use Rattle.typecheck_walk.proofs.walks.+walk.Goals as goal

pub walk-returns-in-If : goal.walk-returns-in-If
walk-returns-in-If t c =
    let s = ap (λ k. tree_of k (mark_of c.args.e.now)) (sym c.in-If.is) ∙ c.kind.ensures in
    let q = (λ i. ite (c.deref.ensures i) (c.deref-in-If.ensures i) (c.deref-in-If-2.ensures i) (mark (c.source_loc-loc.ensures i))) ∙ s in
    subst (λ x. IfOk c.walk_if.result (λ r. walked_of r ≡ walked c.args.at.now.schema.now (env_data_of c.args.at.now.env.now) c.args.caps.now x)) q c.walk_if.ensures

pub walk-returns-in-And : goal.walk-returns-in-And
walk-returns-in-And t c =
    let s = ap (λ k. tree_of k (mark_of c.args.e.now)) (sym c.in-And.is) ∙ c.kind.ensures in
    let q = (λ i. conj (c.deref-in-And.ensures i) (c.deref-in-And-2.ensures i) (mark (c.source_loc-loc.ensures i))) ∙ s in
    subst (λ x. IfOk c.walk_and.result (λ r. walked_of r ≡ walked c.args.at.now.schema.now (env_data_of c.args.at.now.env.now) c.args.caps.now x)) q c.walk_and.ensures

pub walk-returns-in-Or : goal.walk-returns-in-Or
walk-returns-in-Or t c =
    let s = ap (λ k. tree_of k (mark_of c.args.e.now)) (sym c.in-Or.is) ∙ c.kind.ensures in
    let q = (λ i. disj (c.deref-in-Or.ensures i) (c.deref-in-Or-2.ensures i) (mark (c.source_loc-loc.ensures i))) ∙ s in
    subst (λ x. IfOk c.walk_or.result (λ r. walked_of r ≡ walked c.args.at.now.schema.now (env_data_of c.args.at.now.env.now) c.args.caps.now x)) q c.walk_or.ensures

pub walk-returns-in-UnaryApp : goal.walk-returns-in-UnaryApp
walk-returns-in-UnaryApp t c =
    let s = ap (λ k. tree_of k (mark_of c.args.e.now)) (sym c.in-UnaryApp.is) ∙ c.kind.ensures in
    let q = (λ i. unary c.in-UnaryApp.op (c.deref-in-UnaryApp.ensures i) (mark (c.source_loc-loc.ensures i))) ∙ s in
    subst (λ x. IfOk c.walk_unary.result (λ r. walked_of r ≡ walked c.args.at.now.schema.now (env_data_of c.args.at.now.env.now) c.args.caps.now x)) q c.walk_unary.ensures

pub walk-returns-in-BinaryApp : goal.walk-returns-in-BinaryApp
walk-returns-in-BinaryApp t c =
    let s = ap (λ k. tree_of k (mark_of c.args.e.now)) (sym c.in-BinaryApp.is) ∙ c.kind.ensures in
    let q = (λ i. binary c.in-BinaryApp.op (c.deref-in-BinaryApp.ensures i) (c.deref-in-BinaryApp-2.ensures i) (mark (c.source_loc-loc.ensures i))) ∙ s in
    subst (λ x. IfOk c.walk_binary.result (λ r. walked_of r ≡ walked c.args.at.now.schema.now (env_data_of c.args.at.now.env.now) c.args.caps.now x)) q c.walk_binary.ensures

pub walk-returns-in-GetAttr : goal.walk-returns-in-GetAttr
walk-returns-in-GetAttr t c =
    let s = ap (λ k. tree_of k (mark_of c.args.e.now)) (sym c.in-GetAttr.is) ∙ c.kind.ensures in
    let q = (λ i. attr (c.deref-in-GetAttr.ensures i) c.in-GetAttr.n (mark (c.source_loc-loc.ensures i))) ∙ s in
    subst (λ x. IfOk c.walk_attr.result (λ r. walked_of r ≡ walked c.args.at.now.schema.now (env_data_of c.args.at.now.env.now) c.args.caps.now x)) q c.walk_attr.ensures

pub walk-returns-in-HasAttr : goal.walk-returns-in-HasAttr
walk-returns-in-HasAttr t c =
    let s = ap (λ k. tree_of k (mark_of c.args.e.now)) (sym c.in-HasAttr.is) ∙ c.kind.ensures in
    let q = (λ i. has (c.deref-in-HasAttr.ensures i) c.in-HasAttr.n (mark (c.source_loc-loc.ensures i))) ∙ s in
    subst (λ x. IfOk c.walk_has.result (λ r. walked_of r ≡ walked c.args.at.now.schema.now (env_data_of c.args.at.now.env.now) c.args.caps.now x)) q c.walk_has.ensures

pub walk-returns-in-Like : goal.walk-returns-in-Like
walk-returns-in-Like t c =
    let s = ap (λ k. tree_of k (mark_of c.args.e.now)) (sym c.in-Like.is) ∙ c.kind.ensures in
    let q = (λ i. like (c.deref-in-Like.ensures i) c.in-Like.p (mark (c.source_loc-loc.ensures i))) ∙ s in
    subst (λ x. IfOk c.walk_like.result (λ r. walked_of r ≡ walked c.args.at.now.schema.now (env_data_of c.args.at.now.env.now) c.args.caps.now x)) q c.walk_like.ensures

pub walk-returns-in-Is : goal.walk-returns-in-Is
walk-returns-in-Is t c =
    let s = ap (λ k. tree_of k (mark_of c.args.e.now)) (sym c.in-Is.is) ∙ c.kind.ensures in
    let q = (λ i. is_type (c.deref-in-Is.ensures i) c.in-Is.n (mark (c.source_loc-loc.ensures i))) ∙ s in
    subst (λ x. IfOk c.walk_is.result (λ r. walked_of r ≡ walked c.args.at.now.schema.now (env_data_of c.args.at.now.env.now) c.args.caps.now x)) q c.walk_is.ensures

pub walk-returns-in-ExtensionFunctionApp : goal.walk-returns-in-ExtensionFunctionApp
walk-returns-in-ExtensionFunctionApp t c =
    let s = ap (λ k. tree_of k (mark_of c.args.e.now)) (sym c.in-ExtensionFunctionApp.is) ∙ c.kind.ensures in
    let q = (λ i. call c.in-ExtensionFunctionApp.f (trees_of c.in-ExtensionFunctionApp.xs.items) (mark (c.source_loc-loc.ensures i))) ∙ s in
    subst (λ x. IfOk c.walk_call.result (λ r. walked_of r ≡ walked c.args.at.now.schema.now (env_data_of c.args.at.now.env.now) c.args.caps.now x)) q c.walk_call.ensures

pub walk-returns-in-Set : goal.walk-returns-in-Set
walk-returns-in-Set t c =
    let s = ap (λ k. tree_of k (mark_of c.args.e.now)) (sym c.in-Set.is) ∙ c.kind.ensures in
    let q = (λ i. set (trees_of c.in-Set.xs.items) (mark (c.source_loc-loc.ensures i))) ∙ s in
    subst (λ x. IfOk c.walk_set.result (λ r. walked_of r ≡ walked c.args.at.now.schema.now (env_data_of c.args.at.now.env.now) c.args.caps.now x)) q c.walk_set.ensures

pub walk-returns-in-Record : goal.walk-returns-in-Record
walk-returns-in-Record t c =
    let s = ap (λ k. tree_of k (mark_of c.args.e.now)) (sym c.in-Record.is) ∙ c.kind.ensures in
    let q = (λ i. rec (named_of c.in-Record.fields.entries) (mark (c.source_loc-loc.ensures i))) ∙ s in
    subst (λ x. IfOk c.walk_record.result (λ r. walked_of r ≡ walked c.args.at.now.schema.now (env_data_of c.args.at.now.env.now) c.args.caps.now x)) q c.walk_record.ensures

pub walk_attr-returns : goal.walk_attr-returns
walk_attr-returns t c =
    subst (λ w. IfOk c.attr_reported.result (λ r. walked_of r ≡ w))
    (λ i. attr_walked c.args.at.now.schema.now (env_data_of c.args.at.now.env.now) (has_cap c.args.caps.now (attribute_known c.args.x.now c.args.n.now)) c.args.n.now (mark c.args.loc) (c.source_loc.ensures i) (c.in_ok-v.ensures i)) c.attr_reported.ensures

pub walk_has-returns : goal.walk_has-returns
walk_has-returns t c =
    subst (λ w. IfOk c.has_reported.result (λ r. walked_of r ≡ w))
    (λ i. has_walked c.args.at.now.schema.now (c.in_ok-known.ensures i) c.args.x.now c.args.n.now (mark c.args.loc) (c.in_ok-v.ensures i)) c.has_reported.ensures

pub walk_binary-returns-in-Ok : goal.walk_binary-returns-in-Ok
walk_binary-returns-in-Ok t c =
    let s = c.args.at.now.schema.now in
    let e = env_data_of c.args.at.now.env.now in
    let x = c.args.x.now in
    let y = c.args.y.now in
    let m = mark c.args.loc in
    let known = has_cap c.args.caps.now (tag_known x y) in
    subst (λ w. IfOk c.binary_reported.result (λ r. walked_of r ≡ w))
    ((λ i. binary_walked s e c.args.op (c.knows_tag-known.ensures i) x y m (c.in_ok-v.ensures i) (c.in-Ok.ensures i))
    ∙ asks_tag s e c.args.op known x y m (walked s e c.args.caps.now x) (walked s e c.args.caps.now y))
    c.binary_reported.ensures

pub walk_named-push_entry-requires : goal.walk_named-push_entry-requires
walk_named-push_entry-requires t c =
    let done = keys_of c.loop-name.values.entries in
    let keys = c.loop-name.invariant.keys ∙ ap (λ es. done ++ keys_of es) c.in-Some.ensures.steps in
    let next = next-seam done c.in-Some.name.now (keys_of c.next.new.self) (subst (IsStrictlySortedBy text_cmp) keys c.iter-name-items.ensures.ordered) in
    subst (λ k. IsNext k done) (sym c.in_ok-name.ensures) next

pub walk_named-loop-name-preserved : goal.walk_named-loop-name-preserved
walk_named-loop-name-preserved t c =
    let done = c.loop-name.values.entries in
    let k = c.in-Some.name.now in
    let x = c.in-Some.item.now in
    let v = c.in_ok-value.value in
    let is = c.in-Some.ensures.steps in
    let pushed = c.in_ok-push_entry.ensures.added ∙ ap (λ l. done ++ (l, v) ∷ []) c.in_ok-name.ensures in
    let s = c.args.at.now.schema.now in
    let e = env_data_of c.args.at.now.env.now in
    record {
      so_far = so_far_more s e c.args.caps.now done _ k x v c.loop-name.name-iterator c.next.new.self is pushed _ c.in_ok-value.ensures c.loop-name.invariant.so_far;
      keys = keys_more s e c.args.caps.now done _ k x v c.loop-name.name-iterator c.next.new.self is pushed _ c.loop-name.invariant.keys;
      depth = depth_more s e c.args.caps.now done _ k x v c.loop-name.name-iterator c.next.new.self is pushed _ c.loop-name.invariant.depth;
    }

pub walk_if-returns-in-Ok-walk_besides : goal.walk_if-returns-in-Ok-walk_besides
walk_if-returns-in-Ok-walk_besides t c =
    let s = c.args.at.now.schema.now in
    let e = env_data_of c.args.at.now.env.now in
    let cs = c.args.caps.now in
    let v = c.in-Ok.ensures ∙ (λ i. reached_after (c.in_ok-u.ensures i) (λ ds. walked s e (cs ++ ds) c.args.y.now) (walked s e cs c.args.y.now)) in
    let w = c.in-Ok-walk_besides.ensures ∙ (λ i. reached_besides (c.in_ok-u.ensures i) (walked s e cs c.args.z.now)) in
    subst (λ r'. IfOk c.if_parts.result (λ r. walked_of r ≡ r')) (λ i. if_parts (mark c.args.loc) (c.in_ok-u.ensures i) (v i) (w i)) c.if_parts.ensures

pub walk_unary-returns : goal.walk_unary-returns
walk_unary-returns t c =
    subst (λ w. IfOk c.unary_reported.result (λ r. walked_of r ≡ w)) (λ i. unary_walked c.args.op (mark c.args.loc) (c.source_loc.ensures i) (c.in_ok-v.ensures i)) c.unary_reported.ensures

pub walk_like-returns : goal.walk_like-returns
walk_like-returns t c =
    subst (λ w. IfOk c.like_reported.result (λ r. walked_of r ≡ w)) (λ i. like_walked c.args.p.now (mark c.args.loc) (c.source_loc.ensures i) (c.in_ok-v.ensures i)) c.like_reported.ensures

pub walk_is-returns : goal.walk_is-returns
walk_is-returns t c =
    subst (λ w. IfOk c.is_reported.result (λ r. walked_of r ≡ w)) (λ i. is_walked c.args.n.now (mark c.args.loc) (c.source_loc.ensures i) (c.in_ok-v.ensures i)) c.is_reported.ensures

pub walk_set-returns : goal.walk_set-returns
walk_set-returns t c =
    subst (λ w. IfOk c.set_reported.result (λ r. walked_of r ≡ w)) (λ i. set_walked (mark c.args.loc) (c.in_ok-ws.ensures i)) c.set_reported.ensures

pub walk_record-returns : goal.walk_record-returns
walk_record-returns t c =
    subst (λ w. IfOk c.record_reported.result (λ r. walked_of r ≡ w)) (λ i. record_walked (mark c.args.loc) (c.in_ok-ws.ensures i)) c.record_reported.ensures
