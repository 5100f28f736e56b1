use Rattle.std.proofs.Common.{◌≡◌, ◌+◌, ◌-◌, ◌++◌, drop, None, option_map, take, true, false, ap, sym, ◌∙◌, arith}
use Rattle.std.specs.Str.{bytes_eq}
use Rattle.std.proofs.lemmas.List.{get_or_default}
use Rattle.json.specs.Find.{get_member}
use Rattle.json.specs.Value.{members_view}
use Rattle.json_trees.specs.Trees.{data_of}
use Rattle.json_trees.proofs.Found.{member_found}
use Rattle.json_trees.proofs.Taken.{others_kept, last_found, one_less}
use Rattle.json_trees.proofs.lookups.take.Goals as goal

pub returns-then-eq-clause-taken : goal.returns-then-eq-clause-taken
returns-then-eq-clause-taken c =
    let name = c.args.name.now in let ms = c.loop-index.members.items in let m = c.remove-member.result in let e = c.index.result.now in
    let same : bytes_eq e.0.now name ≡ true = sym c.eq.ensures ∙ c.if-eq.true in
    let back : c.loop-index.index - 1 + 1 ≡ c.loop-index.index = omega arith in
    let one : m ≡ e = c.remove-member.ensures.value ∙ get_or_default ms (c.loop-index.index - 1) m e (omega arith) ∙ sym c.index.ensures in
    rw (sym c.loop-index.invariant.same, one)
    (ap (option_map data_of) (last_found name ms (c.loop-index.index - 1) e (omega arith) c.index.ensures same (ap (λ n. get_member name (members_view (take n ms))) back ∙ c.loop-index.invariant.decide))
    ∙ member_found name (members_view ms))

pub returns-then-eq-clause-left : goal.returns-then-eq-clause-left
returns-then-eq-clause-left c = λ other not.
    let name = c.args.name.now in let ms = c.loop-index.members.items in let e = c.index.result.now in
    let same : bytes_eq e.0.now name ≡ true = sym c.eq.ensures ∙ c.if-eq.true in
    rw (sym c.loop-index.invariant.same, c.remove-member.ensures.by_index.2)
    (sym (member_found other (members_view (take (c.loop-index.index - 1) ms ++ drop (c.loop-index.index - 1 + 1) ms))) ∙ ap (option_map data_of) (others_kept name ms (c.loop-index.index - 1) e (omega arith) c.index.ensures same other not) ∙ member_found other (members_view ms))

pub loop-index-preserved : goal.loop-index-preserved
loop-index-preserved c =
    let name = c.args.name.now in let ms = c.loop-index.members.items in let e = c.index.result.now in
    let not : bytes_eq e.0.now name ≡ false = sym c.eq.ensures ∙ c.if-eq.false in
    let back : c.loop-index.index - 1 + 1 ≡ c.loop-index.index = omega arith in
    record {
      same = c.loop-index.invariant.same;
      within = omega arith;
      decide = one_less name ms (c.loop-index.index - 1) e (omega arith) c.index.ensures not (ap (λ n. get_member name (members_view (take n ms))) back ∙ c.loop-index.invariant.decide);
    }

pub returns-clause-taken : goal.returns-clause-taken
returns-clause-taken c =
    let name = c.args.name.now in let ms = c.loop-index.members.items in
    let start : c.loop-index.index ≡ 0 = omega arith in
    let none : None ≡ get_member name (members_view ms) = sym (ap (λ n. get_member name (members_view (take n ms))) start) ∙ c.loop-index.invariant.decide in
    rw (sym c.loop-index.invariant.same) (ap (option_map data_of) none ∙ member_found name (members_view ms))
