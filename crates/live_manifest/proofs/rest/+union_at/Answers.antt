use Rattle.std.proofs.Common.{map, ap, ◌∙◌, sym, arith}
use Rattle.std.proofs.lemmas.List.{map-append, take-append-drop}
use Rattle.std.proofs.lemmas.Result.{IfOk-weaker}
use Rattle.std.specs.Prelude.{slice_get}
use Rattle.std.specs.Map.Iter.{deref}
use Rattle.std.specs.declared.vec.Vec.{Vec}
use Rattle.std.specs.declared.alloc.Global.{Global}
use Rattle.plain_lemmas.proofs.Lists.{empty_of_length}
use Rattle.access_tries.specs.Paths.{IsUnion}
use Rattle.access_tries.specs.Table.{Table}
use Rattle.live_manifest.specs.Tries.{IsTrieOr, IsUnionAt}
use Rattle.live_manifest.proofs.Remaining.{of_halves, of_none, of_one, single}
use Rattle.live_manifest.proofs.rest.+union_at.Goals as goal

pub returns-in-empty : goal.returns-in-empty
returns-in-empty t c = of_none c.args.number _ c.new.result (ap (map (deref {X = Vec Table Global})) (empty_of_length c.args.tries.now (omega (arith, c.in-empty.len_below)))) c.new.ensures

pub returns-in_ok-back-in_default : goal.returns-in_ok-back-in_default
returns-in_ok-back-in_default t c =
    let prefix = c.in_ok-prefix-in_default.prefix in
    let back = c.in_ok-back-in_default.back in
    IfOk-weaker c.union.result (IsUnion prefix back) (IsUnionAt c.args.number (map (deref {X = Vec Table Global}) c.args.tries.now))
    (λ u h. of_halves c.args.number _ _ (map (deref {X = Vec Table Global}) c.args.tries.now)
    (sym (map-append (deref {X = Vec Table Global}) _ _) ∙ ap (map (deref {X = Vec Table Global})) (take-append-drop _ c.args.tries.now)) prefix back u
    (rw c.split_at.ensures.front at c.in_ok-prefix-in_default.ensures) (rw c.split_at.ensures.back at c.in_ok-back-in_default.ensures) h)
    c.union.ensures

pub returns-in-len1 : goal.returns-in-len1
returns-in-len1 t c =
    IfOk-weaker c.trie_at.result (IsTrieOr (slice_get c.own-item.result.now.items c.args.number)) (IsUnionAt c.args.number (map (deref {X = Vec Table Global}) c.args.tries.now))
    (λ u h. of_one c.args.number _ c.own-item.result.now u (ap (map (deref {X = Vec Table Global})) (single c.args.tries.now c.own-item.result (omega (arith, c.in-len1.len_at_least, c.in-len1.len_below)) c.own-item.is)) h)
    c.trie_at.ensures
